-- Histories of callers.
use Rattle.std.proofs.Common.{◌≡◌, ℕ, List, [], ◌∷◌, ◌++◌, Result, Ok, Err, IfOk, OnOk, OnErr, refl, sym, ap, subst, ◌∙◌, append_assoc, append-nil}
use Rattle.std.proofs.lemmas.Grind.{flat_map-append}
use Rattle.ig_base.specs.declared.entry.Entry.{Entry}
use Rattle.ig_base.specs.declared.memory.NoRoom.{NoRoom}
use Rattle.ig_caches.specs.declared.call.Call.{Call}
use Rattle.ig_caches.specs.declared.answer.Answer.{Answer}
use Rattle.ig_caches.specs.PlainCaches.{PlainCaches}
use Rattle.ig_caches.specs.AnswersKind.{AnswersKind}
use Rattle.ig_caches.specs.Answered.{answered, after}
use Rattle.ig_caches.specs.Legal.{Legal, caches_after}
use Rattle.ig_caches.proofs.FitLemmas.{answers_fit}
use Rattle.ig_deals.specs.Deals.{Ran, entry_of, entries_of}
use Rattle.ig_session.specs.Histories.{AreUnder, StandsOn}
use Rattle.ig_session.specs.StandsAlone.{StandsAlone}
use Rattle.ig_session.specs.Steps.{given}
use Rattle.ig_session.specs.declared.caller.Alone.{Alone}

-- ---- a caller that owns its object

Legal-push : (start : PlainCaches) (own : List (Entry Call Answer)) (entry : Entry Call Answer) → Legal start own → entry.got ≡ answered (caches_after start own) entry.ask → Legal start (own ++ entry ∷ [])
Legal-push start [] entry legal is = (is, tt)
Legal-push start (first ∷ own) entry legal is = (legal.0, Legal-push (after start first.ask) own entry legal.1 is)

caches_after-push : (start : PlainCaches) (own : List (Entry Call Answer)) (entry : Entry Call Answer) → caches_after start (own ++ entry ∷ []) ≡ after (caches_after start own) entry.ask
caches_after-push start [] entry = refl
caches_after-push start (first ∷ own) entry = caches_after-push (after start first.ask) own entry

AreUnder-push : (seat : ℕ) (own : List (Entry Call Answer)) (entry : Entry Call Answer) → AreUnder seat own → entry.seat ≡ seat → AreUnder seat (own ++ entry ∷ [])
AreUnder-push seat [] entry under is = (is, tt)
AreUnder-push seat (first ∷ own) entry under is = (under.0, AreUnder-push seat own entry under.1 is)

-- a call that was run as plain caches do is one more entry
ran_alone : {E : Type 0} (caches : E → PlainCaches) (old new : Alone E) (call : Call) (answer : Answer) → answer ≡ answered (caches old.exec) call
    → caches new.exec ≡ after (caches old.exec) call → StandsOn (StandsAlone caches) old new (record { seat = 0; ask = call; got = answer } ∷ [])
ran_alone caches old new call answer is leaves = record {
  keeps = λ start own stood.
      let entry : Entry Call Answer = record { seat = 0; ask = call; got = answer } in
      record {
        legal = Legal-push start own entry stood.legal (is ∙ ap (λ c. answered c call) (sym stood.leads));
        leads = caches_after-push start own entry ∙ ap (λ c. after c call) stood.leads ∙ sym leaves;
        under = AreUnder-push 0 own entry stood.under refl;
      };
}

pub alone_runs : {E F : Type 0} (caches : E → PlainCaches) (old new : Alone E) (call : Call) (result : Result Answer F) → IfOk result (λ answer. answer ≡ answered (caches old.exec) call)
    → OnOk result (caches new.exec ≡ after (caches old.exec) call) → IfOk result (λ answer. StandsOn (StandsAlone caches) old new (record { seat = 0; ask = call; got = answer } ∷ []))
alone_runs caches old new call (Ok answer) is leaves = ran_alone caches old new call answer is leaves
alone_runs caches old new call (Err e) is leaves = tt

-- the answer is of the call's kind
pub answer_fits : {F : Type 0} (c : PlainCaches) (call : Call) (result : Result Answer F) → IfOk result (λ answer. answer ≡ answered c call) → IfOk result (λ answer. AnswersKind call answer.outcome)
answer_fits c call (Ok answer) is = subst (λ (a : Answer). AnswersKind call a.outcome) (sym is) (answers_fit c call)
answer_fits c call (Err e) is = tt

-- ---- any caller

-- nothing was run
pub StandsOn-nothing : {C : Type 0} (stands : C → PlainCaches → List (Entry Call Answer) → Type 0) (caller : C) → StandsOn stands caller caller []
StandsOn-nothing stands caller = record { keeps = λ start own h. subst (stands caller start) (sym (append-nil own)) h }

pub StandsOn-then : {C : Type 0} (stands : C → PlainCaches → List (Entry Call Answer) → Type 0) (a b c : C) (xs ys : List (Entry Call Answer)) → StandsOn stands a b xs → StandsOn stands b c ys
    → StandsOn stands a c (xs ++ ys)
StandsOn-then stands a b c xs ys first second = record {
  keeps = λ start own h. subst (stands c start) (append_assoc own xs ys) (second.keeps start (own ++ xs) (first.keeps start own h));
}

entries-append : (seat : ℕ) (xs ys : List Ran) → entries_of seat (xs ++ ys) ≡ entries_of seat xs ++ entries_of seat ys
entries-append seat xs ys = flat_map-append (λ (r : Ran). entry_of seat r.call r.got) xs ys

-- calls that were run after those before
pub joins_keeps : {C : Type 0} (stands : C → PlainCaches → List (Entry Call Answer) → Type 0) (seat : ℕ) (a b c : C) (xs ys : List Ran) → StandsOn stands a b (entries_of seat xs)
    → StandsOn stands b c (entries_of seat ys) → StandsOn stands a c (entries_of seat (xs ++ ys))
joins_keeps stands seat a b c xs ys first second =
    subst (StandsOn stands a c) (sym (entries-append seat xs ys)) (StandsOn-then stands a b c (entries_of seat xs) (entries_of seat ys) first second)

-- a call was run, with an answer or without memory for it
pub given_stands : {C : Type 0} (stands : C → PlainCaches → List (Entry Call Answer) → Type 0) (seat : ℕ) (a b : C) (call : Call) (result : Result Answer (NoRoom Call))
    → IfOk result (λ answer. StandsOn stands a b (record { seat = seat; ask = call; got = answer } ∷ [])) → OnErr result (StandsOn stands a b [])
    → StandsOn stands a b (entry_of seat call (given result))
given_stands stands seat a b call (Ok answer) ok err = ok
given_stands stands seat a b call (Err lack) ok err = err
