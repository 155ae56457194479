-- What one pair more adds to what the pairs say.
use Rattle.std.proofs.Common.{◌≡◌, cond, ℕ, ◌+◌, ℤ, pos, Bool, true, false, ◌||◌, List, [], ◌∷◌, ◌++◌, Option, None, Some, inl, inr, refl, sym, ap, subst, ◌∙◌, arith, append-nil, append_assoc}
use Rattle.std.proofs.lemmas.Bool.{cond-true, cond-false, cases_Bool, or_from, false≢true}
use Rattle.std.proofs.Math.Bool.{or-false}
use Rattle.std.proofs.lemmas.Grind.{flat_map-append}
use Rattle.std.proofs.lemmas.List.Folds.{list_any-append}
use Rattle.std.specs.Option.{option_or}
use Rattle.std.specs.List.{flat_map}
use Rattle.ig_base.specs.Frames.{Frame}
use Rattle.ig_client.specs.Pairs.{Pair, GotData, sent, pumped, sent_bytes, first_break, break_of, bytes_of, id_given, one_if, frame_under, body_of, breaks_by, answers_break, broken_frame, is_write_fault, is_of_frames, takes, was_taken, closes, was_closed}
use Rattle.ig_client.specs.LinkSince.{idle, idle_pumps}
use Rattle.ig_client.specs.ChannelRun.{MayFollow, EachFollows, given}
use Rattle.ig_client.specs.declared.fault.Break.{Break}
use Rattle.ig_client.specs.declared.ask.ChannelGot.TheVariants as got
use Rattle.ig_client.specs.declared.ask.ChannelStart.{ChannelStart}

pub sent_more : (ps : List Pair) (p : Pair) → sent (ps ++ p ∷ []) ≡ sent ps + one_if (id_given p.1)
sent_more [] p = omega arith
sent_more (q ∷ ps) p = omega (arith, sent_more ps p)

pub sent_bytes_more : (ps : List Pair) (p : Pair) → sent_bytes (ps ++ p ∷ []) ≡ sent_bytes ps ++ frame_under p.0 (id_given p.1)
sent_bytes_more ps p =
    flat_map-append (λ (q : Pair). frame_under q.0 (id_given q.1)) ps (p ∷ [])
    ∙ ap (λ (bs : List ℕ). sent_bytes ps ++ bs) (append-nil (frame_under p.0 (id_given p.1)))

pub pumped_more : (ps : List Pair) (p : Pair) → pumped (ps ++ p ∷ []) ≡ pumped ps ++ bytes_of p.1
pumped_more ps p =
    flat_map-append (λ (q : Pair). bytes_of q.1) ps (p ∷ []) ∙ ap (λ (bs : List ℕ). pumped ps ++ bs) (append-nil (bytes_of p.1))

-- ---- breaks

either_assoc : (a b c : Option Break) → option_or a (option_or b c) ≡ option_or (option_or a b) c
either_assoc None b c = refl
either_assoc (Some x) b c = refl

pub either_none : (a : Option Break) → option_or a None ≡ a
either_none None = refl
either_none (Some x) = refl

pub first_break_more : (ps : List Pair) (p : Pair) → first_break (ps ++ p ∷ []) ≡ option_or (first_break ps) (break_of p.1)
first_break_more [] p = either_none (break_of p.1)
first_break_more (q ∷ ps) p =
    ap (option_or (break_of q.1)) (first_break_more ps p) ∙ either_assoc (break_of q.1) (first_break ps) (break_of p.1)

neither : (a b : Option Break) → option_or a b ≡ None → (a ≡ None) × (b ≡ None)
neither None b none = (refl, none)
neither (Some x) b none = cc

pub answers_more : (test : Break → Bool) (ps : List Pair) (p : Pair) → answers_break test (ps ++ p ∷ []) ≡ (answers_break test ps || breaks_by test (break_of p.1))
answers_more test ps p =
    list_any-append (λ (q : Pair). breaks_by test (break_of q.1)) ps (p ∷ [])
    ∙ ap (λ b. answers_break test ps || b) (or-false (breaks_by test (break_of p.1)))

pub answers_none : (test : Break → Bool) (ps : List Pair) → first_break ps ≡ None → answers_break test ps ≡ false
answers_none test [] none = refl
answers_none test (q ∷ ps) none =
    let parts : (break_of q.1 ≡ None) × (first_break ps ≡ None) = neither (break_of q.1) (first_break ps) none in
    or_from (breaks_by test (break_of q.1)) (answers_break test ps) (ap (breaks_by test) parts.0) (answers_none test ps parts.1)

pub answers_kept : (test : Break → Bool) (ps : List Pair) (p : Pair) → breaks_by test (break_of p.1) ≡ false → answers_break test (ps ++ p ∷ []) ≡ answers_break test ps
answers_kept test ps p is_not = answers_more test ps p ∙ ap (λ b. answers_break test ps || b) is_not ∙ or-false (answers_break test ps)

pub answers_new : (test : Break → Bool) (ps : List Pair) (p : Pair) → first_break ps ≡ None → answers_break test (ps ++ p ∷ []) ≡ true → breaks_by test (break_of p.1) ≡ true
answers_new test ps p none is = sym (answers_more test ps p ∙ ap (λ b. b || breaks_by test (break_of p.1)) (answers_none test ps none)) ∙ is

-- a pair that answers no write fault leaves the frame of the one that does
pub broken_kept : (n : ℕ) (ps : List Pair) (p : Pair) → breaks_by is_write_fault (break_of p.1) ≡ false → broken_frame n (ps ++ p ∷ []) ≡ broken_frame n ps
broken_kept n [] p is_not =
    cond-false (breaks_by is_write_fault (break_of p.1)) (Frame (body_of p.0 (pos (n + 1)))) [] is_not
broken_kept n (q ∷ ps) p is_not =
    ap (λ (l : List ℕ). cond (breaks_by is_write_fault (break_of q.1)) (Frame (body_of q.0 (pos (n + 1)))) l)
    (broken_kept (n + one_if (id_given q.1)) ps p is_not)

-- until the channel broke there is none
pub broken_none : (n : ℕ) (ps : List Pair) → first_break ps ≡ None → broken_frame n ps ≡ []
broken_none n [] none = refl
broken_none n (q ∷ ps) none =
    let parts : (break_of q.1 ≡ None) × (first_break ps ≡ None) = neither (break_of q.1) (first_break ps) none in
    cond-false (breaks_by is_write_fault (break_of q.1)) (Frame (body_of q.0 (pos (n + 1)))) (broken_frame (n + one_if (id_given q.1)) ps) (ap (breaks_by is_write_fault) parts.0)
    ∙ broken_none (n + one_if (id_given q.1)) ps parts.1

-- and the first pair that breaks it may be it
pub broken_last : (n : ℕ) (ps : List Pair) (p : Pair) → first_break ps ≡ None → broken_frame n (ps ++ p ∷ []) ≡ broken_frame (n + sent ps) (p ∷ [])
broken_last n [] p none = ap (λ k. broken_frame k (p ∷ [])) (omega arith)
broken_last n (q ∷ ps) p none =
    let parts : (break_of q.1 ≡ None) × (first_break ps ≡ None) = neither (break_of q.1) (first_break ps) none in
    cond-false (breaks_by is_write_fault (break_of q.1)) (Frame (body_of q.0 (pos (n + 1)))) (broken_frame (n + one_if (id_given q.1)) (ps ++ p ∷ [])) (ap (breaks_by is_write_fault) parts.0)
    ∙ broken_last (n + one_if (id_given q.1)) ps p parts.1
    ∙ ap (λ k. broken_frame k (p ∷ [])) (omega arith)

-- ---- takes, closes and idle pumps

pub taken_more : (id : ℤ) (ps : List Pair) (p : Pair) → was_taken id (ps ++ p ∷ []) ≡ (was_taken id ps || takes id p.0 p.1)
taken_more id ps p =
    list_any-append (λ (q : Pair). takes id q.0 q.1) ps (p ∷ []) ∙ ap (λ b. was_taken id ps || b) (or-false (takes id p.0 p.1))

pub closed_more : (ps : List Pair) (p : Pair) → was_closed (ps ++ p ∷ []) ≡ (was_closed ps || closes p.1)
closed_more ps p =
    list_any-append (λ (q : Pair). closes q.1) ps (p ∷ []) ∙ ap (λ b. was_closed ps || b) (or-false (closes p.1))

closes_breaks : (g : GotData) → break_of g ≡ None → closes g ≡ false
closes_breaks (got.Sent id) none = refl
closes_breaks (got.NotSent request cause) none = refl
closes_breaks (got.NotSentParts caches cause) none = refl
closes_breaks (got.Pumped bytes) none = refl
closes_breaks (got.NotPumped cause) none = refl
closes_breaks (got.Taken reply) none = refl
closes_breaks (got.Closed None) none = refl
closes_breaks (got.Closed (Some retired)) none = cc

-- a channel that was closed broke
pub open_is_unclosed : (ps : List Pair) → first_break ps ≡ None → was_closed ps ≡ false
open_is_unclosed [] none = refl
open_is_unclosed (q ∷ ps) none =
    let parts : (break_of q.1 ≡ None) × (first_break ps ≡ None) = neither (break_of q.1) (first_break ps) none in
    or_from (closes q.1) (was_closed ps) (closes_breaks q.1 parts.0) (open_is_unclosed ps parts.1)

pub idle_more : (start : ChannelStart) (before ps : List Pair) (p : Pair) → idle_pumps start before (ps ++ p ∷ []) ≡ idle_pumps start before ps + idle start (before ++ ps) p.1
idle_more start before [] p = omega (arith, ap (λ (qs : List Pair). idle start qs p.1) (append-nil before))
idle_more start before (q ∷ ps) p =
    omega (arith, idle_more start (before ++ q ∷ []) ps p, ap (λ (qs : List Pair). idle start qs p.1) (append_assoc before (q ∷ []) ps))

-- ---- the bytes that were given

pub given_open : (last : List ℕ) (ps : List Pair) → first_break ps ≡ None → given last ps ≡ pumped ps
given_open last ps none = ap (λ (b : Option Break). cond (is_of_frames b) (pumped ps ++ last) (pumped ps)) none

pub given_is : (last : List ℕ) (ps : List Pair) (b : Option Break) (bytes : List ℕ) → first_break ps ≡ b → pumped ps ≡ bytes
    → given last ps ≡ cond (is_of_frames b) (bytes ++ last) bytes
given_is last ps b bytes is are =
    ap (λ (b : Option Break). cond (is_of_frames b) (pumped ps ++ last) (pumped ps)) is
    ∙ ap (λ (l : List ℕ). cond (is_of_frames b) (l ++ last) l) are

-- a pair that may follow all pairs so far
pub each_more : (start : ChannelStart) (last : List ℕ) (before ps : List Pair) (p : Pair) → EachFollows start last before ps
    → MayFollow start last (before ++ ps) p.0 p.1 → EachFollows start last before (ps ++ p ∷ [])
each_more start last before [] p each next =
    (subst (λ (qs : List Pair). MayFollow start last qs p.0 p.1) (append-nil before) next, tt)
each_more start last before (q ∷ ps) p each next = (
  each.0,
  each_more start last (before ++ q ∷ []) ps p each.1
      (subst (λ (qs : List Pair). MayFollow start last qs p.0 p.1) (sym (append_assoc before (q ∷ []) ps)) next),
)
