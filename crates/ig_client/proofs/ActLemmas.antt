-- The answers of a channel behind a turn, as the pairs of its history.
use Rattle.std.proofs.Common.{◌≡◌, ◌∙◌, ℕ, ℤ, Bool, true, false, not, List, [], ◌∷◌, ◌++◌, Option, None, Some, is_some, Result, Ok, Err, IfOk, IfErr, refl, sym, ap, subst}
use Rattle.std.proofs.lemmas.Bool.{false≢true}
use Rattle.ig_base.specs.declared.memory.NoRoom.{NoRoom}
use Rattle.ig_link.specs.States.{SourceState, SinkState}
use Rattle.ig_link.specs.Shows.{Shows}
use Rattle.ig_link.specs.declared.link.Retired.{Retired}
use Rattle.ig_caches.specs.declared.Request.{Request}
use Rattle.ig_client.specs.PendingState.{PendingState, broken, after_take, reply_to}
use Rattle.ig_client.specs.Pairs.{Pair}
use Rattle.ig_client.specs.Plain.{got_data, submitted, submitted_parts, pump_got}
use Rattle.ig_client.specs.Stands.{ChannelStands, Standing, Gains, submit_pair, pump_pair}
use Rattle.ig_client.specs.declared.fault.Break.{Break}
use Rattle.ig_client.specs.declared.fault.Break.TheVariants.{Closed}
use Rattle.ig_client.specs.declared.fault.ChannelFault.{ChannelFault}
use Rattle.ig_client.specs.declared.fault.ChannelFault.TheVariants as fault
use Rattle.ig_client.specs.declared.ask.ChannelAsk.{ChannelAsk}
use Rattle.ig_client.specs.declared.ask.ChannelAsk.TheVariants as ask
use Rattle.ig_client.specs.declared.ask.ChannelGot.{ChannelGot}
use Rattle.ig_client.specs.declared.ask.ChannelGot.TheVariants as got
use Rattle.ig_client.specs.declared.ask.ChannelStart.{ChannelStart}
use Rattle.ig_client.proofs.StandLemmas.{stands_take, stands_close, stands_closed}

-- it stands for one pair more
abbrev pub More : Standing → Standing → Pair → Type 0
More old new pair = (start : ChannelStart) (ps : List Pair) → old start ps → new start (ps ++ pair ∷ [])

-- it stands for the same pairs
abbrev pub Same : Standing → Standing → Type 0
Same old new = (start : ChannelStart) (ps : List Pair) → old start ps → new start ps

module _ {A : Type 0} (shows : A → Retired) (old new : Standing) where
  pub submit_ok : (request : Request) (answer : Result ℤ ChannelFault) → Gains old new (submit_pair (ask.Submit request) (got.NotSent request) answer)
      → IfOk (submitted {A = A} answer request) (λ g. More old new (ask.Submit request, got_data shows g))
  submit_ok request (Ok id) gains = gains
  submit_ok request (Err (fault.Broke cause)) gains = gains
  submit_ok request (Err (fault.Down cause)) gains = gains
  submit_ok request (Err (fault.BadReply place)) gains = gains
  submit_ok request (Err fault.TooLong) gains = gains
  submit_ok request (Err fault.Full) gains = gains
  submit_ok request (Err fault.Spent) gains = gains
  submit_ok request (Err fault.NoMemory) gains = tt

  pub submit_err : (request : Request) (answer : Result ℤ ChannelFault) → Gains old new (submit_pair (ask.Submit request) (got.NotSent request) answer)
      → IfErr (submitted {A = A} answer request) (λ none. (none.back ≡ ask.Submit request) × Same old new)
  submit_err request (Ok id) gains = tt
  submit_err request (Err (fault.Broke cause)) gains = tt
  submit_err request (Err (fault.Down cause)) gains = tt
  submit_err request (Err (fault.BadReply place)) gains = tt
  submit_err request (Err fault.TooLong) gains = tt
  submit_err request (Err fault.Full) gains = tt
  submit_err request (Err fault.Spent) gains = tt
  submit_err request (Err fault.NoMemory) gains = (refl, gains)

  pub parts_ok : (caches : List ℤ) (answer : Result ℤ ChannelFault) → Gains old new (submit_pair (ask.SubmitParts caches) (got.NotSentParts caches) answer)
      → IfOk (submitted_parts {A = A} answer caches) (λ g. More old new (ask.SubmitParts caches, got_data shows g))
  parts_ok caches (Ok id) gains = gains
  parts_ok caches (Err (fault.Broke cause)) gains = gains
  parts_ok caches (Err (fault.Down cause)) gains = gains
  parts_ok caches (Err (fault.BadReply place)) gains = gains
  parts_ok caches (Err fault.TooLong) gains = gains
  parts_ok caches (Err fault.Full) gains = gains
  parts_ok caches (Err fault.Spent) gains = gains
  parts_ok caches (Err fault.NoMemory) gains = tt

  pub parts_err : (caches : List ℤ) (answer : Result ℤ ChannelFault) → Gains old new (submit_pair (ask.SubmitParts caches) (got.NotSentParts caches) answer)
      → IfErr (submitted_parts {A = A} answer caches) (λ none. (none.back ≡ ask.SubmitParts caches) × Same old new)
  parts_err caches (Ok id) gains = tt
  parts_err caches (Err (fault.Broke cause)) gains = tt
  parts_err caches (Err (fault.Down cause)) gains = tt
  parts_err caches (Err (fault.BadReply place)) gains = tt
  parts_err caches (Err fault.TooLong) gains = tt
  parts_err caches (Err fault.Full) gains = tt
  parts_err caches (Err fault.Spent) gains = tt
  parts_err caches (Err fault.NoMemory) gains = (refl, gains)

  pub pump_ok : (answer : Result (List ℕ) ChannelFault) → Gains old new (pump_pair answer) → IfOk (pump_got {A = A} answer) (λ g. More old new (ask.Pump, got_data shows g))
  pump_ok (Ok bytes) gains = gains
  pump_ok (Err (fault.Broke cause)) gains = gains
  pump_ok (Err (fault.Down cause)) gains = gains
  pump_ok (Err (fault.BadReply place)) gains = gains
  pump_ok (Err fault.TooLong) gains = gains
  pump_ok (Err fault.Full) gains = gains
  pump_ok (Err fault.Spent) gains = gains
  pump_ok (Err fault.NoMemory) gains = tt

  pub pump_err : (answer : Result (List ℕ) ChannelFault) → Gains old new (pump_pair answer) → IfErr (pump_got {A = A} answer) (λ none. (none.back ≡ ask.Pump) × Same old new)
  pump_err (Ok bytes) gains = tt
  pump_err (Err (fault.Broke cause)) gains = tt
  pump_err (Err (fault.Down cause)) gains = tt
  pump_err (Err (fault.BadReply place)) gains = tt
  pump_err (Err fault.TooLong) gains = tt
  pump_err (Err fault.Full) gains = tt
  pump_err (Err fault.Spent) gains = tt
  pump_err (Err fault.NoMemory) gains = (refl, gains)

-- the same of an ask that is known to be this one, and of what the answer became
module _ {A : Type 0} (shows : A → Retired) (old new : Standing) (asks : ChannelAsk) (became : Result (ChannelGot A) (NoRoom ChannelAsk)) where
  abbrev pub Answers : ChannelAsk → Type 0
  Answers a = IfOk became (λ g. More old new (a, got_data shows g))

  abbrev pub HandsBack : ChannelAsk → Type 0
  HandsBack a = IfErr became (λ none. (none.back ≡ a) × Same old new)

  -- what holds of the answer holds of what it became
  ok_by : (this : ChannelAsk) (answer : Result (ChannelGot A) (NoRoom ChannelAsk)) → asks ≡ this → became ≡ answer
      → IfOk answer (λ g. More old new (this, got_data shows g)) → Answers asks
  ok_by this answer asked is it =
      subst Answers (sym asked) (subst (λ (r : Result (ChannelGot A) (NoRoom ChannelAsk)). IfOk r (λ g. More old new (this, got_data shows g))) (sym is) it)

  err_by : (this : ChannelAsk) (answer : Result (ChannelGot A) (NoRoom ChannelAsk)) → asks ≡ this → became ≡ answer
      → IfErr answer (λ none. (none.back ≡ this) × Same old new) → HandsBack asks
  err_by this answer asked is it =
      subst HandsBack (sym asked) (subst (λ (r : Result (ChannelGot A) (NoRoom ChannelAsk)). IfErr r (λ none. (none.back ≡ this) × Same old new)) (sym is) it)

  pub submit_answered : (request : Request) (answer : Result ℤ ChannelFault) → asks ≡ ask.Submit request → became ≡ submitted answer request
      → Gains old new (submit_pair (ask.Submit request) (got.NotSent request) answer) → Answers asks
  submit_answered request answer asked is gains = ok_by (ask.Submit request) (submitted answer request) asked is (submit_ok shows old new request answer gains)

  pub submit_handed : (request : Request) (answer : Result ℤ ChannelFault) → asks ≡ ask.Submit request → became ≡ submitted answer request
      → Gains old new (submit_pair (ask.Submit request) (got.NotSent request) answer) → HandsBack asks
  submit_handed request answer asked is gains = err_by (ask.Submit request) (submitted answer request) asked is (submit_err shows old new request answer gains)

  pub parts_answered : (caches : List ℤ) (answer : Result ℤ ChannelFault) → asks ≡ ask.SubmitParts caches → became ≡ submitted_parts answer caches
      → Gains old new (submit_pair (ask.SubmitParts caches) (got.NotSentParts caches) answer) → Answers asks
  parts_answered caches answer asked is gains = ok_by (ask.SubmitParts caches) (submitted_parts answer caches) asked is (parts_ok shows old new caches answer gains)

  pub parts_handed : (caches : List ℤ) (answer : Result ℤ ChannelFault) → asks ≡ ask.SubmitParts caches → became ≡ submitted_parts answer caches
      → Gains old new (submit_pair (ask.SubmitParts caches) (got.NotSentParts caches) answer) → HandsBack asks
  parts_handed caches answer asked is gains = err_by (ask.SubmitParts caches) (submitted_parts answer caches) asked is (parts_err shows old new caches answer gains)

  pub pump_answered : (answer : Result (List ℕ) ChannelFault) → asks ≡ ask.Pump → became ≡ pump_got answer → Gains old new (pump_pair answer) → Answers asks
  pump_answered answer asked is gains = ok_by ask.Pump (pump_got answer) asked is (pump_ok shows old new answer gains)

  pub pump_handed : (answer : Result (List ℕ) ChannelFault) → asks ≡ ask.Pump → became ≡ pump_got answer → Gains old new (pump_pair answer) → HandsBack asks
  pump_handed answer asked is gains = err_by ask.Pump (pump_got answer) asked is (pump_err shows old new answer gains)

-- ---- a take and a close

-- a channel that tells a break is down
pub is_down : (down told : Option Break) (none : Bool) → told ≡ down → is_some told ≡ not none → none ≡ false → down ≡ None → ⊥
is_down down told none same is none_is up = false≢true (sym (ap is_some (same ∙ up)) ∙ is ∙ ap not none_is)

-- one that tells none isn't
pub is_open : (down told : Option Break) (none : Bool) → told ≡ down → is_some told ≡ not none → none ≡ true → (cause : Break) → down ≡ Some cause → ⊥
is_open down told none same is none_is cause broke = false≢true (sym (sym (ap is_some (same ∙ broke)) ∙ is ∙ ap not none_is))

module _ {L : Type 0} (source : L → SourceState) (sink : L → SinkState) (asks : ChannelAsk) where
  abbrev pub Stood : PendingState → Option L → Standing
  Stood c link = ChannelStands source sink c link

  pub take_answered : (id key : ℤ) (old new : PendingState) (link : Option L) (reply : Option (List ℕ)) → asks ≡ ask.Take id → key ≡ id
      → reply ≡ reply_to key old → new ≡ after_take key old → More (Stood old link) (Stood new link) (asks, got.Taken reply)
  take_answered id key old new link reply asked same is left =
      subst (λ (a : ChannelAsk). More (Stood old link) (Stood new link) (a, got.Taken reply)) (sym asked)
      (subst (λ (n : PendingState). More (Stood old link) (Stood n link) (ask.Take id, got.Taken reply)) (sym (left ∙ ap (λ i. after_take i old) same))
      (stands_take source sink id old link reply (sym (is ∙ ap (λ i. reply_to i old) same))))

  pub close_answered : (old new : PendingState) (link link' : Option L) (k : L) (shown : Retired) → asks ≡ ask.Close → link ≡ Some k → link' ≡ None
      → Shows (source k) (sink k) shown → (old.down ≡ None → new ≡ broken Closed old) → ((cause : Break) → old.down ≡ Some cause → new ≡ old)
      → More (Stood old link) (Stood new link') (asks, got.Closed (Some shown))
  close_answered old new link link' k shown asked is gone shows first later =
      subst (λ (a : ChannelAsk). More (Stood old link) (Stood new link') (a, got.Closed (Some shown))) (sym asked)
      (subst (λ (l : Option L). More (Stood old l) (Stood new link') (ask.Close, got.Closed (Some shown))) (sym is)
      (subst (λ (l : Option L). More (Stood old (Some k)) (Stood new l) (ask.Close, got.Closed (Some shown))) (sym gone)
      (stands_close source sink old new k shown shows first later)))

  pub closed_answered : (c : PendingState) (link link' : Option L) → asks ≡ ask.Close → link ≡ None → link' ≡ None
      → More (Stood c link) (Stood c link') (asks, got.Closed None)
  closed_answered c link link' asked is gone =
      subst (λ (a : ChannelAsk). More (Stood c link) (Stood c link') (a, got.Closed None)) (sym asked)
      (subst (λ (l : Option L). More (Stood c l) (Stood c link') (ask.Close, got.Closed None)) (sym is)
      (subst (λ (l : Option L). More (Stood c None) (Stood c l) (ask.Close, got.Closed None)) (sym gone) (stands_closed source sink c)))
