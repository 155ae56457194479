-- Sessions by number, and what they hear.
use Rattle.std.proofs.Common.{◌≡◌, ℕ, zero, suc, ◌+◌, ◌-◌, ◌≤◌, ◌<◌, List, [], ◌∷◌, ◌++◌, length, length-append, replicate, refl, sym, ap, subst, ◌∙◌, arith, append-nil, append_assoc}
use Rattle.std.specs.Prelude.{Bool, true, false, Result, Ok, Err, slice_index_or, slice_set}
use Rattle.ig_capture.specs.declared.fault.CaptureBad.{CaptureBad}
use Rattle.ig_capture.specs.declared.fault.CaptureFault.{CaptureFault}
use Rattle.ig_capture.specs.declared.fault.CaptureFault.TheVariants as fault
use Rattle.ig_capture.specs.Said.{Said, silent, and_then}
use Rattle.ig_capture.specs.Answers.{ShowsLines}
use Rattle.ig_frame.specs.Streams.{Stream, longer_stream}
use Rattle.ig_capture.specs.Sessions.{Side, Session, fresh_session, side_of, with_side, longer_side, session_at, with_session, hear, hear_session, hear_at}

none_said : (n k : ℕ) → session_at n (replicate k fresh_session) ≡ fresh_session
none_said n zero = refl
none_said zero (suc k) = refl
none_said (suc n) (suc k) = none_said n k

-- sessions that said nothing can be added
pub at_added : (n k : ℕ) (ss : List Session) → session_at n (ss ++ replicate k fresh_session) ≡ session_at n ss
at_added n k [] = none_said n k
at_added zero k (s ∷ ss) = refl
at_added (suc n) k (s ∷ ss) = at_added n k ss

pub with_added : (n k : ℕ) (s : Session) (ss : List Session) → k ≡ suc n - length ss → with_session n s (ss ++ replicate k fresh_session) ≡ with_session n s ss
with_added zero zero s [] is = absurd (omega (arith, is))
with_added zero (suc zero) s [] is = refl
with_added zero (suc (suc k)) s [] is = absurd (omega (arith, is))
with_added (suc n) zero s [] is = absurd (omega (arith, is))
with_added (suc n) (suc k) s [] is = ap (λ (l : List Session). fresh_session ∷ l) (with_added n k s [] (omega (arith, is)))
with_added zero zero s (t ∷ ss) is = ap (λ (l : List Session). s ∷ l) (append-nil ss)
with_added zero (suc k) s (t ∷ ss) is = absurd (omega (arith, is))
with_added (suc n) k s (t ∷ ss) is = ap (λ (l : List Session). t ∷ l) (with_added n k s ss (omega (arith, is)))

at_index : (n : ℕ) (ss : List Session) → session_at n ss ≡ slice_index_or ss n fresh_session
at_index n [] = refl
at_index zero (s ∷ ss) = refl
at_index (suc n) (s ∷ ss) = at_index n ss

set_index : (n : ℕ) (s : Session) (ss : List Session) → n < length ss → with_session n s ss ≡ slice_set ss n s
set_index n s [] within = absurd (omega (arith, within))
set_index zero s (t ∷ ss) within = refl
set_index (suc n) s (t ∷ ss) within = ap (λ (l : List Session). t ∷ l) (set_index n s ss (omega (arith, within)))

-- what was said, seen as a part of something larger
pub shows_with : {A B : Type 0} (said : Said A CaptureBad) (f : A → B) (x : A) (lines lines' : List ℕ) (result : Result (Unit {0}) CaptureFault) → ShowsLines said x lines lines' result
    → ShowsLines (and_then said (λ y. silent (f y))) (f x) lines lines' result
shows_with {A} {B} said f x lines lines' (Ok done) shows =
    (shows.0, ap (λ (s : Said A CaptureBad). and_then s (λ y. silent (f y))) shows.1 ∙ ap (λ (t : List ℕ). (Ok (f x), t)) (append-nil shows.0), shows.2)
shows_with {A} {B} said f x lines lines' (Err (fault.Bad why)) shows =
    (shows.0, ap (λ (s : Said A CaptureBad). and_then s (λ y. silent (f y))) shows.1, shows.2)
shows_with {A} {B} said f x lines lines' (Err fault.NoMemory) shows = tt

-- a session of a list with room for it
pub shows_at : (old grown : List Session) (n : ℕ) (server : Bool) (bytes : List ℕ) (s s' : Session) (lines lines' : List ℕ) (result : Result (Unit {0}) CaptureFault)
    → grown ≡ old ++ replicate (suc n - length old) fresh_session → n < length grown → s ≡ slice_index_or grown n fresh_session
    → ShowsLines (hear_session n s server bytes) s' lines lines' result
    → ShowsLines (hear_at old n server bytes) (slice_set grown n s') lines lines' result
shows_at old grown n server bytes s s' lines lines' result is within this shows =
    let here : s ≡ session_at n old = this ∙ sym (at_index n grown) ∙ ap (session_at n) is ∙ at_added n (suc n - length old) old in
    let after : with_session n s' old ≡ slice_set grown n s' =
    sym (with_added n (suc n - length old) s' old refl) ∙ ap (with_session n s') (sym is) ∙ set_index n s' grown within in
    subst (λ (l : List Session). ShowsLines (hear_at old n server bytes) l lines lines' result) after
    (shows_with (hear_session n (session_at n old) server bytes) (λ t. with_session n t old) s' lines lines' result
    (subst (λ (t : Session). ShowsLines (hear_session n t server bytes) s' lines lines' result) here shows))

-- a session hears bytes of a side
pub session_heard : (number : ℕ) (s : Session) (server : Bool) (bytes : List ℕ) (stream : Stream) (next : Side) (lines lines' : List ℕ) (result : Result (Unit {0}) CaptureFault)
    → stream ≡ longer_stream (side_of s server).stream bytes → ShowsLines (hear number server (record { stream = stream; talk = s.talk })) next lines lines' result
    → ShowsLines (hear_session number s server bytes) (with_side s server next) lines lines' result
session_heard number s false bytes stream next lines lines' result is shows =
    shows_with (hear number false (longer_side (side_of s false) bytes)) (with_side s false) next lines lines' result
    (subst (λ (t : Stream). ShowsLines (hear number false (record { stream = t; talk = s.talk })) next lines lines' result) is shows)
session_heard number s true bytes stream next lines lines' result is shows =
    shows_with (hear number true (longer_side (side_of s true) bytes)) (with_side s true) next lines lines' result
    (subst (λ (t : Stream). ShowsLines (hear number true (record { stream = t; talk = s.talk })) next lines lines' result) is shows)

-- ---- room for one more

replicate_end : (k : ℕ) → replicate k fresh_session ++ fresh_session ∷ [] ≡ replicate (suc k) fresh_session
replicate_end zero = refl
replicate_end (suc k) = ap (λ (l : List Session). fresh_session ∷ l) (replicate_end k)

pub one_longer : (now new : List Session) (s : Session) → new ≡ now ++ s ∷ [] → length new ≡ suc (length now)
one_longer now new s one = ap length one ∙ length-append now (s ∷ []) ∙ omega arith

pub room_added : (old now new : List Session) (s : Session) → now ≡ old ++ replicate (length now - length old) fresh_session → length old ≤ length now → new ≡ now ++ s ∷ [] → s ≡ fresh_session
    → new ≡ old ++ replicate (length new - length old) fresh_session
room_added old now new s is long one fresh =
    let size : suc (length now - length old) ≡ length new - length old = omega (arith, long, one_longer now new s one) in
    one ∙ ap (λ (t : Session). now ++ t ∷ []) fresh ∙ ap (λ (l : List Session). l ++ fresh_session ∷ []) is
    ∙ append_assoc old (replicate (length now - length old) fresh_session) (fresh_session ∷ [])
    ∙ ap (λ (l : List Session). old ++ l) (replicate_end (length now - length old)) ∙ ap (λ (k : ℕ). old ++ replicate k fresh_session) size
