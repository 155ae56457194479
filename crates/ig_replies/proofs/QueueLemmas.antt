-- Queues of frames, and the pieces that are shown of them.
use Rattle.std.proofs.Common.{◌≡◌, refl, ℕ, ◌+◌, ◌-◌, ◌<◌, ◌≤◌, List, [], ◌∷◌, ◌++◌, map, length, take, drop, sym, ap, subst, ◌∙◌, arith}
use Rattle.std.specs.Prelude.{◌%◌, ◌↔◌, min, nat_lt, Bool, false, true, not, IsTrue, is_some, option_to_list, Option, None, Some, if◌then◌else◌}
use Rattle.std.specs.List.{AllByRecursion}
use Rattle.std.proofs.lemmas.Bool.{le-ltb, lt-ltb, cond-true, cond-false}
use Rattle.std.proofs.lemmas.List.{length-take, length-drop, map-append}
use Rattle.ig_wire.specs.Limits.{piece_bytes}
use Rattle.ig_deals.specs.Pieces.{piece_left, piece_at}
use Rattle.ig_deals.proofs.PieceLemmas.{piece_goes_on}
use Rattle.ig_replies.specs.Showing.{Showing, Waiting, waiting_none, piece_shown, frames_when, after_gone, after_push}
use Rattle.ig_replies.specs.Queues.{frames_of, waiting_in, IsFresh, IsPieceOf, IsQueue, IsSpent, IsSpentQueue, waiting_spent}

-- the piece that is taken next from a frame, and the frame then
abbrev pub taken_from : Showing → List ℕ
taken_from s = take piece_bytes (drop s.gone s.frame)

abbrev pub after_taking : Showing → Showing
after_taking s = record s { gone = s.gone + length (taken_from s) }

pub taken_length : (s : Showing) → length (taken_from s) ≡ min piece_bytes (length s.frame - s.gone)
taken_length s = omega (arith, length-take piece_bytes (drop s.gone s.frame), length-drop s.gone s.frame)

-- ---- frames that aren't gone

frames_kept : (frame : List ℕ) (frames : List (List ℕ)) (gone : ℕ) → gone < length frame
    → frames_when (frame ∷ frames) gone ≡ record { frames = frame ∷ frames; gone = gone }
frames_kept frame frames gone lt = cond-true (nat_lt gone (length frame)) _ _ (lt-ltb gone (length frame) lt)

frames_next : (frame : List ℕ) (frames : List (List ℕ)) (gone : ℕ) → length frame ≤ gone
    → frames_when (frame ∷ frames) gone ≡ record { frames = frames; gone = 0 }
frames_next frame frames gone le = cond-false (nat_lt gone (length frame)) _ _ (le-ltb gone (length frame) le)

-- ---- part of a piece goes

pass_piece : (s : Showing) (piece : List ℕ) (n : ℕ) → IsPieceOf s piece → n < length piece → IsPieceOf s (drop n piece)
pass_piece s piece n is lt =
    let len : length (drop n piece) ≡ length piece - n = length-drop n piece in
    let from : s.gone - length piece + n ≡ s.gone - length (drop n piece) = omega (arith, len, is.within, lt) in
    let within_piece : n < length (piece_at s.frame (s.gone - length piece)) = subst (λ (p : List ℕ). n < length p) is.next lt in
    record {
      some = omega (arith, len, lt);
      within = omega (arith, len, is.within);
      whole = is.whole;
      next = ap (drop n) is.next ∙ sym (piece_goes_on s.frame (s.gone - length piece) n within_piece) ∙ ap (piece_at s.frame) from;
    }

pub pass_queue : (first : Option Showing) (piece : List ℕ) (later : List Showing) (n : ℕ) → IsQueue first piece later → n < length piece
    → IsQueue first (drop n piece) later
pass_queue None piece later n is lt = absurd (omega (arith, lt, ap length is.0))
pass_queue (Some s) piece later n is lt = (pass_piece s piece n is.0 lt, is.1)

pub pass_waiting : (first : Option Showing) (piece : List ℕ) (later : List Showing) (n : ℕ) → IsQueue first piece later → n < length piece
    → waiting_in first (drop n piece) later ≡ after_gone (waiting_in first piece later) n
pass_waiting None piece later n is lt = refl
pass_waiting (Some s) piece later n is lt =
    let len : length (drop n piece) ≡ length piece - n = length-drop n piece in
    let from : s.gone - length (drop n piece) ≡ s.gone - length piece + n = omega (arith, len, is.0.within, lt) in
    let inside : s.gone - length piece + n < length s.frame = omega (arith, is.0.within, is.0.whole, lt) in
    ap (λ (g : ℕ). record { frames = s.frame ∷ frames_of later; gone = g }) from
    ∙ sym (frames_kept s.frame (frames_of later) (s.gone - length piece + n) inside)

-- ---- a whole piece is gone

spent_piece : (s : Showing) (piece : List ℕ) → IsPieceOf s piece → IsSpent s
spent_piece s piece is =
    let from : ℕ = s.gone - length piece in
    let len : length piece ≡ min (piece_left from) (length (drop from s.frame)) = ap length is.next ∙ length-take (piece_left from) (drop from s.frame) in
    let left : length (drop from s.frame) ≡ length s.frame - from = length-drop from s.frame in
    let place : s.gone ≡ from + length piece = omega (arith, is.within) in
    record { whole = is.whole; even = λ lt. omega (arith, len, left, place, lt) }

-- as many bytes go as the piece has
all_gone : (s : Showing) (piece : List ℕ) (n : ℕ) → IsPieceOf s piece → n ≤ length (piece_at s.frame (s.gone - length piece)) → drop n piece ≡ []
    → s.gone ≡ s.gone - length piece + n
all_gone s piece n is le none =
    let most : n ≤ length piece = subst (λ (p : List ℕ). n ≤ length p) (sym is.next) le in
    let len : length (drop n piece) ≡ length piece - n = length-drop n piece in
    let zero : length (drop n piece) ≡ 0 = ap length none in omega (arith, most, len, zero, is.within)

pub spent_queue : (first : Option Showing) (piece : List ℕ) (later : List Showing) → IsQueue first piece later → IsSpentQueue first later
spent_queue None piece later is = is.1
spent_queue (Some s) piece later is = (spent_piece s piece is.0, is.1)

pub spent_waiting : (first : Option Showing) (piece : List ℕ) (later : List Showing) (n : ℕ) → IsQueue first piece later
    → n ≤ length (piece_shown (waiting_in first piece later)) → drop n piece ≡ []
    → waiting_spent first later ≡ after_gone (waiting_in first piece later) n
spent_waiting None piece later n is le none = refl
spent_waiting (Some s) piece later n is le none =
    ap (λ (g : ℕ). frames_when (s.frame ∷ frames_of later) g) (all_gone s piece n is.0 le none)

-- ---- the next piece

taken_piece : (s : Showing) → IsSpent s → 0 < length (taken_from s) → IsPieceOf (after_taking s) (taken_from s)
taken_piece s spent some =
    let len : length (taken_from s) ≡ min piece_bytes (length s.frame - s.gone) = taken_length s in
    let lt : s.gone < length s.frame = omega (arith, len, some) in
    let even : s.gone % piece_bytes ≡ 0 = spent.even lt in
    let at : s.gone ≡ s.gone + length (taken_from s) - length (taken_from s) = omega arith in
    let all : piece_bytes ≡ piece_left s.gone = omega (arith, even) in
    record {
      some = some;
      within = omega arith;
      whole = omega (arith, len, spent.whole);
      next = ap (λ (k : ℕ). take k (drop s.gone s.frame)) all ∙ ap (piece_at s.frame) at;
    }

pub next_queue : (s : Showing) (later : List Showing) → IsSpentQueue (Some s) later → 0 < length (taken_from s)
    → IsQueue (Some (after_taking s)) (taken_from s) later
next_queue s later spent some = (taken_piece s spent.0 some, spent.1)

pub next_waiting : (s : Showing) (later : List Showing) → 0 < length (taken_from s)
    → waiting_in (Some (after_taking s)) (taken_from s) later ≡ waiting_spent (Some s) later
next_waiting s later some =
    let lt : s.gone < length s.frame = omega (arith, taken_length s, some) in
    let at : s.gone + length (taken_from s) - length (taken_from s) ≡ s.gone = omega arith in
    ap (λ (g : ℕ). record { frames = s.frame ∷ frames_of later; gone = g }) at ∙ sym (frames_kept s.frame (frames_of later) s.gone lt)

-- ---- the next frame

fresh_is_spent : (s : Showing) → IsFresh s → IsSpent s
fresh_is_spent s fresh = record { whole = omega (arith, fresh); even = λ lt. omega (arith, fresh) }

fresh_has_some : (s : Showing) → IsFresh s → 0 < length s.frame → 0 < length (taken_from s)
fresh_has_some s fresh some = omega (arith, taken_length s, fresh, some)

pub first_queue : (s : Showing) (later : List Showing) → IsFresh s → 0 < length s.frame → AllByRecursion IsFresh later
    → IsQueue (Some (after_taking s)) (taken_from s) later
first_queue s later fresh some rest_fresh = (taken_piece s (fresh_is_spent s fresh) (fresh_has_some s fresh some), rest_fresh)

pub first_waiting : (s : Showing) (later : List Showing) → IsFresh s
    → waiting_in (Some (after_taking s)) (taken_from s) later ≡ record { frames = s.frame ∷ frames_of later; gone = 0 }
first_waiting s later fresh =
    let at : s.gone + length (taken_from s) - length (taken_from s) ≡ 0 = omega (arith, fresh) in
    ap (λ (g : ℕ). record { frames = s.frame ∷ frames_of later; gone = g }) at

-- what is waited for when the first frame is gone
pub over_waiting : (s : Showing) (later : List Showing) → IsSpent s → taken_from s ≡ []
    → waiting_spent (Some s) later ≡ record { frames = frames_of later; gone = 0 }
over_waiting s later spent none =
    let zero : length (taken_from s) ≡ 0 = ap length none in
    frames_next s.frame (frames_of later) s.gone (omega (arith, taken_length s, zero))

-- ---- a frame more

pub push_fresh : (later : List Showing) (s : Showing) → AllByRecursion IsFresh later → IsFresh s → AllByRecursion IsFresh (later ++ s ∷ [])
push_fresh [] s fresh new = (new, tt)
push_fresh (x ∷ later) s fresh new = (fresh.0, push_fresh later s fresh.1 new)

pub push_queue : (first : Showing) (piece : List ℕ) (later : List Showing) (s : Showing) → IsQueue (Some first) piece later → IsFresh s
    → IsQueue (Some first) piece (later ++ s ∷ [])
push_queue first piece later s is fresh = (is.0, push_fresh later s is.1 fresh)

pub push_waiting : (first : Showing) (piece : List ℕ) (later : List Showing) (s : Showing)
    → waiting_in (Some first) piece (later ++ s ∷ []) ≡ after_push (waiting_in (Some first) piece later) s.frame
push_waiting first piece later s =
    ap (λ (fs : List (List ℕ)). record { frames = first.frame ∷ fs; gone = first.gone - length piece })
    (map-append (λ (x : Showing). x.frame) later (s ∷ []))

-- what is left of the piece is what is shown
pub shown_is_left : (first : Option Showing) (piece : List ℕ) (later : List Showing) → IsQueue first piece later
    → piece ≡ piece_shown (waiting_in first piece later)
shown_is_left None piece later is = is.0
shown_is_left (Some s) piece later is = is.0.next

-- nothing is left of the piece exactly where no frame waits
pub none_left : (first : Option Showing) (piece : List ℕ) (later : List Showing) → IsQueue first piece later
    → (piece ≡ []) ↔ ((waiting_in first piece later).frames ≡ [])
none_left None piece later is = (λ e. refl, λ e. is.0)
none_left (Some s) piece later is =
    (λ e. absurd (omega (arith, is.0.some, ap length e)), λ e. absurd (omega (arith, ap length e)))

-- none waits exactly where there is no first one
pub none_waits : (first : Option Showing) (piece : List ℕ) (later : List Showing) (b : Bool) → is_some first ≡ not b
    → IsTrue b ↔ ((waiting_in first piece later).frames ≡ [])
none_waits None piece later true is = (λ e. refl, λ e. refl)
none_waits None piece later false is = absurd (clash is) where
  clash : false ≡ true → ⊥
  clash h = cc
none_waits (Some s) piece later true is = absurd (clash is) where
  clash : true ≡ false → ⊥
  clash h = cc
none_waits (Some s) piece later false is = (λ e. absurd (clash e), λ e. absurd (omega (arith, ap length e))) where
  clash : false ≡ true → ⊥
  clash h = cc

-- ---- what the parts are after each step

-- no frame is shown
pub none_is : (first : Option Showing) (piece : List ℕ) (later : List Showing) → ((s : Showing) → first ≡ Some s → ⊥) → piece ≡ [] → IsSpentQueue first later
    → IsQueue first piece later × (waiting_in first piece later ≡ waiting_spent first later)
none_is None piece later never empty spent = ((empty, spent), refl)
none_is (Some s) piece later never empty spent = absurd (never s refl)

-- the next piece of the frame was taken, and has some bytes
pub next_is : (s now : Showing) (piece : List ℕ) (later : List Showing) → IsSpentQueue (Some s) later → 0 < length piece
    → piece ≡ taken_from s → now ≡ record s { gone = s.gone + length piece }
    → IsQueue (Some now) piece later × (waiting_in (Some now) piece later ≡ waiting_spent (Some s) later)
next_is s now piece later spent some piece_is now_is =
    let more : 0 < length (taken_from s) = subst (λ (p : List ℕ). 0 < length p) piece_is some in
    let queue : IsQueue (Some (record s { gone = s.gone + length piece })) piece later =
    subst (λ (p : List ℕ). IsQueue (Some (record s { gone = s.gone + length p })) p later) (sym piece_is) (next_queue s later spent more) in (
      subst (λ (x : Showing). IsQueue (Some x) piece later) (sym now_is) queue,
      ap (λ (x : Showing). waiting_in (Some x) piece later) now_is
          ∙ ap (λ (p : List ℕ). waiting_in (Some (record s { gone = s.gone + length p })) p later) piece_is ∙ next_waiting s later more,
    )

-- the first piece of a frame was taken
pub begun_queue : (s now : Showing) (piece : List ℕ) → IsFresh s → 0 < length s.frame → piece ≡ taken_from s → now ≡ record s { gone = s.gone + length piece }
    → (later : List Showing) → AllByRecursion IsFresh later → IsQueue (Some now) piece later
begun_queue s now piece fresh some piece_is now_is later rest_fresh =
    let queue : IsQueue (Some (record s { gone = s.gone + length piece })) piece later =
    subst (λ (p : List ℕ). IsQueue (Some (record s { gone = s.gone + length p })) p later) (sym piece_is) (first_queue s later fresh some rest_fresh) in
    subst (λ (x : Showing). IsQueue (Some x) piece later) (sym now_is) queue

pub begun_waiting : (s now : Showing) (piece : List ℕ) → IsFresh s → piece ≡ taken_from s → now ≡ record s { gone = s.gone + length piece }
    → (later : List Showing) → waiting_in (Some now) piece later ≡ record { frames = s.frame ∷ frames_of later; gone = 0 }
begun_waiting s now piece fresh piece_is now_is later =
    ap (λ (x : Showing). waiting_in (Some x) piece later) now_is
    ∙ ap (λ (p : List ℕ). waiting_in (Some (record s { gone = s.gone + length p })) p later) piece_is ∙ first_waiting s later fresh

-- what stands first goes
pub popped : (r : Option Showing) (next : Showing) (later more : List Showing) → r ≡ Some next → later ≡ option_to_list r ++ more → later ≡ next ∷ more
popped r next later more e is = is ∙ ap (λ (o : Option Showing). option_to_list o ++ more) e

-- the first frame is gone, and another one waits
pub over_is : (s next : Showing) (later more : List Showing) → IsSpentQueue (Some s) later → later ≡ next ∷ more → taken_from s ≡ []
    → (IsFresh next × AllByRecursion IsFresh more) × (waiting_spent (Some s) later ≡ record { frames = next.frame ∷ frames_of more; gone = 0 })
over_is s next later more spent is none =
    let fresh : AllByRecursion IsFresh (next ∷ more) = subst (AllByRecursion IsFresh) is spent.1 in (
      (fresh.0, fresh.1),
      over_waiting s later spent.0 none ∙ ap (λ (l : List Showing). record { frames = frames_of l; gone = 0 }) is,
    )

-- the first frame is gone, and no other waits
pub last_is : (s : Showing) (later : List Showing) → IsSpentQueue (Some s) later → later ≡ [] → taken_from s ≡ []
    → waiting_spent (Some s) later ≡ waiting_none
last_is s later spent is none =
    over_waiting s later spent.0 none ∙ ap (λ (l : List Showing). record { frames = frames_of l; gone = 0 }) is

-- a frame was added after others
pub pushed_is : (first : Option Showing) (piece : List ℕ) (later : List Showing) (s : Showing) → is_some first ≡ true → IsQueue first piece later → IsFresh s
    → IsQueue first piece (later ++ s ∷ []) × (waiting_in first piece (later ++ s ∷ []) ≡ after_push (waiting_in first piece later) s.frame)
pushed_is None piece later s e is fresh = absurd (clash e) where
  clash : false ≡ true → ⊥
  clash h = cc
pushed_is (Some x) piece later s e is fresh = (push_queue x piece later s is fresh, push_waiting x piece later s)

-- where none waits, a frame that comes is the first one
pub first_pushed : (first : Option Showing) (piece : List ℕ) (later : List Showing) (frame : List ℕ) → is_some first ≡ false → IsQueue first piece later
    → AllByRecursion IsFresh later × (record { frames = frame ∷ frames_of later; gone = 0 } ≡ after_push (waiting_in first piece later) frame)
first_pushed None piece later frame e is =
    let none : later ≡ [] = is.1 in (
      subst (λ (l : List Showing). AllByRecursion IsFresh l) (sym none) tt,
      ap (λ (l : List Showing). record { frames = frame ∷ frames_of l; gone = 0 }) none,
    )
first_pushed (Some x) piece later frame e is = absurd (clash e) where
  clash : true ≡ false → ⊥
  clash h = cc

-- where there is a first frame, some frame waits
pub some_waits : (first : Option Showing) (piece : List ℕ) (later : List Showing) → is_some first ≡ true → (waiting_in first piece later).frames ≡ [] → ⊥
some_waits None piece later e none = clash e where
  clash : false ≡ true → ⊥
  clash h = cc
some_waits (Some x) piece later e none = omega (arith, ap length none)
