-- What a seat's view is after each step that it makes, and what the step tells it.
use Rattle.std.specs.Prelude.{◌≡◌, ◌≢◌, ◌⊎◌, ℕ, ◌<◌, ◌≤◌, ◌^◌, true, false, cond, nat_lt, List, [], ◌∷◌, ◌++◌, length, slice_index}
use Rattle.std.specs.List.{AllByRecursion}
use mathlib.Core.List.{IsPrefix}
use Rattle.atomic_table.specs.Table.{Me, Step}
use Rattle.ig_base.specs.declared.entry.Entry.{Entry}
use Rattle.ig_turn.specs.declared.view.Stage.{Stage}
use Rattle.ig_turn.specs.declared.view.Stage.TheVariants.{Idle, Waiting, Holding}
use Rattle.ig_turn.specs.declared.view.View.{View}
use Rattle.ig_turn.specs.History.{pairs_of, entries_of, ended, entry, IsWhole, IsLonger}

module _ {A G : Type 0} where
  -- the ticket and the list of a seat that holds the object
  abbrev pub held_ticket : Stage A G → ℕ
  held_ticket (Holding t l c) = t
  held_ticket _ = 0

  abbrev pub held_list : Stage A G → List (Entry A G)
  held_list (Holding t l c) = l
  held_list _ = []

  abbrev pub held_pairs : Stage A G → List (A × G)
  held_pairs st = pairs_of (held_list st)

  -- the seat holds the object, and has committed c times since it took it
  abbrev pub IsHolding : Stage A G → ℕ → Type 0
  IsHolding st c = st ≡ Holding (held_ticket st) (held_list st) c

  abbrev pub longer_of : List (Entry A G) → List (Entry A G) → List (Entry A G)
  longer_of xs ys = cond (nat_lt (length xs) (length ys)) ys xs

module _ {X A G : Type 0} where
  -- the view at another stage
  abbrev pub with_stage : View X A G → Stage A G → View X A G
  with_stage v st = record v { stage = st }

  -- the view with other numbers drawn
  abbrev pub with_drawn : View X A G → List ℕ → View X A G
  with_drawn v ns = record v { drawn = ns }

  abbrev pub IsLegalView : (X → List (A × G) → Type 0) → View X A G → Type 0
  IsLegalView runs v = runs v.start (pairs_of v.seen)

  abbrev pub opening_view : X → View X A G
  opening_view x = record { start = x; stage = Idle; drawn = []; live = true; number = 0; seen = []; met = []; own = []; ended = []; born = [] }

  -- a view that has no number: that of a seat that was joined, or of a note from one seat to another
  abbrev pub numberless_view : X → List (Entry A G) → View X A G
  numberless_view x seen = record { start = x; stage = Idle; drawn = []; live = false; number = 0; seen = seen; met = []; own = []; ended = []; born = [] }

  abbrev pub IsWholeView : View X A G → Type 0
  IsWholeView v = IsWhole v.number v.seen v.own v.ended v.born × (length v.seen ≤ 2 ^ 62)

  -- the view of the seat that is split off, and of the one that it is split off
  abbrev pub right_of_split : View X A G → View X A G
  right_of_split v = record { start = v.start; stage = Idle; drawn = []; live = true; number = slice_index v.drawn 0; seen = v.seen; met = []; own = []; ended = []; born = [] }

  abbrev pub left_of_split : View X A G → View X A G
  left_of_split v = with_drawn v []

  -- a note of what the seat has seen
  abbrev pub note_of : View X A G → View X A G
  note_of v = numberless_view v.start v.seen

  -- a view into which another was joined, whose list stands beside its own until the next load
  abbrev pub merged_view : View X A G → View X A G → View X A G
  merged_view v w = record v { met = w.seen; ended = v.ended ++ (w.ended ++ ended w.number w.own ∷ []); born = v.born ++ w.born }

  -- a view into which a note was joined
  abbrev pub informed_view : View X A G → View X A G → View X A G
  informed_view v w = record v { met = w.seen }

  abbrev pub settled_view : View X A G → View X A G
  settled_view v = record v { seen = longer_of v.seen v.met; met = [] }

  -- the view, when it has committed a call on what it holds
  abbrev pub committed_view : View X A G → ℕ → List (Entry A G) → A → G → View X A G
  committed_view v t l ask got = record v { stage = Holding t (l ++ entry v.number ask got ∷ []) 1; seen = l ++ entry v.number ask got ∷ []; own = v.own ++ entry v.number ask got ∷ [] }

  -- the same, by what the view itself says that it holds
  abbrev pub view_with_call : View X A G → A → G → View X A G
  view_with_call v ask got = committed_view v (held_ticket v.stage) (held_list v.stage) ask got

  -- the view, when it has drawn a number for a new seat
  abbrev pub view_with_number : View X A G → ℕ → View X A G
  view_with_number v n = record v { drawn = n ∷ []; born = v.born ++ n ∷ [] }

  -- each list that is kept under a number is what either list of the view has under it
  abbrev pub KeepsParts : View X A G → Type 0
  KeepsParts v = AllByRecursion (λ e. (entries_of e.number v.seen ≡ e.own) ⊎ (entries_of e.number v.met ≡ e.own)) (ended v.number v.own ∷ v.ended)

  -- the view has seen what others did since, and then its own call
  abbrev pub AddsView : View X A G → View X A G → A → G → Type 0
  AddsView v w ask got = (between : List (Entry A G)) × (w ≡ record v { seen = (v.seen ++ between) ++ entry v.number ask got ∷ []; own = v.own ++ entry v.number ask got ∷ [] })

  -- What a seat knows between two calls: it waits for nothing, holds nothing and has drawn no number
  pub record IsAtRest (runs : X → List (A × G) → Type 0) (v : View X A G) : Type 0 where
    pub idle : v.stage ≡ Idle
    pub none_drawn : v.drawn ≡ []
    pub live : v.live ≡ true
    pub met_none : v.met ≡ []
    pub legal : IsLegalView runs v
    pub whole : IsWholeView v

  module _ {O : Type 0} where
    -- the seat has taken the object, which stands for these pairs
    abbrev pub Carries : (O → X → List (A × G) → Type 0) → Me O (View X A G) → List (A × G) → Type 0
    Carries stands me pairs = (o : O) × (me.1 ≡ (0, o) ∷ []) × stands o me.0.start pairs

    -- with this ticket the seat has taken the object, which has a history of which the seat has seen a prefix
    abbrev pub HasTaken : (O → X → List (A × G) → Type 0) → Me O (View X A G) → ℕ → Me O (View X A G) → Type 0
    HasTaken stands me ticket me' = (history : List (Entry A G)) × (me'.0 ≡ with_stage me.0 (Holding ticket history 0))
        × Carries stands me' (pairs_of history) × IsPrefix me.0.seen history

    -- a ticket was drawn where the word was as expected
    abbrev pub DrawsTicket : Step O → Me O (View X A G) → ℕ → Me O (View X A G) → Type 0
    DrawsTicket s me found me' = (found ≡ s.first → me' ≡ (with_stage me.0 (Waiting found), me.1)) × (found ≢ s.first → me' ≡ me)

    -- the object was taken where the seat's ticket is served
    abbrev pub TakesObject : (O → X → List (A × G) → Type 0) → Step O → Me O (View X A G) → ℕ → Me O (View X A G) → Type 0
    TakesObject stands s me found me' = (t : ℕ) → me.0.stage ≡ Waiting t
        → (found ≡ t → (o : O) × (l : List (Entry A G)) × (me' ≡ (with_stage me.0 (Holding t l 0), (0, o) ∷ me.1)) × stands o me.0.start (pairs_of l) × IsPrefix me.0.seen l)
        × (found ≢ t → me' ≡ me)

    -- these calls, one of them, were committed
    abbrev pub Commits : List (A × G) → Step O → Me O (View X A G) → ℕ → Me O (View X A G) → Type 0
    Commits calls s me found me' = (t : ℕ) (l : List (Entry A G)) (ask : A) (got : G) → me.0.stage ≡ Holding t l 0 → calls ≡ (ask, got) ∷ []
        → (me' ≡ (committed_view me.0 t l ask got, me.1)) × IsWholeView me'.0

    -- the object was given back, and the next ticket is served
    abbrev pub Passes : Step O → Me O (View X A G) → ℕ → Me O (View X A G) → Type 0
    Passes s me found me' = me' ≡ (with_stage me.0 Idle, [])

    -- a number was drawn where the word was as expected
    abbrev pub DrawsNumber : Step O → Me O (View X A G) → ℕ → Me O (View X A G) → Type 0
    DrawsNumber s me found me' =
        (found ≡ s.first → (me' ≡ (view_with_number me.0 found, me.1)) × (me.0.number < found)
        × AllByRecursion (λ n. n < found) me.0.born × (entries_of found me.0.seen ≡ []))
        × (found ≢ s.first → me' ≡ me)

    -- both lists of the view are prefixes of the longer one, which it has seen from now on
    abbrev pub Settles : Step O → Me O (View X A G) → ℕ → Me O (View X A G) → Type 0
    Settles s me found me' = (me' ≡ (settled_view me.0, me.1)) × IsLonger me.0.seen me.0.met me'.0.seen × (KeepsParts me.0 → IsWholeView me'.0)
