-- The invariant of a turn's table, `Ordered`, which each atomic step keeps. The words are the next ticket, the ticket that is
-- served, the length of the history, and the next number for a seat. The one slot holds the object.
-- A view is what one seat knows, and j, id and other are places in the table's list of views.
use Rattle.std.specs.Prelude.{◌≡◌, ◌≢◌, ℕ, ◌+◌, ◌<◌, ◌≤◌, ◌^◌, true, cond, List, [], ◌∷◌, ◌++◌, map, length, nat_eq}
use Rattle.std.specs.List.{AllByRecursion, Contains, IsDistinct}
use mathlib.Core.Option.{Option, some, none}
use mathlib.Core.List.{IsPrefix}
use lib.ListN.{get_elem?}
use Rattle.atomic_table.specs.Table.{State}
use Rattle.ig_base.specs.declared.entry.Entry.{Entry}
use Rattle.ig_turn.specs.declared.view.Ended.{Ended}
use Rattle.ig_turn.specs.declared.view.Stage.{Stage}
use Rattle.ig_turn.specs.declared.view.Stage.TheVariants.{Idle, Waiting, Holding}
use Rattle.ig_turn.specs.declared.view.View.{View}
use Rattle.ig_turn.specs.History.{pairs_of, entries_of, ended}

-- where the object is: in its slot, or out with the seat that is served, which has committed that many times since it took it
pub data Phase (O : Type 0) : Type 0 where
  home : O → Phase O
  out : ℕ → Phase O

-- The words, the history and where the object is. By each ticket, which view has it; by each number, which view has it and
-- under which number it was drawn
pub record Board (O A G : Type 0) : Type 0 where
  pub ticket : ℕ
  pub serving : ℕ
  pub count : ℕ
  pub seats : ℕ
  pub log : List (Entry A G)
  pub phase : Phase O
  pub whose : ℕ → ℕ
  pub owner : ℕ → ℕ
  pub parent : ℕ → ℕ

abbrev pub homes_of : {O : Type 0} → Phase O → List (Option O)
homes_of (home o) = some o ∷ []
homes_of (out c) = none ∷ []

abbrev pub commits_of : {O : Type 0} → Phase O → ℕ
commits_of (home o) = 0
commits_of (out c) = c

module _ {A G : Type 0} where
  abbrev pub number_of : Ended A G → ℕ
  number_of e = e.number

  abbrev pub HasTicket : ℕ → Stage A G → Type 0
  HasTicket t (Waiting u) = u ≡ t
  HasTicket t (Holding u l c) = u ≡ t
  HasTicket t _ = ⊥

  -- What holds of the view j and the numbers of seats. `parts` are its numbers with their entries: they are exactly the
  -- numbers that are the view's, all different, each with the entries that the history has of it. Each number that was drawn
  -- under one of them is in `born`, and none was drawn under a number that no seat has yet
  pub record Numbers (seats : ℕ) (owner parent : ℕ → ℕ) (log : List (Entry A G)) (j : ℕ) (drawn : List ℕ) (parts : List (Ended A G)) (born : List ℕ) : Type 0 where
    pub each : AllByRecursion (λ e. (owner e.number ≡ j) × (e.number < seats) × (entries_of e.number log ≡ e.own)) parts
    pub different : IsDistinct nat_eq (map number_of parts)
    pub has : (n : ℕ) → n < seats → owner n ≡ j → Contains (map number_of parts) n
    pub kin : (n : ℕ) → 0 < n → n < seats → owner (parent n) ≡ j → Contains born n
    pub below : AllByRecursion (λ n. n < seats) born
    pub childless : AllByRecursion (λ d. (owner d ≡ j) × ((n : ℕ) → 0 < n → n < seats → parent n ≢ d)) drawn

module _ {X A G : Type 0} where
  -- a view's numbers, each with its entries: one that was drawn, the seat's own, and those of the seats that were joined
  abbrev pub parts_of : View X A G → List (Ended A G)
  parts_of v = map (λ n. ended n []) v.drawn ++ cond v.live (ended v.number v.own ∷ v.ended) []

module _ {O A G : Type 0} where
  abbrev pub words_of : Board O A G → List ℕ
  words_of b = b.ticket ∷ b.serving ∷ b.count ∷ b.seats ∷ []

  abbrev pub StageFits : Board O A G → ℕ → Stage A G → Type 0
  StageFits b j Idle = Unit {0}
  StageFits b j (Waiting t) = (b.serving ≤ t) × (t < b.ticket) × (b.whose t ≡ j)
  StageFits b j (Holding t l c) = (t ≡ b.serving) × (t < b.ticket) × (b.whose t ≡ j) × (b.phase ≡ out c) × (l ≡ b.log)

  -- the view that is served holds the object where it is out
  abbrev pub HolderFits : Board O A G → ℕ → Phase O → Stage A G → Type 0
  HolderFits b j (home o) st = Unit {0}
  HolderFits b j (out c) st = b.whose b.serving ≡ j → st ≡ Holding b.serving b.log c

  -- what holds of the view j and the tickets: each ticket from the one served up that is its own it knows of
  pub record Tickets (b : Board O A G) (j : ℕ) (st : Stage A G) : Type 0 where
    pub stage : StageFits b j st
    pub turn : (t : ℕ) → b.serving ≤ t → t < b.ticket → b.whose t ≡ j → HasTicket t st
    pub holder : HolderFits b j b.phase st

module _ {O X A G : Type 0} where
  pub record Knows (start : X) (b : Board O A G) (j : ℕ) (v : View X A G) : Type 0 where
    pub seen : IsPrefix v.seen b.log
    pub met : IsPrefix v.met b.log
    pub tickets : Tickets b j v.stage
    pub numbers : Numbers b.seats b.owner b.parent b.log j v.drawn (parts_of v) v.born
    pub starts : v.live ≡ true → v.start ≡ start

  module _ (stands : O → X → List (A × G) → Type 0) where
    abbrev pub ObjectFits : X → Board O A G → Phase O → Type 0
    ObjectFits start b (home o) = stands o start (pairs_of b.log)
    ObjectFits start b (out c) = (b.serving < b.ticket) × (c ≤ 1)

    pub record Ordered (start : X) (s : State O (View X A G)) : Type 0 where
      pub board : Board O A G
      pub words : s.words ≡ words_of board
      pub homes : s.homes ≡ homes_of board.phase
      pub object : ObjectFits start board board.phase
      pub counted : board.count ≡ length board.log
      pub few : board.count ≤ board.serving + commits_of board.phase
      pub in_turn : board.serving ≤ board.ticket
      pub tickets_left : board.ticket ≤ 2 ^ 62
      pub numbers_left : (0 < board.seats) × (board.seats ≤ 2 ^ 62)
      pub fresh : (n : ℕ) → board.seats ≤ n → entries_of n board.log ≡ []
      pub older : (n : ℕ) → 0 < n → n < board.seats → board.parent n < n
      pub each_view : (j : ℕ) (v : View X A G) → get_elem? s.views j ≡ some v → Knows start board j v
      pub holders : (t : ℕ) → board.serving ≤ t → t < board.ticket → board.whose t < length s.views
      pub owners : (n : ℕ) → n < board.seats → board.owner n < length s.views
