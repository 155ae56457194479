-- The history of a turn, and what holds of the prefix of it that one seat has seen.
use Rattle.std.specs.Prelude.{◌≡◌, ◌⊎◌, ◌==◌, ℕ, ◌≤◌, ◌^◌, List, [], ◌∷◌, ◌++◌, map, length, nat_eq}
use Rattle.std.specs.List.{All, Contains, filter, IsDistinct}
use mathlib.Core.List.{IsPrefix}
use Rattle.ig_base.specs.declared.entry.Entry.{Entry}
use Rattle.ig_turn.specs.declared.view.Ended.{Ended}
use Rattle.ig_turn.specs.SeatState.{SeatState, TurnState}

module _ {A G : Type 0} where
  abbrev pub entry : ℕ → A → G → Entry A G
  entry number ask got = record { seat = number; ask = ask; got = got }

  abbrev pub ended : ℕ → List (Entry A G) → Ended A G
  ended number own = record { number = number; own = own }

  abbrev pub pair_of : Entry A G → A × G
  pair_of e = (e.ask, e.got)

  -- the asks with what each got, in order
  abbrev pub pairs_of : List (Entry A G) → List (A × G)
  pairs_of es = map pair_of es

  -- the entries that the seat with this number made, in order
  abbrev pub entries_of : ℕ → List (Entry A G) → List (Entry A G)
  entries_of n es = filter (λ e. e.seat == n) es

  -- a seat's number, and those of the seats that were joined into it
  abbrev pub numbers_of : ℕ → List (Ended A G) → List ℕ
  numbers_of number joined = number ∷ map (λ e. e.number) joined

  -- zs is the longer of xs and ys, and the shorter is a prefix of it
  abbrev pub IsLonger : List (Entry A G) → List (Entry A G) → List (Entry A G) → Type 0
  IsLonger xs ys zs = ((zs ≡ xs) × IsPrefix ys xs) ⊎ ((zs ≡ ys) × IsPrefix xs ys)

  -- 0, and each number of a seat that was split off, is the seat's own or that of a seat that was joined into it
  abbrev pub HasEachNumber : ℕ → List (Ended A G) → List ℕ → Type 0
  HasEachNumber number joined born = Contains (numbers_of number joined) 0 × All (Contains (numbers_of number joined)) born

  -- Of the entries that a seat has seen, those with its own number are `own`, and those with the number of a seat that
  -- was joined into it are the ones kept for that seat. A seat that has joined all others knows who made each entry
  pub record IsWhole (number : ℕ) (seen own : List (Entry A G)) (joined : List (Ended A G)) (born : List ℕ) : Type 0 where
    pub own_is : entries_of number seen ≡ own
    pub joined_are : All (λ e. entries_of e.number seen ≡ e.own) joined
    pub different : IsDistinct nat_eq (numbers_of number joined)
    pub all_known : HasEachNumber number joined born → All (λ e. Contains (numbers_of number joined) e.seat) seen

module _ {X A G : Type 0} where
  -- the first seat of a turn, which has seen nothing
  abbrev pub first_seat : TurnState X → SeatState X A G
  first_seat t = record { table = t.table; start = t.start; number = 0; seen = []; own = []; ended = []; born = [] }

  -- the seat is of this turn
  abbrev pub IsOf : TurnState X → SeatState X A G → Type 0
  IsOf t s = (s.table ≡ t.table) × (s.start ≡ t.start)

  abbrev pub IsWholeSeat : SeatState X A G → Type 0
  IsWholeSeat s = IsWhole s.number s.seen s.own s.ended s.born × (length s.seen ≤ 2 ^ 62)

  -- the seat has joined every other seat of its turn
  abbrev pub HasJoinedAll : SeatState X A G → Type 0
  HasJoinedAll s = HasEachNumber s.number s.ended s.born

  abbrev pub IsLegal : (X → List (A × G) → Type 0) → SeatState X A G → Type 0
  IsLegal runs s = runs s.start (pairs_of s.seen)

  -- the seat has seen what others did since, and then its own call, the only one that it made
  pub record Adds (s t : SeatState X A G) (ask : A) (got : G) : Type 0 where
    pub between : List (Entry A G)
    pub seen : t.seen ≡ (s.seen ++ between) ++ entry s.number ask got ∷ []
    pub kept : t ≡ record s { seen = t.seen; own = s.own ++ entry s.number ask got ∷ [] }

  -- the seat with one more number in its `born`
  abbrev pub with_born : SeatState X A G → ℕ → SeatState X A G
  with_born s n = record s { born = s.born ++ n ∷ [] }

  -- the seat n, which has seen what s has, and has made no call
  abbrev pub newcomer : SeatState X A G → ℕ → SeatState X A G
  newcomer s n = record s { number = n; own = []; ended = []; born = [] }

  -- the seat s, when the seat o was joined into it
  abbrev pub joined_with : SeatState X A G → SeatState X A G → List (Entry A G) → SeatState X A G
  joined_with s o seen = record s { seen = seen; ended = s.ended ++ (o.ended ++ ended o.number o.own ∷ []); born = s.born ++ o.born }

  abbrev pub with_seen : SeatState X A G → List (Entry A G) → SeatState X A G
  with_seen s seen = record s { seen = seen }
