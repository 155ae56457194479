-- The canonical encodings that a get all meets, and the copies of rows.
use Rattle.std.proofs.Common.{◌≡◌, ℕ, Bool, true, false, cond, not, ◌&&◌, ◌||◌, List, [], ◌∷◌, All, Option, None, Some, option_map, refl, sym, ap, ◌∙◌}
use Rattle.std.proofs.lemmas.List.Elements.{All-nil, All-cons, All-head, All-tail}
use Rattle.std.specs.Ordering.{match_ordering}
use Rattle.std.specs.declared.cmp.Ordering.{Ordering}
use Rattle.std.specs.declared.cmp.Ordering.TheVariants.{Less, Equal, Greater}
use Rattle.std.specs.BTreeSet.{insert_key}
use Rattle.std.specs.FinMap as finite
use Rattle.ig_value.specs.declared.value.Value.{Value}
use Rattle.ig_value.specs.Spells.{Spells}
use Rattle.ig_caches.specs.declared.call.Pair.{Pair}
use Rattle.ig_caches.specs.RowEntries.{key_of, row_under, rows_of_entries, IsKept, AreKept, is_among}
use Rattle.ig_caches.proofs.RowEntryLemmas.{ties, exact, order, entry_at, get_entry}

-- ---- tests
or_no : (a : Bool) → (a || false) ≡ a
or_no true = refl
or_no false = refl

last_first : (k x ks : Bool) → (k || (x || ks)) ≡ ((x || ks) || k)
last_first true true ks = refl
last_first true false true = refl
last_first true false false = refl
last_first false x ks = sym (or_no (x || ks))

twice : (x ks : Bool) → (x || ks) ≡ ((x || ks) || x)
twice true ks = refl
twice false ks = sym (or_no ks)

in_turn : (x ks k : Bool) → (x || (ks || k)) ≡ ((x || ks) || k)
in_turn true ks k = refl
in_turn false ks k = refl

pub from_not : (b : Bool) → true ≡ not b → b ≡ false
from_not true e = absurd (cc)
from_not false e = refl

-- nothing is met without a row
pub none_met : (old tied has : Bool) → has ≡ false → old ≡ (old || (tied && has))
none_met true tied has none = refl
none_met false true has none = sym none
none_met false false has none = refl

-- with a row, what ties is met
pub row_met : (old tied has : Bool) → has ≡ true → (old || tied) ≡ (old || (tied && has))
row_met true tied has there = refl
row_met false true has there = sym there
row_met false false has there = refl

-- without a row there is none, whether it was met or not
pub none_either : (met : Bool) (row : Option Pair) → row ≡ None → None ≡ cond met None row
none_either true row none = refl
none_either false row none = sym none

module _ {K : Type 0} (bytes : K → List ℕ) where
  -- one more key is met
  pub among_insert : (keys : List K) (k : K) (q : List ℕ) → is_among bytes (insert_key (order bytes) keys k) q ≡ (is_among bytes keys q || ties q (bytes k))
  among_insert [] k q = or_no (ties q (bytes k))
  among_insert (x ∷ keys) k q = at (among_insert keys k q) (order bytes k x) refl
    where
      at : is_among bytes (insert_key (order bytes) keys k) q ≡ (is_among bytes keys q || ties q (bytes k)) → (o : Ordering) → order bytes k x ≡ o
          → is_among bytes (match_ordering o (k ∷ x ∷ keys) (x ∷ keys) (x ∷ insert_key (order bytes) keys k)) q ≡ ((ties q (bytes x) || is_among bytes keys q) || ties q (bytes k))
      at later Less is = last_first (ties q (bytes k)) (ties q (bytes x)) (is_among bytes keys q)
      at later Equal is =
          twice (ties q (bytes x)) (is_among bytes keys q)
          ∙ ap (λ (l : List ℕ). (ties q (bytes x) || is_among bytes keys q) || ties q l) (sym (exact (bytes k) (bytes x) is))
      at later Greater is = ap (λ (b : Bool). ties q (bytes x) || b) later ∙ in_turn (ties q (bytes x)) (is_among bytes keys q) (ties q (bytes k))

  -- an entry stands under bytes that encode its key
  abbrev pub IsSpelled : K × Value → Type 0
  IsSpelled entry = Spells (bytes entry.0) (key_of (bytes entry.0))

  pub keys_spelled : (most : ℕ) (all entries : List (K × Value)) → AreKept most (rows_of_entries bytes all) → All (λ (e : K × Value). entry_at bytes (bytes e.0) all ≡ Some e.1) entries → All IsSpelled entries
  keys_spelled most all [] kept found = All-nil IsSpelled
  keys_spelled most all (e ∷ entries) kept found =
      let P : K × Value → Type 0 = λ x. entry_at bytes (bytes x.0) all ≡ Some x.1 in
      let stands : finite.get (rows_of_entries bytes all) (bytes e.0) ≡ Some (row_under (bytes e.0) e.1) =
      get_entry bytes all (bytes e.0) ∙ ap (option_map (row_under (bytes e.0))) (All-head P e entries found) in
      let it : IsKept most (bytes e.0) (row_under (bytes e.0) e.1) = kept (bytes e.0) (row_under (bytes e.0) e.1) stands in
      All-cons IsSpelled e entries it.key (keys_spelled most all entries kept (All-tail P e entries found))
