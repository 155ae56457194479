-- The map that a server answers keeps to the limits of its bytes.
use Rattle.std.proofs.Common.{◌≡◌, ℕ, zero, suc, ◌+◌, ◌<◌, ◌≤◌, ◌^◌, ℤ, pos, Bool, true, false, List, [], ◌∷◌, map, length, refl, arith, eqb}
use Rattle.std.specs.Prelude.{◌%◌, not, filter}
use Rattle.std.specs.List.{AllByRecursion, range_with_len}
use Rattle.std.specs.Ordering.{int_eq}
use Rattle.std.proofs.lemmas.Bool.{le-leb}
use Rattle.std.proofs.lemmas.List.{length-map}
use Rattle.std.proofs.lemmas.List.FromFn.{length-map-range_with_len}
use Rattle.std.proofs.lemmas.List.Elements.{All-from_recursion}
use Rattle.ig_value.specs.Part.{i32}
use Rattle.ig_value.specs.Spells.{IsInRange}
use Rattle.ig_fields.specs.Format.{within}
use Rattle.ig_fields.specs.FieldBytes.{FitsFields}
use Rattle.ig_parts.specs.Partition.{below}
use Rattle.ig_parts.specs.ServedMap.{parts_on, served_node, nodes_below, served_nodes, first_mentions, listing_with, served_caches, served_groups, served_map}
use Rattle.ig_parts.specs.PartsMessages.{listing, node_parts, group, listing_fields, node_fields, group_fields, IsWritten}
use Rattle.ig_parts.specs.MessageLaws.{FitsAsk, FitPairs, ServedMapFits}

-- ---- partitions

abbrev FitsPart : ℤ → Type 0
FitsPart p = FitsFields (within 65535) p

part_fits : (k : ℕ) → k < 65536 → FitsPart (pos k)
part_fits k lt = (record { sfits = omega (arith, lt) }, le-leb k 65535 (omega (arith, lt)))

abbrev PartsFit : List ℕ → ℕ → Type 0
PartsFit ns n = AllByRecursion FitsPart (map pos ns) × (length ns ≤ n)

one_more_fits : (t : ℕ → Bool) (a n : ℕ) (ns : List ℕ) (b : Bool) → t a ≡ b → a < 65536 → PartsFit (filter t ns) n → PartsFit (filter t (a ∷ ns)) (suc n)
one_more_fits t a n ns true e lt h = rw e ((part_fits a lt, h.0), omega (arith, h.1))
one_more_fits t a n ns false e lt h = rw e (h.0, omega (arith, h.1))

parts_fit : (t : ℕ → Bool) (a m : ℕ) → a + m ≤ 65536 → PartsFit (filter t (range_with_len a m)) m
parts_fit t a zero small = (tt, omega arith)
parts_fit t a (suc m) small = one_more_fits t a m (range_with_len (a + 1) m) (t a) refl (omega (arith, small)) (parts_fit t (a + 1) m (omega (arith, small)))

-- ---- nodes

node_fits : (nodes parts k : ℕ) → k < 65536 → parts ≤ 65536 → FitsFields node_parts (node_fields (served_node nodes parts k))
unfolding parts_on
node_fits nodes parts k lt small =
    let each = parts_fit (λ q. eqb (q % nodes) k) 0 parts (omega (arith, small)) in
    let few = length-map (filter (λ q. eqb (q % nodes) k) (below parts)) pos in
    ((omega arith, omega (arith, lt)), (omega (arith, each.1, few, small), each.0))

nodes_fit : (nodes parts a m : ℕ) → a + m ≤ 65536 → parts ≤ 65536 → AllByRecursion (FitsFields node_parts) (map node_fields (map (served_node nodes parts) (range_with_len a m)))
nodes_fit nodes parts a zero le small = tt
nodes_fit nodes parts a (suc m) le small = (node_fits nodes parts a (omega (arith, le)) small, nodes_fit nodes parts (a + 1) m (omega (arith, le)) small)

all_nodes_fit : (nodes parts : ℕ) → nodes ≤ 65536 → parts ≤ 65536 → (length (map node_fields (served_nodes nodes parts)) < 2 ^ 31) × AllByRecursion (FitsFields node_parts) (map node_fields (served_nodes nodes parts))
unfolding nodes_below
all_nodes_fit nodes parts few small =
    (omega (arith, few, length-map (served_nodes nodes parts) node_fields, length-map-range_with_len (served_node nodes parts) 0 nodes), nodes_fit nodes parts 0 nodes (omega (arith, few)) small)

-- ---- caches

abbrev IsInt : ℤ → Type 0
IsInt n = IsInRange i32 n

abbrev CachesFit : List ℤ → ℕ → Type 0
CachesFit xs n = AllByRecursion IsInt xs × (length xs ≤ n)

one_more_kept : (t : ℤ → Bool) (x : ℤ) (xs : List ℤ) (n : ℕ) (b : Bool) → t x ≡ b → IsInt x → CachesFit (filter t xs) n → CachesFit (filter t (x ∷ xs)) (suc n)
one_more_kept t x xs n true e p h = rw e ((p, h.0), omega (arith, h.1))
one_more_kept t x xs n false e p h = rw e (h.0, omega (arith, h.1))

kept_fit : (t : ℤ → Bool) (xs : List ℤ) → AllByRecursion IsInt xs → CachesFit (filter t xs) (length xs)
kept_fit t [] h = (tt, omega arith)
kept_fit t (x ∷ xs) h = one_more_kept t x xs (length xs) (t x) refl h.0 (kept_fit t xs h.1)

mentions_fit : (xs : List ℤ) → AllByRecursion IsInt xs → CachesFit (first_mentions xs) (length xs)
mentions_fit [] h = (tt, omega arith)
mentions_fit (x ∷ xs) h =
    let rest = mentions_fit xs h.1 in
    let kept = kept_fit (λ y. not (int_eq x y)) (first_mentions xs) rest.0 in
    ((h.0, kept.0), omega (arith, kept.1, rest.1))

listings_fit : (pairs : List (ℤ × ℤ)) (xs : List ℤ) → FitPairs pairs → AllByRecursion IsInt xs → AllByRecursion (FitsFields listing) (map listing_fields (map (listing_with pairs) xs))
listings_fit pairs [] fit h = tt
listings_fit pairs (x ∷ xs) fit h = ((h.0, fit), listings_fit pairs xs fit h.1)

caches_fit : (caches : List ℤ) (pairs : List (ℤ × ℤ)) → FitsAsk caches → FitPairs pairs → (length (map listing_fields (served_caches caches pairs)) < 2 ^ 31) × AllByRecursion (FitsFields listing) (map listing_fields (served_caches caches pairs))
caches_fit caches pairs asked fit =
    let once = mentions_fit caches asked.1 in
    (omega (arith, asked.0, once.1, length-map (served_caches caches pairs) listing_fields, length-map (first_mentions caches) (listing_with pairs)), listings_fit pairs (first_mentions caches) fit once.0)

-- ---- the map

groups_fit : (nodes parts : ℕ) (caches : List ℤ) (pairs : List (ℤ × ℤ)) → nodes ≤ 65536 → parts ≤ 65536 → FitsAsk caches → FitPairs pairs →
    (length (map group_fields (served_groups nodes parts caches pairs)) < 2 ^ 31) × AllByRecursion (FitsFields group) (map group_fields (served_groups nodes parts caches pairs))
groups_fit nodes parts [] pairs few small asked fit = (omega arith, tt)
groups_fit nodes parts (c ∷ cs) pairs few small asked fit = (omega arith, ((caches_fit (c ∷ cs) pairs asked fit, all_nodes_fit nodes parts few small), tt))

groups_written : (nodes parts : ℕ) (caches : List ℤ) (pairs : List (ℤ × ℤ)) → AllByRecursion IsWritten (served_groups nodes parts caches pairs)
groups_written nodes parts [] pairs = tt
groups_written nodes parts (c ∷ cs) pairs = (λ h. absurd cc, tt)

pub served_map_fits : ServedMapFits
unfolding served_map
served_map_fits told nodes parts caches pairs few small version minor asked fit =
    record { fields = ((version, minor), groups_fit nodes parts caches pairs few small asked fit); groups = All-from_recursion IsWritten _ (groups_written nodes parts caches pairs) }
