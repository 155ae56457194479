-- Searches through the lists of a map.
use Rattle.std.proofs.Common.{◌≡◌, ℕ, zero, suc, ◌<◌, ◌≤◌, ℤ, pos, negsuc, Bool, true, false, cond, max, List, [], ◌∷◌, ◌++◌, length, take, get_or, Some, None, refl, sym, subst, arith}
use Rattle.std.specs.Prelude.{find, slice_get, flat_map, All, unsigned_abs}
use Rattle.std.specs.List.{AllByRecursion, list_any}
use Rattle.std.specs.Ordering.{int_eq}
use Rattle.std.proofs.lemmas.List.Elements.{recursion_from_All}
use Rattle.std.proofs.lemmas.Int.{ints}
use Rattle.std.proofs.lemmas.Option.{slice_get_read, slice_get_past}
use Rattle.ig_value.specs.declared.Shape.{Shape}
use Rattle.ig_value.specs.declared.Shape.TheVariants.{Named}
use Rattle.ig_value.specs.declared.Value.{Value}
use Rattle.ig_parts.specs.declared.map.NodeParts.{NodeParts}
use Rattle.ig_parts.specs.declared.map.Group.{Group}
use Rattle.ig_parts.specs.Partition.{partition_of}
use Rattle.ig_parts.specs.Owner.{place_of_id, field_of, lists_part, node_of_part, node_of_hash, IsPart, count_from, part_count, is_of, routes}

-- ---- searches

found_at : {X : Type 0} (P : X → Type 0) (p : X → Bool) (x : X) (xs : List X) (b : Bool) (y : X) → P x → (find p xs ≡ Some y → P y) → cond b (Some x) (find p xs) ≡ Some y → P y
found_at P p x xs true y h later e = let same : x ≡ y = cc in subst P same h
found_at P p x xs false y h later e = later e

found_by : {X : Type 0} (P : X → Type 0) (p : X → Bool) (xs : List X) (y : X) → AllByRecursion P xs → find p xs ≡ Some y → P y
found_by P p [] y h e = absurd cc
found_by P p (x ∷ xs) y h e = found_at P p x xs (p x) y h.0 (found_by P p xs y h.1) e

-- what is found is as each item is
pub find_keeps : {X : Type 0} (P : X → Type 0) (p : X → Bool) (xs : List X) (y : X) → find p xs ≡ Some y → All P xs → P y
find_keeps P p xs y e h = found_by P p xs y (recursion_from_All P xs h) e

pub routes_applicable : (cache : ℤ) (g : Group) → g.applicable ≡ true → routes cache g ≡ list_any (is_of cache) g.caches
routes_applicable cache g e = rw e refl

pub field_found : (shape : Shape) (ids : List ℤ) (fields : List Value) (id : ℤ) (at : ℕ) → shape ≡ Named ids → place_of_id ids id ≡ Some at → field_of shape fields id ≡ slice_get fields at
field_found shape ids fields id at e here = rw (e, here) refl

pub field_missing : (shape : Shape) (ids : List ℤ) (fields : List Value) (id : ℤ) → shape ≡ Named ids → place_of_id ids id ≡ None → field_of shape fields id ≡ None
field_missing shape ids fields id e none = rw (e, none) refl

pub ruleset places = (slice_get_read, slice_get_past)

pub ruleset named_fields = (field_found, field_missing)

-- ---- the number of partitions

pub part_size : (p : ℤ) → IsPart p → unsigned_abs p ≤ 65535
part_size (pos n) h = omega (arith, ints, h.1)
part_size (negsuc n) h = absurd (omega (arith, ints, h.0))

pub count_from-append : (xs ys : List ℤ) → count_from (xs ++ ys) ≡ max (count_from xs) (count_from ys)
count_from-append [] ys = omega arith
count_from-append (x ∷ xs) ys = omega (arith, count_from-append xs ys)

pub part_count_more : (nodes : List NodeParts) (i : ℕ) (d : NodeParts) → i < length nodes → part_count (take (suc i) nodes) ≡ max (part_count (take i nodes)) (count_from (get_or nodes i d).parts)
part_count_more [] i d lt = absurd (omega arith)
part_count_more (n ∷ ns) zero d lt = omega (arith, count_from-append n.parts [])
part_count_more (n ∷ ns) (suc i) d lt = omega (arith, part_count_more ns i d (omega arith), count_from-append n.parts (flat_map (λ m. m.parts) (take (suc i) ns)), count_from-append n.parts (flat_map (λ m. m.parts) (take i ns)))

pub count_from_more : (ps : List ℤ) (i : ℕ) (d : ℤ) → i < length ps → count_from (take (suc i) ps) ≡ max (count_from (take i ps)) (suc (unsigned_abs (get_or ps i d)))
count_from_more [] i d lt = absurd (omega arith)
count_from_more (p ∷ ps) zero d lt = omega arith
count_from_more (p ∷ ps) (suc i) d lt = omega (arith, count_from_more ps i d (omega arith))

-- ---- the node of a hash

not_listed : (part : ℕ) (ps : List ℤ) → count_from ps ≡ 0 → list_any (int_eq (pos part)) ps ≡ false
not_listed part [] e = refl
not_listed part (p ∷ ps) e = absurd (omega arith)

-- without partitions no node lists any
no_node : (nodes : List NodeParts) (part : ℕ) → part_count nodes ≡ 0 → node_of_part nodes part ≡ None
no_node [] part e = refl
no_node (n ∷ ns) part e =
    let both = count_from-append n.parts (flat_map (λ (m : NodeParts). m.parts) ns) in
    rw (not_listed part n.parts (omega arith)) (no_node ns part (omega arith))

pub node_nowhere : (nodes : List NodeParts) (hash : ℤ) → part_count nodes ≡ 0 → node_of_hash nodes hash ≡ None
unfolding node_of_hash
node_nowhere nodes hash e = no_node nodes _ e

pub node_found : (nodes : List NodeParts) (hash : ℤ) (count : ℕ) (n : NodeParts) → count ≡ part_count nodes → find (lists_part (partition_of hash count)) nodes ≡ Some n → node_of_hash nodes hash ≡ Some n.node
unfolding node_of_hash
node_found nodes hash count n e f = rw (sym e, f) refl

pub node_missing : (nodes : List NodeParts) (hash : ℤ) (count : ℕ) → count ≡ part_count nodes → find (lists_part (partition_of hash count)) nodes ≡ None → node_of_hash nodes hash ≡ None
unfolding node_of_hash
node_missing nodes hash count e f = rw (sym e, f) refl

pub ruleset nodes_by_hash = (node_nowhere, node_found, node_missing)
