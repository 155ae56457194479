-- The owner of a key in the map that a server answers.
use Rattle.std.proofs.Common.{◌≡◌, ◌≢◌, ℕ, zero, suc, ◌+◌, ◌-◌, ◌%◌, ◌<◌, ◌≤◌, ℤ, pos, Bool, true, false, cond, not, ◌||◌, List, [], ◌∷◌, map, length, get_or, eqb, Some, refl, sym, ap, subst, ◌∙◌, arith, inl, inr}
use Rattle.std.specs.Prelude.{◌↔◌, filter, find, flat_map, Contains, All, IsTrue, option_map}
use Rattle.std.specs.List.{range_with_len, list_any, AllByRecursion}
use Rattle.std.specs.Ordering.{int_eq}
use Rattle.std.proofs.lemmas.Int.{ints}
use Rattle.std.proofs.lemmas.List.Elements.{All-from_recursion}
use Rattle.std.proofs.lemmas.Bool.{cases_lt, eq-eqb, eqb-true, ne_eqb}
use Rattle.std.proofs.lemmas.Bool.Decides.{Decides-int_eq}
use Rattle.ig_base.specs.declared.Topology.{Topology}
use Rattle.ig_value.specs.declared.Value.{Value}
use Rattle.ig_parts.specs.declared.map.NodeParts.{NodeParts}
use Rattle.ig_parts.specs.declared.map.Group.{Group}
use Rattle.ig_parts.specs.Partition.{partition_of}
use Rattle.ig_parts.specs.Owner.{count_from, part_count, lists_part, node_of_part, node_of_hash, is_of, routed_hash, IsPart, HaveParts, Owner}
use Rattle.ig_parts.specs.ServedMap.{node_id, parts_on, served_node, nodes_below, served_nodes, first_mentions, listing_with, served_groups, served_map}
use Rattle.ig_parts.proofs.PartitionLemmas.{partition_below}
use Rattle.ig_parts.proofs.OwnerLemmas.{count_from-append}
use Rattle.ig_parts.proofs.ServedLemmas.{mentions}

-- ---- small facts

or_true : (a b : Bool) → b ≡ true → (a || b) ≡ true
or_true true b e = refl
or_true false b e = e

or_false : (a b : Bool) → a ≡ false → b ≡ false → (a || b) ≡ false
or_false a b e f = rw (e, f) refl

same_int : (x y : ℤ) → int_eq x y ≡ true → x ≡ y
same_int x y e = (Decides-int_eq x y).0 e

equal_int : (x y : ℤ) → x ≡ y → int_eq x y ≡ true
equal_int x y e = (Decides-int_eq x y).1 e

other_by : (x y : ℤ) (b : Bool) → int_eq x y ≡ b → (x ≡ y → ⊥) → b ≡ false
other_by x y true e differ = absurd (differ (same_int x y e))
other_by x y false e differ = refl

other_int : (x y : ℤ) → (x ≡ y → ⊥) → int_eq x y ≡ false
other_int x y differ = other_by x y (int_eq x y) refl differ

not_both : (b : Bool) → IsTrue b → b ≡ false → ⊥
not_both b is e = cc

-- ---- the numbers of a range that pass a test

-- those numbers, as a node lists them
abbrev passed : (ℕ → Bool) → ℕ → ℕ → List ℤ
passed t a m = map pos (filter t (range_with_len a m))

abbrev or_passed : Bool → ℕ → List ℕ → List ℤ
or_passed b a ns = map pos (cond b (a ∷ ns) ns)

other_first : (p a : ℕ) (ns : List ℕ) (b : Bool) → (b ≡ true → p ≢ a) → list_any (int_eq (pos p)) (map pos ns) ≡ false → list_any (int_eq (pos p)) (or_passed b a ns) ≡ false
other_first p a ns true differ h = or_false _ _ (other_int (pos p) (pos a) (λ e. differ refl cc)) h
other_first p a ns false differ h = h

other_number : (t : ℕ → Bool) (p a m : ℕ) → t p ≡ false → list_any (int_eq (pos p)) (passed t a m) ≡ false
other_number t p a zero e = refl
other_number t p a (suc m) e = other_first p a (filter t (range_with_len (a + 1) m)) (t a) (λ yes same. let both : true ≡ false = sym yes ∙ ap t (sym same) ∙ e in cc) (other_number t p (a + 1) m e)

own_later : (p a : ℕ) (ns : List ℕ) (b : Bool) → list_any (int_eq (pos p)) (map pos ns) ≡ true → list_any (int_eq (pos p)) (or_passed b a ns) ≡ true
own_later p a ns true h = or_true _ _ h
own_later p a ns false h = h

own_first : (p a : ℕ) (ns : List ℕ) (b : Bool) → b ≡ true → p ≡ a → list_any (int_eq (pos p)) (or_passed b a ns) ≡ true
own_first p a ns true e same = rw (equal_int (pos p) (pos a) (ap pos same)) refl
own_first p a ns false e same = absurd cc

own_number : (t : ℕ → Bool) (p a m : ℕ) → a ≤ p → p < a + m → t p ≡ true → list_any (int_eq (pos p)) (passed t a m) ≡ true
own_number t p a zero le lt e = absurd (omega arith)
own_number t p a (suc m) le lt e =
    elim (cases_lt a p) [
      | inl later ↦ own_later p a (filter t (range_with_len (a + 1) m)) (t a) (own_number t p (a + 1) m (omega arith) (omega arith) e)
      | inr here ↦ let same : p ≡ a = omega arith in own_first p a (filter t (range_with_len (a + 1) m)) (t a) (ap t (sym same) ∙ e) same
    ]

count_first : (a end : ℕ) (ns : List ℕ) (b : Bool) → a < end → count_from (map pos ns) ≤ end → count_from (or_passed b a ns) ≤ end
count_first a end ns true lt h = omega arith
count_first a end ns false lt h = h

count_within : (t : ℕ → Bool) (a m : ℕ) → count_from (passed t a m) ≤ a + m
count_within t a zero = omega arith
count_within t a (suc m) = count_first a (a + suc m) (filter t (range_with_len (a + 1) m)) (t a) (omega arith) (omega (arith, count_within t (a + 1) m))

reach_later : (p a : ℕ) (ns : List ℕ) (b : Bool) → p < count_from (map pos ns) → p < count_from (or_passed b a ns)
reach_later p a ns true h = omega arith
reach_later p a ns false h = h

reach_first : (p a : ℕ) (ns : List ℕ) (b : Bool) → b ≡ true → p ≡ a → p < count_from (or_passed b a ns)
reach_first p a ns true e same = omega arith
reach_first p a ns false e same = absurd cc

count_reaches : (t : ℕ → Bool) (p a m : ℕ) → a ≤ p → p < a + m → t p ≡ true → p < count_from (passed t a m)
count_reaches t p a zero le lt e = absurd (omega arith)
count_reaches t p a (suc m) le lt e =
    elim (cases_lt a p) [
      | inl later ↦ reach_later p a (filter t (range_with_len (a + 1) m)) (t a) (count_reaches t p (a + 1) m (omega arith) (omega arith) e)
      | inr here ↦ let same : p ≡ a = omega arith in reach_first p a (filter t (range_with_len (a + 1) m)) (t a) (ap t (sym same) ∙ e) same
    ]

-- ---- the nodes

lists_own : (nodes parts p k : ℕ) → p < parts → p % nodes ≡ k → lists_part p (served_node nodes parts k) ≡ true
unfolding parts_on
lists_own nodes parts p k lt e = own_number (λ q. eqb (q % nodes) k) p 0 parts (omega arith) (omega arith) (eq-eqb (p % nodes) k e)

lists_other : (nodes parts p k : ℕ) → p % nodes ≢ k → lists_part p (served_node nodes parts k) ≡ false
unfolding parts_on
lists_other nodes parts p k differ = other_number (λ q. eqb (q % nodes) k) p 0 parts (ne_eqb (p % nodes) k differ)

number_by : (nodes parts p k : ℕ) (b : Bool) → eqb (p % nodes) k ≡ b → IsTrue (lists_part p (served_node nodes parts k)) → k ≡ p % nodes
number_by nodes parts p k true e is = sym (eqb-true (p % nodes) k e)
number_by nodes parts p k false e is = absurd (let other = lists_other nodes parts p k (λ same. let both : true ≡ false = sym (eq-eqb (p % nodes) k same) ∙ e in cc) in not_both _ is other)

pub one_node : (nodes parts p k : ℕ) → p < parts → IsTrue (lists_part p (served_node nodes parts k)) ↔ (k ≡ p % nodes)
one_node nodes parts p k lt = (number_by nodes parts p k (eqb (p % nodes) k) refl, λ e. lists_own nodes parts p k lt (sym e))

found_first : (f : ℕ → NodeParts) (test : NodeParts → Bool) (a k : ℕ) (ns : List ℕ) (b : Bool) → b ≡ true → a ≡ k → cond b (Some (f a)) (find test (map f ns)) ≡ Some (f k)
found_first f test a k ns true e same = ap (λ (j : ℕ). Some (f j)) same
found_first f test a k ns false e same = absurd cc

found_later : (f : ℕ → NodeParts) (test : NodeParts → Bool) (a k : ℕ) (ns : List ℕ) (b : Bool) → b ≡ false → find test (map f ns) ≡ Some (f k) → cond b (Some (f a)) (find test (map f ns)) ≡ Some (f k)
found_later f test a k ns true e h = absurd cc
found_later f test a k ns false e h = h

found_own : (f : ℕ → NodeParts) (test : NodeParts → Bool) (k a m : ℕ) → a ≤ k → k < a + m → test (f k) ≡ true → ((j : ℕ) → k ≢ j → test (f j) ≡ false) → find test (map f (range_with_len a m)) ≡ Some (f k)
found_own f test k a zero le lt own others = absurd (omega arith)
found_own f test k a (suc m) le lt own others =
    elim (cases_lt a k) [
      | inl later ↦ found_later f test a k (range_with_len (a + 1) m) (test (f a)) (others a (λ e. omega arith)) (found_own f test k (a + 1) m (omega arith) (omega arith) own others)
      | inr here ↦ let same : a ≡ k = omega arith in found_first f test a k (range_with_len (a + 1) m) (test (f a)) (ap (λ (j : ℕ). test (f j)) same ∙ own) same
    ]

served_within : (nodes parts a m : ℕ) → part_count (map (served_node nodes parts) (range_with_len a m)) ≤ parts
unfolding parts_on
served_within nodes parts a zero = omega arith
served_within nodes parts a (suc m) =
    omega (arith, count_from-append (parts_on nodes parts a) (flat_map (λ (n : NodeParts). n.parts) (map (served_node nodes parts) (range_with_len (a + 1) m))), count_within (λ q. eqb (q % nodes) a) 0 parts, served_within nodes parts (a + 1) m)

served_reaches : (nodes parts k a m : ℕ) → a ≤ k → k < a + m → count_from (parts_on nodes parts k) ≤ part_count (map (served_node nodes parts) (range_with_len a m))
served_reaches nodes parts k a zero le lt = absurd (omega arith)
served_reaches nodes parts k a (suc m) le lt =
    let both = count_from-append (parts_on nodes parts a) (flat_map (λ (n : NodeParts). n.parts) (map (served_node nodes parts) (range_with_len (a + 1) m))) in
    elim (cases_lt a k) [
      | inl later ↦ omega (arith, served_reaches nodes parts k (a + 1) m (omega arith) (omega arith))
      | inr here ↦ let same : a ≡ k = omega arith in omega (arith, ap (λ (j : ℕ). count_from (parts_on nodes parts j)) same)
    ]

last_reached : (nodes parts p : ℕ) → p < parts → p < count_from (parts_on nodes parts (p % nodes))
unfolding parts_on
last_reached nodes parts p lt = count_reaches (λ q. eqb (q % nodes) (p % nodes)) p 0 parts (omega arith) (omega arith) (eq-eqb (p % nodes) (p % nodes) refl)

served_count : (nodes parts : ℕ) → 0 < nodes → 0 < parts → part_count (served_nodes nodes parts) ≡ parts
unfolding nodes_below
served_count nodes parts some more =
    omega (arith, served_within nodes parts 0 nodes, served_reaches nodes parts ((parts - 1) % nodes) 0 nodes (omega arith) (omega arith), last_reached nodes parts (parts - 1) (omega arith))

served_part : (nodes parts p : ℕ) → 0 < nodes → p < parts → node_of_part (served_nodes nodes parts) p ≡ Some (node_id (p % nodes))
unfolding nodes_below
served_part nodes parts p some lt =
    ap (option_map (λ (n : NodeParts). n.node)) (found_own (served_node nodes parts) (lists_part p) (p % nodes) 0 nodes (omega arith) (omega arith) (lists_own nodes parts p (p % nodes) lt refl) (λ j differ. lists_other nodes parts p j differ))

-- ---- the caches

mentioned_at : (xs : List ℤ) (c : ℤ) (k : ℕ) → k < length xs → get_or xs k c ≡ c → mentions xs c ≡ true
mentioned_at [] c k lt e = absurd (omega arith)
mentioned_at (x ∷ xs) c zero lt e = rw (equal_int x c e) refl
mentioned_at (x ∷ xs) c (suc k) lt e = or_true (int_eq x c) (mentions xs c) (mentioned_at xs c k (omega arith) e)

kept_by : (x y c : ℤ) (ys : List ℤ) (b : Bool) → int_eq x y ≡ b → int_eq x c ≡ false → mentions ys c ≡ mentions (filter (λ z. not (int_eq x z)) ys) c →
    (int_eq y c || mentions ys c) ≡ mentions (cond (not b) (y ∷ filter (λ z. not (int_eq x z)) ys) (filter (λ z. not (int_eq x z)) ys)) c
kept_by x y c ys true e other h =
    let same : x ≡ y = same_int x y e in
    let there : int_eq y c ≡ false = ap (λ (z : ℤ). int_eq z c) (sym same) ∙ other in
    rw there h
kept_by x y c ys false e other h = ap (λ (b : Bool). int_eq y c || b) h

kept_others : (x c : ℤ) (ys : List ℤ) → int_eq x c ≡ false → mentions ys c ≡ mentions (filter (λ z. not (int_eq x z)) ys) c
kept_others x c [] other = refl
kept_others x c (y ∷ ys) other = kept_by x y c ys (int_eq x y) refl other (kept_others x c ys other)

once_by : (x c : ℤ) (xs : List ℤ) (b : Bool) → int_eq x c ≡ b → mentions (first_mentions xs) c ≡ mentions xs c → (b || mentions (filter (λ z. not (int_eq x z)) (first_mentions xs)) c) ≡ (b || mentions xs c)
once_by x c xs true e h = refl
once_by x c xs false e h = sym (kept_others x c (first_mentions xs) e) ∙ h

mentioned_once : (xs : List ℤ) (c : ℤ) → mentions (first_mentions xs) c ≡ mentions xs c
mentioned_once [] c = refl
mentioned_once (x ∷ xs) c = once_by x c xs (int_eq x c) refl (mentioned_once xs c)

listed_any : (pairs : List (ℤ × ℤ)) (xs : List ℤ) (c : ℤ) → list_any (is_of c) (map (listing_with pairs) xs) ≡ mentions xs c
listed_any pairs [] c = refl
listed_any pairs (x ∷ xs) c = ap (λ (b : Bool). int_eq x c || b) (listed_any pairs xs c)

listing_by : (pairs : List (ℤ × ℤ)) (x c : ℤ) (xs : List ℤ) (b : Bool) → int_eq x c ≡ b → (mentions xs c ≡ true → find (is_of c) (map (listing_with pairs) xs) ≡ Some (listing_with pairs c)) → (b || mentions xs c) ≡ true →
    cond b (Some (listing_with pairs x)) (find (is_of c) (map (listing_with pairs) xs)) ≡ Some (listing_with pairs c)
listing_by pairs x c xs true e later h = ap (λ (z : ℤ). Some (listing_with pairs z)) (same_int x c e)
listing_by pairs x c xs false e later h = later h

listing_found : (pairs : List (ℤ × ℤ)) (xs : List ℤ) (c : ℤ) → mentions xs c ≡ true → find (is_of c) (map (listing_with pairs) xs) ≡ Some (listing_with pairs c)
listing_found pairs [] c e = absurd cc
listing_found pairs (x ∷ xs) c e = listing_by pairs x c xs (int_eq x c) refl (listing_found pairs xs c) e

-- ---- the owner

owner_of_hash : (nodes parts : ℕ) (hash : ℤ) → 0 < nodes → 0 < parts → node_of_hash (served_nodes nodes parts) hash ≡ Some (node_id (partition_of hash parts % nodes))
unfolding node_of_hash
owner_of_hash nodes parts hash some more =
    ap (λ (n : ℕ). node_of_part (served_nodes nodes parts) (partition_of hash n)) (served_count nodes parts some more) ∙ served_part nodes parts (partition_of hash parts) some (partition_below hash parts more)

pub served_owner : (told : Topology) (nodes parts : ℕ) (caches : List ℤ) (pairs : List (ℤ × ℤ)) (cache : ℤ) (key : Value) (hash : ℤ) → 0 < nodes → 0 < parts → Contains caches cache →
    routed_hash pairs key ≡ Some hash → Owner (served_map told nodes parts caches pairs) cache key ≡ Some (node_id (partition_of hash parts % nodes))
unfolding Owner served_map
served_owner told nodes parts [] pairs cache key hash some more here e = absurd (omega (arith, here.1))
served_owner told nodes parts (c ∷ cs) pairs cache key hash some more here e =
    let mentioned = mentioned_once (c ∷ cs) cache ∙ mentioned_at (c ∷ cs) cache here.0 here.1 here.2 in
    let any = listed_any pairs (first_mentions (c ∷ cs)) cache ∙ mentioned in
    let listing = listing_found pairs (first_mentions (c ∷ cs)) cache mentioned in
    rw (any, listing, e) (owner_of_hash nodes parts hash some more)

-- ---- the partitions of the map

or_part : (a end : ℕ) (ns : List ℕ) (b : Bool) → a < end → end ≤ 65536 → AllByRecursion IsPart (map pos ns) → AllByRecursion IsPart (or_passed b a ns)
or_part a end ns true lt small h = ((omega (arith, ints), omega (arith, ints)), h)
or_part a end ns false lt small h = h

passed_parts : (t : ℕ → Bool) (a m : ℕ) → a + m ≤ 65536 → AllByRecursion IsPart (passed t a m)
passed_parts t a zero small = tt
passed_parts t a (suc m) small = or_part a (a + suc m) (filter t (range_with_len (a + 1) m)) (t a) (omega arith) small (passed_parts t (a + 1) m (omega arith))

node_parts : (nodes parts k : ℕ) → parts ≤ 65536 → All IsPart (parts_on nodes parts k)
unfolding parts_on
node_parts nodes parts k small = All-from_recursion IsPart _ (passed_parts (λ q. eqb (q % nodes) k) 0 parts (omega arith))

nodes_parts : (nodes parts a m : ℕ) → parts ≤ 65536 → AllByRecursion (λ (n : NodeParts). All IsPart n.parts) (map (served_node nodes parts) (range_with_len a m))
nodes_parts nodes parts a zero small = tt
nodes_parts nodes parts a (suc m) small = (node_parts nodes parts a small, nodes_parts nodes parts (a + 1) m small)

all_parts : (nodes parts : ℕ) → parts ≤ 65536 → HaveParts (served_nodes nodes parts)
unfolding nodes_below
all_parts nodes parts small = All-from_recursion (λ (n : NodeParts). All IsPart n.parts) _ (nodes_parts nodes parts 0 nodes small)

pub groups_parts : (nodes parts : ℕ) (caches : List ℤ) (pairs : List (ℤ × ℤ)) (groups : List Group) → groups ≡ served_groups nodes parts caches pairs → parts ≤ 65536 → All (λ g. HaveParts g.nodes) groups
groups_parts nodes parts [] pairs groups e small = subst (All (λ (g : Group). HaveParts g.nodes)) (sym e) (All-from_recursion (λ (g : Group). HaveParts g.nodes) [] tt)
groups_parts nodes parts (c ∷ cs) pairs groups e small =
    let each : AllByRecursion (λ (g : Group). HaveParts g.nodes) (served_groups nodes parts (c ∷ cs) pairs) = (all_parts nodes parts small, tt) in
    subst (All (λ (g : Group). HaveParts g.nodes)) (sym e) (All-from_recursion (λ (g : Group). HaveParts g.nodes) (served_groups nodes parts (c ∷ cs) pairs) each)
