-- The table of nodes by partition, as a loop fills it.
use Rattle.std.proofs.Common.{◌≡◌, ℕ, zero, suc, ◌+◌, ◌<◌, ◌≤◌, ℤ, pos, negsuc, Bool, true, false, cond, not, ◌||◌, List, [], ◌∷◌, ◌++◌, map, length, take, get_or, set, Option, Some, None, refl, sym, ap, ◌∙◌, arith, inl, inr, ◌⊎◌}
use Rattle.std.specs.Prelude.{find, position, slice_get, flat_map, All, nat_lt, option_and_then, option_map, unsigned_abs}
use Rattle.std.specs.Option.{option_or, is_some}
use Rattle.std.specs.List.{list_any, AllByRecursion, position_or_len}
use Rattle.std.specs.Ordering.{int_eq}
use Rattle.std.proofs.lemmas.Int.{ints}
use Rattle.std.proofs.lemmas.List.{take_more, ext_get_or, length-map, get_or-set_same, get_or-set_other, get_or_default}
use Rattle.std.proofs.Math.ListN.{get_or-map}
use Rattle.std.proofs.lemmas.List.FromFn.{length-map-range_with_len, get_or-map-range_with_len}
use Rattle.std.proofs.lemmas.List.Folds.{list_any-append, find-append, find_at}
use Rattle.std.proofs.lemmas.List.Elements.{recursion_from_All}
use Rattle.std.proofs.lemmas.Bool.{cases_eq, ltb-false}
use Rattle.std.proofs.lemmas.Bool.Decides.{Decides-int_eq, Decides-ltb}
use Rattle.std.proofs.lemmas.Option.{slice_get-get_or, slice_get_past}
use Rattle.ig_base.specs.declared.NodeId.{NodeId}
use Rattle.ig_value.specs.declared.Value.{Value}
use Rattle.ig_parts.specs.declared.map.NodeParts.{NodeParts}
use Rattle.ig_parts.specs.declared.map.Group.{Group}
use Rattle.ig_parts.specs.declared.map.PartMap.{PartMap}
use Rattle.ig_parts.specs.Partition.{partition_of, below}
use Rattle.ig_parts.specs.Owner.{count_from, part_count, lists_part, node_of_part, node_of_hash, IsPart, HaveParts, routes, owner_in, Owner}
use Rattle.ig_parts.specs.Routes.{tables_of}
use Rattle.ig_parts.specs.NodeTable.{node_table, owner_beside, stated, node_by_table}
use Rattle.ig_parts.proofs.OwnerLemmas.{count_from-append, part_size, node_nowhere}
use Rattle.ig_parts.proofs.PartitionLemmas.{partition_below}

-- ---- sizes

pub count_from_at : (ps : List ℤ) (j : ℕ) (d : ℤ) → j < length ps → unsigned_abs (get_or ps j d) < count_from ps
count_from_at [] j d lt = absurd (omega arith)
count_from_at (p ∷ ps) zero d lt = omega arith
count_from_at (p ∷ ps) (suc j) d lt = omega (arith, count_from_at ps j d (omega arith))

pub part_count_at : (nodes : List NodeParts) (i : ℕ) (d : NodeParts) → i < length nodes → count_from (get_or nodes i d).parts ≤ part_count nodes
part_count_at [] i d lt = absurd (omega arith)
part_count_at (n ∷ ns) zero d lt = omega (arith, count_from-append n.parts (flat_map (λ (m : NodeParts). m.parts) ns))
part_count_at (n ∷ ns) (suc i) d lt = omega (arith, count_from-append n.parts (flat_map (λ (m : NodeParts). m.parts) ns), part_count_at ns i d (omega arith))

pub part_is : (p : ℤ) (at : ℕ) → IsPart p → at ≡ unsigned_abs p → p ≡ pos at
part_is (pos n) at h e = ap pos (sym e)
part_is (negsuc n) at h e = absurd (omega (arith, ints, h.0))

count_small : (ps : List ℤ) → AllByRecursion IsPart ps → count_from ps ≤ 65536
count_small [] h = omega arith
count_small (p ∷ ps) h = omega (arith, part_size p h.0, count_small ps h.1)

parts_small : (nodes : List NodeParts) → AllByRecursion (λ n. All IsPart n.parts) nodes → part_count nodes ≤ 65536
parts_small [] h = omega arith
parts_small (n ∷ ns) h = omega (arith, count_from-append n.parts (flat_map (λ (m : NodeParts). m.parts) ns), count_small n.parts (recursion_from_All IsPart n.parts h.0), parts_small ns h.1)

pub part_count_small : (nodes : List NodeParts) → HaveParts nodes → part_count nodes ≤ 65536
part_count_small nodes h = parts_small nodes (recursion_from_All (λ (n : NodeParts). All IsPart n.parts) nodes h)

-- ---- one more partition of a node

listed_more : (ps : List ℤ) (j k : ℕ) (d : ℤ) → j < length ps → list_any (int_eq (pos k)) (take (j + 1) ps) ≡ (list_any (int_eq (pos k)) (take j ps) || (int_eq (pos k) (get_or ps j d) || false))
listed_more ps j k d lt = ap (list_any (int_eq (pos k))) (take_more ps j d lt) ∙ list_any-append (int_eq (pos k)) (take j ps) (get_or ps j d ∷ [])

or_none : (a b : Bool) → b ≡ false → (a || (b || false)) ≡ a
or_none true b e = refl
or_none false b e = rw e refl

or_here : (a b : Bool) → b ≡ true → (a || (b || false)) ≡ true
or_here true b e = refl
or_here false b e = rw e refl

stays_known : (old : Option NodeId) (seen : Bool) (n : NodeId) (b : Bool) → (owner_beside old seen n ≡ None → ⊥) → owner_beside old seen n ≡ owner_beside old (seen || b) n
stays_known (Some o) seen n b known = refl
stays_known None true n b known = refl
stays_known None false n b known = absurd (known refl)

becomes_known : (old : Option NodeId) (seen : Bool) (n : NodeId) → owner_beside old seen n ≡ None → Some n ≡ owner_beside old true n
becomes_known (Some o) seen n e = absurd cc
becomes_known None seen n e = refl

-- a place was empty and is written, or it was not
abbrev pub Looked : List (Option NodeId) → List (Option NodeId) → ℕ → NodeId → Type 0
Looked table new at n = ((get_or table at None ≡ None) × (new ≡ set table at (Some n))) ⊎ ((get_or table at None ≡ None → ⊥) × (new ≡ table))

other_int : (k : ℕ) (x : ℤ) (b : Bool) → int_eq (pos k) x ≡ b → (pos k ≡ x → ⊥) → b ≡ false
other_int k x true e differ = absurd (differ ((Decides-int_eq (pos k) x).0 e))
other_int k x false e differ = refl

-- the place of the partition k after one more partition of the node was looked at
pub table_step : (old : Option NodeId) (table new : List (Option NodeId)) (ps : List ℤ) (j k at : ℕ) (n : NodeId) (d : Option NodeId) (x : ℤ) → j < length ps → get_or ps j x ≡ x → x ≡ pos at → at < length table →
    ((e : Option NodeId) → get_or table k e ≡ owner_beside old (list_any (int_eq (pos k)) (take j ps)) n) → Looked table new at n →
    get_or new k d ≡ owner_beside old (list_any (int_eq (pos k)) (take (j + 1) ps)) n
table_step old table new ps j k at n d x lt here is within before step =
    let seen = list_any (int_eq (pos k)) (take j ps) in
    let this = int_eq (pos k) x in
    let more : list_any (int_eq (pos k)) (take (j + 1) ps) ≡ (seen || (this || false)) = listed_more ps j k x lt ∙ ap (λ (y : ℤ). seen || (int_eq (pos k) y || false)) here in
    elim (cases_eq k at) [
      | inl same ↦
          let hit : this ≡ true = (Decides-int_eq (pos k) x).1 (ap pos same ∙ sym is) in
          let value : owner_beside old seen n ≡ get_or table at None = sym (before None) ∙ ap (λ (i : ℕ). get_or table i None) same in
          elim step [
            | inl p ↦
                let written : get_or new k d ≡ Some n = ap (λ (l : List (Option NodeId)). get_or l k d) p.1 ∙ ap (λ (i : ℕ). get_or (set table at (Some n)) i d) same ∙ get_or-set_same table at (Some n) d within in
                written ∙ becomes_known old seen n (value ∙ p.0) ∙ ap (λ (b : Bool). owner_beside old b n) (sym (more ∙ or_here seen this hit))
            | inr p ↦
                ap (λ (l : List (Option NodeId)). get_or l k d) p.1 ∙ before d ∙ stays_known old seen n (this || false) (λ e. p.0 (sym value ∙ e)) ∙ ap (λ (b : Bool). owner_beside old b n) (sym more)
          ]
      | inr other ↦
          let miss : this ≡ false = other_int k x this refl (λ e. let both : pos k ≡ pos at = e ∙ is in other cc) in
          let kept : get_or new k d ≡ get_or table k d = elim step [
            | inl p ↦ ap (λ (l : List (Option NodeId)). get_or l k d) p.1 ∙ get_or-set_other table at k (Some n) d other
            | inr p ↦ ap (λ (l : List (Option NodeId)). get_or l k d) p.1
          ] in
          kept ∙ before d ∙ ap (λ (b : Bool). owner_beside old b n) (sym (more ∙ or_none seen this miss))
    ]

is_none_of : (o : Option NodeId) → is_some o ≡ false → o ≡ None
is_none_of None e = refl
is_none_of (Some n) e = absurd cc

is_some_of : (o : Option NodeId) → is_some o ≡ true → o ≡ None → ⊥
is_some_of None e same = cc
is_some_of (Some n) e same = cc

pub was_empty : (table new : List (Option NodeId)) (at : ℕ) (n : NodeId) (none : Bool) → is_some (get_or table at None) ≡ not none → none ≡ true → new ≡ set table at (Some n) →
    Looked table new at n
was_empty table new at n none e is w = inl (is_none_of (get_or table at None) (e ∙ ap not is), w)

pub was_known : (table new : List (Option NodeId)) (at : ℕ) (n : NodeId) (none : Bool) → is_some (get_or table at None) ≡ not none → none ≡ false → new ≡ table →
    Looked table new at n
was_known table new at n none e is w = inr (is_some_of (get_or table at None) (e ∙ ap not is), w)

-- ---- one more node

found_or : (k : ℕ) (found : Option NodeParts) (n : NodeParts) (b : Bool) → lists_part k n ≡ b → option_map (λ m. m.node) (option_or found (cond b (Some n) None)) ≡ owner_beside (option_map (λ m. m.node) found) b n.node
found_or k (Some m) n b e = refl
found_or k None n true e = refl
found_or k None n false e = refl

pub node_more : (nodes : List NodeParts) (i k : ℕ) (n : NodeParts) → i < length nodes → get_or nodes i n ≡ n → node_of_part (take (i + 1) nodes) k ≡ owner_beside (node_of_part (take i nodes) k) (lists_part k n) n.node
node_more nodes i k n lt here =
    let whole : take (i + 1) nodes ≡ take i nodes ++ n ∷ [] = take_more nodes i n lt ∙ ap (λ (m : NodeParts). take i nodes ++ m ∷ []) here in
    ap (λ l. node_of_part l k) whole ∙ ap (option_map (λ (m : NodeParts). m.node)) (find-append (lists_part k) (take i nodes) (n ∷ [])) ∙ found_or k (find (lists_part k) (take i nodes)) n (lists_part k n) refl

pub table_whole : (nodes : List NodeParts) (table : List (Option NodeId)) → length table ≡ part_count nodes → ((k : ℕ) (d : Option NodeId) → k < part_count nodes → get_or table k d ≡ node_of_part nodes k) → table ≡ node_table nodes
unfolding node_table
table_whole nodes table size each =
    ext_get_or None table (map (node_of_part nodes) (below (part_count nodes))) (size ∙ sym (length-map-range_with_len (node_of_part nodes) 0 (part_count nodes)))
    (λ k lt. let within : k < part_count nodes = omega arith in each k None within ∙ sym (get_or-map-range_with_len (node_of_part nodes) 0 (part_count nodes) k k None within (omega arith)))

-- ---- the node of a hash

pub table_size : (nodes : List NodeParts) → length (node_table nodes) ≡ part_count nodes
unfolding node_table
table_size nodes = length-map-range_with_len (node_of_part nodes) 0 (part_count nodes)

looked_up : (nodes : List NodeParts) (p : ℕ) → p < part_count nodes → stated (slice_get (node_table nodes) p) ≡ node_of_part nodes p
unfolding node_table
looked_up nodes p lt =
    ap stated (slice_get-get_or (node_table nodes) p None (omega (arith, table_size nodes)) ∙ ap Some (get_or-map-range_with_len (node_of_part nodes) 0 (part_count nodes) p p None lt (omega arith)))

empty_table : (nodes : List NodeParts) (p : ℕ) → part_count nodes ≡ 0 → stated (slice_get (node_table nodes) p) ≡ None
empty_table nodes p e = ap stated (slice_get_past (node_table nodes) p (omega (arith, table_size nodes)))

by_some : (nodes : List NodeParts) (hash : ℤ) → 0 < part_count nodes → stated (slice_get (node_table nodes) (partition_of hash (length (node_table nodes)))) ≡ node_of_hash nodes hash
unfolding node_of_hash
by_some nodes hash some =
    ap (λ (n : ℕ). stated (slice_get (node_table nodes) (partition_of hash n))) (table_size nodes) ∙ looked_up nodes (partition_of hash (part_count nodes)) (partition_below hash (part_count nodes) some)

by_count : (nodes : List NodeParts) (hash : ℤ) (count : ℕ) → part_count nodes ≡ count → node_by_table (node_table nodes) hash ≡ node_of_hash nodes hash
unfolding node_by_table
by_count nodes hash zero e = empty_table nodes (partition_of hash (length (node_table nodes))) e ∙ sym (node_nowhere nodes hash e)
by_count nodes hash (suc count) e = by_some nodes hash (omega arith)

-- the table of a group's nodes gives the node of a hash
pub node_by_table_is : (nodes : List NodeParts) (hash : ℤ) → node_by_table (node_table nodes) hash ≡ node_of_hash nodes hash
node_by_table_is nodes hash = by_count nodes hash (part_count nodes) refl

pub table_small : (nodes : List NodeParts) (table : List (Option NodeId)) → table ≡ node_table nodes → HaveParts nodes → length table ≤ 65536
table_small nodes table e h = omega (arith, ap length e, table_size nodes, part_count_small nodes h)

pub ruleset by_table = (node_by_table_is, table_small)

-- ---- the group of a cache

place_cases : {X : Type 0} (p : X → Bool) (xs : List X) (d : X) (b : Bool) (at : ℕ) → nat_lt (position_or_len p xs) (length xs) ≡ b → cond b (Some (position_or_len p xs)) None ≡ Some at → (find p xs ≡ Some (get_or xs at d)) × (at < length xs)
place_cases p xs d true at e h =
    let same : position_or_len p xs ≡ at = cc in
    let within : position_or_len p xs < length xs = (Decides-ltb (position_or_len p xs) (length xs)).0 e in
    (find_at p xs ∙ ap (slice_get xs) same ∙ slice_get-get_or xs at d (omega arith), omega arith)
place_cases p xs d false at e h = absurd cc

pub place_found : {X : Type 0} (p : X → Bool) (xs : List X) (d : X) (at : ℕ) → position p xs ≡ Some at → (find p xs ≡ Some (get_or xs at d)) × (at < length xs)
place_found p xs d at h = place_cases p xs d (nat_lt (position_or_len p xs) (length xs)) at refl h

nowhere_cases : {X : Type 0} (p : X → Bool) (xs : List X) (b : Bool) → nat_lt (position_or_len p xs) (length xs) ≡ b → cond b (Some (position_or_len p xs)) None ≡ None → find p xs ≡ None
nowhere_cases p xs true e h = absurd cc
nowhere_cases p xs false e h = find_at p xs ∙ slice_get_past xs (position_or_len p xs) (ltb-false (position_or_len p xs) (length xs) e)

pub place_nowhere : {X : Type 0} (p : X → Bool) (xs : List X) → position p xs ≡ None → find p xs ≡ None
place_nowhere p xs h = nowhere_cases p xs (nat_lt (position_or_len p xs) (length xs)) refl h

pub owner_nowhere : (m : PartMap) (cache : ℤ) (key : Value) → position (routes cache) m.groups ≡ None → Owner m cache key ≡ None
unfolding Owner
owner_nowhere m cache key h = ap (option_and_then (λ g. owner_in g cache key)) (place_nowhere (routes cache) m.groups h)

pub owner_there : (m : PartMap) (cache : ℤ) (key : Value) (at : ℕ) (g : Group) → position (routes cache) m.groups ≡ Some at → get_or m.groups at g ≡ g → Owner m cache key ≡ owner_in g cache key
unfolding Owner
owner_there m cache key at g h here = ap (option_and_then (λ x. owner_in x cache key)) ((place_found (routes cache) m.groups g at h).0 ∙ ap (λ (x : Group). Some x) here)

pub table_there : (groups : List Group) (tables : List (List (Option NodeId))) (at : ℕ) (g : Group) (t : List (Option NodeId)) → tables ≡ tables_of groups → at < length groups → get_or groups at g ≡ g → get_or tables at t ≡ t → t ≡ node_table g.nodes
table_there groups tables at g t e lt here there =
    let read : get_or (map (λ (x : Group). node_table x.nodes) groups) at t ≡ node_table g.nodes = get_or_default (map (λ (x : Group). node_table x.nodes) groups) at t (node_table g.nodes) (omega (arith, length-map groups (λ (x : Group). node_table x.nodes)))
    ∙ get_or-map (λ (x : Group). node_table x.nodes) groups at g ∙ ap (λ (x : Group). node_table x.nodes) here in
    sym there ∙ ap (λ (l : List (List (Option NodeId))). get_or l at t) e ∙ read
