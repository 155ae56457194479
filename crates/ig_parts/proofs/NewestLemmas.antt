-- The newest of offered maps, and one more offer.
use Rattle.std.proofs.Common.{◌≡◌, Bool, true, false, cond, not, ◌&&◌, List, [], ◌∷◌, ◌++◌, Option, Some, None, refl, sym, ap, subst, ◌∙◌, arith, append_assoc, append-nil}
use Rattle.std.specs.Prelude.{find, fold}
use Rattle.std.specs.List.{list_all, AllByRecursion}
use Rattle.std.specs.Option.{option_map_or}
use Rattle.std.proofs.lemmas.Int.{ints}
use Rattle.std.proofs.Math.Bool.{and_assoc}
use Rattle.std.proofs.lemmas.Grind.{fold-append}
use Rattle.ig_base.specs.declared.Topology.{Topology}
use Rattle.ig_parts.specs.declared.map.PartMap.{PartMap}
use Rattle.ig_parts.specs.Newest.{is_newer, newer_map, Newest}

-- ---- the order of topologies

newer_asym : (a b : Topology) → is_newer a b ≡ true → is_newer b a ≡ false
newer_asym a b h = grind (arith, ints)

newer_self : (a : Topology) → is_newer a a ≡ false
newer_self a = grind (arith, ints)

newer_trans : (a b c : Topology) → is_newer a b ≡ true → is_newer b c ≡ true → is_newer a c ≡ true
newer_trans a b c h k = grind (arith, ints)

newer_above : (a b c : Topology) → is_newer a b ≡ true → is_newer c b ≡ false → is_newer a c ≡ true
newer_above a b c h k = grind (arith, ints)

-- ---- the first of the maps that no other exceeds

abbrev exceeds_not : PartMap → PartMap → Bool
exceeds_not x other = not (is_newer other.told x.told)

-- x is newer than each map before it, and none after it is newer than x
record IsFirst (maps : List PartMap) (x : PartMap) : Type 0 where
  pub front : List PartMap
  pub back : List PartMap
  pub whole : maps ≡ front ++ x ∷ back
  pub less : AllByRecursion (λ f. is_newer x.told f.told ≡ true) front
  pub no_more : AllByRecursion (λ b. is_newer b.told x.told ≡ false) back

not_of : (b : Bool) → b ≡ false → not b ≡ true
not_of b e = rw e refl

and_both : (a b : Bool) → a ≡ true → b ≡ true → (a && b) ≡ true
and_both a b e h = rw (e, h) refl

and_right : (a b : Bool) → b ≡ false → (a && b) ≡ false
and_right true b e = e
and_right false b e = refl

-- ---- a maximum is the newest

after_passes : (x : PartMap) (back : List PartMap) → AllByRecursion (λ b. is_newer b.told x.told ≡ false) back → list_all (exceeds_not x) back ≡ true
after_passes x [] h = refl
after_passes x (b ∷ back) h = and_both _ _ (not_of _ h.0) (after_passes x back h.1)

maximum_passes : (x : PartMap) (front back : List PartMap) → AllByRecursion (λ f. is_newer x.told f.told ≡ true) front → AllByRecursion (λ b. is_newer b.told x.told ≡ false) back → list_all (exceeds_not x) (front ++ x ∷ back) ≡ true
maximum_passes x [] back h k = and_both _ _ (not_of _ (newer_self x.told)) (after_passes x back k)
maximum_passes x (f ∷ front) back h k = and_both _ _ (not_of _ (newer_asym x.told f.told h.0)) (maximum_passes x front back h.1 k)

exceeded_fails : (f x : PartMap) (front back : List PartMap) → is_newer x.told f.told ≡ true → list_all (exceeds_not f) (front ++ x ∷ back) ≡ false
exceeded_fails f x [] back h = rw h refl
exceeded_fails f x (g ∷ front) back h = and_right _ _ (exceeded_fails f x front back h)

skipped : (test : PartMap → Bool) (front rest : List PartMap) → AllByRecursion (λ f. test f ≡ false) front → find test (front ++ rest) ≡ find test rest
skipped test [] rest h = refl
skipped test (f ∷ front) rest h = rw h.0 (skipped test front rest h.1)

all_fail : (x : PartMap) (maps front back some : List PartMap) → maps ≡ front ++ x ∷ back → AllByRecursion (λ f. is_newer x.told f.told ≡ true) some → AllByRecursion (λ f. list_all (exceeds_not f) maps ≡ false) some
all_fail x maps front back [] e h = tt
all_fail x maps front back (f ∷ some) e h = (ap (list_all (exceeds_not f)) e ∙ exceeded_fails f x front back h.0, all_fail x maps front back some e h.1)

first_is_newest : (maps : List PartMap) (x : PartMap) → IsFirst maps x → Newest maps ≡ Some x
unfolding Newest
first_is_newest maps x h =
    let test : PartMap → Bool = λ m. list_all (exceeds_not m) maps in
    let passes : test x ≡ true = ap (list_all (exceeds_not x)) h.whole ∙ maximum_passes x h.front h.back h.less h.no_more in
    let here : find test (x ∷ h.back) ≡ Some x = rw passes refl in
    ap (find test) h.whole ∙ skipped test h.front (x ∷ h.back) (all_fail x maps h.front h.back h.front h.whole h.less) ∙ here

-- ---- one more map

AllByRecursion-append : {X : Type 0} (P : X → Type 0) (xs ys : List X) → AllByRecursion P xs → AllByRecursion P ys → AllByRecursion P (xs ++ ys)
AllByRecursion-append P [] ys h k = k
AllByRecursion-append P (x ∷ xs) ys h k = (h.0, AllByRecursion-append P xs ys h.1 k)

below_front : (m x : PartMap) (front : List PartMap) → is_newer m.told x.told ≡ true → AllByRecursion (λ f. is_newer x.told f.told ≡ true) front → AllByRecursion (λ f. is_newer m.told f.told ≡ true) front
below_front m x [] e h = tt
below_front m x (f ∷ front) e h = (newer_trans m.told x.told f.told e h.0, below_front m x front e h.1)

below_back : (m x : PartMap) (back : List PartMap) → is_newer m.told x.told ≡ true → AllByRecursion (λ b. is_newer b.told x.told ≡ false) back → AllByRecursion (λ f. is_newer m.told f.told ≡ true) back
below_back m x [] e h = tt
below_back m x (b ∷ back) e h = (newer_above m.told x.told b.told e h.0, below_back m x back e h.1)

first_by : (maps : List PartMap) (x m : PartMap) (b : Bool) → is_newer m.told x.told ≡ b → IsFirst maps x → IsFirst (maps ++ m ∷ []) (cond b m x)
first_by maps x m true e h = record {
  front = maps;
  back = [];
  whole = refl;
  less = subst (AllByRecursion (λ f. is_newer m.told f.told ≡ true)) (sym h.whole) (AllByRecursion-append _ h.front (x ∷ h.back) (below_front m x h.front e h.less) (e, below_back m x h.back e h.no_more));
  no_more = tt;
}
first_by maps x m false e h = record {
  front = h.front;
  back = h.back ++ m ∷ [];
  whole = ap (λ (l : List PartMap). l ++ m ∷ []) h.whole ∙ append_assoc h.front (x ∷ h.back) (m ∷ []);
  less = h.less;
  no_more = AllByRecursion-append _ h.back (m ∷ []) h.no_more (e, tt);
}

first_more : (maps : List PartMap) (x m : PartMap) → IsFirst maps x → IsFirst (maps ++ m ∷ []) (newer_map x m)
first_more maps x m h = first_by maps x m (is_newer m.told x.told) refl h

first_folded : (seen : List PartMap) (x : PartMap) (rest : List PartMap) → IsFirst seen x → IsFirst (seen ++ rest) (fold newer_map x rest)
first_folded seen x [] h = subst (λ (l : List PartMap). IsFirst l x) (sym (append-nil seen)) h
first_folded seen x (m ∷ rest) h = subst (λ (l : List PartMap). IsFirst l (fold newer_map (newer_map x m) rest)) (append_assoc seen (m ∷ []) rest) (first_folded (seen ++ m ∷ []) (newer_map x m) rest (first_more seen x m h))

newest_folded : (x : PartMap) (rest : List PartMap) → Newest (x ∷ rest) ≡ Some (fold newer_map x rest)
newest_folded x rest = first_is_newest (x ∷ rest) (fold newer_map x rest) (first_folded (x ∷ []) x rest (record { front = []; back = []; whole = refl; less = tt; no_more = tt }))

-- without a map there is no newest one
newest_none : Newest [] ≡ None
unfolding Newest
newest_none = refl

pub newest_more : (maps : List PartMap) (m : PartMap) → Newest (maps ++ m ∷ []) ≡ Some (option_map_or (λ old. newer_map old m) (Newest maps) m)
newest_more [] m = newest_folded m [] ∙ ap (λ (o : Option PartMap). Some (option_map_or (λ old. newer_map old m) o m)) (sym newest_none)
newest_more (x ∷ maps) m =
    newest_folded x (maps ++ m ∷ []) ∙ ap (λ (y : PartMap). Some y) (fold-append newer_map x maps (m ∷ []))
    ∙ ap (λ (o : Option PartMap). Some (option_map_or (λ old. newer_map old m) o m)) (sym (newest_folded x maps))

-- ---- a map that is newer than all

all_newer_append : (m : PartMap) (xs ys : List PartMap) → list_all (λ o. is_newer m.told o.told) (xs ++ ys) ≡ (list_all (λ o. is_newer m.told o.told) xs && list_all (λ o. is_newer m.told o.told) ys)
all_newer_append m [] ys = refl
all_newer_append m (x ∷ xs) ys = ap (λ (b : Bool). is_newer m.told x.told && b) (all_newer_append m xs ys) ∙ sym (and_assoc (is_newer m.told x.told) (list_all (λ o. is_newer m.told o.told) xs) (list_all (λ o. is_newer m.told o.told) ys))

all_newer : (m : PartMap) (xs : List PartMap) → AllByRecursion (λ f. is_newer m.told f.told ≡ true) xs → list_all (λ o. is_newer m.told o.told) xs ≡ true
all_newer m [] h = refl
all_newer m (x ∷ xs) h = and_both _ _ h.0 (all_newer m xs h.1)

exceeding_by : (maps : List PartMap) (x m : PartMap) (b : Bool) → is_newer m.told x.told ≡ b → IsFirst maps x → list_all (λ o. is_newer m.told o.told) maps ≡ b
exceeding_by maps x m true e h =
    ap (list_all (λ o. is_newer m.told o.told)) h.whole
    ∙ all_newer m (h.front ++ x ∷ h.back) (AllByRecursion-append _ h.front (x ∷ h.back) (below_front m x h.front e h.less) (e, below_back m x h.back e h.no_more))
exceeding_by maps x m false e h =
    ap (list_all (λ o. is_newer m.told o.told)) h.whole ∙ all_newer_append m h.front (x ∷ h.back)
    ∙ and_right _ _ (ap (λ (b : Bool). b && list_all (λ o. is_newer m.told o.told) h.back) e)

pub newer_than_all : (maps : List PartMap) (m : PartMap) → list_all (λ o. is_newer m.told o.told) maps ≡ option_map_or (λ old. is_newer m.told old.told) (Newest maps) true
newer_than_all [] m = ap (λ (o : Option PartMap). option_map_or (λ old. is_newer m.told old.told) o true) (sym newest_none)
newer_than_all (x ∷ rest) m =
    let top = fold newer_map x rest in
    exceeding_by (x ∷ rest) top m (is_newer m.told top.told) refl (first_folded (x ∷ []) x rest (record { front = []; back = []; whole = refl; less = tt; no_more = tt }))
    ∙ ap (λ (o : Option PartMap). option_map_or (λ old. is_newer m.told old.told) o true) (sym (newest_folded x rest))
