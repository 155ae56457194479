-- The lists of the map that a server answers, as loops make them.
use Rattle.std.proofs.Common.{◌≡◌, ◌≢◌, ℕ, zero, suc, ◌+◌, ◌-◌, ◌*◌, ◌/◌, ◌%◌, ◌<◌, ◌≤◌, min, ℤ, pos, Bool, true, false, cond, not, ◌||◌, List, [], ◌∷◌, ◌++◌, map, add-zero, zero-add, suc-add, eqb, length, take, get_or, append-nil, refl, sym, ap, subst, ◌∙◌, arith, inl, inr}
use Rattle.std.specs.Prelude.{filter}
use Rattle.std.specs.List.{range_with_len, list_any}
use Rattle.std.specs.Ordering.{int_eq}
use Rattle.std.proofs.Math.Nat.{mod-add-div', mod-eq_of_lt, suc-mul}
use Rattle.std.proofs.lemmas.Nat.{mod-mul-add}
use Rattle.std.proofs.lemmas.Bool.{cases_lt, eq-eqb, ne_eqb}
use Rattle.std.proofs.lemmas.List.{take_more, map-append}
use Rattle.std.proofs.lemmas.List.FromFn.{map-range_with_len_more}
use Rattle.ig_parts.specs.declared.map.NodeParts.{NodeParts}
use Rattle.std.proofs.lemmas.List.Folds.{list_any-append}
use Rattle.std.proofs.lemmas.List.Elements.{filter-append}
use Rattle.ig_parts.specs.Partition.{below}
use Rattle.ig_parts.specs.ServedMap.{parts_on, served_node, nodes_below, first_mentions}

-- ---- the partitions of a node

range_append : (a m n : ℕ) → range_with_len a (m + n) ≡ range_with_len a m ++ range_with_len (a + m) n
range_append a zero n = rw (zero-add, add-zero) refl
range_append a (suc m) n =
    let rest : range_with_len (a + 1) (m + n) ≡ range_with_len (a + 1) m ++ range_with_len (a + suc m) n = subst (λ (b : ℕ). range_with_len (a + 1) (m + n) ≡ range_with_len (a + 1) m ++ range_with_len b n) (omega arith) (range_append (a + 1) m n) in
    rw suc-add (ap (λ (l : List ℕ). a ∷ l) rest)

-- a number less than n further has another remainder
other_remainder : (p n k j : ℕ) → p % n ≡ k → k < n → 0 < j → j < n → (p + j) % n ≢ k
other_remainder p n k j e lt some less =
    let whole : p % n + p / n * n ≡ p = mod-add-div' p n in
    elim (cases_lt (k + j) n) [
      | inl near ↦ λ same. let at : (p / n * n + (k + j)) % n ≡ k + j = mod-mul-add (p / n) n (k + j) near in
          let here : p / n * n + (k + j) ≡ p + j = omega arith in
          let there : k + j ≡ k = sym at ∙ ap (λ (m : ℕ). m % n) here ∙ same in omega arith
      | inr far ↦ λ same. let at : (suc (p / n) * n + (k + j - n)) % n ≡ k + j - n = mod-mul-add (suc (p / n)) n (k + j - n) (omega arith) in
          let more : suc (p / n) * n ≡ p / n * n + n = suc-mul (p / n) n in
          let here : suc (p / n) * n + (k + j - n) ≡ p + j = omega arith in
          let there : k + j - n ≡ k = sym at ∙ ap (λ (m : ℕ). m % n) here ∙ same in omega arith
    ]

none_between : (p n k j m : ℕ) → p % n ≡ k → k < n → 0 < j → j + m ≤ n → filter (λ q. eqb (q % n) k) (range_with_len (p + j) m) ≡ []
none_between p n k j zero e lt some less = refl
none_between p n k j (suc m) e lt some less =
    let here = ne_eqb ((p + j) % n) k (other_remainder p n k j e lt some (omega arith)) in
    let rest : filter (λ q. eqb (q % n) k) (range_with_len (p + j + 1) m) ≡ [] = subst (λ (b : ℕ). filter (λ q. eqb (q % n) k) (range_with_len b m) ≡ []) (omega arith) (none_between p n k (j + 1) m e lt (omega arith) (omega arith)) in
    rw here rest

parts_on_until : (n k p m : ℕ) → p % n ≡ k → k < n → m < n → parts_on n (p + suc m) k ≡ parts_on n p k ++ pos p ∷ []
unfolding parts_on
parts_on_until n k p m e lt less =
    let test : ℕ → Bool = λ q. eqb (q % n) k in
    let split : below (p + suc m) ≡ below p ++ p ∷ range_with_len (p + 1) m = range_append 0 p (suc m) ∙ ap (λ (b : ℕ). below p ++ b ∷ range_with_len (b + 1) m) (zero-add p) in
    let last : filter test (p ∷ range_with_len (p + 1) m) ≡ p ∷ [] = rw (eq-eqb (p % n) k e) (ap (λ (l : List ℕ). p ∷ l) (none_between p n k 1 m e lt (omega arith) (omega arith))) in
    ap (λ (l : List ℕ). map pos (filter test l)) split
    ∙ ap (map pos) (filter-append test (below p) (p ∷ range_with_len (p + 1) m) ∙ ap (λ (l : List ℕ). filter test (below p) ++ l) last)
    ∙ map-append pos (filter test (below p)) (p ∷ [])

-- the next partition of the node
pub parts_on_more : (n k p parts : ℕ) → p % n ≡ k → k < n → p < parts → parts_on n (min (p + n) parts) k ≡ parts_on n p k ++ pos p ∷ []
parts_on_more n k p parts e lt less =
    subst (λ (end : ℕ). parts_on n end k ≡ parts_on n p k ++ pos p ∷ []) (omega arith) (parts_on_until n k p (min (p + n) parts - p - 1) e lt (omega arith))

none_before : (n k a m : ℕ) → a + m ≤ k → k < n → filter (λ q. eqb (q % n) k) (range_with_len a m) ≡ []
none_before n k a zero le lt = refl
none_before n k a (suc m) le lt =
    let self : a % n ≡ a = mod-eq_of_lt (omega arith) in
    let here = ne_eqb (a % n) k (λ same. let no_way : a ≡ k = sym self ∙ same in omega arith) in
    rw here (none_before n k (a + 1) m (omega arith) lt)

-- the first one is the node's number
pub parts_on_none : (n k m : ℕ) → m ≤ k → k < n → parts_on n m k ≡ []
unfolding parts_on
parts_on_none n k m le lt = ap (map pos) (none_before n k 0 m (omega arith) lt)

pub parts_made : (n k p parts : ℕ) (z : ℤ) (old new : List ℤ) → new ≡ old ++ z ∷ [] → z ≡ pos p → old ≡ parts_on n (min p parts) k → p % n ≡ k → k < n → p < parts → new ≡ parts_on n (min (p + n) parts) k
parts_made n k p parts z old new e is before on lt less =
    let end : min p parts ≡ p = omega arith in
    e ∙ ap (λ (y : ℤ). old ++ y ∷ []) is ∙ ap (λ (l : List ℤ). l ++ pos p ∷ []) (before ∙ ap (λ (m : ℕ). parts_on n m k) end) ∙ sym (parts_on_more n k p parts on lt less)

-- ---- the nodes

pub nodes_none : (nodes parts : ℕ) → nodes_below nodes parts 0 ≡ []
unfolding nodes_below
nodes_none nodes parts = refl

pub nodes_more : (nodes parts k least : ℕ) (ps : List ℤ) (old new : List NodeParts) → new ≡ old ++ record { node = record { most = 0; least = least }; parts = ps } ∷ [] → least ≡ k + 1 → ps ≡ parts_on nodes parts k → old ≡ nodes_below nodes parts k →
    new ≡ nodes_below nodes parts (k + 1)
unfolding nodes_below
nodes_more nodes parts k least ps old new e id on before =
    let last : NodeParts = record { node = record { most = 0; least = least }; parts = ps } in
    let same : last ≡ served_node nodes parts k = rw (id, on) refl in
    e ∙ ap (λ (x : NodeParts). old ++ x ∷ []) same ∙ ap (λ (l : List NodeParts). l ++ served_node nodes parts k ∷ []) before
    ∙ sym (map-range_with_len_more (served_node nodes parts) 0 k k (zero-add k))

-- ---- first mentions

kept_once : (x y : ℤ) (a b : Bool) → int_eq x y ≡ a → filter (λ z. not (int_eq x z)) (cond b [] (y ∷ [])) ≡ cond (a || b) [] (y ∷ [])
kept_once x y true true e = refl
kept_once x y false true e = refl
kept_once x y true false e = rw e refl
kept_once x y false false e = rw e refl

-- whether the list has the number
abbrev pub mentions : List ℤ → ℤ → Bool
mentions xs y = list_any (λ x. int_eq x y) xs

mentions-append : (xs : List ℤ) (y : ℤ) → first_mentions (xs ++ y ∷ []) ≡ first_mentions xs ++ cond (mentions xs y) [] (y ∷ [])
mentions-append [] y = refl
mentions-append (x ∷ xs) y =
    let test : ℤ → Bool = λ z. not (int_eq x z) in
    let last = cond (mentions xs y) [] (y ∷ []) in
    ap (λ (l : List ℤ). x ∷ filter test l) (mentions-append xs y)
    ∙ ap (λ (l : List ℤ). x ∷ l) (filter-append test (first_mentions xs) last)
    ∙ ap (λ (l : List ℤ). x ∷ (filter test (first_mentions xs) ++ l)) (kept_once x y (int_eq x y) (mentions xs y) refl)

-- a number that was mentioned before changes nothing
pub mentioned_again : (xs : List ℤ) (i : ℕ) (d : ℤ) → i < length xs → mentions (take i xs) (get_or xs i d) ≡ true → first_mentions (take (i + 1) xs) ≡ first_mentions (take i xs)
mentioned_again xs i d lt e = rw (take_more xs i d lt, mentions-append (take i xs) (get_or xs i d), e) (append-nil (first_mentions (take i xs)))

-- another one is added
pub mentioned_first : (xs : List ℤ) (i : ℕ) (d : ℤ) → i < length xs → mentions (take i xs) (get_or xs i d) ≡ false → first_mentions (take (i + 1) xs) ≡ first_mentions (take i xs) ++ get_or xs i d ∷ []
mentioned_first xs i d lt e = rw (take_more xs i d lt, mentions-append (take i xs) (get_or xs i d), e) refl

or_last : (a b : Bool) → cond a true b ≡ (b || (a || false))
or_last true true = refl
or_last true false = refl
or_last false true = refl
or_last false false = refl

pub mentions_more : (xs : List ℤ) (i : ℕ) (d q : ℤ) → i < length xs → cond (int_eq (get_or xs i d) q) true (mentions (take i xs) q) ≡ mentions (take (i + 1) xs) q
mentions_more xs i d q lt =
    or_last (int_eq (get_or xs i d) q) (mentions (take i xs) q)
    ∙ sym (list_any-append (λ x. int_eq x q) (take i xs) (get_or xs i d ∷ []))
    ∙ ap (λ l. mentions l q) (sym (take_more xs i d lt))

pub not_there : (b : Bool) → true ≡ not b → b ≡ false
not_there true e = absurd cc
not_there false e = refl

pub there : (b : Bool) → false ≡ not b → b ≡ true
there true e = refl
there false e = absurd cc
