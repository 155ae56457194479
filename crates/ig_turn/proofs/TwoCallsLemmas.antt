-- Two seats of a turn that no other seat calls: the second is told of the first one's call, makes its own, and is joined.
use Rattle.std.proofs.Common.{◌≡◌, ◌≢◌, ◌⊎◌, ℕ, ◌<◌, ◌≤◌, Bool, cond, List, [], ◌∷◌, ◌++◌, length, refl, sym, ap, ◌∙◌, subst, inl, inr, ⊎_elim, arith, length-append, eq-eqb, ne_eqb}
use Rattle.std.specs.List.{All, AllByRecursion, Contains}
use Rattle.std.proofs.lemmas.List.Elements.{All-nil, All-cons}
use mathlib.Core.List.{append-nil}
use Rattle.ig_base.specs.declared.entry.Entry.{Entry}
use Rattle.ig_turn.specs.declared.view.Ended.{Ended}
use Rattle.ig_turn.specs.SeatState.{SeatState, TurnState}
use Rattle.ig_turn.specs.History.{entries_of, entry, ended, first_seat, with_born, newcomer, with_seen, joined_with, Adds, IsLonger, IsWhole, IsWholeSeat}
use Rattle.ig_turn.proofs.ListLemmas.{prefix_length, each_from_all, each_weaker, contains_none, contains_first, contains_later, contains_cases, entries_of-append}

module _ {A G : Type 0} where
  -- a list with no entry under either of the numbers that its entries have
  none_left : (m n : ℕ) (s : List (Entry A G)) → AllByRecursion (λ e. (e.seat ≡ m) ⊎ (e.seat ≡ n)) s → entries_of m s ≡ [] → entries_of n s ≡ [] → s ≡ []
  none_left m n [] h e f = refl
  none_left m n (x ∷ s) h e f = ⊎_elim
      (λ is. let here : entries_of m (x ∷ s) ≡ x ∷ entries_of m s = ap (λ (b : Bool). cond b (x ∷ entries_of m s) (entries_of m s)) (eq-eqb x.seat m is) in cc)
      (λ is. let here : entries_of n (x ∷ s) ≡ x ∷ entries_of n s = ap (λ (b : Bool). cond b (x ∷ entries_of n s) (entries_of n s)) (eq-eqb x.seat n is) in cc) h.0

  -- a list that ends with y, where x is all that it has under one number and y under the other
  two_entries : (m n : ℕ) (x y : Entry A G) (s : List (Entry A G)) → m ≢ n → y.seat ≡ n → AllByRecursion (λ e. (e.seat ≡ m) ⊎ (e.seat ≡ n)) (s ++ y ∷ [])
      → entries_of m (s ++ y ∷ []) ≡ x ∷ [] → entries_of n (s ++ y ∷ []) ≡ y ∷ [] → s ≡ x ∷ []
  two_entries m n x y s ne yn h e f = let front = each_front s (y ∷ []) h in let no_y : entries_of m (y ∷ []) ≡ [] = ap (λ (b : Bool). cond b (y ∷ []) []) (ne_eqb y.seat m (λ is. ne (sym is ∙ yn))) in
      let one_y : entries_of n (y ∷ []) ≡ y ∷ [] = ap (λ (b : Bool). cond b (y ∷ []) []) (eq-eqb y.seat n yn) in
      let em : entries_of m s ≡ x ∷ [] = sym (append-nil (entries_of m s)) ∙ (ap (λ (l : List (Entry A G)). entries_of m s ++ l) (sym no_y) ∙ (sym (entries_of-append m s (y ∷ [])) ∙ e)) in
      let whole : entries_of n s ++ y ∷ [] ≡ y ∷ [] = ap (λ (l : List (Entry A G)). entries_of n s ++ l) (sym one_y) ∙ (sym (entries_of-append n s (y ∷ [])) ∙ f) in
      let en : entries_of n s ≡ [] = nothing (entries_of n s) (omega (arith, length-append (entries_of n s) (y ∷ []), ap length whole)) in
      alone s front em en
    where
      each_front : (xs ys : List (Entry A G)) → AllByRecursion (λ e. (e.seat ≡ m) ⊎ (e.seat ≡ n)) (xs ++ ys) → AllByRecursion (λ e. (e.seat ≡ m) ⊎ (e.seat ≡ n)) xs
      each_front [] ys h = tt
      each_front (z ∷ zs) ys h = (h.0, each_front zs ys h.1)

      nothing : (l : List (Entry A G)) → length l ≡ 0 → l ≡ []
      nothing [] e = refl
      nothing (z ∷ zs) e = absurd (omega arith)

      alone : (l : List (Entry A G)) → AllByRecursion (λ e. (e.seat ≡ m) ⊎ (e.seat ≡ n)) l → entries_of m l ≡ x ∷ [] → entries_of n l ≡ [] → l ≡ x ∷ []
      alone [] h e f = cc
      alone (z ∷ zs) h e f = ⊎_elim
          (λ is. let here : entries_of m (z ∷ zs) ≡ z ∷ entries_of m zs = ap (λ (b : Bool). cond b (z ∷ entries_of m zs) (entries_of m zs)) (eq-eqb z.seat m is) in
          let there : entries_of n (z ∷ zs) ≡ entries_of n zs = ap (λ (b : Bool). cond b (z ∷ entries_of n zs) (entries_of n zs)) (ne_eqb z.seat n (λ is'. ne (sym is ∙ is'))) in
          let same = sym here ∙ e in let first : z ≡ x = cc in let rest_none : entries_of m zs ≡ [] = cc in
          (λ i. first i ∷ none_left m n zs h.1 rest_none (sym there ∙ f) i))
          (λ is. let here : entries_of n (z ∷ zs) ≡ z ∷ entries_of n zs = ap (λ (b : Bool). cond b (z ∷ entries_of n zs) (entries_of n zs)) (eq-eqb z.seat n is) in cc) h.0

module _ {X A G : Type 0} where
  -- the joined seat has seen both calls, and keeps the second under its seat's number
  pub two_calls : (t : TurnState X) (a a' b b' b'' c : SeatState X A G) (n : ℕ) (ask ask' : A) (got got' : G) → a ≡ with_born (first_seat t) n → b ≡ newcomer (first_seat t) n → 0 < n
      → Adds a a' ask got → b' ≡ with_seen b b'.seen → IsLonger b.seen a'.seen b'.seen → Adds b' b'' ask' got' → c ≡ joined_with a' b'' c.seen → IsLonger a'.seen b''.seen c.seen → IsWholeSeat c
      → (c.seen ≡ entry 0 ask got ∷ entry n ask' got' ∷ []) × (c.ended ≡ ended n (entry n ask' got' ∷ []) ∷ [])
  two_calls t a a' b b' b'' c n ask ask' got got' first second above put told meets get joined longer whole =
      let x : Entry A G = entry 0 ask got in let y : Entry A G = entry n ask' got' in
      let an : a.number ≡ 0 = ap (λ (s : SeatState X A G). s.number) first in
      let ao : a.own ≡ [] = ap (λ (s : SeatState X A G). s.own) first in
      let bn : b'.number ≡ n = ap (λ (s : SeatState X A G). s.number) told ∙ ap (λ (s : SeatState X A G). s.number) second in
      let bo : b'.own ≡ [] = ap (λ (s : SeatState X A G). s.own) told ∙ ap (λ (s : SeatState X A G). s.own) second in
      let be : b''.ended ≡ [] = ap (λ (s : SeatState X A G). s.ended) get.kept ∙ (ap (λ (s : SeatState X A G). s.ended) told ∙ ap (λ (s : SeatState X A G). s.ended) second) in
      let bb : b''.born ≡ [] = ap (λ (s : SeatState X A G). s.born) get.kept ∙ (ap (λ (s : SeatState X A G). s.born) told ∙ ap (λ (s : SeatState X A G). s.born) second) in
      let own : b''.own ≡ y ∷ [] = ap (λ (s : SeatState X A G). s.own) get.kept ∙ (λ i. bo i ++ entry (bn i) ask' got' ∷ []) in
      let number : b''.number ≡ n = ap (λ (s : SeatState X A G). s.number) get.kept ∙ bn in
      let cn : c.number ≡ 0 = ap (λ (s : SeatState X A G). s.number) joined ∙ (ap (λ (s : SeatState X A G). s.number) put.kept ∙ an) in
      let co : c.own ≡ x ∷ [] = ap (λ (s : SeatState X A G). s.own) joined ∙ (ap (λ (s : SeatState X A G). s.own) put.kept ∙ (λ i. ao i ++ entry (an i) ask got ∷ [])) in
      let ae : a'.ended ≡ [] = ap (λ (s : SeatState X A G). s.ended) put.kept ∙ ap (λ (s : SeatState X A G). s.ended) first in
      let ab : a'.born ≡ n ∷ [] = ap (λ (s : SeatState X A G). s.born) put.kept ∙ ap (λ (s : SeatState X A G). s.born) first in
      let ce : c.ended ≡ ended n (y ∷ []) ∷ [] = ap (λ (s : SeatState X A G). s.ended) joined ∙ (λ i. ae i ++ (be i ++ ended (number i) (own i) ∷ [])) in
      let cb : c.born ≡ n ∷ [] = ap (λ (s : SeatState X A G). s.born) joined ∙ (λ i. ab i ++ bb i) in
      let w : IsWhole 0 c.seen (x ∷ []) (ended n (y ∷ []) ∷ []) (n ∷ []) = subst (λ (z : ((ℕ × List (Entry A G)) × (List (Ended A G) × List ℕ))). IsWhole z.0.0 c.seen z.0.1 z.1.0 z.1.1) (λ i. ((cn i, co i), (ce i, cb i))) whole.0 in
      let known : All (λ e. Contains (0 ∷ n ∷ []) e.seat) c.seen = w.all_known (contains_first (n ∷ []) 0 0 refl, All-cons (Contains (0 ∷ n ∷ [])) n [] (contains_later (n ∷ []) n 0 (contains_first [] n n refl)) (All-nil (Contains (0 ∷ n ∷ [])))) in
      let numbers : AllByRecursion (λ e. (e.seat ≡ 0) ⊎ (e.seat ≡ n)) c.seen = each_weaker _ _ (λ e h. one_of e.seat h) c.seen (each_from_all _ c.seen known) in
      let under_n : entries_of n c.seen ≡ y ∷ [] = (each_from_all (λ e. entries_of e.number c.seen ≡ e.own) (ended n (y ∷ []) ∷ []) w.joined_are).0 in
      let front : List (Entry A G) = b'.seen ++ get.between in
      let last : c.seen ≡ front ++ y ∷ [] = ends longer in
      let one : front ≡ x ∷ [] = two_entries 0 n x y front (λ e. omega arith) refl (subst (AllByRecursion (λ e. (e.seat ≡ 0) ⊎ (e.seat ≡ n))) last numbers) (ap (entries_of 0) (sym last) ∙ w.own_is) (ap (entries_of n) (sym last) ∙ under_n) in
      (last ∙ ap (λ (l : List (Entry A G)). l ++ y ∷ []) one, ce)
    where
      one_of : (m : ℕ) → Contains (0 ∷ n ∷ []) m → (m ≡ 0) ⊎ (m ≡ n)
      one_of m c = ⊎_elim (λ e. inl (sym e)) (λ t. ⊎_elim (λ e. inr (sym e)) (λ none. absurd (contains_none m none)) (contains_cases [] m n t)) (contains_cases (n ∷ []) m 0 c)

      told_length : IsLonger b.seen a'.seen b'.seen → length a'.seen ≤ length b'.seen
      told_length (inl (e, p)) = omega (arith, prefix_length a'.seen b.seen p, ap length e)
      told_length (inr (e, p)) = omega (arith, ap length e)

      number_b : b'.number ≡ n
      number_b = ap (λ (s : SeatState X A G). s.number) told ∙ ap (λ (s : SeatState X A G). s.number) second

      seen_b : b''.seen ≡ (b'.seen ++ get.between) ++ entry n ask' got' ∷ []
      seen_b = get.seen ∙ ap (λ (m : ℕ). (b'.seen ++ get.between) ++ entry m ask' got' ∷ []) number_b

      ends : IsLonger a'.seen b''.seen c.seen → c.seen ≡ (b'.seen ++ get.between) ++ entry n ask' got' ∷ []
      ends (inr (e, p)) = e ∙ seen_b
      ends (inl (e, p)) = absurd (omega (arith, prefix_length b''.seen a'.seen p, told_length meets, ap length seen_b, length-append (b'.seen ++ get.between) (entry n ask' got' ∷ []), length-append b'.seen get.between))
