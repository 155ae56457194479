-- One more call of the tests' object.
use Rattle.std.proofs.Common.{◌≡◌, ℕ, ◌+◌, ℤ, List, [], ◌∷◌, ◌++◌, Option, Some, None, length, refl, sym, ap, ◌∙◌, subst, arith, length-append}
use Rattle.ig_turn.specs.Cells.{value_at, after_ask, after_pairs, RunsFrom, StandsFor}

runs_more : (n : ℕ) (es : List (ℤ × ℤ)) (ps : List ((ℤ × Option ℤ) × (ℕ × Option ℤ))) (ask : ℤ × Option ℤ) (m : ℕ) → m ≡ n + length ps → RunsFrom n es ps
    → RunsFrom n es (ps ++ (ask, (m, value_at (after_pairs es ps) ask.0)) ∷ [])
runs_more n es [] ask m e r = (ap (λ (z : ℕ). (z, value_at es ask.0)) (omega arith), tt)
runs_more n es (p ∷ ps) ask m e r = (r.0, runs_more (n + 1) (after_ask es p.0) ps ask m (omega arith) r.1)

after_more : (es : List (ℤ × ℤ)) (ps : List ((ℤ × Option ℤ) × (ℕ × Option ℤ))) (p : (ℤ × Option ℤ) × (ℕ × Option ℤ)) → after_pairs es (ps ++ p ∷ []) ≡ after_ask (after_pairs es ps) p.0
after_more es [] p = refl
after_more es (q ∷ ps) p = after_more (after_ask es q.0) ps p

-- one more call
pub stands_more : (before new : List (ℤ × ℤ)) (calls : ℕ) (ask : ℤ × Option ℤ) (old : Option ℤ) → old ≡ value_at before ask.0 → new ≡ after_ask before ask
    → (start : List (ℤ × ℤ)) (pairs : List ((ℤ × Option ℤ) × (ℕ × Option ℤ))) → StandsFor before calls start pairs → StandsFor new (calls + 1) start (pairs ++ (ask, (calls, old)) ∷ [])
stands_more before new calls ask old got changed start pairs s = let e : old ≡ value_at (after_pairs start pairs) ask.0 = got ∙ ap (λ (z : List (ℤ × ℤ)). value_at z ask.0) s.entries_are in record {
  runs = subst (λ (z : Option ℤ). RunsFrom 0 start (pairs ++ (ask, (calls, z)) ∷ [])) (sym e) (runs_more 0 start pairs ask calls (omega (arith, s.counted)) s.runs);
  entries_are = changed ∙ (ap (λ (z : List (ℤ × ℤ)). after_ask z ask) s.entries_are ∙ sym (after_more start pairs (ask, (calls, old))));
  counted = omega (arith, s.counted, length-append pairs ((ask, (calls, old)) ∷ []));
}

-- a call that puts nothing
pub stands_get : (before new : List (ℤ × ℤ)) (calls calls' : ℕ) (ask : ℤ × Option ℤ) (old : Option ℤ) → ask.1 ≡ None → old ≡ value_at before ask.0 → new ≡ before → calls' ≡ calls
    → (start : List (ℤ × ℤ)) (pairs : List ((ℤ × Option ℤ) × (ℕ × Option ℤ))) → StandsFor before calls start pairs → StandsFor new (calls' + 1) start (pairs ++ (ask, (calls, old)) ∷ [])
stands_get before new calls calls' ask old none got same counted start pairs s = subst (λ (z : ℕ). StandsFor new (z + 1) start (pairs ++ (ask, (calls, old)) ∷ [])) (sym counted)
    (stands_more before new calls ask old got (same ∙ ap (λ (o : Option ℤ). after_ask before (ask.0, o)) (sym none)) start pairs s)

-- a call that puts a value
pub stands_put : (before new : List (ℤ × ℤ)) (calls calls' : ℕ) (ask : ℤ × Option ℤ) (value : ℤ) (old : Option ℤ) → ask.1 ≡ Some value → old ≡ value_at before ask.0
    → new ≡ after_ask before (ask.0, Some value) → calls' ≡ calls
    → (start : List (ℤ × ℤ)) (pairs : List ((ℤ × Option ℤ) × (ℕ × Option ℤ))) → StandsFor before calls start pairs → StandsFor new (calls' + 1) start (pairs ++ (ask, (calls, old)) ∷ [])
stands_put before new calls calls' ask value old put got changed counted start pairs s = subst (λ (z : ℕ). StandsFor new (z + 1) start (pairs ++ (ask, (calls, old)) ∷ [])) (sym counted)
    (stands_more before new calls ask old got (changed ∙ ap (λ (o : Option ℤ). after_ask before (ask.0, o)) (sym put)) start pairs s)
