-- One more call of a counter.
use Rattle.std.proofs.Common.{◌≡◌, ℕ, ◌+◌, List, [], ◌∷◌, ◌++◌, length, arith, length-append}
use Rattle.turn_bench.specs.Counts.{CountsFrom}

counts_more : (n m : ℕ) (ps : List (Unit {0} × ℕ)) → m ≡ n + length ps → CountsFrom n ps → CountsFrom n (ps ++ (tt, m) ∷ [])
counts_more n m [] e c = (omega arith, tt)
counts_more n m (p ∷ ps) e c = (c.0, counts_more (n + 1) m ps (omega arith) c.1)

pub counted_more : (count : ℕ) (ps : List (Unit {0} × ℕ)) → CountsFrom 0 ps × (count ≡ length ps) → CountsFrom 0 (ps ++ (tt, count) ∷ []) × (count + 1 ≡ length (ps ++ (tt, count) ∷ []))
counted_more count ps c = (counts_more 0 count ps (omega arith) c.0, omega (arith, length-append ps ((tt, count) ∷ [])))
