-- The test of two names holds exactly where they are equal.
use Rattle.std.proofs.Common.{◌≡◌, List, ℕ, refl}
use Rattle.std.specs.Prelude.{Decides}
use Rattle.std.proofs.lemmas.Bool.Decides.{Decides-eqb}
use Rattle.std.proofs.lemmas.Slice.Eq.{slice_eq-Decides}
use Rattle.ig_types.specs.Join.{same_name}

pub same_name_exact : (m n : List ℕ) → Decides (same_name m n) (m ≡ n)
same_name_exact m n = slice_eq-Decides Decides-eqb m n _ refl
