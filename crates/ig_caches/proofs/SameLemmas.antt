-- Equality of values, and of their canonical encodings.
use Rattle.std.proofs.Common.{◌≡◌, Bool, IsTrue, Decides, refl, sym, ap}
use Rattle.std.proofs.lemmas.Bool.Decides.{same_from_decides, Decides-eqb}
use Rattle.std.proofs.lemmas.Slice.Eq.{slice_eq-Decides}
use Rattle.ig_value.specs.declared.value.Value.{Value}
use Rattle.ig_value.specs.Canon.{Canon, IsSendable}
use Rattle.ig_value.specs.Limits.{Fits}
use Rattle.ig_value.specs.Laws.{CanonTellsApart}
use Rattle.ig_caches.specs.Rows.{is_same}

-- the test holds exactly if the encodings are equal
pub is_same_exact : (v w : Value) → Decides (is_same v w) (Canon v ≡ Canon w)
is_same_exact v w = slice_eq-Decides Decides-eqb (Canon v) (Canon w) (is_same v w) refl

-- the equality of trees is that of their encodings
pub same_tree : CanonTellsApart → (r : Bool) (v wanted : Value) → Fits v → Fits wanted → IsSendable wanted
    → (IsTrue r → v ≡ wanted) × (v ≡ wanted → IsTrue r) → r ≡ is_same wanted v
same_tree apart r v wanted fits fits_wanted sendable exact =
    let same : Decides (is_same wanted v) (Canon wanted ≡ Canon v) = is_same_exact wanted v in
    same_from_decides r (is_same wanted v) exact (λ t. sym (apart wanted v fits_wanted fits sendable (same.0 t)), λ e. same.1 (ap Canon (sym e)))
