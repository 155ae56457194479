-- The limits of a value, by its code and its content.
use Rattle.std.proofs.Common.{◌≡◌, ℕ, zero, suc, ◌-◌, ◌<◌, ◌^◌, List, length, Bool, subst, sym, ap, ◌∙◌, arith, refl}
use Rattle.std.specs.Prelude.{IsTrue, ◌↔◌}
use Rattle.ig_value.specs.declared.code.Code.{Code}
use Rattle.ig_value.specs.declared.value.Value.{Value, out-Value}
use Rattle.ig_value.specs.Part.{Content}
use Rattle.ig_value.specs.Table.{content, parts, value_with}
use Rattle.std.specs.List.{AllByRecursion}
use Rattle.ig_value.specs.declared.object.Record.{Record}
use Rattle.ig_value.specs.Limits.{FitsPart, FitsTo, IsLimitedHead, IsLimitedObject}
use Rattle.ig_value.proofs.RowLemmas.{Row, built}

abbrev FitsRow : ℕ → Row → Type 0
FitsRow levels r = FitsPart (FitsTo levels) (content r.0) r.1

pub fits_row : (levels : ℕ) (v : Value) (c : Code) (x : Content Value (content c)) (b : Bool) → (levels ≡ 0 → ⊥) → v ≡ value_with c x → (IsTrue b ↔ FitsPart (FitsTo (levels - 1)) (content c) x) → IsTrue b ↔ FitsTo levels v
fits_row zero v c x b some is h = absurd (some refl)
fits_row (suc levels) v c x b some is h =
    let one : suc levels - 1 ≡ levels = omega arith in
    let below : IsTrue b ↔ FitsRow levels (c, x) = subst (λ (n : ℕ). IsTrue b ↔ FitsRow n (c, x)) one h in
    let row : parts (out-Value v) ≡ (c, x) = ap (λ (w : Value). parts (out-Value w)) is ∙ built c x in
    (λ yes. subst (FitsRow levels) (sym row) (below.0 yes), λ fits. below.1 (subst (FitsRow levels) row fits))

-- an array has nothing between its count and its items
pub nothing_before : {A B C : Type 0} → (A ↔ (B × C)) → A ↔ (B × (Unit {0} × C))
nothing_before h = (λ a. let p = h.0 a in (p.0, (tt, p.1)), λ p. h.1 (p.0, p.1.1))

pub typed_before : {A B C D : Type 0} → (A ↔ (B × C × D)) → A ↔ (B × (C × (Unit {0} × D)))
typed_before h = (λ a. let p = h.0 a in (p.0, (p.1, (tt, p.2))), λ p. h.1 (p.0, p.1.0, p.1.1.1))

pub kind_before : {A B C D : Type 0} → (A ↔ (B × C × D)) → A ↔ (B × (C × D))
kind_before h = (λ a. let p = h.0 a in (p.0, (p.1, p.2)), λ p. h.1 (p.0, p.1.0, p.1.1))

pub object_before : {A Head : Type 0} {X : Type 0} (F : X → Type 0) (o : Record X) (fields : List X) → fields ≡ o.fields → (Head ↔ ((length o.fields < 2 ^ 31) × IsLimitedHead o)) → (A ↔ (Head × (length fields < 2 ^ 31) × AllByRecursion F fields)) →
    A ↔ IsLimitedObject F o
object_before F o fields same head h = (
  λ a. let p = h.0 a in record { head = (head.0 p.0).1; few = subst (λ l. length l < 2 ^ 31) same p.1; fields = subst (AllByRecursion F) same p.2 },
  λ l. h.1 (head.1 (l.few, l.head), subst (λ l. length l < 2 ^ 31) (sym same) l.few, subst (AllByRecursion F) (sym same) l.fields),
)
