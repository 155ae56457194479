-- Measures of several pieces.
use Rattle.std.proofs.Common.{◌≡◌, ℕ, ◌+◌, ◌<◌, List, [], ◌++◌, length, take, get_or, sym, ap, ◌∙◌}
use Rattle.std.specs.List.{flat_map}
use Rattle.ig_encode.specs.declared.measure.Measure.{Measure}
use Rattle.ig_encode.specs.MeasureOutput.{measure_after, measured_after, measured_empty}
use Rattle.ig_encode.proofs.OutputLemmas.{flat_map_more}
use Rattle.ig_encode.proofs.SpanLemmas.{measure_two}

pub measure_none : (m : Measure) → m ≡ measure_after m []
measure_none m = sym (ap (λ (t : Measure × List ℕ). t.0) (measured_empty m []))

-- a piece that was put, and a piece that was measured after it
pub measured_both : (m a b : Measure) (into x p q : List ℕ) → (a, x) ≡ measured_after m into p → b ≡ measure_after a q → b ≡ measure_after m (p ++ q)
measured_both m a b into x p q first second = second ∙ ap (λ (t : Measure × List ℕ). measure_after t.0 q) first ∙ sym (measure_two m p q)

-- the first items, and one more
pub measured_more : {A : Type 0} (h : A → List ℕ) (m : Measure) (xs : List A) (i : ℕ) (x : A) (now next : Measure) → i < length xs → x ≡ get_or xs i x → now ≡ measure_after m (flat_map h (take i xs)) → next ≡ measure_after now (h x) →
    next ≡ measure_after m (flat_map h (take (i + 1) xs))
measured_more h m xs i x now next lt item before step =
    step ∙ ap (λ (n : Measure). measure_after n (h x)) before ∙ sym (measure_two m (flat_map h (take i xs)) (h x))
    ∙ ap (measure_after m) (ap (λ (y : _). flat_map h (take i xs) ++ h y) item ∙ sym (flat_map_more h xs i x lt))
