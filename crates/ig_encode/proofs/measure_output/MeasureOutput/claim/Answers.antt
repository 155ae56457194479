use Rattle.std.proofs.Common.{◌≡◌, [], List, ℕ, sym, ap, ◌∙◌, arith}
use Rattle.std.proofs.lemmas.List.{nil_from_length}
use Rattle.ig_encode.specs.declared.measure.Measure.{Measure}
use Rattle.ig_encode.specs.Splice.{splice_none}
use Rattle.ig_encode.specs.MeasureOutput.{measured_empty}
use Rattle.ig_encode.proofs.measure_output.MeasureOutput.claim.Goals as goal

pub returns-clause-claimed : goal.returns-clause-claimed
returns-clause-claimed c = λ into bytes room e.
    let none : bytes ≡ [] = nil_from_length bytes (omega (arith, e)) in
    let beside : List ℕ → Measure × List ℕ = λ l. (c.args.self.now, l) in
    rw none (measured_empty c.args.self.now into ∙ ap beside (sym (splice_none into 0)))
