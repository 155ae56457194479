use Rattle.std.proofs.Common.{◌≡◌, [], sym, arith}
use Rattle.std.proofs.lemmas.List.{nil_from_length}
use Rattle.ig_encode.specs.MeasureOutput.{measured_empty}
use Rattle.ig_encode.proofs.measure_output.MeasureOutput.pass.Goals as goal

pub returns-in-Some-clause-passed : goal.returns-in-Some-clause-passed
returns-in-Some-clause-passed c = λ bytes e.
    let none : bytes ≡ [] = nil_from_length bytes (omega (arith, e)) in
    rw none (sym (measured_empty c.args.self.now c.args._into.now))
