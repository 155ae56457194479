use Rattle.std.proofs.Common.{◌-◌, ap, ◌∙◌, arith}
use Rattle.ig_encode.specs.WindowOutput.{filled_before, beside}
use Rattle.ig_encode.proofs.window_output.WindowOutput.count.Goals as goal

pub returns-clause-counted : goal.returns-clause-counted
returns-clause-counted c = λ taken into bytes e.
    filled_before c.args.self.now into bytes (omega (arith, e)) ∙ ap (λ n. beside (c.args.self.now.skip - n) c.args.self.now.filled into) e
