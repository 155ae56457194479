use Rattle.std.proofs.Common.{◌-◌, sym, ap, ◌∙◌, arith}
use Rattle.ig_encode.specs.WindowOutput.{filled_before, beside}
use Rattle.ig_encode.proofs.window_output.WindowOutput.pass.Goals as goal

pub returns-clause-passed : goal.returns-clause-passed
returns-clause-passed c = λ bytes e.
    ap (λ n. beside (c.args.self.now.skip - n) c.args.self.now.filled c.args.into.now) (sym e) ∙ sym (filled_before c.args.self.now c.args.into.now bytes (omega (arith, e, c.items_before-passed.ensures.before)))
