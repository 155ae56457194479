use Rattle.std.proofs.Common.{◌≡◌, [], sym, ap, ◌∙◌, arith}
use Rattle.std.proofs.lemmas.List.{nil_from_length}
use Rattle.ig_encode.specs.Splice.{splice_none}
use Rattle.ig_encode.specs.WindowOutput.{filled_empty, beside}
use Rattle.ig_encode.proofs.window_output.WindowOutput.claim.Goals as goal

pub returns-then-self-gt0-clause-claimed : goal.returns-then-self-gt0-clause-claimed
returns-then-self-gt0-clause-claimed c = λ into bytes room e.
    let none : bytes ≡ [] = nil_from_length bytes (omega (arith, e)) in
    rw none (filled_empty c.args.self.now into ∙ ap (beside c.args.self.now.skip c.args.self.now.filled) (sym (splice_none into 0)))
