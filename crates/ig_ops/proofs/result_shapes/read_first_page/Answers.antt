use Rattle.std.proofs.Common.{rules}
use Rattle.std.specs.Prelude.{Some}
use Rattle.ig_ops.specs.Results.{page_of}
use Rattle.ig_ops.proofs.result_shapes.read_first_page.Goals as goal

pub returns : goal.returns
returns c = c.read_shown.ensures (λ x. page_of (Some x.0) x.1.0 x.1.1) (λ x y p. search rules)
