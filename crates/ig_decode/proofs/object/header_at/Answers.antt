use Rattle.std.proofs.Common.{sym, ◌∙◌}
use Rattle.ig_decode.proofs.ObjectAtLemmas.{no_header}
use Rattle.ig_decode.proofs.object.header_at.Goals as goal

pub returns-in-None-clause-stopped : goal.returns-in-None-clause-stopped
returns-in-None-clause-stopped c = λ inner. no_header c.args.bytes.now (sym c.in-None.ensures.exact) inner
