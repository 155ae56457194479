use Rattle.std.proofs.Common.{refl, ap, ◌∙◌, nat_le}
use Rattle.ig_link.proofs.ScriptLemmas.{is_skipped-bytes}
use Rattle.ig_link.proofs.mem_link.is_skipped.Goals as goal

pub returns-in-Bytes : goal.returns-in-Bytes
returns-in-Bytes c = rw c.in-Bytes.is (ap (λ n. nat_le n c.args.offset) c.len.ensures ∙ is_skipped-bytes c.args.written_count c.args.waits c.args.offset c.in-Bytes.bytes _ refl)
