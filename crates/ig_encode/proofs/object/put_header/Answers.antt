use Rattle.std.proofs.Common.{ap, ◌∙◌, rules}
use Rattle.ig_base.specs.Numbers.{LE}
use Rattle.ig_encode.proofs.SpanLemmas.{header_list, passed_on}
use Rattle.ig_encode.proofs.object.put_header.Goals as goal

pub returns : goal.returns
unfolding LE
returns g c =
    c.put.ensures ∙ ap (g.S.Output.after c.args.out.now c.args.into.now) (header_list c.args.header.now c.byte-code.result c.to_le_bytes.result c.to_le_bytes-2.result c.to_le_bytes-3.result c.to_le_bytes-4.result c.to_le_bytes-5.result c.to_le_bytes-6.result
    c.byte-code.ensures c.to_le_bytes.ensures (passed_on c.to_le_bytes-2.result c.args.header.now.type_id (search rules) c.to_le_bytes-2.ensures) (passed_on c.to_le_bytes-3.result c.args.header.now.hash (search rules) c.to_le_bytes-3.ensures)
    (passed_on c.to_le_bytes-4.result c.args.header.now.length (search rules) c.to_le_bytes-4.ensures) (passed_on c.to_le_bytes-5.result c.args.header.now.schema (search rules) c.to_le_bytes-5.ensures) (passed_on c.to_le_bytes-6.result c.args.header.now.schema_at (search rules) c.to_le_bytes-6.ensures))
