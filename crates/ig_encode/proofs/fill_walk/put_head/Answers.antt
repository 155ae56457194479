use Rattle.std.proofs.Common.{◌∷◌, map, refl, sym, arith}
use Rattle.ig_base.specs.Headers.{header_bytes}
use Rattle.ig_value.specs.Canon.{Canon}
use Rattle.ig_encode.specs.Spans.{canonical_header}
use Rattle.ig_encode.proofs.SpanLemmas.{header_len}
use Rattle.ig_encode.proofs.fill_walk.put_head.Goals as goal

pub returns-then-count : goal.returns-then-count
returns-then-count c =
    let o = c.args.object.now in
    let header = canonical_header o.bits o.type_id o.shape (map Canon c.args.fields.now) in
    sym (c.if-count.ensures.counted refl c.args.into.now (103 ∷ header_bytes header) (omega (arith, header_len header)))
