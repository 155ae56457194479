use Rattle.std.proofs.Common.{◌∙◌}
use Rattle.ig_encode.proofs.SpanLemmas.{measured_object}
use Rattle.ig_encode.proofs.object.put_measured.Goals as goal

pub returns : goal.returns
returns c =
    measured_object c.args.out.now c.measure_header.new.out c.absorb.new.self c.absorb-2.new.self c.args.span.now c.args.object.now.bits c.args.object.now.type_id c.args.object.now.shape c.args.object.now.fields
    c.requires c.measure_header.ensures c.absorb.ensures (λ t e. c.absorb-2.ensures t (c.footer_of_span.ensures ∙ e))
