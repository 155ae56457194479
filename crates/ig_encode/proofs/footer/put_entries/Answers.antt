use Rattle.std.proofs.Common.{rules, List, ◌^◌, ◌<◌, length, take, ap, ◌∙◌, arith}
use Rattle.std.specs.List.{flat_map}
use Rattle.std.proofs.lemmas.List.{take_all}
use Rattle.ig_value.specs.declared.value.Value.{Value}
use Rattle.ig_value.specs.Canon.{Canon}
use Rattle.ig_encode.specs.declared.measure.Measure.{Measure}
use Rattle.ig_encode.specs.MeasureOutput.{counting_start}
use Rattle.ig_encode.specs.Spans.{type_of, field_footer}
use Rattle.ig_encode.proofs.MeasureLemmas.{measured_more}
use Rattle.ig_encode.proofs.ExtentLemmas.{counted_from}
use Rattle.ig_encode.proofs.SpanLemmas.{footer_full, footer_next}
use Rattle.ig_encode.proofs.footer.put_entries.Goals as goal

pub loop-index-init : goal.loop-index-init
loop-index-init g c = record {
  put = λ start from h. h;
  counted = counted_from c.counting-before.result _ (flat_map Canon (take c.args.first.index c.args.fields.now)) c.counting-before.ensures (omega (arith, c.requires.before)) (let range : c.args.first.before < 2 ^ 64 = search rules in omega (arith, range));
}

pub returns-then-is_full : goal.returns-then-is_full
returns-then-is_full g c = λ start from h.
    footer_full g.S.Output.after g.met.S.Output.longer (type_of c.args.width) c.args.shape.now start from c.args.fields.now c.loop-index.index (c.loop-index.out, c.loop-index.into) (c.loop-index.invariant.put start from h) (c.is_full.ensures c.if-is_full.true)

pub loop-index-preserved : goal.loop-index-preserved
loop-index-preserved g c = record {
  put = λ start from h. footer_next g.S.Output.after g.met.S.Output.longer c.args.width c.args.shape.now start from c.args.fields.now c.loop-index.index c.index-fields-index.result c.offset_after-offset.result (c.loop-index.out, c.loop-index.into) (c.put_entry.new.out, c.put_entry.new.into)
      c.loop-index-test.true c.index-fields-index.is (c.loop-index.invariant.put start from h) (c.offset_after-offset.ensures (length (flat_map Canon (take c.loop-index.index c.args.fields.now))) (ap (λ (m : Measure). m.length) c.loop-index.invariant.counted)) c.put_entry.ensures;
  counted = measured_more Canon counting_start c.args.fields.now c.loop-index.index c.index-fields-index.result c.loop-index.before c.measure_value.new.out c.loop-index-test.true c.index-fields-index.is c.loop-index.invariant.counted c.measure_value.ensures;
}

pub returns : goal.returns
returns g c = λ start from h.
    c.loop-index.invariant.put start from h ∙ ap (λ (l : List Value). g.S.Output.after start from (field_footer (type_of c.args.width) c.args.shape.now l)) (take_all c.loop-index.index c.args.fields.now (omega (arith, c.loop-index-test.false)))
