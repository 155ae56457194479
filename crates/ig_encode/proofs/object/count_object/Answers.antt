use Rattle.std.proofs.Common.{length, ap}
use Rattle.std.specs.List.{flat_map}
use Rattle.ig_value.specs.Canon.{Canon}
use Rattle.ig_encode.specs.declared.span.Extent.{Extent}
use Rattle.ig_encode.proofs.ExtentLemmas.{counted_object, footer_counted}
use Rattle.ig_encode.proofs.object.count_object.Goals as goal

pub returns : goal.returns
returns c = λ bits type.
    counted_object c.args.out.now c.count_more.new.length c.add.new.length c.carry.new.length bits type c.args.shape.now c.args.fields.now _ c.requires.counts c.count_more.ensures
    (c.add.ensures (length (flat_map Canon c.args.fields.now)) (ap (λ (e : Extent). e.length) c.requires.extent)) c.carry.ensures
    (footer_counted c.args.shape.now c.args.fields.now c.args.extent.now c.entry_len-entry.result c.requires.extent c.entry_len-entry.ensures)
