use Rattle.std.proofs.Common.{◌≡◌, ℕ, List, take}
use Rattle.std.specs.List.{flat_map}
use Rattle.ig_value.specs.Canon.{Canon}
use Rattle.ig_encode.specs.MeasureOutput.{measure_after, counting_start}
use Rattle.ig_encode.specs.Spans.{type_of, field_footer}
use Rattle.ig_encode.proofs.footer.put_entries.Given as goal

abbrev pub invariant-loop-index : goal.invariant-loop-index
invariant-loop-index g l = record {
  put : (start : _) (from : List ℕ) → (l.initial.out, l.initial.into) ≡ g.S.Output.after start from (field_footer (type_of l.width) l.shape (take l.fn.first.index l.fields)) → (l.out, l.into) ≡ g.S.Output.after start from (field_footer (type_of l.width) l.shape (take l.index l.fields));
  counted : l.before ≡ measure_after counting_start (flat_map Canon (take l.index l.fields));
}
