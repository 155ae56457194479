use Rattle.std.proofs.Common.{◌≡◌, ◌*◌, ◌≤◌, length, sym, ap, subst, ◌∙◌}
use Rattle.ig_value.specs.Objects.{last_of}
use Rattle.ig_encode.specs.declared.span.Offset.{Offset}
use Rattle.ig_encode.specs.declared.span.OffsetWidth.{OffsetWidth}
use Rattle.ig_encode.specs.Spans.{least_width, field_offsets, entry_size, least_entries}
use Rattle.ig_encode.proofs.MarkLemmas.{entries_size, footer_after}
use Rattle.ig_encode.proofs.footer.put_footer_from.Goals as goal

pub overflow_sub-out : goal.overflow_sub-out
overflow_sub-out c =
    let least = least_width (last_of (field_offsets c.args.fields.now)) in
    let width : c.last_offset-width.result.width ≡ least = ap (λ (o : Offset). o.width) c.last_offset-width.ensures in
    let passed : c.args.step.index * c.entry_len.result ≡ length (least_entries c.args.shape.now c.args.fields.now c.args.step.index) =
    ap (λ n. c.args.step.index * n) (c.entry_len.ensures ∙ ap (λ (w : OffsetWidth). entry_size w c.args.shape.now) width) ∙ sym (entries_size c.args.shape.now c.args.fields.now c.args.step.index c.requires.within) in
    subst (λ n. n ≤ c.args.out.now.skip) (sym passed) c.requires.skipped

pub returns : goal.returns
returns c =
    let least = least_width (last_of (field_offsets c.args.fields.now)) in
    let width : c.last_offset-width.result.width ≡ least = ap (λ (o : Offset). o.width) c.last_offset-width.ensures in
    let passed : c.args.step.index * c.entry_len.result ≡ length (least_entries c.args.shape.now c.args.fields.now c.args.step.index) =
    ap (λ n. c.args.step.index * n) (c.entry_len.ensures ∙ ap (λ (w : OffsetWidth). entry_size w c.args.shape.now) width) ∙ sym (entries_size c.args.shape.now c.args.fields.now c.args.step.index c.requires.within) in
    let le = subst (λ n. n ≤ c.args.out.now.skip) (sym passed) c.requires.skipped in
    footer_after c.args.out.now c.args.into.now c.args.shape.now c.args.fields.now c.args.step.index (c.args.step.index * c.entry_len.result) c.last_offset-width.result.width (c.put_entries.new.out, c.put_entries.new.into) width passed le c.put_entries.ensures
