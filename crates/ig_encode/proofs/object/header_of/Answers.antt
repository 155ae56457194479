use Rattle.std.proofs.Common.{rules, ◌≡◌, ◌*◌, ◌%◌, ◌^◌, ◌<◌, length, refl, sym, ap, ◌∙◌, arith}
use Rattle.std.specs.Int.{w32}
use Rattle.std.specs.List.{flat_map}
use Rattle.ig_base.specs.Numbers.{LE}
use Rattle.ig_value.specs.Canon.{Canon}
use Rattle.ig_encode.specs.Spans.{type_of, field_footer}
use Rattle.ig_encode.proofs.SpanLemmas.{header_right, header_empty, signed_again, signed_low}
use Rattle.ig_encode.proofs.ExtentLemmas.{footer_size}
use Rattle.ig_encode.proofs.object.header_of.Goals as goal

pub returns-then-count-eq0 : goal.returns-then-count-eq0
returns-then-count-eq0 c =
    header_empty c.args.object.now.bits c.args.object.now.type_id c.args.object.now.shape c.args.object.now.fields c.header_alone.result
    (sym (ap length c.as_slice-count.ensures) ∙ c.if-count-eq0.true) (search rules) c.header_alone.ensures

pub returns : goal.returns
returns c =
    let some : 0 < length c.args.object.now.fields = omega (arith, c.if-count-eq0.false, ap length c.as_slice-count.ensures) in
    let hash = c.hash_of.ensures (flat_map Canon c.args.object.now.fields) c.requires.fields in
    let size = footer_size c.args.width c.args.object.now.shape c.args.object.now.fields in
    let footer : length c.as_slice-count.result.now * c.entry_len.result ≡ length (field_footer (type_of c.args.width) c.args.object.now.shape c.args.object.now.fields) =
    ap (λ n. n * c.entry_len.result) (ap length c.as_slice-count.ensures) ∙ ap (λ n. length c.args.object.now.fields * n) c.entry_len.ensures ∙ sym size in
    header_right c.args.object.now.bits c.args.object.now.type_id c.args.object.now.shape c.args.object.now.fields c.args.fields.now c.args.width _ _ _ _ c.requires.fields c.requires.width some refl c.flags_of.ensures (signed_again c.args.object.now.type_id (search rules))
    (signed_again c.hash_of.result (search rules) ∙ ap (LE w32) hash) refl (ap (λ n. n % 2 ^ 64) footer) refl
    (signed_again c.signed.result (search rules) ∙ signed_low c.signed.result _ _ c.signed.ensures refl)
    (signed_again c.schema_of_shape.result (search rules) ∙ ap (LE w32) c.schema_of_shape.ensures) (signed_again c.signed-2.result (search rules) ∙ signed_low c.signed-2.result _ _ c.signed-2.ensures refl)
