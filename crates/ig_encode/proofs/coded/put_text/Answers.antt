use Rattle.std.proofs.Common.{List, ℕ, ◌≡◌, ◌+◌, [], ◌∷◌, ◌++◌, pos, length, refl, sym, ap, ◌∙◌, arith, length-append}
use Rattle.std.specs.Int.{w32}
use Rattle.ig_base.specs.Numbers.{LE}
use Rattle.ig_value.specs.Table.{byte_of}
use Rattle.ig_value.specs.Canon.{counted_bytes}
use Rattle.ig_encode.specs.Splice.{splice}
use Rattle.ig_encode.specs.HeadBytes.{wide_count}
use Rattle.ig_encode.proofs.OutputLemmas.{placed, spliced_next}
use Rattle.ig_encode.proofs.coded.put_text.Goals as goal

pub returns-else-not-count : goal.returns-else-not-count
returns-else-not-count g c =
    let xs = c.as_bytes-bytes.result.now in
    let four = wide_count (record { items = length xs }) in
    let wide : length (byte_of c.args.code ∷ counted_bytes xs) ≡ c.in-Some.width = omega (arith, four, length-append (LE w32 (pos (length xs))) xs, c.in-Some.ensures.1) in
    sym (c.if-not-count.ensures.counted refl c.args.into.now (byte_of c.args.code ∷ counted_bytes xs) wide)
    ∙ ap (λ (s : _). g.S.Output.after s c.args.into.now (byte_of c.args.code ∷ counted_bytes xs)) (c.in_default-place.ensures.none refl)
    ∙ ap (λ (l : List ℕ). g.S.Output.after c.args.out.now c.args.into.now (byte_of c.args.code ∷ counted_bytes l)) (c.as_bytes-bytes.ensures.value ∙ c.as_str.ensures)

pub returns-in-Some-place : goal.returns-in-Some-place
returns-in-Some-place g c =
    let xs = c.as_bytes-bytes.result.now in
    let count = LE w32 (pos (length xs)) in
    let code : List ℕ = byte_of c.args.code ∷ [] in
    let four = wide_count (record { items = length xs }) in
    let wide : length (byte_of c.args.code ∷ counted_bytes xs) ≡ c.in-Some.width = omega (arith, four, length-append count xs, c.in-Some.ensures.1) in
    let at = c.in-Some-place.at in
    let into = c.args.into.now in
    let first = c.copy_at.ensures ∙ ap (λ (n : ℕ). splice into at (n ∷ [])) c.byte.ensures in
    let second = spliced_next into at (at + 1) code count c.copy_at.new.into c.write_count.new.into (omega (arith, c.in-Some-place.ensures.fits, wide)) refl first c.write_count.ensures in
    let third = spliced_next into at (at + 5) (code ++ count) xs c.write_count.new.into c.copy_at-in-Some-place.new.into (omega (arith, four, c.in-Some-place.ensures.fits, wide)) (omega (arith, four)) second c.copy_at-in-Some-place.ensures in
    placed g.S.Output.after c.args.out.now c.args.out.now c.place.new.self into at (byte_of c.args.code ∷ counted_bytes xs) c.copy_at-in-Some-place.new.into refl
    (c.in-Some-place.ensures.placed into (byte_of c.args.code ∷ counted_bytes xs) refl wide) third
    ∙ ap (λ (l : List ℕ). g.S.Output.after c.args.out.now into (byte_of c.args.code ∷ counted_bytes l)) (c.as_bytes-bytes.ensures.value ∙ c.as_str.ensures)
