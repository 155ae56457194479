use Rattle.std.proofs.Common.{◌≡◌, ◌≤◌, ℕ, List, length, true, false, sym, ap, subst, ◌∙◌, arith}
use Rattle.std.specs.Str.{IsUtf8}
use Rattle.std.specs.String.{string_bytes}
use Rattle.std.proofs.lemmas.Str.{is_utf8-from_IsUtf8, IsUtf8-string_bytes}
use Rattle.ig_text.proofs.ReadsLemmas.{done}
use Rattle.ig_text.proofs.ReaderStopLemmas.{text_read, text_wrong, no_utf8}
use Rattle.ig_text.proofs.parts.TextReadPart.read.Goals as goal

pub returns-in-Ok : goal.returns-in-Ok
returns-in-Ok c =
    let bytes : List ℕ = c.in_ok-bytes.bytes.items in
    let few : length bytes ≤ 2147483647 = omega (arith, c.if-len-gt-LONGEST.false, c.len.ensures) in
    let same : string_bytes c.in-Ok.string ≡ bytes = ap (λ v. v.items) c.in-Ok.ensures.ok in
    let valid : IsUtf8 bytes = subst IsUtf8 same (IsUtf8-string_bytes c.in-Ok.string) in
    text_read c.args.text.now c.in_ok-rest.rest.now bytes c.in_ok-bytes.rest.now c.in_ok-rest.ensures c.in_ok-bytes.ensures few (is_utf8-from_IsUtf8 bytes valid)
    ∙ ap (λ (l : List ℕ). done (l, c.in_ok-bytes.rest.now)) (sym (c.new.ensures ∙ same))

pub returns : goal.returns
returns c =
    let bytes : List ℕ = c.in_ok-bytes.bytes.items in
    let few : length bytes ≤ 2147483647 = omega (arith, c.if-len-gt-LONGEST.false, c.len.ensures) in
    text_wrong c.args.text.now c.in_ok-rest.rest.now bytes c.in_ok-bytes.rest.now c.in_ok-rest.ensures c.in_ok-bytes.ensures few (no_utf8 bytes c.in-Err.ensures.succeeds)
