use Rattle.std.proofs.Common.{rules, ◌≡◌, ◌+◌, ◌-◌, ◌*◌, ◌<◌, ◌≤◌, ◌^◌, List, ℕ, true, false, length, drop, get_or, sym, subst, slice_index_or, arith}
use Rattle.std.specs.Char.{is_ascii_digit}
use Rattle.std.specs.Str.Parse.{digits_value, digits_value_after}
use Rattle.std.proofs.lemmas.Grind.{get_or_default_zero}
use Rattle.std.proofs.lemmas.List.Sums.{prefix_len-le-length}
use Rattle.ig_text.specs.ReadText as reading
use Rattle.ig_text.proofs.NumberLemmas.{plain_small}
use Rattle.ig_text.proofs.ReaderLoopLemmas.{digit_at, digit_room, digit_step}
use Rattle.ig_text.proofs.read.natural.Goals as goal

pub split_at-requires : goal.split_at-requires
split_at-requires c = subst (λ (n : ℕ). n ≤ length c.args.text.now) (sym c.digits_len.ensures) (prefix_len-le-length is_ascii_digit c.args.text.now)

pub overflow_mul-number : goal.overflow_mul-number
overflow_mul-number c =
    let ds : List ℕ = c.split_at.result.0.now in
    let i : ℕ = c.loop-digit.digit-index in
    let x : ℕ = slice_index_or ds i 0 in
    let item : x ≡ get_or ds i x = sym (get_or_default_zero ds i x c.loop-digit-test.true) in
    let plain : reading.is_plain ds ≡ true = sym c.if-not-is_plain.ensures in
    let small = plain_small c.args.text.now ds c.digits_len.result c.digits_len.ensures c.split_at.ensures.front plain in
    let is : is_ascii_digit x ≡ true = digit_at ds i x small.0 c.loop-digit-test.true item in
    let room = digit_room ds i x c.loop-digit.number (digits_value 10 ds) c.loop-digit-test.true item is c.loop-digit.invariant in
    record { fits = omega (arith, room.1, small.1) }

pub overflow_sub-digit : goal.overflow_sub-digit
overflow_sub-digit c =
    let ds : List ℕ = c.split_at.result.0.now in
    let i : ℕ = c.loop-digit.digit-index in
    let x : ℕ = slice_index_or ds i 0 in
    let item : x ≡ get_or ds i x = sym (get_or_default_zero ds i x c.loop-digit-test.true) in
    let plain : reading.is_plain ds ≡ true = sym c.if-not-is_plain.ensures in
    let small = plain_small c.args.text.now ds c.digits_len.result c.digits_len.ensures c.split_at.ensures.front plain in
    let is : is_ascii_digit x ≡ true = digit_at ds i x small.0 c.loop-digit-test.true item in
    (digit_room ds i x c.loop-digit.number (digits_value 10 ds) c.loop-digit-test.true item is c.loop-digit.invariant).0

pub overflow_add-number : goal.overflow_add-number
overflow_add-number c =
    let ds : List ℕ = c.split_at.result.0.now in
    let i : ℕ = c.loop-digit.digit-index in
    let x : ℕ = slice_index_or ds i 0 in
    let item : x ≡ get_or ds i x = sym (get_or_default_zero ds i x c.loop-digit-test.true) in
    let plain : reading.is_plain ds ≡ true = sym c.if-not-is_plain.ensures in
    let small = plain_small c.args.text.now ds c.digits_len.result c.digits_len.ensures c.split_at.ensures.front plain in
    let is : is_ascii_digit x ≡ true = digit_at ds i x small.0 c.loop-digit-test.true item in
    let room = digit_room ds i x c.loop-digit.number (digits_value 10 ds) c.loop-digit-test.true item is c.loop-digit.invariant in
    record { fits = omega (arith, room.1, small.1, c.from.ensures) }

pub loop-digit-preserved : goal.loop-digit-preserved
loop-digit-preserved c =
    let ds : List ℕ = c.split_at.result.0.now in
    let i : ℕ = c.loop-digit.digit-index in
    let x : ℕ = slice_index_or ds i 0 in
    let item : x ≡ get_or ds i x = sym (get_or_default_zero ds i x c.loop-digit-test.true) in
    let plain : reading.is_plain ds ≡ true = sym c.if-not-is_plain.ensures in
    let small = plain_small c.args.text.now ds c.digits_len.result c.digits_len.ensures c.split_at.ensures.front plain in
    let is : is_ascii_digit x ≡ true = digit_at ds i x small.0 c.loop-digit-test.true item in
    subst (λ (k : ℕ). digits_value_after 10 (c.loop-digit.number * 10 + k) (drop (i + 1) ds) ≡ digits_value 10 ds) (sym c.from.ensures)
    (digit_step ds i x c.loop-digit.number (digits_value 10 ds) c.loop-digit-test.true item is c.loop-digit.invariant)
