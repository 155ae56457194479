-- Each row of the table.
use Rattle.std.proofs.Common.{sym, ap, subst, ◌∙◌, ◌-◌, ◌<◌, ◌^◌, length}
use Rattle.std.specs.Prelude.{IsTrue, ◌↔◌}
use Rattle.ig_value.specs.Limits.{FitsTo, IsLimitedHead}
use Rattle.ig_value.specs.declared.code.Code.TheVariants as code
use Rattle.ig_value.specs.Table.{value_with}
use Rattle.ig_value.proofs.LimitsLemmas.{fits_row, nothing_before, typed_before, kind_before, object_before}
use Rattle.ig_value.proofs.limits.+limits.Goals as goal

pub fits_to-returns-in-Byte : goal.fits_to-returns-in-Byte
fits_to-returns-in-Byte t c =
    fits_row c.args.levels c.args.value.now code.Byte c.in-Byte.x _ c.if-levels-eq0.false c.in-Byte.is c.is_limited.ensures

pub fits_to-returns-in-Short : goal.fits_to-returns-in-Short
fits_to-returns-in-Short t c =
    fits_row c.args.levels c.args.value.now code.Short c.in-Short.x _ c.if-levels-eq0.false c.in-Short.is c.is_limited-in-Short.ensures

pub fits_to-returns-in-Int : goal.fits_to-returns-in-Int
fits_to-returns-in-Int t c =
    fits_row c.args.levels c.args.value.now code.Int c.in-Int.x _ c.if-levels-eq0.false c.in-Int.is c.is_limited-in-Int.ensures

pub fits_to-returns-in-Long : goal.fits_to-returns-in-Long
fits_to-returns-in-Long t c =
    fits_row c.args.levels c.args.value.now code.Long c.in-Long.x _ c.if-levels-eq0.false c.in-Long.is c.is_limited-in-Long.ensures

pub fits_to-returns-in-Float : goal.fits_to-returns-in-Float
fits_to-returns-in-Float t c =
    fits_row c.args.levels c.args.value.now code.Float c.in-Float.x _ c.if-levels-eq0.false c.in-Float.is c.is_limited-in-Float.ensures

pub fits_to-returns-in-Double : goal.fits_to-returns-in-Double
fits_to-returns-in-Double t c =
    fits_row c.args.levels c.args.value.now code.Double c.in-Double.x _ c.if-levels-eq0.false c.in-Double.is c.is_limited-in-Double.ensures

pub fits_to-returns-in-Char : goal.fits_to-returns-in-Char
fits_to-returns-in-Char t c =
    fits_row c.args.levels c.args.value.now code.Char c.in-Char.x _ c.if-levels-eq0.false c.in-Char.is c.is_limited-in-Char.ensures

pub fits_to-returns-in-Str : goal.fits_to-returns-in-Str
fits_to-returns-in-Str t c =
    fits_row c.args.levels c.args.value.now code.Str c.in-Str.x _ c.if-levels-eq0.false c.in-Str.is c.is_limited-in-Str.ensures

pub fits_to-returns-in-Uuid : goal.fits_to-returns-in-Uuid
fits_to-returns-in-Uuid t c =
    fits_row c.args.levels c.args.value.now code.Uuid c.in-Uuid.x _ c.if-levels-eq0.false c.in-Uuid.is c.is_limited-in-Uuid.ensures

pub fits_to-returns-in-Date : goal.fits_to-returns-in-Date
fits_to-returns-in-Date t c =
    fits_row c.args.levels c.args.value.now code.Date c.in-Date.x _ c.if-levels-eq0.false c.in-Date.is c.is_limited-in-Date.ensures

pub fits_to-returns-in-Bytes : goal.fits_to-returns-in-Bytes
fits_to-returns-in-Bytes t c =
    fits_row c.args.levels c.args.value.now code.Bytes (tt, c.as_slice.result.now) _ c.if-levels-eq0.false (c.in-Bytes.is ∙ ap (λ l. value_with code.Bytes (tt, l)) (sym c.as_slice.ensures)) (nothing_before c.are_limited.ensures)

pub fits_to-returns-in-Shorts : goal.fits_to-returns-in-Shorts
fits_to-returns-in-Shorts t c =
    fits_row c.args.levels c.args.value.now code.Shorts (tt, c.as_slice-in-Shorts.result.now) _ c.if-levels-eq0.false (c.in-Shorts.is ∙ ap (λ l. value_with code.Shorts (tt, l)) (sym c.as_slice-in-Shorts.ensures)) (nothing_before c.are_limited-in-Shorts.ensures)

pub fits_to-returns-in-Ints : goal.fits_to-returns-in-Ints
fits_to-returns-in-Ints t c =
    fits_row c.args.levels c.args.value.now code.Ints (tt, c.as_slice-in-Ints.result.now) _ c.if-levels-eq0.false (c.in-Ints.is ∙ ap (λ l. value_with code.Ints (tt, l)) (sym c.as_slice-in-Ints.ensures)) (nothing_before c.are_limited-in-Ints.ensures)

pub fits_to-returns-in-Longs : goal.fits_to-returns-in-Longs
fits_to-returns-in-Longs t c =
    fits_row c.args.levels c.args.value.now code.Longs (tt, c.as_slice-in-Longs.result.now) _ c.if-levels-eq0.false (c.in-Longs.is ∙ ap (λ l. value_with code.Longs (tt, l)) (sym c.as_slice-in-Longs.ensures)) (nothing_before c.are_limited-in-Longs.ensures)

pub fits_to-returns-in-Floats : goal.fits_to-returns-in-Floats
fits_to-returns-in-Floats t c =
    fits_row c.args.levels c.args.value.now code.Floats (tt, c.as_slice-in-Floats.result.now) _ c.if-levels-eq0.false (c.in-Floats.is ∙ ap (λ l. value_with code.Floats (tt, l)) (sym c.as_slice-in-Floats.ensures)) (nothing_before c.are_limited-in-Floats.ensures)

pub fits_to-returns-in-Doubles : goal.fits_to-returns-in-Doubles
fits_to-returns-in-Doubles t c =
    fits_row c.args.levels c.args.value.now code.Doubles (tt, c.as_slice-in-Doubles.result.now) _ c.if-levels-eq0.false (c.in-Doubles.is ∙ ap (λ l. value_with code.Doubles (tt, l)) (sym c.as_slice-in-Doubles.ensures)) (nothing_before c.are_limited-in-Doubles.ensures)

pub fits_to-returns-in-Chars : goal.fits_to-returns-in-Chars
fits_to-returns-in-Chars t c =
    fits_row c.args.levels c.args.value.now code.Chars (tt, c.as_slice-in-Chars.result.now) _ c.if-levels-eq0.false (c.in-Chars.is ∙ ap (λ l. value_with code.Chars (tt, l)) (sym c.as_slice-in-Chars.ensures)) (nothing_before c.are_limited-in-Chars.ensures)

pub fits_to-returns-in-Bools : goal.fits_to-returns-in-Bools
fits_to-returns-in-Bools t c =
    fits_row c.args.levels c.args.value.now code.Bools (tt, c.as_slice-in-Bools.result.now) _ c.if-levels-eq0.false (c.in-Bools.is ∙ ap (λ l. value_with code.Bools (tt, l)) (sym c.as_slice-in-Bools.ensures)) (nothing_before c.are_limited-in-Bools.ensures)

pub fits_to-returns-in-Strs : goal.fits_to-returns-in-Strs
fits_to-returns-in-Strs t c =
    fits_row c.args.levels c.args.value.now code.Strs (tt, c.as_slice-in-Strs.result.now) _ c.if-levels-eq0.false (c.in-Strs.is ∙ ap (λ l. value_with code.Strs (tt, l)) (sym c.as_slice-in-Strs.ensures)) (nothing_before c.are_limited-in-Strs.ensures)

pub fits_to-returns-in-Uuids : goal.fits_to-returns-in-Uuids
fits_to-returns-in-Uuids t c =
    fits_row c.args.levels c.args.value.now code.Uuids (tt, c.as_slice-in-Uuids.result.now) _ c.if-levels-eq0.false (c.in-Uuids.is ∙ ap (λ l. value_with code.Uuids (tt, l)) (sym c.as_slice-in-Uuids.ensures)) (nothing_before c.are_limited-in-Uuids.ensures)

pub fits_to-returns-in-Dates : goal.fits_to-returns-in-Dates
fits_to-returns-in-Dates t c =
    fits_row c.args.levels c.args.value.now code.Dates (tt, c.as_slice-in-Dates.result.now) _ c.if-levels-eq0.false (c.in-Dates.is ∙ ap (λ l. value_with code.Dates (tt, l)) (sym c.as_slice-in-Dates.ensures)) (nothing_before c.are_limited-in-Dates.ensures)

pub fits_to-returns-in-Objects : goal.fits_to-returns-in-Objects
fits_to-returns-in-Objects t c =
    fits_row c.args.levels c.args.value.now code.Objects (c.in-Objects.type_id, (tt, c.as_slice-in-Objects.result.now)) _ c.if-levels-eq0.false (c.in-Objects.is ∙ ap (λ l. value_with code.Objects (c.in-Objects.type_id, (tt, l))) (sym c.as_slice-in-Objects.ensures)) (typed_before c.typed_fit.ensures)

pub fits_to-returns-in-Collection : goal.fits_to-returns-in-Collection
fits_to-returns-in-Collection t c =
    fits_row c.args.levels c.args.value.now code.Collection (c.in-Collection.kind, c.as_slice-in-Collection.result.now) _ c.if-levels-eq0.false (c.in-Collection.is ∙ ap (λ l. value_with code.Collection (c.in-Collection.kind, l)) (sym c.as_slice-in-Collection.ensures)) (kind_before c.kinded_fit.ensures)

pub fits_to-returns-in-Map : goal.fits_to-returns-in-Map
fits_to-returns-in-Map t c =
    fits_row c.args.levels c.args.value.now code.Map (c.in-Map.kind, c.as_slice-in-Map.result.now) _ c.if-levels-eq0.false (c.in-Map.is ∙ ap (λ l. value_with code.Map (c.in-Map.kind, l)) (sym c.as_slice-in-Map.ensures)) (kind_before c.map_fits.ensures)

pub fits_to-returns-in-Wrapped : goal.fits_to-returns-in-Wrapped
fits_to-returns-in-Wrapped t c =
    fits_row c.args.levels c.args.value.now code.Wrapped (c.in-Wrapped.bytes, c.in-Wrapped.offset) _ c.if-levels-eq0.false c.in-Wrapped.is c.both_limited.ensures

pub fits_to-returns-in-Enum : goal.fits_to-returns-in-Enum
fits_to-returns-in-Enum t c =
    fits_row c.args.levels c.args.value.now code.Enum (c.in-Enum.type_id, c.in-Enum.ordinal) _ c.if-levels-eq0.false c.in-Enum.is c.both_limited-in-Enum.ensures

pub fits_to-returns-in-Enums : goal.fits_to-returns-in-Enums
fits_to-returns-in-Enums t c =
    fits_row c.args.levels c.args.value.now code.Enums (c.in-Enums.type_id, (tt, c.as_slice-in-Enums.result.now)) _ c.if-levels-eq0.false (c.in-Enums.is ∙ ap (λ l. value_with code.Enums (c.in-Enums.type_id, (tt, l))) (sym c.as_slice-in-Enums.ensures)) (typed_before c.typed_fit-in-Enums.ensures)

pub fits_to-returns-in-Decimal : goal.fits_to-returns-in-Decimal
fits_to-returns-in-Decimal t c =
    fits_row c.args.levels c.args.value.now code.Decimal c.in-Decimal.x _ c.if-levels-eq0.false c.in-Decimal.is c.is_limited-in-Decimal.ensures

pub fits_to-returns-in-Decimals : goal.fits_to-returns-in-Decimals
fits_to-returns-in-Decimals t c =
    fits_row c.args.levels c.args.value.now code.Decimals (tt, c.as_slice-in-Decimals.result.now) _ c.if-levels-eq0.false (c.in-Decimals.is ∙ ap (λ l. value_with code.Decimals (tt, l)) (sym c.as_slice-in-Decimals.ensures)) (nothing_before c.are_limited-in-Decimals.ensures)

pub fits_to-returns-in-Timestamp : goal.fits_to-returns-in-Timestamp
fits_to-returns-in-Timestamp t c =
    fits_row c.args.levels c.args.value.now code.Timestamp c.in-Timestamp.x _ c.if-levels-eq0.false c.in-Timestamp.is c.is_limited-in-Timestamp.ensures

pub fits_to-returns-in-Timestamps : goal.fits_to-returns-in-Timestamps
fits_to-returns-in-Timestamps t c =
    fits_row c.args.levels c.args.value.now code.Timestamps (tt, c.as_slice-in-Timestamps.result.now) _ c.if-levels-eq0.false (c.in-Timestamps.is ∙ ap (λ l. value_with code.Timestamps (tt, l)) (sym c.as_slice-in-Timestamps.ensures)) (nothing_before c.are_limited-in-Timestamps.ensures)

pub fits_to-returns-in-Time : goal.fits_to-returns-in-Time
fits_to-returns-in-Time t c =
    fits_row c.args.levels c.args.value.now code.Time c.in-Time.x _ c.if-levels-eq0.false c.in-Time.is c.is_limited-in-Time.ensures

pub fits_to-returns-in-Times : goal.fits_to-returns-in-Times
fits_to-returns-in-Times t c =
    fits_row c.args.levels c.args.value.now code.Times (tt, c.as_slice-in-Times.result.now) _ c.if-levels-eq0.false (c.in-Times.is ∙ ap (λ l. value_with code.Times (tt, l)) (sym c.as_slice-in-Times.ensures)) (nothing_before c.are_limited-in-Times.ensures)

pub fits_to-returns-in-BinaryEnum : goal.fits_to-returns-in-BinaryEnum
fits_to-returns-in-BinaryEnum t c =
    fits_row c.args.levels c.args.value.now code.BinaryEnum (c.in-BinaryEnum.type_id, c.in-BinaryEnum.ordinal) _ c.if-levels-eq0.false c.in-BinaryEnum.is c.both_limited-in-BinaryEnum.ensures

pub fits_to-returns-in-Object : goal.fits_to-returns-in-Object
fits_to-returns-in-Object t c =
    fits_row c.args.levels c.args.value.now code.Object c.in-Object.object _ c.if-levels-eq0.false c.in-Object.is
    (object_before (FitsTo (c.args.levels - 1)) c.in-Object.object c.as_slice-in-Object.result.now (c.as_slice-in-Object.ensures ∙ ap (λ o. o.fields) c.get-in-Object.ensures)
    (subst (λ o. IsTrue c.is_limited_head.result ↔ ((length o.fields < 2 ^ 31) × IsLimitedHead o)) c.get.ensures c.is_limited_head.ensures) c.object_fits.ensures)
