-- Each row of the table.
use Rattle.std.proofs.Common.{sym, ap, ◌∙◌}
use Rattle.ig_value.specs.declared.Code.TheVariants as code
use Rattle.ig_value.specs.Table.{value_with}
use Rattle.ig_encode.proofs.CanonLemmas.{Canon_row, leaf_row}
use Rattle.ig_encode.proofs.leaves.put_leaf.Goals as goal

pub returns-in-Byte : goal.returns-in-Byte
returns-in-Byte g c = λ _.
    c.put_scalar.ensures ∙ ap (g.S.Output.after c.args.out.now c.args.into.now) (sym (Canon_row c.args.value.now code.Byte c.in-Byte.x c.in-Byte.is))

pub returns-in-Short : goal.returns-in-Short
returns-in-Short g c = λ _.
    c.put_scalar-in-Short.ensures ∙ ap (g.S.Output.after c.args.out.now c.args.into.now) (sym (Canon_row c.args.value.now code.Short c.in-Short.x c.in-Short.is))

pub returns-in-Int : goal.returns-in-Int
returns-in-Int g c = λ _.
    c.put_scalar-in-Int.ensures ∙ ap (g.S.Output.after c.args.out.now c.args.into.now) (sym (Canon_row c.args.value.now code.Int c.in-Int.x c.in-Int.is))

pub returns-in-Long : goal.returns-in-Long
returns-in-Long g c = λ _.
    c.put_scalar-in-Long.ensures ∙ ap (g.S.Output.after c.args.out.now c.args.into.now) (sym (Canon_row c.args.value.now code.Long c.in-Long.x c.in-Long.is))

pub returns-in-Float : goal.returns-in-Float
returns-in-Float g c = λ _.
    c.put_scalar-in-Float.ensures ∙ ap (g.S.Output.after c.args.out.now c.args.into.now) (sym (Canon_row c.args.value.now code.Float c.in-Float.x c.in-Float.is))

pub returns-in-Double : goal.returns-in-Double
returns-in-Double g c = λ _.
    c.put_scalar-in-Double.ensures ∙ ap (g.S.Output.after c.args.out.now c.args.into.now) (sym (Canon_row c.args.value.now code.Double c.in-Double.x c.in-Double.is))

pub returns-in-Char : goal.returns-in-Char
returns-in-Char g c = λ _.
    c.put_scalar-in-Char.ensures ∙ ap (g.S.Output.after c.args.out.now c.args.into.now) (sym (Canon_row c.args.value.now code.Char c.in-Char.x c.in-Char.is))

pub returns-in-Bool : goal.returns-in-Bool
returns-in-Bool g c = λ _.
    c.put_scalar-in-Bool.ensures ∙ ap (g.S.Output.after c.args.out.now c.args.into.now) (sym (Canon_row c.args.value.now code.Bool c.in-Bool.x c.in-Bool.is))

pub returns-in-Str : goal.returns-in-Str
returns-in-Str g c = λ _.
    c.put_text.ensures ∙ ap (g.S.Output.after c.args.out.now c.args.into.now) (sym (Canon_row c.args.value.now code.Str c.in-Str.x c.in-Str.is))

pub returns-in-Uuid : goal.returns-in-Uuid
returns-in-Uuid g c = λ _.
    c.put_row.ensures ∙ ap (g.S.Output.after c.args.out.now c.args.into.now) (sym (Canon_row c.args.value.now code.Uuid c.in-Uuid.x c.in-Uuid.is))

pub returns-in-Date : goal.returns-in-Date
returns-in-Date g c = λ _.
    c.put_scalar-in-Date.ensures ∙ ap (g.S.Output.after c.args.out.now c.args.into.now) (sym (Canon_row c.args.value.now code.Date c.in-Date.x c.in-Date.is))

pub returns-in-Bytes : goal.returns-in-Bytes
returns-in-Bytes g c = λ _.
    let is = c.in-Bytes.is ∙ ap (λ l. value_with code.Bytes (tt, l)) (sym c.as_slice.ensures) in
    c.put_array.ensures ∙ ap (g.S.Output.after c.args.out.now c.args.into.now) (sym (Canon_row c.args.value.now code.Bytes (tt, c.as_slice.result.now) is))

pub returns-in-Shorts : goal.returns-in-Shorts
returns-in-Shorts g c = λ _.
    let is = c.in-Shorts.is ∙ ap (λ l. value_with code.Shorts (tt, l)) (sym c.as_slice-in-Shorts.ensures) in
    c.put_array-in-Shorts.ensures ∙ ap (g.S.Output.after c.args.out.now c.args.into.now) (sym (Canon_row c.args.value.now code.Shorts (tt, c.as_slice-in-Shorts.result.now) is))

pub returns-in-Ints : goal.returns-in-Ints
returns-in-Ints g c = λ _.
    let is = c.in-Ints.is ∙ ap (λ l. value_with code.Ints (tt, l)) (sym c.as_slice-in-Ints.ensures) in
    c.put_array-in-Ints.ensures ∙ ap (g.S.Output.after c.args.out.now c.args.into.now) (sym (Canon_row c.args.value.now code.Ints (tt, c.as_slice-in-Ints.result.now) is))

pub returns-in-Longs : goal.returns-in-Longs
returns-in-Longs g c = λ _.
    let is = c.in-Longs.is ∙ ap (λ l. value_with code.Longs (tt, l)) (sym c.as_slice-in-Longs.ensures) in
    c.put_array-in-Longs.ensures ∙ ap (g.S.Output.after c.args.out.now c.args.into.now) (sym (Canon_row c.args.value.now code.Longs (tt, c.as_slice-in-Longs.result.now) is))

pub returns-in-Floats : goal.returns-in-Floats
returns-in-Floats g c = λ _.
    let is = c.in-Floats.is ∙ ap (λ l. value_with code.Floats (tt, l)) (sym c.as_slice-in-Floats.ensures) in
    c.put_array-in-Floats.ensures ∙ ap (g.S.Output.after c.args.out.now c.args.into.now) (sym (Canon_row c.args.value.now code.Floats (tt, c.as_slice-in-Floats.result.now) is))

pub returns-in-Doubles : goal.returns-in-Doubles
returns-in-Doubles g c = λ _.
    let is = c.in-Doubles.is ∙ ap (λ l. value_with code.Doubles (tt, l)) (sym c.as_slice-in-Doubles.ensures) in
    c.put_array-in-Doubles.ensures ∙ ap (g.S.Output.after c.args.out.now c.args.into.now) (sym (Canon_row c.args.value.now code.Doubles (tt, c.as_slice-in-Doubles.result.now) is))

pub returns-in-Chars : goal.returns-in-Chars
returns-in-Chars g c = λ _.
    let is = c.in-Chars.is ∙ ap (λ l. value_with code.Chars (tt, l)) (sym c.as_slice-in-Chars.ensures) in
    c.put_array-in-Chars.ensures ∙ ap (g.S.Output.after c.args.out.now c.args.into.now) (sym (Canon_row c.args.value.now code.Chars (tt, c.as_slice-in-Chars.result.now) is))

pub returns-in-Bools : goal.returns-in-Bools
returns-in-Bools g c = λ _.
    let is = c.in-Bools.is ∙ ap (λ l. value_with code.Bools (tt, l)) (sym c.as_slice-in-Bools.ensures) in
    c.put_array-in-Bools.ensures ∙ ap (g.S.Output.after c.args.out.now c.args.into.now) (sym (Canon_row c.args.value.now code.Bools (tt, c.as_slice-in-Bools.result.now) is))

pub returns-in-Strs : goal.returns-in-Strs
returns-in-Strs g c = λ _.
    let is = c.in-Strs.is ∙ ap (λ l. value_with code.Strs (tt, l)) (sym c.as_slice-in-Strs.ensures) in
    c.put_optionals.ensures ∙ ap (g.S.Output.after c.args.out.now c.args.into.now) (sym (Canon_row c.args.value.now code.Strs (tt, c.as_slice-in-Strs.result.now) is))

pub returns-in-Uuids : goal.returns-in-Uuids
returns-in-Uuids g c = λ _.
    let is = c.in-Uuids.is ∙ ap (λ l. value_with code.Uuids (tt, l)) (sym c.as_slice-in-Uuids.ensures) in
    c.put_optionals-in-Uuids.ensures ∙ ap (g.S.Output.after c.args.out.now c.args.into.now) (sym (Canon_row c.args.value.now code.Uuids (tt, c.as_slice-in-Uuids.result.now) is))

pub returns-in-Dates : goal.returns-in-Dates
returns-in-Dates g c = λ _.
    let is = c.in-Dates.is ∙ ap (λ l. value_with code.Dates (tt, l)) (sym c.as_slice-in-Dates.ensures) in
    c.put_optionals-in-Dates.ensures ∙ ap (g.S.Output.after c.args.out.now c.args.into.now) (sym (Canon_row c.args.value.now code.Dates (tt, c.as_slice-in-Dates.result.now) is))

pub returns-in-Wrapped : goal.returns-in-Wrapped
returns-in-Wrapped g c = λ _.
    c.put_both.ensures ∙ ap (g.S.Output.after c.args.out.now c.args.into.now) (sym (Canon_row c.args.value.now code.Wrapped (c.in-Wrapped.bytes, c.in-Wrapped.offset) c.in-Wrapped.is))

pub returns-in-Enum : goal.returns-in-Enum
returns-in-Enum g c = λ _.
    c.put_both-in-Enum.ensures ∙ ap (g.S.Output.after c.args.out.now c.args.into.now) (sym (Canon_row c.args.value.now code.Enum (c.in-Enum.type_id, c.in-Enum.ordinal) c.in-Enum.is))

pub returns-in-Decimal : goal.returns-in-Decimal
returns-in-Decimal g c = λ _.
    c.put_row-in-Decimal.ensures ∙ ap (g.S.Output.after c.args.out.now c.args.into.now) (sym (Canon_row c.args.value.now code.Decimal c.in-Decimal.x c.in-Decimal.is))

pub returns-in-Decimals : goal.returns-in-Decimals
returns-in-Decimals g c = λ _.
    let is = c.in-Decimals.is ∙ ap (λ l. value_with code.Decimals (tt, l)) (sym c.as_slice-in-Decimals.ensures) in
    c.put_optionals-in-Decimals.ensures ∙ ap (g.S.Output.after c.args.out.now c.args.into.now) (sym (Canon_row c.args.value.now code.Decimals (tt, c.as_slice-in-Decimals.result.now) is))

pub returns-in-Timestamp : goal.returns-in-Timestamp
returns-in-Timestamp g c = λ _.
    c.put_row-in-Timestamp.ensures ∙ ap (g.S.Output.after c.args.out.now c.args.into.now) (sym (Canon_row c.args.value.now code.Timestamp c.in-Timestamp.x c.in-Timestamp.is))

pub returns-in-Timestamps : goal.returns-in-Timestamps
returns-in-Timestamps g c = λ _.
    let is = c.in-Timestamps.is ∙ ap (λ l. value_with code.Timestamps (tt, l)) (sym c.as_slice-in-Timestamps.ensures) in
    c.put_optionals-in-Timestamps.ensures ∙ ap (g.S.Output.after c.args.out.now c.args.into.now) (sym (Canon_row c.args.value.now code.Timestamps (tt, c.as_slice-in-Timestamps.result.now) is))

pub returns-in-Time : goal.returns-in-Time
returns-in-Time g c = λ _.
    c.put_scalar-in-Time.ensures ∙ ap (g.S.Output.after c.args.out.now c.args.into.now) (sym (Canon_row c.args.value.now code.Time c.in-Time.x c.in-Time.is))

pub returns-in-Times : goal.returns-in-Times
returns-in-Times g c = λ _.
    let is = c.in-Times.is ∙ ap (λ l. value_with code.Times (tt, l)) (sym c.as_slice-in-Times.ensures) in
    c.put_optionals-in-Times.ensures ∙ ap (g.S.Output.after c.args.out.now c.args.into.now) (sym (Canon_row c.args.value.now code.Times (tt, c.as_slice-in-Times.result.now) is))

pub returns-in-BinaryEnum : goal.returns-in-BinaryEnum
returns-in-BinaryEnum g c = λ _.
    c.put_both-in-BinaryEnum.ensures ∙ ap (g.S.Output.after c.args.out.now c.args.into.now) (sym (Canon_row c.args.value.now code.BinaryEnum (c.in-BinaryEnum.type_id, c.in-BinaryEnum.ordinal) c.in-BinaryEnum.is))

pub returns-in-Null : goal.returns-in-Null
returns-in-Null g c = λ _.
    c.put_code.ensures ∙ ap (g.S.Output.after c.args.out.now c.args.into.now) (sym (Canon_row c.args.value.now code.Null tt c.in-Null.is))

pub returns-in-Objects : goal.returns-in-Objects
returns-in-Objects g c = λ is. absurd (leaf_row c.args.value.now code.Objects (c.in-Objects.type_id, (tt, c.in-Objects.items)) c.in-Objects.is is)

pub returns-in-Collection : goal.returns-in-Collection
returns-in-Collection g c = λ is. absurd (leaf_row c.args.value.now code.Collection (c.in-Collection.kind, c.in-Collection.items) c.in-Collection.is is)

pub returns-in-Map : goal.returns-in-Map
returns-in-Map g c = λ is. absurd (leaf_row c.args.value.now code.Map (c.in-Map.kind, c.in-Map.pairs) c.in-Map.is is)

pub returns-in-Enums : goal.returns-in-Enums
returns-in-Enums g c = λ is. absurd (leaf_row c.args.value.now code.Enums (c.in-Enums.type_id, (tt, c.in-Enums.items)) c.in-Enums.is is)

pub returns-in-Object : goal.returns-in-Object
returns-in-Object g c = λ is. absurd (leaf_row c.args.value.now code.Object c.in-Object.field-0 c.in-Object.is is)
