-- Each row of the table, and the measures.
use Rattle.std.proofs.Common.{◌≡◌, ◌++◌, ◌∷◌, List, ℕ, ℤ, map, sym, ap, ◌∙◌, arith}
use Rattle.std.proofs.lemmas.List.{append-nil}
use Rattle.std.proofs.lemmas.Result.{on_ok_weaker}
use Rattle.ig_value.specs.declared.code.Code.TheVariants as code
use Rattle.ig_value.specs.declared.value.Value.{Value}
use Rattle.ig_value.specs.declared.value.Value.TheVariants as value
use Rattle.ig_value.specs.Limits.{Depth, greatest, pair_depth}
use Rattle.ig_value.specs.Table.{value_with}
use Rattle.ig_value.proofs.DepthLemmas.{Depth_objects, Depth_collection, Depth_enums, Depth_map, Depth_object}
use Rattle.ig_text.specs.declared.row.Row.TheVariants.{Kind}
use Rattle.ig_value.specs.Part.{i8, i32}
use Rattle.ig_text.specs.PairText.{pair_text}
use Rattle.ig_text.specs.TextOf.{TextOf, entries, entry_text}
use Rattle.ig_text.specs.Tokens.{comma, close_bracket, close_brace, scalar_text, until_text, items_text}
use Rattle.ig_text.specs.Words.{word}
use Rattle.ig_text.proofs.LevelLemmas.{text_row}
use Rattle.ig_text.proofs.LoopLemmas.{opened}
use Rattle.ig_text.proofs.WriteLemmas.{later_within, item_within, entries_end}
use Rattle.ig_text.proofs.write.+put.Goals as goal

pub put_value-returns-in-Byte : goal.put_value-returns-in-Byte
put_value-returns-in-Byte t c = on_ok_weaker c.put_row.result (λ e. e ∙ ap (λ (l : List ℕ). c.args.out.now ++ l) (sym (text_row c.args.value.now code.Byte c.in-Byte.x c.in-Byte.is))) c.put_row.ensures

pub put_value-returns-in-Short : goal.put_value-returns-in-Short
put_value-returns-in-Short t c = on_ok_weaker c.put_row-in-Short.result (λ e. e ∙ ap (λ (l : List ℕ). c.args.out.now ++ l) (sym (text_row c.args.value.now code.Short c.in-Short.x c.in-Short.is))) c.put_row-in-Short.ensures

pub put_value-returns-in-Int : goal.put_value-returns-in-Int
put_value-returns-in-Int t c = on_ok_weaker c.put_row-in-Int.result (λ e. e ∙ ap (λ (l : List ℕ). c.args.out.now ++ l) (sym (text_row c.args.value.now code.Int c.in-Int.x c.in-Int.is))) c.put_row-in-Int.ensures

pub put_value-returns-in-Long : goal.put_value-returns-in-Long
put_value-returns-in-Long t c = on_ok_weaker c.put_row-in-Long.result (λ e. e ∙ ap (λ (l : List ℕ). c.args.out.now ++ l) (sym (text_row c.args.value.now code.Long c.in-Long.x c.in-Long.is))) c.put_row-in-Long.ensures

pub put_value-returns-in-Float : goal.put_value-returns-in-Float
put_value-returns-in-Float t c = on_ok_weaker c.put_row-in-Float.result (λ e. e ∙ ap (λ (l : List ℕ). c.args.out.now ++ l) (sym (text_row c.args.value.now code.Float c.in-Float.x c.in-Float.is))) c.put_row-in-Float.ensures

pub put_value-returns-in-Double : goal.put_value-returns-in-Double
put_value-returns-in-Double t c = on_ok_weaker c.put_row-in-Double.result (λ e. e ∙ ap (λ (l : List ℕ). c.args.out.now ++ l) (sym (text_row c.args.value.now code.Double c.in-Double.x c.in-Double.is))) c.put_row-in-Double.ensures

pub put_value-returns-in-Char : goal.put_value-returns-in-Char
put_value-returns-in-Char t c = on_ok_weaker c.put_row-in-Char.result (λ e. e ∙ ap (λ (l : List ℕ). c.args.out.now ++ l) (sym (text_row c.args.value.now code.Char c.in-Char.x c.in-Char.is))) c.put_row-in-Char.ensures

pub put_value-returns-in-Bool : goal.put_value-returns-in-Bool
put_value-returns-in-Bool t c = on_ok_weaker c.put_row-in-Bool.result (λ e. e ∙ ap (λ (l : List ℕ). c.args.out.now ++ l) (sym (text_row c.args.value.now code.Bool c.in-Bool.x c.in-Bool.is))) c.put_row-in-Bool.ensures

pub put_value-returns-in-Str : goal.put_value-returns-in-Str
put_value-returns-in-Str t c = on_ok_weaker c.put_row-in-Str.result (λ e. e ∙ ap (λ (l : List ℕ). c.args.out.now ++ l) (sym (text_row c.args.value.now code.Str c.in-Str.x c.in-Str.is))) c.put_row-in-Str.ensures

pub put_value-returns-in-Uuid : goal.put_value-returns-in-Uuid
put_value-returns-in-Uuid t c = on_ok_weaker c.put_row-in-Uuid.result (λ e. e ∙ ap (λ (l : List ℕ). c.args.out.now ++ l) (sym (text_row c.args.value.now code.Uuid c.in-Uuid.x c.in-Uuid.is))) c.put_row-in-Uuid.ensures

pub put_value-returns-in-Date : goal.put_value-returns-in-Date
put_value-returns-in-Date t c = on_ok_weaker c.put_row-in-Date.result (λ e. e ∙ ap (λ (l : List ℕ). c.args.out.now ++ l) (sym (text_row c.args.value.now code.Date c.in-Date.x c.in-Date.is))) c.put_row-in-Date.ensures

pub put_value-returns-in-Decimal : goal.put_value-returns-in-Decimal
put_value-returns-in-Decimal t c = on_ok_weaker c.put_row-in-Decimal.result (λ e. e ∙ ap (λ (l : List ℕ). c.args.out.now ++ l) (sym (text_row c.args.value.now code.Decimal c.in-Decimal.x c.in-Decimal.is))) c.put_row-in-Decimal.ensures

pub put_value-returns-in-Timestamp : goal.put_value-returns-in-Timestamp
put_value-returns-in-Timestamp t c = on_ok_weaker c.put_row-in-Timestamp.result (λ e. e ∙ ap (λ (l : List ℕ). c.args.out.now ++ l) (sym (text_row c.args.value.now code.Timestamp c.in-Timestamp.x c.in-Timestamp.is))) c.put_row-in-Timestamp.ensures

pub put_value-returns-in-Time : goal.put_value-returns-in-Time
put_value-returns-in-Time t c = on_ok_weaker c.put_row-in-Time.result (λ e. e ∙ ap (λ (l : List ℕ). c.args.out.now ++ l) (sym (text_row c.args.value.now code.Time c.in-Time.x c.in-Time.is))) c.put_row-in-Time.ensures

pub put_value-returns-in-Bytes : goal.put_value-returns-in-Bytes
put_value-returns-in-Bytes t c =
    let is = c.in-Bytes.is ∙ ap (λ l. value_with code.Bytes (tt, l)) (sym c.as_slice.ensures) in
    on_ok_weaker c.put_list.result (λ e. e ∙ ap (λ (l : List ℕ). c.args.out.now ++ l) (sym (text_row c.args.value.now code.Bytes (tt, c.as_slice.result.now) is))) c.put_list.ensures

pub put_value-returns-in-Shorts : goal.put_value-returns-in-Shorts
put_value-returns-in-Shorts t c =
    let is = c.in-Shorts.is ∙ ap (λ l. value_with code.Shorts (tt, l)) (sym c.as_slice-in-Shorts.ensures) in
    on_ok_weaker c.put_list-in-Shorts.result (λ e. e ∙ ap (λ (l : List ℕ). c.args.out.now ++ l) (sym (text_row c.args.value.now code.Shorts (tt, c.as_slice-in-Shorts.result.now) is))) c.put_list-in-Shorts.ensures

pub put_value-returns-in-Ints : goal.put_value-returns-in-Ints
put_value-returns-in-Ints t c =
    let is = c.in-Ints.is ∙ ap (λ l. value_with code.Ints (tt, l)) (sym c.as_slice-in-Ints.ensures) in
    on_ok_weaker c.put_list-in-Ints.result (λ e. e ∙ ap (λ (l : List ℕ). c.args.out.now ++ l) (sym (text_row c.args.value.now code.Ints (tt, c.as_slice-in-Ints.result.now) is))) c.put_list-in-Ints.ensures

pub put_value-returns-in-Longs : goal.put_value-returns-in-Longs
put_value-returns-in-Longs t c =
    let is = c.in-Longs.is ∙ ap (λ l. value_with code.Longs (tt, l)) (sym c.as_slice-in-Longs.ensures) in
    on_ok_weaker c.put_list-in-Longs.result (λ e. e ∙ ap (λ (l : List ℕ). c.args.out.now ++ l) (sym (text_row c.args.value.now code.Longs (tt, c.as_slice-in-Longs.result.now) is))) c.put_list-in-Longs.ensures

pub put_value-returns-in-Floats : goal.put_value-returns-in-Floats
put_value-returns-in-Floats t c =
    let is = c.in-Floats.is ∙ ap (λ l. value_with code.Floats (tt, l)) (sym c.as_slice-in-Floats.ensures) in
    on_ok_weaker c.put_list-in-Floats.result (λ e. e ∙ ap (λ (l : List ℕ). c.args.out.now ++ l) (sym (text_row c.args.value.now code.Floats (tt, c.as_slice-in-Floats.result.now) is))) c.put_list-in-Floats.ensures

pub put_value-returns-in-Doubles : goal.put_value-returns-in-Doubles
put_value-returns-in-Doubles t c =
    let is = c.in-Doubles.is ∙ ap (λ l. value_with code.Doubles (tt, l)) (sym c.as_slice-in-Doubles.ensures) in
    on_ok_weaker c.put_list-in-Doubles.result (λ e. e ∙ ap (λ (l : List ℕ). c.args.out.now ++ l) (sym (text_row c.args.value.now code.Doubles (tt, c.as_slice-in-Doubles.result.now) is))) c.put_list-in-Doubles.ensures

pub put_value-returns-in-Chars : goal.put_value-returns-in-Chars
put_value-returns-in-Chars t c =
    let is = c.in-Chars.is ∙ ap (λ l. value_with code.Chars (tt, l)) (sym c.as_slice-in-Chars.ensures) in
    on_ok_weaker c.put_list-in-Chars.result (λ e. e ∙ ap (λ (l : List ℕ). c.args.out.now ++ l) (sym (text_row c.args.value.now code.Chars (tt, c.as_slice-in-Chars.result.now) is))) c.put_list-in-Chars.ensures

pub put_value-returns-in-Bools : goal.put_value-returns-in-Bools
put_value-returns-in-Bools t c =
    let is = c.in-Bools.is ∙ ap (λ l. value_with code.Bools (tt, l)) (sym c.as_slice-in-Bools.ensures) in
    on_ok_weaker c.put_list-in-Bools.result (λ e. e ∙ ap (λ (l : List ℕ). c.args.out.now ++ l) (sym (text_row c.args.value.now code.Bools (tt, c.as_slice-in-Bools.result.now) is))) c.put_list-in-Bools.ensures

pub put_value-returns-in-Strs : goal.put_value-returns-in-Strs
put_value-returns-in-Strs t c =
    let is = c.in-Strs.is ∙ ap (λ l. value_with code.Strs (tt, l)) (sym c.as_slice-in-Strs.ensures) in
    on_ok_weaker c.put_list-in-Strs.result (λ e. e ∙ ap (λ (l : List ℕ). c.args.out.now ++ l) (sym (text_row c.args.value.now code.Strs (tt, c.as_slice-in-Strs.result.now) is))) c.put_list-in-Strs.ensures

pub put_value-returns-in-Uuids : goal.put_value-returns-in-Uuids
put_value-returns-in-Uuids t c =
    let is = c.in-Uuids.is ∙ ap (λ l. value_with code.Uuids (tt, l)) (sym c.as_slice-in-Uuids.ensures) in
    on_ok_weaker c.put_list-in-Uuids.result (λ e. e ∙ ap (λ (l : List ℕ). c.args.out.now ++ l) (sym (text_row c.args.value.now code.Uuids (tt, c.as_slice-in-Uuids.result.now) is))) c.put_list-in-Uuids.ensures

pub put_value-returns-in-Dates : goal.put_value-returns-in-Dates
put_value-returns-in-Dates t c =
    let is = c.in-Dates.is ∙ ap (λ l. value_with code.Dates (tt, l)) (sym c.as_slice-in-Dates.ensures) in
    on_ok_weaker c.put_list-in-Dates.result (λ e. e ∙ ap (λ (l : List ℕ). c.args.out.now ++ l) (sym (text_row c.args.value.now code.Dates (tt, c.as_slice-in-Dates.result.now) is))) c.put_list-in-Dates.ensures

pub put_value-returns-in-Decimals : goal.put_value-returns-in-Decimals
put_value-returns-in-Decimals t c =
    let is = c.in-Decimals.is ∙ ap (λ l. value_with code.Decimals (tt, l)) (sym c.as_slice-in-Decimals.ensures) in
    on_ok_weaker c.put_list-in-Decimals.result (λ e. e ∙ ap (λ (l : List ℕ). c.args.out.now ++ l) (sym (text_row c.args.value.now code.Decimals (tt, c.as_slice-in-Decimals.result.now) is))) c.put_list-in-Decimals.ensures

pub put_value-returns-in-Timestamps : goal.put_value-returns-in-Timestamps
put_value-returns-in-Timestamps t c =
    let is = c.in-Timestamps.is ∙ ap (λ l. value_with code.Timestamps (tt, l)) (sym c.as_slice-in-Timestamps.ensures) in
    on_ok_weaker c.put_list-in-Timestamps.result (λ e. e ∙ ap (λ (l : List ℕ). c.args.out.now ++ l) (sym (text_row c.args.value.now code.Timestamps (tt, c.as_slice-in-Timestamps.result.now) is))) c.put_list-in-Timestamps.ensures

pub put_value-returns-in-Times : goal.put_value-returns-in-Times
put_value-returns-in-Times t c =
    let is = c.in-Times.is ∙ ap (λ l. value_with code.Times (tt, l)) (sym c.as_slice-in-Times.ensures) in
    on_ok_weaker c.put_list-in-Times.result (λ e. e ∙ ap (λ (l : List ℕ). c.args.out.now ++ l) (sym (text_row c.args.value.now code.Times (tt, c.as_slice-in-Times.result.now) is))) c.put_list-in-Times.ensures

pub put_value-returns-in-Wrapped : goal.put_value-returns-in-Wrapped
put_value-returns-in-Wrapped t c = on_ok_weaker c.put_both.result (λ e. e ∙ ap (λ (l : List ℕ). c.args.out.now ++ l) (sym (text_row c.args.value.now code.Wrapped (c.in-Wrapped.bytes, c.in-Wrapped.offset) c.in-Wrapped.is))) c.put_both.ensures

pub put_value-returns-in-Enum : goal.put_value-returns-in-Enum
put_value-returns-in-Enum t c = on_ok_weaker c.put_both-in-Enum.result (λ e. e ∙ ap (λ (l : List ℕ). c.args.out.now ++ l) (sym (text_row c.args.value.now code.Enum (c.in-Enum.type_id, c.in-Enum.ordinal) c.in-Enum.is))) c.put_both-in-Enum.ensures

pub put_value-returns-in-BinaryEnum : goal.put_value-returns-in-BinaryEnum
put_value-returns-in-BinaryEnum t c = on_ok_weaker c.put_both-in-BinaryEnum.result (λ e. e ∙ ap (λ (l : List ℕ). c.args.out.now ++ l) (sym (text_row c.args.value.now code.BinaryEnum (c.in-BinaryEnum.type_id, c.in-BinaryEnum.ordinal) c.in-BinaryEnum.is))) c.put_both-in-BinaryEnum.ensures

pub put_value-returns-in-Null : goal.put_value-returns-in-Null
put_value-returns-in-Null t c =
    on_ok_weaker c.append.result
    (λ e. e ∙ ap (λ (l : List ℕ). c.args.out.now ++ l) (c.word.ensures ∙ sym (append-nil (word (Kind code.Null))) ∙ sym (text_row c.args.value.now code.Null tt c.in-Null.is))) c.append.ensures.ok

pub put_value-returns-in-Object : goal.put_value-returns-in-Object
put_value-returns-in-Object t c =
    let is = c.in-Object.is ∙ ap value.Object (sym c.get.ensures) in
    on_ok_weaker c.put_object.result (λ e. e ∙ ap (λ (l : List ℕ). c.args.out.now ++ l) (sym (text_row c.args.value.now code.Object c.get.result.now is))) c.put_object.ensures

pub put_value-returns-in_ok-put_opened-in-Objects : goal.put_value-returns-in_ok-put_opened-in-Objects
put_value-returns-in_ok-put_opened-in-Objects t c =
    let is = c.in-Objects.is ∙ ap (value.Objects c.in-Objects.type_id) (sym c.as_slice-in-Objects.ensures) in
    on_ok_weaker c.put_values.result
    (λ e. opened c.args.out.now c.put_opened.new.out c.put_values.new.out (word (Kind code.Objects)) (scalar_text i32 c.in-Objects.type_id) (items_text close_bracket TextOf c.as_slice-in-Objects.result.now) c.in_ok-put_opened-in-Objects.ensures e ∙ ap (λ (l : List ℕ). c.args.out.now ++ l) (sym (text_row c.args.value.now code.Objects (c.in-Objects.type_id, (tt, c.as_slice-in-Objects.result.now)) is))) c.put_values.ensures

pub put_value-put_values-requires : goal.put_value-put_values-requires
put_value-put_values-requires t c =
    let d = Depth_objects c.args.value.now c.in-Objects.type_id c.in-Objects.items c.in-Objects.is in
    let same = ap (λ (l : List Value). greatest (map Depth l)) c.as_slice-in-Objects.ensures in
    (omega (arith, same), tt)

pub put_value-returns-in_ok-put_opened-in-Collection : goal.put_value-returns-in_ok-put_opened-in-Collection
put_value-returns-in_ok-put_opened-in-Collection t c =
    let is = c.in-Collection.is ∙ ap (value.Collection c.in-Collection.kind) (sym c.as_slice-in-Collection.ensures) in
    on_ok_weaker c.put_values-in-Collection.result
    (λ e. opened c.args.out.now c.put_opened-in-Collection.new.out c.put_values-in-Collection.new.out (word (Kind code.Collection)) (scalar_text i8 c.in-Collection.kind) (items_text close_bracket TextOf c.as_slice-in-Collection.result.now) c.in_ok-put_opened-in-Collection.ensures e ∙ ap (λ (l : List ℕ). c.args.out.now ++ l) (sym (text_row c.args.value.now code.Collection (c.in-Collection.kind, c.as_slice-in-Collection.result.now) is))) c.put_values-in-Collection.ensures

pub put_value-put_values-requires-in-Collection : goal.put_value-put_values-requires-in-Collection
put_value-put_values-requires-in-Collection t c =
    let d = Depth_collection c.args.value.now c.in-Collection.kind c.in-Collection.items c.in-Collection.is in
    let same = ap (λ (l : List Value). greatest (map Depth l)) c.as_slice-in-Collection.ensures in
    (omega (arith, same), tt)

pub put_value-returns-in_ok-put_opened-in-Map : goal.put_value-returns-in_ok-put_opened-in-Map
put_value-returns-in_ok-put_opened-in-Map t c =
    let is = c.in-Map.is ∙ ap (value.Map c.in-Map.kind) (sym c.as_slice-in-Map.ensures) in
    on_ok_weaker c.put_pairs.result
    (λ e. opened c.args.out.now c.put_opened-in-Map.new.out c.put_pairs.new.out (word (Kind code.Map)) (scalar_text i8 c.in-Map.kind) (items_text close_bracket pair_text c.as_slice-in-Map.result.now) c.in_ok-put_opened-in-Map.ensures e ∙ ap (λ (l : List ℕ). c.args.out.now ++ l) (sym (text_row c.args.value.now code.Map (c.in-Map.kind, c.as_slice-in-Map.result.now) is))) c.put_pairs.ensures

pub put_value-put_pairs-requires : goal.put_value-put_pairs-requires
put_value-put_pairs-requires t c =
    let d = Depth_map c.args.value.now c.in-Map.kind c.in-Map.pairs c.in-Map.is in
    let same = ap (λ (l : List (Value × Value)). greatest (map pair_depth l)) c.as_slice-in-Map.ensures in
    (omega (arith, same), tt)

pub put_value-returns-in_ok-put_opened-in-Enums : goal.put_value-returns-in_ok-put_opened-in-Enums
put_value-returns-in_ok-put_opened-in-Enums t c =
    let is = c.in-Enums.is ∙ ap (value.Enums c.in-Enums.type_id) (sym c.as_slice-in-Enums.ensures) in
    on_ok_weaker c.put_values-in-Enums.result
    (λ e. opened c.args.out.now c.put_opened-in-Enums.new.out c.put_values-in-Enums.new.out (word (Kind code.Enums)) (scalar_text i32 c.in-Enums.type_id) (items_text close_bracket TextOf c.as_slice-in-Enums.result.now) c.in_ok-put_opened-in-Enums.ensures e ∙ ap (λ (l : List ℕ). c.args.out.now ++ l) (sym (text_row c.args.value.now code.Enums (c.in-Enums.type_id, (tt, c.as_slice-in-Enums.result.now)) is))) c.put_values-in-Enums.ensures

pub put_value-put_values-requires-in-Enums : goal.put_value-put_values-requires-in-Enums
put_value-put_values-requires-in-Enums t c =
    let d = Depth_enums c.args.value.now c.in-Enums.type_id c.in-Enums.items c.in-Enums.is in
    let same = ap (λ (l : List Value). greatest (map Depth l)) c.as_slice-in-Enums.ensures in
    (omega (arith, same), tt)

pub put_value-put_object-requires : goal.put_value-put_object-requires
put_value-put_object-requires t c =
    let d = Depth_object c.args.value.now c.get.result.now (c.in-Object.is ∙ ap value.Object (sym c.get.ensures)) in
    (omega arith, tt)

pub put_values-put_value-requires-in-loop-value : goal.put_values-put_value-requires-in-loop-value
put_values-put_value-requires-in-loop-value t c =
    let below = later_within Depth c.args.values.now c.in-Some.rest.now c.in-Some.first.now c.loop-value.value-index c.value-item.result c.in-Some.ensures.cases.0 c.loop-value-test.true c.value-item.is in
    (omega (arith, below), tt)

pub put_pairs-put_pair-requires-in-loop-pair : goal.put_pairs-put_pair-requires-in-loop-pair
put_pairs-put_pair-requires-in-loop-pair t c =
    let below = later_within pair_depth c.args.pairs.now c.in-Some.rest.now c.in-Some.first.now c.loop-pair.pair-index c.pair-item.result c.in-Some.ensures.cases.0 c.loop-pair-test.true c.pair-item.is in
    (omega (arith, below), tt)

pub put_more_entries-returns-in_default : goal.put_more_entries-returns-in_default
put_more_entries-returns-in_default t c =
    on_ok_weaker c.push.result
    (λ e. e
    ∙ entries_end close_brace (λ (entry : ℤ × Value). comma ∷ entry_text TextOf entry) c.args.ids.now c.args.fields.now c.loop-index.index c.loop-index.out
    (c.args.out.now ++ until_text close_brace (λ (entry : ℤ × Value). comma ∷ entry_text TextOf entry) (entries c.args.ids.now c.args.fields.now)) c.in_default.ensures.lookup.3 c.loop-index.invariant) c.push.ensures.ok

pub put_more_entries-put_entry-requires : goal.put_more_entries-put_entry-requires
put_more_entries-put_entry-requires t c =
    let below = item_within Depth c.args.fields.now c.loop-index.index c.in-Some.field.now c.in-Some.ensures.lookup.3.0 c.in-Some.ensures.lookup.1 in
    (omega (arith, below), tt)
