-- Each row of the table, and the loops.
use Rattle.std.proofs.Common.{rules, ◌≡◌, ℕ, ℤ, to_z, of_z, w32, ◌<◌, List, [], ◌∷◌, ◌++◌, length, Some, refl, sym, ap, ◌∙◌, arith}
use Rattle.ig_value.specs.declared.code.Code.TheVariants as code
use Rattle.ig_value.specs.declared.value.Value.{Value}
use Rattle.ig_value.specs.declared.value.Value.TheVariants as value
use Rattle.ig_value.specs.Part.{i8, i16, i32, i64, u16, u32, u64, truth}
use Rattle.ig_value.specs.Table.{value_with}
use Rattle.ig_text.specs.declared.fault.ReadError.{ReadError}
use Rattle.ig_text.specs.declared.row.Row.{Row}
use Rattle.ig_text.specs.declared.row.Row.TheVariants.{Kind, CompactObject}
use Rattle.ig_text.specs.Tokens.{colon, equals, close_bracket, close_brace}
use Rattle.ig_text.specs.TextOf.{entries}
use Rattle.ig_text.specs.Words.{word, row_at}
use Rattle.ig_text.specs.ReadText.{Read, alone, mapped_read, joined_at, entry_at, content_at, value_at, scalar_at, quoted_at, uuid_at, decimal_at, stamp_at, optional_at, next_at, any_at, items_at}
use Rattle.ig_text.specs.ReaderAnswers.{Fails}
use Rattle.ig_text.proofs.ReadsLemmas.{done}
use Rattle.ig_text.proofs.ReaderLoopLemmas.{until_closed, next_read, items_are}
use Rattle.ig_text.proofs.ReaderStopLemmas.{answers_by, comma_stops, next_stops, items_stop, until_stops, until_pushed}
use Rattle.ig_text.proofs.EntryLemmas.{apart, mapped_stops, entries_done, entries_long, entries_stop, entries_out, entries_first, pushed_same, entry_pushed}
use Rattle.ig_text.proofs.ValueLemmas.{told, listed, word_fits, word_read, word_wrong, level_none, code_at, by_code, code_stops}
use Rattle.ig_text.proofs.values.+value.Goals as goal

-- ---- values

pub values-returns-in-Some-after : goal.values-returns-in-Some-after
values-returns-in-Some-after t c =
    let R : List ℕ → Read Value = value_at c.args.levels in
    let s : List ℕ = c.args.text.now in
    let e = until_closed (next_at R) c.args.close (length c.in_ok-first.rest.now) c.loop.counter c.loop.rest.now c.in-Some-after.behind.now c.loop.read.items (any_at R c.args.close s) c.loop-test.true c.in-Some-after.ensures.some c.loop.invariant in
    answers_by _ c.counted.result _ _ (items_are R c.args.close s _ e) c.counted.ensures

pub values-returns-in_err-next : goal.values-returns-in_err-next
values-returns-in_err-next t c =
    let R : List ℕ → Read Value = value_at c.args.levels in
    let s : List ℕ = c.args.text.now in
    let wrong = comma_stops R c.loop.rest.now c.in_err-next.field-0.0 c.in_err-next.ensures in
    let fails : Fails c.in_err-next.field-0.0 (items_at R c.args.close s) =
    items_stop R c.args.close s c.in_err-next.field-0.0
    (until_stops (next_at R) c.args.close (length c.in_ok-first.rest.now) c.loop.counter c.loop.rest.now c.loop.read.items c.in_err-next.field-0.0 (any_at R c.args.close s) refl c.loop-test.true
    (c.in_default-after.ensures.none refl) wrong c.loop.invariant) in
    search rules

pub values-returns-in_err-item : goal.values-returns-in_err-item
values-returns-in_err-item t c =
    let R : List ℕ → Read Value = value_at c.args.levels in
    let s : List ℕ = c.args.text.now in
    let wrong = next_stops R c.loop.rest.now c.in_ok-next.next.now c.in_err-item.field-0.0 c.in_ok-next.ensures c.in_err-item.ensures in
    let fails : Fails c.in_err-item.field-0.0 (items_at R c.args.close s) =
    items_stop R c.args.close s c.in_err-item.field-0.0
    (until_stops (next_at R) c.args.close (length c.in_ok-first.rest.now) c.loop.counter c.loop.rest.now c.loop.read.items c.in_err-item.field-0.0 (any_at R c.args.close s) refl c.loop-test.true
    (c.in_default-after.ensures.none refl) wrong c.loop.invariant) in
    search rules

pub values-loop-preserved : goal.values-loop-preserved
values-loop-preserved t c =
    let R : List ℕ → Read Value = value_at c.args.levels in
    let one = next_read R c.loop.rest.now c.in_ok-next.next.now _ c.in_ok-next.ensures c.in_ok-item.ensures in
    until_pushed (next_at R) c.args.close (length c.in_ok-first.rest.now) c.loop.counter c.loop.rest.now c.loop.read.items c.push-in-loop.new.self.items c.in_ok-item.item c.in_ok-item.next.now (any_at R c.args.close c.args.text.now) refl
    c.loop-test.true (c.in_default-after.ensures.none refl) one c.in_ok-push-2.ensures.items c.loop.invariant

-- ---- pairs

pub pairs-returns-in-Some-after : goal.pairs-returns-in-Some-after
pairs-returns-in-Some-after t c =
    let R : List ℕ → Read (Value × Value) = joined_at (value_at c.args.levels) equals (value_at c.args.levels) in
    let s : List ℕ = c.args.text.now in
    let e = until_closed (next_at R) close_bracket (length c.in_ok-first.rest.now) c.loop.counter c.loop.rest.now c.in-Some-after.behind.now c.loop.read.items (any_at R close_bracket s) c.loop-test.true c.in-Some-after.ensures.some c.loop.invariant in
    answers_by _ c.counted.result _ _ (items_are R close_bracket s _ e) c.counted.ensures

pub pairs-returns-in_err-next : goal.pairs-returns-in_err-next
pairs-returns-in_err-next t c =
    let R : List ℕ → Read (Value × Value) = joined_at (value_at c.args.levels) equals (value_at c.args.levels) in
    let s : List ℕ = c.args.text.now in
    let wrong = comma_stops R c.loop.rest.now c.in_err-next.field-0.0 c.in_err-next.ensures in
    let fails : Fails c.in_err-next.field-0.0 (items_at R close_bracket s) =
    items_stop R close_bracket s c.in_err-next.field-0.0
    (until_stops (next_at R) close_bracket (length c.in_ok-first.rest.now) c.loop.counter c.loop.rest.now c.loop.read.items c.in_err-next.field-0.0 (any_at R close_bracket s) refl c.loop-test.true
    (c.in_default-after.ensures.none refl) wrong c.loop.invariant) in
    search rules

pub pairs-returns-in_err-item : goal.pairs-returns-in_err-item
pairs-returns-in_err-item t c =
    let R : List ℕ → Read (Value × Value) = joined_at (value_at c.args.levels) equals (value_at c.args.levels) in
    let s : List ℕ = c.args.text.now in
    let wrong = next_stops R c.loop.rest.now c.in_ok-next.next.now c.in_err-item.field-0.0 c.in_ok-next.ensures c.in_err-item.ensures in
    let fails : Fails c.in_err-item.field-0.0 (items_at R close_bracket s) =
    items_stop R close_bracket s c.in_err-item.field-0.0
    (until_stops (next_at R) close_bracket (length c.in_ok-first.rest.now) c.loop.counter c.loop.rest.now c.loop.read.items c.in_err-item.field-0.0 (any_at R close_bracket s) refl c.loop-test.true
    (c.in_default-after.ensures.none refl) wrong c.loop.invariant) in
    search rules

pub pairs-loop-preserved : goal.pairs-loop-preserved
pairs-loop-preserved t c =
    let R : List ℕ → Read (Value × Value) = joined_at (value_at c.args.levels) equals (value_at c.args.levels) in
    let one = next_read R c.loop.rest.now c.in_ok-next.next.now _ c.in_ok-next.ensures c.in_ok-item.ensures in
    until_pushed (next_at R) close_bracket (length c.in_ok-first.rest.now) c.loop.counter c.loop.rest.now c.loop.read.items c.push-in-loop.new.self.items c.in_ok-item.item c.in_ok-item.next.now (any_at R close_bracket c.args.text.now) refl
    c.loop-test.true (c.in_default-after.ensures.none refl) one c.in_ok-push-2.ensures.items c.loop.invariant

-- ---- the content of each code

pub content-returns-in-Byte : goal.content-returns-in-Byte
content-returns-in-Byte t c = by_code _ c.one.result c.args.levels c.args.text.now c.args.code code.Byte c.in-Byte.is (c.one.ensures (λ x. value_with code.Byte x) (λ x y p. search rules))

pub content-returns-in-Short : goal.content-returns-in-Short
content-returns-in-Short t c = by_code _ c.one-in-Short.result c.args.levels c.args.text.now c.args.code code.Short c.in-Short.is (c.one-in-Short.ensures (λ x. value_with code.Short x) (λ x y p. search rules))

pub content-returns-in-Int : goal.content-returns-in-Int
content-returns-in-Int t c = by_code _ c.one-in-Int.result c.args.levels c.args.text.now c.args.code code.Int c.in-Int.is (c.one-in-Int.ensures (λ x. value_with code.Int x) (λ x y p. search rules))

pub content-returns-in-Long : goal.content-returns-in-Long
content-returns-in-Long t c = by_code _ c.one-in-Long.result c.args.levels c.args.text.now c.args.code code.Long c.in-Long.is (c.one-in-Long.ensures (λ x. value_with code.Long x) (λ x y p. search rules))

pub content-returns-in-Float : goal.content-returns-in-Float
content-returns-in-Float t c = by_code _ c.one-in-Float.result c.args.levels c.args.text.now c.args.code code.Float c.in-Float.is (c.one-in-Float.ensures (λ x. value_with code.Float x) (λ x y p. search rules))

pub content-returns-in-Double : goal.content-returns-in-Double
content-returns-in-Double t c = by_code _ c.one-in-Double.result c.args.levels c.args.text.now c.args.code code.Double c.in-Double.is (c.one-in-Double.ensures (λ x. value_with code.Double x) (λ x y p. search rules))

pub content-returns-in-Char : goal.content-returns-in-Char
content-returns-in-Char t c = by_code _ c.one-in-Char.result c.args.levels c.args.text.now c.args.code code.Char c.in-Char.is (c.one-in-Char.ensures (λ x. value_with code.Char x) (λ x y p. search rules))

pub content-returns-in-Bool : goal.content-returns-in-Bool
content-returns-in-Bool t c = by_code _ c.one-in-Bool.result c.args.levels c.args.text.now c.args.code code.Bool c.in-Bool.is (c.one-in-Bool.ensures (λ x. value_with code.Bool x) (λ x y p. search rules))

pub content-returns-in-Str : goal.content-returns-in-Str
content-returns-in-Str t c = by_code _ c.one-in-Str.result c.args.levels c.args.text.now c.args.code code.Str c.in-Str.is (c.one-in-Str.ensures (λ x. value_with code.Str x) (λ x y p. search rules))

pub content-returns-in-Uuid : goal.content-returns-in-Uuid
content-returns-in-Uuid t c = by_code _ c.one-in-Uuid.result c.args.levels c.args.text.now c.args.code code.Uuid c.in-Uuid.is (c.one-in-Uuid.ensures (λ x. value_with code.Uuid x) (λ x y p. search rules))

pub content-returns-in-Date : goal.content-returns-in-Date
content-returns-in-Date t c = by_code _ c.one-in-Date.result c.args.levels c.args.text.now c.args.code code.Date c.in-Date.is (c.one-in-Date.ensures (λ x. value_with code.Date x) (λ x y p. search rules))

pub content-returns-in-Decimal : goal.content-returns-in-Decimal
content-returns-in-Decimal t c = by_code _ c.one-in-Decimal.result c.args.levels c.args.text.now c.args.code code.Decimal c.in-Decimal.is (c.one-in-Decimal.ensures (λ x. value_with code.Decimal x) (λ x y p. search rules))

pub content-returns-in-Timestamp : goal.content-returns-in-Timestamp
content-returns-in-Timestamp t c = by_code _ c.one-in-Timestamp.result c.args.levels c.args.text.now c.args.code code.Timestamp c.in-Timestamp.is (c.one-in-Timestamp.ensures (λ x. value_with code.Timestamp x) (λ x y p. search rules))

pub content-returns-in-Time : goal.content-returns-in-Time
content-returns-in-Time t c = by_code _ c.one-in-Time.result c.args.levels c.args.text.now c.args.code code.Time c.in-Time.is (c.one-in-Time.ensures (λ x. value_with code.Time x) (λ x y p. search rules))

pub content-returns-in-Bytes : goal.content-returns-in-Bytes
content-returns-in-Bytes t c =
    by_code _ c.list.result c.args.levels c.args.text.now c.args.code code.Bytes c.in-Bytes.is
    (told _ c.list.result _ _ (listed (value_with code.Bytes) (items_at (scalar_at i8) close_bracket c.args.text.now)) (c.list.ensures (λ xs. value_with code.Bytes (alone xs)) (λ x y p. search rules)))

pub content-returns-in-Shorts : goal.content-returns-in-Shorts
content-returns-in-Shorts t c =
    by_code _ c.list-in-Shorts.result c.args.levels c.args.text.now c.args.code code.Shorts c.in-Shorts.is
    (told _ c.list-in-Shorts.result _ _ (listed (value_with code.Shorts) (items_at (scalar_at i16) close_bracket c.args.text.now)) (c.list-in-Shorts.ensures (λ xs. value_with code.Shorts (alone xs)) (λ x y p. search rules)))

pub content-returns-in-Ints : goal.content-returns-in-Ints
content-returns-in-Ints t c =
    by_code _ c.list-in-Ints.result c.args.levels c.args.text.now c.args.code code.Ints c.in-Ints.is
    (told _ c.list-in-Ints.result _ _ (listed (value_with code.Ints) (items_at (scalar_at i32) close_bracket c.args.text.now)) (c.list-in-Ints.ensures (λ xs. value_with code.Ints (alone xs)) (λ x y p. search rules)))

pub content-returns-in-Longs : goal.content-returns-in-Longs
content-returns-in-Longs t c =
    by_code _ c.list-in-Longs.result c.args.levels c.args.text.now c.args.code code.Longs c.in-Longs.is
    (told _ c.list-in-Longs.result _ _ (listed (value_with code.Longs) (items_at (scalar_at i64) close_bracket c.args.text.now)) (c.list-in-Longs.ensures (λ xs. value_with code.Longs (alone xs)) (λ x y p. search rules)))

pub content-returns-in-Floats : goal.content-returns-in-Floats
content-returns-in-Floats t c =
    by_code _ c.list-in-Floats.result c.args.levels c.args.text.now c.args.code code.Floats c.in-Floats.is
    (told _ c.list-in-Floats.result _ _ (listed (value_with code.Floats) (items_at (scalar_at u32) close_bracket c.args.text.now)) (c.list-in-Floats.ensures (λ xs. value_with code.Floats (alone xs)) (λ x y p. search rules)))

pub content-returns-in-Doubles : goal.content-returns-in-Doubles
content-returns-in-Doubles t c =
    by_code _ c.list-in-Doubles.result c.args.levels c.args.text.now c.args.code code.Doubles c.in-Doubles.is
    (told _ c.list-in-Doubles.result _ _ (listed (value_with code.Doubles) (items_at (scalar_at u64) close_bracket c.args.text.now)) (c.list-in-Doubles.ensures (λ xs. value_with code.Doubles (alone xs)) (λ x y p. search rules)))

pub content-returns-in-Chars : goal.content-returns-in-Chars
content-returns-in-Chars t c =
    by_code _ c.list-in-Chars.result c.args.levels c.args.text.now c.args.code code.Chars c.in-Chars.is
    (told _ c.list-in-Chars.result _ _ (listed (value_with code.Chars) (items_at (scalar_at u16) close_bracket c.args.text.now)) (c.list-in-Chars.ensures (λ xs. value_with code.Chars (alone xs)) (λ x y p. search rules)))

pub content-returns-in-Bools : goal.content-returns-in-Bools
content-returns-in-Bools t c =
    by_code _ c.list-in-Bools.result c.args.levels c.args.text.now c.args.code code.Bools c.in-Bools.is
    (told _ c.list-in-Bools.result _ _ (listed (value_with code.Bools) (items_at (scalar_at truth) close_bracket c.args.text.now)) (c.list-in-Bools.ensures (λ xs. value_with code.Bools (alone xs)) (λ x y p. search rules)))

pub content-returns-in-Strs : goal.content-returns-in-Strs
content-returns-in-Strs t c =
    by_code _ c.list-in-Strs.result c.args.levels c.args.text.now c.args.code code.Strs c.in-Strs.is
    (told _ c.list-in-Strs.result _ _ (listed (value_with code.Strs) (items_at (optional_at quoted_at) close_bracket c.args.text.now)) (c.list-in-Strs.ensures (λ xs. value_with code.Strs (alone xs)) (λ x y p. search rules)))

pub content-returns-in-Uuids : goal.content-returns-in-Uuids
content-returns-in-Uuids t c =
    by_code _ c.list-in-Uuids.result c.args.levels c.args.text.now c.args.code code.Uuids c.in-Uuids.is
    (told _ c.list-in-Uuids.result _ _ (listed (value_with code.Uuids) (items_at (optional_at uuid_at) close_bracket c.args.text.now)) (c.list-in-Uuids.ensures (λ xs. value_with code.Uuids (alone xs)) (λ x y p. search rules)))

pub content-returns-in-Dates : goal.content-returns-in-Dates
content-returns-in-Dates t c =
    by_code _ c.list-in-Dates.result c.args.levels c.args.text.now c.args.code code.Dates c.in-Dates.is
    (told _ c.list-in-Dates.result _ _ (listed (value_with code.Dates) (items_at (optional_at (scalar_at i64)) close_bracket c.args.text.now)) (c.list-in-Dates.ensures (λ xs. value_with code.Dates (alone xs)) (λ x y p. search rules)))

pub content-returns-in-Decimals : goal.content-returns-in-Decimals
content-returns-in-Decimals t c =
    by_code _ c.list-in-Decimals.result c.args.levels c.args.text.now c.args.code code.Decimals c.in-Decimals.is
    (told _ c.list-in-Decimals.result _ _ (listed (value_with code.Decimals) (items_at (optional_at decimal_at) close_bracket c.args.text.now)) (c.list-in-Decimals.ensures (λ xs. value_with code.Decimals (alone xs)) (λ x y p. search rules)))

pub content-returns-in-Timestamps : goal.content-returns-in-Timestamps
content-returns-in-Timestamps t c =
    by_code _ c.list-in-Timestamps.result c.args.levels c.args.text.now c.args.code code.Timestamps c.in-Timestamps.is
    (told _ c.list-in-Timestamps.result _ _ (listed (value_with code.Timestamps) (items_at (optional_at stamp_at) close_bracket c.args.text.now)) (c.list-in-Timestamps.ensures (λ xs. value_with code.Timestamps (alone xs)) (λ x y p. search rules)))

pub content-returns-in-Times : goal.content-returns-in-Times
content-returns-in-Times t c =
    by_code _ c.list-in-Times.result c.args.levels c.args.text.now c.args.code code.Times c.in-Times.is
    (told _ c.list-in-Times.result _ _ (listed (value_with code.Times) (items_at (optional_at (scalar_at i64)) close_bracket c.args.text.now)) (c.list-in-Times.ensures (λ xs. value_with code.Times (alone xs)) (λ x y p. search rules)))

pub content-returns-in-Objects : goal.content-returns-in-Objects
content-returns-in-Objects t c = by_code _ c.objects.result c.args.levels c.args.text.now c.args.code code.Objects c.in-Objects.is c.objects.ensures

pub content-returns-in-Collection : goal.content-returns-in-Collection
content-returns-in-Collection t c = by_code _ c.collection.result c.args.levels c.args.text.now c.args.code code.Collection c.in-Collection.is c.collection.ensures

pub content-returns-in-Map : goal.content-returns-in-Map
content-returns-in-Map t c = by_code _ c.map.result c.args.levels c.args.text.now c.args.code code.Map c.in-Map.is c.map.ensures

pub content-returns-in-Wrapped : goal.content-returns-in-Wrapped
content-returns-in-Wrapped t c = by_code _ c.wrapped.result c.args.levels c.args.text.now c.args.code code.Wrapped c.in-Wrapped.is c.wrapped.ensures

pub content-returns-in-Enums : goal.content-returns-in-Enums
content-returns-in-Enums t c = by_code _ c.enums.result c.args.levels c.args.text.now c.args.code code.Enums c.in-Enums.is c.enums.ensures

pub content-returns-in-Object : goal.content-returns-in-Object
content-returns-in-Object t c = by_code _ c.named.result c.args.levels c.args.text.now c.args.code code.Object c.in-Object.is c.named.ensures

pub content-returns-in-Null : goal.content-returns-in-Null
content-returns-in-Null t c = code_at c.args.levels c.args.text.now c.args.code code.Null c.in-Null.is

pub content-returns-in_ok-type_id-in-Enum : goal.content-returns-in_ok-type_id-in-Enum
content-returns-in_ok-type_id-in-Enum t c =
    let type : to_z w32 (of_z w32 c.in_ok-type_id-in-Enum.type_id) ≡ c.in_ok-type_id-in-Enum.type_id = search rules in
    let ordinal : to_z w32 (of_z w32 c.in_ok-type_id-in-Enum.ordinal) ≡ c.in_ok-type_id-in-Enum.ordinal = search rules in
    code_at c.args.levels c.args.text.now c.args.code code.Enum c.in-Enum.is ∙ ap (mapped_read (value_with code.Enum)) c.in_ok-type_id-in-Enum.ensures ∙ ap (λ (n : ℤ). done (value.Enum n c.in_ok-type_id-in-Enum.ordinal, c.in_ok-type_id-in-Enum.rest.now)) (sym type)
    ∙ ap (λ (n : ℤ). done (value.Enum (to_z w32 (of_z w32 c.in_ok-type_id-in-Enum.type_id)) n, c.in_ok-type_id-in-Enum.rest.now)) (sym ordinal)

pub content-returns-in_err-type_id-in-Enum : goal.content-returns-in_err-type_id-in-Enum
content-returns-in_err-type_id-in-Enum t c =
    let s : List ℕ = c.args.text.now in
    let e : ReadError = c.in_err-type_id-in-Enum.field-0.0 in
    let fails : Fails e (content_at (value_at c.args.levels) (Kind c.args.code) s) =
    code_stops c.args.levels s c.args.code code.Enum e c.in-Enum.is (mapped_stops (value_with code.Enum) (joined_at (scalar_at i32) colon (scalar_at i32) s) e c.in_err-type_id-in-Enum.ensures) in
    search rules

pub content-returns-in_ok-type_id-in-BinaryEnum : goal.content-returns-in_ok-type_id-in-BinaryEnum
content-returns-in_ok-type_id-in-BinaryEnum t c =
    let type : to_z w32 (of_z w32 c.in_ok-type_id-in-BinaryEnum.type_id) ≡ c.in_ok-type_id-in-BinaryEnum.type_id = search rules in
    let ordinal : to_z w32 (of_z w32 c.in_ok-type_id-in-BinaryEnum.ordinal) ≡ c.in_ok-type_id-in-BinaryEnum.ordinal = search rules in
    code_at c.args.levels c.args.text.now c.args.code code.BinaryEnum c.in-BinaryEnum.is ∙ ap (mapped_read (value_with code.BinaryEnum)) c.in_ok-type_id-in-BinaryEnum.ensures ∙ ap (λ (n : ℤ). done (value.BinaryEnum n c.in_ok-type_id-in-BinaryEnum.ordinal, c.in_ok-type_id-in-BinaryEnum.rest.now)) (sym type)
    ∙ ap (λ (n : ℤ). done (value.BinaryEnum (to_z w32 (of_z w32 c.in_ok-type_id-in-BinaryEnum.type_id)) n, c.in_ok-type_id-in-BinaryEnum.rest.now)) (sym ordinal)

pub content-returns-in_err-type_id-in-BinaryEnum : goal.content-returns-in_err-type_id-in-BinaryEnum
content-returns-in_err-type_id-in-BinaryEnum t c =
    let s : List ℕ = c.args.text.now in
    let e : ReadError = c.in_err-type_id-in-BinaryEnum.field-0.0 in
    let fails : Fails e (content_at (value_at c.args.levels) (Kind c.args.code) s) =
    code_stops c.args.levels s c.args.code code.BinaryEnum e c.in-BinaryEnum.is (mapped_stops (value_with code.BinaryEnum) (joined_at (scalar_at i32) colon (scalar_at i32) s) e c.in_err-type_id-in-BinaryEnum.ensures) in
    search rules

-- ---- value

pub value-returns-then-levels-eq0 : goal.value-returns-then-levels-eq0
value-returns-then-levels-eq0 t c = level_none c.args.levels c.args.text.now c.if-levels-eq0.true

pub value-split_at-requires : goal.value-split_at-requires
value-split_at-requires t c =
    let s : List ℕ = c.args.text.now in
    let asked : c.row_at.result ≡ row_at s = c.row_at.ensures in
    omega (arith, word_fits s c.in-Some.row (sym asked ∙ c.in-Some.is), ap length c.word.ensures)

pub value-returns-in_default : goal.value-returns-in_default
value-returns-in_default t c =
    let s : List ℕ = c.args.text.now in
    let asked : c.row_at.result ≡ row_at s = c.row_at.ensures in
    let some : 0 < c.args.levels = omega (arith, c.if-levels-eq0.false) in
    word_wrong c.args.levels s some (sym asked ∙ c.in_default.is)

pub value-returns-in-Kind : goal.value-returns-in-Kind
value-returns-in-Kind t c =
    let s : List ℕ = c.args.text.now in
    let asked : c.row_at.result ≡ row_at s = c.row_at.ensures in
    let some : 0 < c.args.levels = omega (arith, c.if-levels-eq0.false) in
    let row : row_at s ≡ Some (Kind c.in-Kind.code) = sym asked ∙ c.in-Some.is ∙ ap (λ (r : Row). Some r) c.in-Kind.is in
    let size : length c.word.result.now ≡ length (word (Kind c.in-Kind.code)) = ap length c.word.ensures ∙ ap (λ (r : Row). length (word r)) c.in-Kind.is in
    answers_by _ c.content.result _ _ (word_read c.args.levels (length c.word.result.now) s c.split_at.result.1.now (Kind c.in-Kind.code) some row size c.split_at.ensures.back) c.content.ensures

pub value-returns-in-CompactObject : goal.value-returns-in-CompactObject
value-returns-in-CompactObject t c =
    let s : List ℕ = c.args.text.now in
    let asked : c.row_at.result ≡ row_at s = c.row_at.ensures in
    let some : 0 < c.args.levels = omega (arith, c.if-levels-eq0.false) in
    let row : row_at s ≡ Some CompactObject = sym asked ∙ c.in-Some.is ∙ ap (λ (r : Row). Some r) c.in-CompactObject.is in
    let size : length c.word.result.now ≡ length (word CompactObject) = ap length c.word.ensures ∙ ap (λ (r : Row). length (word r)) c.in-CompactObject.is in
    answers_by _ c.compact.result _ _ (word_read c.args.levels (length c.word.result.now) s c.split_at.result.1.now CompactObject some row size c.split_at.ensures.back) c.compact.ensures

-- ---- entries

pub entries-returns-in-Some-after : goal.entries-returns-in-Some-after
entries-returns-in-Some-after t c =
    let R : List ℕ → Read (ℤ × Value) = entry_at (value_at c.args.levels) in
    let s : List ℕ = c.args.text.now in
    let read : List (ℤ × Value) = entries c.loop.ids.items c.loop.fields.items in
    let e = until_closed (next_at R) close_brace (length c.in_ok-id.rest.now) c.loop.counter c.loop.rest.now c.in-Some-after.behind.now read (any_at R close_brace s) c.loop-test.true c.in-Some-after.ensures.some c.loop.invariant.so_far in
    entries_done R close_brace s c.loop.ids.items c.loop.fields.items c.in_ok-fields.fields c.in-Some-after.behind.now c.in_ok-fields.rest.now c.loop.invariant.same e c.in_ok-fields.ensures
    ∙ ap (λ (l : List ℤ). done ((l, c.in_ok-fields.fields), c.in_ok-fields.rest.now)) (sym c.new-in-Some-after.ensures)

pub entries-returns-in_err-fields : goal.entries-returns-in_err-fields
entries-returns-in_err-fields t c =
    let R : List ℕ → Read (ℤ × Value) = entry_at (value_at c.args.levels) in
    let s : List ℕ = c.args.text.now in
    let read : List (ℤ × Value) = entries c.loop.ids.items c.loop.fields.items in
    let e = until_closed (next_at R) close_brace (length c.in_ok-id.rest.now) c.loop.counter c.loop.rest.now c.in-Some-after.behind.now read (any_at R close_brace s) c.loop-test.true c.in-Some-after.ensures.some c.loop.invariant.so_far in
    let fails : Fails c.in_err-fields.field-0.0 (mapped_read apart (items_at R close_brace s)) =
    entries_long R close_brace s c.loop.ids.items c.loop.fields.items c.in-Some-after.behind.now c.in_err-fields.field-0.0 c.loop.invariant.same e c.in_err-fields.ensures in
    search rules

pub entries-returns-in_err-next : goal.entries-returns-in_err-next
entries-returns-in_err-next t c =
    let R : List ℕ → Read (ℤ × Value) = entry_at (value_at c.args.levels) in
    let s : List ℕ = c.args.text.now in
    let read : List (ℤ × Value) = entries c.loop.ids.items c.loop.fields.items in
    let wrong = comma_stops R c.loop.rest.now c.in_err-next.field-0.0 c.in_err-next.ensures in
    let fails : Fails c.in_err-next.field-0.0 (mapped_read apart (items_at R close_brace s)) =
    entries_stop R close_brace s c.in_err-next.field-0.0
    (until_stops (next_at R) close_brace (length c.in_ok-id.rest.now) c.loop.counter c.loop.rest.now read c.in_err-next.field-0.0 (any_at R close_brace s) refl c.loop-test.true
    (c.in_default-after.ensures.none refl) wrong c.loop.invariant.so_far) in
    search rules

pub entries-returns-in_err-id-2 : goal.entries-returns-in_err-id-2
entries-returns-in_err-id-2 t c =
    let R : List ℕ → Read (ℤ × Value) = entry_at (value_at c.args.levels) in
    let s : List ℕ = c.args.text.now in
    let read : List (ℤ × Value) = entries c.loop.ids.items c.loop.fields.items in
    let wrong = next_stops R c.loop.rest.now c.in_ok-next.next.now c.in_err-id-2.field-0.0 c.in_ok-next.ensures c.in_err-id-2.ensures in
    let fails : Fails c.in_err-id-2.field-0.0 (mapped_read apart (items_at R close_brace s)) =
    entries_stop R close_brace s c.in_err-id-2.field-0.0
    (until_stops (next_at R) close_brace (length c.in_ok-id.rest.now) c.loop.counter c.loop.rest.now read c.in_err-id-2.field-0.0 (any_at R close_brace s) refl c.loop-test.true
    (c.in_default-after.ensures.none refl) wrong c.loop.invariant.so_far) in
    search rules

pub entries-returns : goal.entries-returns
entries-returns t c =
    let R : List ℕ → Read (ℤ × Value) = entry_at (value_at c.args.levels) in
    entries_out R (next_at R) close_brace (length c.in_ok-id.rest.now) c.loop.counter (length c.loop.rest.now) c.args.text.now c.loop.rest.now (entries c.loop.ids.items c.loop.fields.items) c.loop-test.false c.loop.invariant.so_far refl

pub entries-loop-preserved : goal.entries-loop-preserved
entries-loop-preserved t c =
    let R : List ℕ → Read (ℤ × Value) = entry_at (value_at c.args.levels) in
    let one = next_read R c.loop.rest.now c.in_ok-next.next.now _ c.in_ok-next.ensures c.in_ok-id-2.ensures in
    let id : to_z w32 (of_z w32 c.in_ok-id-2.id) ≡ c.in_ok-id-2.id = search rules in
    let pushed : c.push-in-loop.new.self.items ≡ c.loop.ids.items ++ to_z w32 (of_z w32 c.in_ok-id-2.id) ∷ [] = c.in_ok-push-3.ensures.items in
    let p : c.push-in-loop.new.self.items ≡ c.loop.ids.items ++ c.in_ok-id-2.id ∷ [] = pushed ∙ ap (λ (n : ℤ). c.loop.ids.items ++ n ∷ []) id in
    record {
      same = pushed_same c.loop.ids.items c.push-in-loop.new.self.items c.loop.fields.items c.push-in-loop-2.new.self.items c.in_ok-id-2.id c.in_ok-id-2.field c.loop.invariant.same p c.in_ok-push-4.ensures.items;
      so_far =
          entry_pushed (next_at R) close_brace (length c.in_ok-id.rest.now) c.loop.counter c.loop.rest.now c.loop.ids.items c.push-in-loop.new.self.items c.loop.fields.items c.push-in-loop-2.new.self.items
          c.in_ok-id-2.id c.in_ok-id-2.field c.in_ok-id-2.next.now (any_at R close_brace c.args.text.now) c.loop.invariant.same refl c.loop-test.true (c.in_default-after.ensures.none refl) one p
          c.in_ok-push-4.ensures.items c.loop.invariant.so_far;
    }

pub entries-loop-init : goal.entries-loop-init
entries-loop-init t c =
    let R : List ℕ → Read (ℤ × Value) = entry_at (value_at c.args.levels) in
    let id : to_z w32 (of_z w32 c.in_ok-id.id) ≡ c.in_ok-id.id = search rules in
    let pushed : c.push.new.self.items ≡ c.new-ids.result.items ++ to_z w32 (of_z w32 c.in_ok-id.id) ∷ [] = c.in_ok-push.ensures.items in
    let p : c.push.new.self.items ≡ c.in_ok-id.id ∷ [] = pushed ∙ ap (λ (n : ℤ). c.new-ids.result.items ++ n ∷ []) id ∙ ap (λ (l : List ℤ). l ++ c.in_ok-id.id ∷ []) c.new-ids.ensures.items in
    let q : c.push-2.new.self.items ≡ c.in_ok-id.field ∷ [] = c.in_ok-push-2.ensures.items ∙ ap (λ (l : List Value). l ++ c.in_ok-id.field ∷ []) c.new-fields.ensures.items in
    record {
      same = ap length p ∙ sym (ap length q);
      so_far = entries_first R close_brace c.args.text.now c.in_ok-id.rest.now c.push.new.self.items c.push-2.new.self.items c.in_ok-id.id c.in_ok-id.field p q c.in_ok-id.ensures (c.in_default.ensures.none refl);
    }
