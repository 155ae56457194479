-- Each row of the table, the loops, and objects.
use Rattle.std.proofs.Common.{◌≡◌, None, rules, ◌+◌, length, length-drop, ℕ, List, ◌∷◌, ◌++◌, ◌∙◌, ap, subst, Ok, refl, sym, arith}
use Rattle.std.proofs.lemmas.Result.{err_from_is_err_and}
use Rattle.ig_value.specs.declared.code.Code.{Code}
use Rattle.ig_value.specs.declared.code.Code.TheVariants as code
use Rattle.ig_value.specs.declared.Value.TheVariants as value
use Rattle.ig_value.specs.Canon.{Canon}
use Rattle.ig_value.specs.Table.{byte_of, value_with}
use Rattle.ig_value.specs.Reading.{value_at, many_at, both_at, mapped_read, object_at}
use Rattle.ig_decode.specs.ReaderAnswers.{ReaderAnswers}
use Rattle.ig_decode.proofs.ExactLemmas.{both_exact, next_exact}
use Rattle.ig_decode.proofs.LoopLemmas.{one_read, one_failed, all_read}
use Rattle.ig_decode.proofs.PairLemmas.{both_found, first_fails, second_fails}
use Rattle.ig_decode.proofs.RowExactLemmas.{arm_exact, arm_inside, collection_exact, map_exact, objects_exact, enums_exact}
use Rattle.ig_decode.specs.FooterForms.{offsets_type, key_bytes, entry_bytes, last_offset}
use Rattle.ig_decode.proofs.FieldsLemmas.{field_fails, one_field, next_last}
use Rattle.ig_decode.proofs.ObjectAtLemmas.{room_for_one, room_left}
use Rattle.ig_decode.proofs.ReadLemmas.{field_left, may_follow, same_record, alone_kept, object_kept}
use Rattle.std.specs.Int.{w32}
use Rattle.std.proofs.lemmas.Int.{to_z-of_z}
use Rattle.ig_value.specs.declared.object.Record.{Record}
use Rattle.ig_value.specs.declared.Value.{Value}
use Rattle.ig_value.specs.Objects.{kept_flags}
use Rattle.ig_value.specs.Reading.{alone}
use Rattle.ig_value.proofs.HeaderLemmas.{header_there}
use Rattle.ig_value.proofs.SpelledObjectLemmas.{header_fits}
use Rattle.ig_decode.specs.Exactness.{KeepsExact}
use Rattle.ig_decode.specs.ObjectAnswers.{IsLaidOut, IsShapeIn}
use Rattle.ig_decode.proofs.PartsLemmas.{alone_read, shape_right, shape_wrong, object_read, object_fails}
use Rattle.ig_decode.proofs.value.+value.Goals as goal

-- ---- the loops

pub values_of-returns-in_err-value-clause-reads : goal.values_of-returns-in_err-value-clause-reads
values_of-returns-in_err-value-clause-reads t c =
    let p = err_from_is_err_and c.from_residual-in_err-value.result c.from_residual-in_err-value.ensures.1 in
    let one = value_at c.args.levels in
    let less = c.take_one.ensures.more c.each-test.true in
    rw (p.1, p.2) (one_failed one c.in_err-value.field-0.0 c.each.values.items c.each.left.items c.take_one.new.self.items c.each.rest.now (many_at one c.args.count.items c.args.bytes.now) less c.in_err-value.ensures.reads c.each.invariant.reads)

pub values_of-each-preserved : goal.values_of-each-preserved
values_of-each-preserved t c =
    let one = value_at c.args.levels in
    let less = c.take_one.ensures.more c.each-test.true in
    record {
      reads = rw c.in_ok-push.ensures.items
          (one_read one c.each.values.items c.each.left.items c.take_one.new.self.items c.each.rest.now c.in_ok-value.value c.in_ok-value.after.now (many_at one c.args.count.items c.args.bytes.now) less c.in_ok-value.ensures.reads c.each.invariant.reads);
      exact = rw c.in_ok-push.ensures.items
          (next_exact Canon _ _ _ c.args.bytes.now c.each.values.items c.each.rest.now c.in_ok-value.value c.in_ok-value.after.now c.each.invariant.exact c.in_ok-value.ensures.exact);
    }

pub values_of-returns-clause-reads : goal.values_of-returns-clause-reads
values_of-returns-clause-reads t c =
    let none = c.take_one.ensures.none c.each-test.false in
    rw c.new.ensures (all_read (value_at c.args.levels) c.each.values.items c.each.left.items c.each.rest.now (many_at (value_at c.args.levels) c.args.count.items c.args.bytes.now) none c.each.invariant.reads)

pub values_of-returns-clause-exact : goal.values_of-returns-clause-exact
values_of-returns-clause-exact t c = rw c.new.ensures c.each.invariant.exact

pub pairs_of-returns-in_err-key-clause-reads : goal.pairs_of-returns-in_err-key-clause-reads
pairs_of-returns-in_err-key-clause-reads t c =
    let p = err_from_is_err_and c.from_residual-in_err-key.result c.from_residual-in_err-key.ensures.1 in
    let inner = value_at c.args.levels in
    let less = c.take_one.ensures.more c.each-test.true in
    rw (p.1, p.2) (one_failed (both_at inner inner) c.in_err-key.field-0.0 c.each.pairs.items c.each.left.items c.take_one.new.self.items c.each.rest.now (many_at (both_at inner inner) c.args.count.items c.args.bytes.now) less
    (first_fails c.in_err-key.field-0.0 inner inner c.each.rest.now c.in_err-key.ensures.reads) c.each.invariant.reads)

pub pairs_of-returns-in_err-value-clause-reads : goal.pairs_of-returns-in_err-value-clause-reads
pairs_of-returns-in_err-value-clause-reads t c =
    let p = err_from_is_err_and c.from_residual-in_err-value.result c.from_residual-in_err-value.ensures.1 in
    let inner = value_at c.args.levels in
    let less = c.take_one.ensures.more c.each-test.true in
    rw (p.1, p.2) (one_failed (both_at inner inner) c.in_err-value.field-0.0 c.each.pairs.items c.each.left.items c.take_one.new.self.items c.each.rest.now (many_at (both_at inner inner) c.args.count.items c.args.bytes.now) less
    (second_fails c.in_err-value.field-0.0 inner inner c.each.rest.now c.in_ok-key.key c.in_ok-key.after.now c.in_ok-key.ensures.reads c.in_err-value.ensures.reads) c.each.invariant.reads)

pub pairs_of-each-preserved : goal.pairs_of-each-preserved
pairs_of-each-preserved t c =
    let inner = value_at c.args.levels in
    let less = c.take_one.ensures.more c.each-test.true in
    record {
      reads = rw c.in_ok-push.ensures.items
          (one_read (both_at inner inner) c.each.pairs.items c.each.left.items c.take_one.new.self.items c.each.rest.now (c.in_ok-key.key, c.in_ok-value.value) c.in_ok-value.after.now (many_at (both_at inner inner) c.args.count.items c.args.bytes.now) less
          (both_found inner inner c.each.rest.now c.in_ok-key.key c.in_ok-key.after.now c.in_ok-value.value c.in_ok-value.after.now c.in_ok-key.ensures.reads c.in_ok-value.ensures.reads) c.each.invariant.reads);
      exact = rw c.in_ok-push.ensures.items
          (next_exact (λ p. Canon p.0 ++ Canon p.1) _ _ _ c.args.bytes.now c.each.pairs.items c.each.rest.now (c.in_ok-key.key, c.in_ok-value.value) c.in_ok-value.after.now c.each.invariant.exact
          (both_exact _ _ _ c.each.rest.now (Canon c.in_ok-key.key) c.in_ok-key.after.now (Canon c.in_ok-value.value) c.in_ok-value.after.now c.in_ok-key.ensures.exact c.in_ok-value.ensures.exact));
    }

pub pairs_of-returns-clause-reads : goal.pairs_of-returns-clause-reads
pairs_of-returns-clause-reads t c =
    let inner = value_at c.args.levels in
    let none = c.take_one.ensures.none c.each-test.false in
    rw c.new.ensures (all_read (both_at inner inner) c.each.pairs.items c.each.left.items c.each.rest.now (many_at (both_at inner inner) c.args.count.items c.args.bytes.now) none c.each.invariant.reads)

pub pairs_of-returns-clause-exact : goal.pairs_of-returns-clause-exact
pairs_of-returns-clause-exact t c = rw c.new.ensures c.each.invariant.exact

-- ---- values inside

pub collection_of-returns-clause-exact : goal.collection_of-returns-clause-exact
collection_of-returns-clause-exact t c =
    collection_exact c.args.levels _ _ c.args.bytes.now c.in_ok-count.rest.now c.in_ok-kind.rest.now c.in_ok-items.rest.now c.in_ok-count.count.items c.in_ok-kind.kind c.in_ok-items.items (λ i. omega (arith, c.type_inv.bytes i))
    c.in_ok-count.ensures c.in_ok-kind.ensures c.in_ok-items.ensures.reads c.in_ok-items.ensures.exact

pub map_of-returns-clause-exact : goal.map_of-returns-clause-exact
map_of-returns-clause-exact t c =
    let inner = value_at c.args.levels in
    map_exact (both_at inner inner) _ _ c.args.bytes.now c.in_ok-count.rest.now c.in_ok-kind.rest.now c.in_ok-pairs.rest.now c.in_ok-count.count.items c.in_ok-kind.kind c.in_ok-pairs.pairs (λ i. omega (arith, c.type_inv.bytes i))
    c.in_ok-count.ensures c.in_ok-kind.ensures c.in_ok-pairs.ensures.reads c.in_ok-pairs.ensures.exact

pub objects_of-returns-clause-exact : goal.objects_of-returns-clause-exact
objects_of-returns-clause-exact t c =
    objects_exact c.args.levels _ _ c.args.bytes.now c.in_ok-type_id.rest.now c.in_ok-count.rest.now c.in_ok-items.rest.now c.in_ok-type_id.type_id c.in_ok-count.count.items c.in_ok-items.items (λ i. omega (arith, c.type_inv.bytes i))
    c.in_ok-type_id.ensures c.in_ok-count.ensures c.in_ok-items.ensures.reads c.in_ok-items.ensures.exact

pub enums_of-returns-clause-exact : goal.enums_of-returns-clause-exact
enums_of-returns-clause-exact t c =
    enums_exact c.args.levels _ _ c.args.bytes.now c.in_ok-type_id.rest.now c.in_ok-count.rest.now c.in_ok-items.rest.now c.in_ok-type_id.type_id c.in_ok-count.count.items c.in_ok-items.items (λ i. omega (arith, c.type_inv.bytes i))
    c.in_ok-type_id.ensures c.in_ok-count.ensures c.in_ok-items.ensures.reads c.in_ok-items.ensures.exact

-- ---- the rows

pub content_of-returns-in-Byte-clause-reads : goal.content_of-returns-in-Byte-clause-reads
content_of-returns-in-Byte-clause-reads t c = rw c.in-Byte.is (c.element_row.ensures (value_with code.Byte) (λ x v h. h))

pub content_of-returns-in-Byte-clause-exact : goal.content_of-returns-in-Byte-clause-exact
content_of-returns-in-Byte-clause-exact t c =
    arm_exact c.args.code code.Byte tt c.in-Byte.is c.args.bytes.now c.args.whole.now (λ i. omega (arith, c.type_inv.bytes i)) c.requires (λ x. (x.0, x.1.now)) c.element_row.result (c.element_row.ensures (value_with code.Byte) (λ x v h. h)) c.args.exact.now

pub content_of-returns-in-Short-clause-reads : goal.content_of-returns-in-Short-clause-reads
content_of-returns-in-Short-clause-reads t c = rw c.in-Short.is (c.element_row-in-Short.ensures (value_with code.Short) (λ x v h. h))

pub content_of-returns-in-Short-clause-exact : goal.content_of-returns-in-Short-clause-exact
content_of-returns-in-Short-clause-exact t c =
    arm_exact c.args.code code.Short tt c.in-Short.is c.args.bytes.now c.args.whole.now (λ i. omega (arith, c.type_inv.bytes i)) c.requires (λ x. (x.0, x.1.now)) c.element_row-in-Short.result (c.element_row-in-Short.ensures (value_with code.Short) (λ x v h. h)) c.args.exact.now

pub content_of-returns-in-Int-clause-reads : goal.content_of-returns-in-Int-clause-reads
content_of-returns-in-Int-clause-reads t c = rw c.in-Int.is (c.element_row-in-Int.ensures (value_with code.Int) (λ x v h. h))

pub content_of-returns-in-Int-clause-exact : goal.content_of-returns-in-Int-clause-exact
content_of-returns-in-Int-clause-exact t c =
    arm_exact c.args.code code.Int tt c.in-Int.is c.args.bytes.now c.args.whole.now (λ i. omega (arith, c.type_inv.bytes i)) c.requires (λ x. (x.0, x.1.now)) c.element_row-in-Int.result (c.element_row-in-Int.ensures (value_with code.Int) (λ x v h. h)) c.args.exact.now

pub content_of-returns-in-Long-clause-reads : goal.content_of-returns-in-Long-clause-reads
content_of-returns-in-Long-clause-reads t c = rw c.in-Long.is (c.element_row-in-Long.ensures (value_with code.Long) (λ x v h. h))

pub content_of-returns-in-Long-clause-exact : goal.content_of-returns-in-Long-clause-exact
content_of-returns-in-Long-clause-exact t c =
    arm_exact c.args.code code.Long tt c.in-Long.is c.args.bytes.now c.args.whole.now (λ i. omega (arith, c.type_inv.bytes i)) c.requires (λ x. (x.0, x.1.now)) c.element_row-in-Long.result (c.element_row-in-Long.ensures (value_with code.Long) (λ x v h. h)) c.args.exact.now

pub content_of-returns-in-Float-clause-reads : goal.content_of-returns-in-Float-clause-reads
content_of-returns-in-Float-clause-reads t c = rw c.in-Float.is (c.element_row-in-Float.ensures (value_with code.Float) (λ x v h. h))

pub content_of-returns-in-Float-clause-exact : goal.content_of-returns-in-Float-clause-exact
content_of-returns-in-Float-clause-exact t c =
    arm_exact c.args.code code.Float tt c.in-Float.is c.args.bytes.now c.args.whole.now (λ i. omega (arith, c.type_inv.bytes i)) c.requires (λ x. (x.0, x.1.now)) c.element_row-in-Float.result (c.element_row-in-Float.ensures (value_with code.Float) (λ x v h. h)) c.args.exact.now

pub content_of-returns-in-Double-clause-reads : goal.content_of-returns-in-Double-clause-reads
content_of-returns-in-Double-clause-reads t c = rw c.in-Double.is (c.element_row-in-Double.ensures (value_with code.Double) (λ x v h. h))

pub content_of-returns-in-Double-clause-exact : goal.content_of-returns-in-Double-clause-exact
content_of-returns-in-Double-clause-exact t c =
    arm_exact c.args.code code.Double tt c.in-Double.is c.args.bytes.now c.args.whole.now (λ i. omega (arith, c.type_inv.bytes i)) c.requires (λ x. (x.0, x.1.now)) c.element_row-in-Double.result (c.element_row-in-Double.ensures (value_with code.Double) (λ x v h. h)) c.args.exact.now

pub content_of-returns-in-Char-clause-reads : goal.content_of-returns-in-Char-clause-reads
content_of-returns-in-Char-clause-reads t c = rw c.in-Char.is (c.element_row-in-Char.ensures (value_with code.Char) (λ x v h. h))

pub content_of-returns-in-Char-clause-exact : goal.content_of-returns-in-Char-clause-exact
content_of-returns-in-Char-clause-exact t c =
    arm_exact c.args.code code.Char tt c.in-Char.is c.args.bytes.now c.args.whole.now (λ i. omega (arith, c.type_inv.bytes i)) c.requires (λ x. (x.0, x.1.now)) c.element_row-in-Char.result (c.element_row-in-Char.ensures (value_with code.Char) (λ x v h. h)) c.args.exact.now

pub content_of-returns-in-Bool-clause-reads : goal.content_of-returns-in-Bool-clause-reads
content_of-returns-in-Bool-clause-reads t c = rw c.in-Bool.is (c.element_row-in-Bool.ensures (value_with code.Bool) (λ x v h. h))

pub content_of-returns-in-Bool-clause-exact : goal.content_of-returns-in-Bool-clause-exact
content_of-returns-in-Bool-clause-exact t c =
    arm_exact c.args.code code.Bool tt c.in-Bool.is c.args.bytes.now c.args.whole.now (λ i. omega (arith, c.type_inv.bytes i)) c.requires (λ x. (x.0, x.1.now)) c.element_row-in-Bool.result (c.element_row-in-Bool.ensures (value_with code.Bool) (λ x v h. h)) c.args.exact.now

pub content_of-returns-in-Str-clause-reads : goal.content_of-returns-in-Str-clause-reads
content_of-returns-in-Str-clause-reads t c = rw c.in-Str.is (c.content_row.ensures (value_with code.Str) (λ x v h. h))

pub content_of-returns-in-Str-clause-exact : goal.content_of-returns-in-Str-clause-exact
content_of-returns-in-Str-clause-exact t c =
    arm_exact c.args.code code.Str tt c.in-Str.is c.args.bytes.now c.args.whole.now (λ i. omega (arith, c.type_inv.bytes i)) c.requires (λ x. (x.0, x.1.now)) c.content_row.result (c.content_row.ensures (value_with code.Str) (λ x v h. h)) c.args.exact.now

pub content_of-returns-in-Uuid-clause-reads : goal.content_of-returns-in-Uuid-clause-reads
content_of-returns-in-Uuid-clause-reads t c = rw c.in-Uuid.is (c.content_row-in-Uuid.ensures (value_with code.Uuid) (λ x v h. h))

pub content_of-returns-in-Uuid-clause-exact : goal.content_of-returns-in-Uuid-clause-exact
content_of-returns-in-Uuid-clause-exact t c =
    arm_exact c.args.code code.Uuid tt c.in-Uuid.is c.args.bytes.now c.args.whole.now (λ i. omega (arith, c.type_inv.bytes i)) c.requires (λ x. (x.0, x.1.now)) c.content_row-in-Uuid.result (c.content_row-in-Uuid.ensures (value_with code.Uuid) (λ x v h. h)) c.args.exact.now

pub content_of-returns-in-Date-clause-reads : goal.content_of-returns-in-Date-clause-reads
content_of-returns-in-Date-clause-reads t c = rw c.in-Date.is (c.element_row-in-Date.ensures (value_with code.Date) (λ x v h. h))

pub content_of-returns-in-Date-clause-exact : goal.content_of-returns-in-Date-clause-exact
content_of-returns-in-Date-clause-exact t c =
    arm_exact c.args.code code.Date tt c.in-Date.is c.args.bytes.now c.args.whole.now (λ i. omega (arith, c.type_inv.bytes i)) c.requires (λ x. (x.0, x.1.now)) c.element_row-in-Date.result (c.element_row-in-Date.ensures (value_with code.Date) (λ x v h. h)) c.args.exact.now

pub content_of-returns-in-Bytes-clause-reads : goal.content_of-returns-in-Bytes-clause-reads
content_of-returns-in-Bytes-clause-reads t c = rw c.in-Bytes.is (c.array_row.ensures (λ xs. value_with code.Bytes (tt, xs)) (λ x v h. h.1))

pub content_of-returns-in-Bytes-clause-exact : goal.content_of-returns-in-Bytes-clause-exact
content_of-returns-in-Bytes-clause-exact t c =
    arm_exact c.args.code code.Bytes tt c.in-Bytes.is c.args.bytes.now c.args.whole.now (λ i. omega (arith, c.type_inv.bytes i)) c.requires (λ x. (x.0, x.1.now)) c.array_row.result (c.array_row.ensures (λ xs. value_with code.Bytes (tt, xs)) (λ x v h. h.1)) c.args.exact.now

pub content_of-returns-in-Shorts-clause-reads : goal.content_of-returns-in-Shorts-clause-reads
content_of-returns-in-Shorts-clause-reads t c = rw c.in-Shorts.is (c.array_row-in-Shorts.ensures (λ xs. value_with code.Shorts (tt, xs)) (λ x v h. h.1))

pub content_of-returns-in-Shorts-clause-exact : goal.content_of-returns-in-Shorts-clause-exact
content_of-returns-in-Shorts-clause-exact t c =
    arm_exact c.args.code code.Shorts tt c.in-Shorts.is c.args.bytes.now c.args.whole.now (λ i. omega (arith, c.type_inv.bytes i)) c.requires (λ x. (x.0, x.1.now)) c.array_row-in-Shorts.result (c.array_row-in-Shorts.ensures (λ xs. value_with code.Shorts (tt, xs)) (λ x v h. h.1)) c.args.exact.now

pub content_of-returns-in-Ints-clause-reads : goal.content_of-returns-in-Ints-clause-reads
content_of-returns-in-Ints-clause-reads t c = rw c.in-Ints.is (c.array_row-in-Ints.ensures (λ xs. value_with code.Ints (tt, xs)) (λ x v h. h.1))

pub content_of-returns-in-Ints-clause-exact : goal.content_of-returns-in-Ints-clause-exact
content_of-returns-in-Ints-clause-exact t c =
    arm_exact c.args.code code.Ints tt c.in-Ints.is c.args.bytes.now c.args.whole.now (λ i. omega (arith, c.type_inv.bytes i)) c.requires (λ x. (x.0, x.1.now)) c.array_row-in-Ints.result (c.array_row-in-Ints.ensures (λ xs. value_with code.Ints (tt, xs)) (λ x v h. h.1)) c.args.exact.now

pub content_of-returns-in-Longs-clause-reads : goal.content_of-returns-in-Longs-clause-reads
content_of-returns-in-Longs-clause-reads t c = rw c.in-Longs.is (c.array_row-in-Longs.ensures (λ xs. value_with code.Longs (tt, xs)) (λ x v h. h.1))

pub content_of-returns-in-Longs-clause-exact : goal.content_of-returns-in-Longs-clause-exact
content_of-returns-in-Longs-clause-exact t c =
    arm_exact c.args.code code.Longs tt c.in-Longs.is c.args.bytes.now c.args.whole.now (λ i. omega (arith, c.type_inv.bytes i)) c.requires (λ x. (x.0, x.1.now)) c.array_row-in-Longs.result (c.array_row-in-Longs.ensures (λ xs. value_with code.Longs (tt, xs)) (λ x v h. h.1)) c.args.exact.now

pub content_of-returns-in-Floats-clause-reads : goal.content_of-returns-in-Floats-clause-reads
content_of-returns-in-Floats-clause-reads t c = rw c.in-Floats.is (c.array_row-in-Floats.ensures (λ xs. value_with code.Floats (tt, xs)) (λ x v h. h.1))

pub content_of-returns-in-Floats-clause-exact : goal.content_of-returns-in-Floats-clause-exact
content_of-returns-in-Floats-clause-exact t c =
    arm_exact c.args.code code.Floats tt c.in-Floats.is c.args.bytes.now c.args.whole.now (λ i. omega (arith, c.type_inv.bytes i)) c.requires (λ x. (x.0, x.1.now)) c.array_row-in-Floats.result (c.array_row-in-Floats.ensures (λ xs. value_with code.Floats (tt, xs)) (λ x v h. h.1)) c.args.exact.now

pub content_of-returns-in-Doubles-clause-reads : goal.content_of-returns-in-Doubles-clause-reads
content_of-returns-in-Doubles-clause-reads t c = rw c.in-Doubles.is (c.array_row-in-Doubles.ensures (λ xs. value_with code.Doubles (tt, xs)) (λ x v h. h.1))

pub content_of-returns-in-Doubles-clause-exact : goal.content_of-returns-in-Doubles-clause-exact
content_of-returns-in-Doubles-clause-exact t c =
    arm_exact c.args.code code.Doubles tt c.in-Doubles.is c.args.bytes.now c.args.whole.now (λ i. omega (arith, c.type_inv.bytes i)) c.requires (λ x. (x.0, x.1.now)) c.array_row-in-Doubles.result (c.array_row-in-Doubles.ensures (λ xs. value_with code.Doubles (tt, xs)) (λ x v h. h.1)) c.args.exact.now

pub content_of-returns-in-Chars-clause-reads : goal.content_of-returns-in-Chars-clause-reads
content_of-returns-in-Chars-clause-reads t c = rw c.in-Chars.is (c.array_row-in-Chars.ensures (λ xs. value_with code.Chars (tt, xs)) (λ x v h. h.1))

pub content_of-returns-in-Chars-clause-exact : goal.content_of-returns-in-Chars-clause-exact
content_of-returns-in-Chars-clause-exact t c =
    arm_exact c.args.code code.Chars tt c.in-Chars.is c.args.bytes.now c.args.whole.now (λ i. omega (arith, c.type_inv.bytes i)) c.requires (λ x. (x.0, x.1.now)) c.array_row-in-Chars.result (c.array_row-in-Chars.ensures (λ xs. value_with code.Chars (tt, xs)) (λ x v h. h.1)) c.args.exact.now

pub content_of-returns-in-Bools-clause-reads : goal.content_of-returns-in-Bools-clause-reads
content_of-returns-in-Bools-clause-reads t c = rw c.in-Bools.is (c.array_row-in-Bools.ensures (λ xs. value_with code.Bools (tt, xs)) (λ x v h. h.1))

pub content_of-returns-in-Bools-clause-exact : goal.content_of-returns-in-Bools-clause-exact
content_of-returns-in-Bools-clause-exact t c =
    arm_exact c.args.code code.Bools tt c.in-Bools.is c.args.bytes.now c.args.whole.now (λ i. omega (arith, c.type_inv.bytes i)) c.requires (λ x. (x.0, x.1.now)) c.array_row-in-Bools.result (c.array_row-in-Bools.ensures (λ xs. value_with code.Bools (tt, xs)) (λ x v h. h.1)) c.args.exact.now

pub content_of-returns-in-Strs-clause-reads : goal.content_of-returns-in-Strs-clause-reads
content_of-returns-in-Strs-clause-reads t c = rw c.in-Strs.is (c.optionals_row.ensures (λ xs. value_with code.Strs (tt, xs)) (λ x v h. h.1))

pub content_of-returns-in-Strs-clause-exact : goal.content_of-returns-in-Strs-clause-exact
content_of-returns-in-Strs-clause-exact t c =
    arm_exact c.args.code code.Strs tt c.in-Strs.is c.args.bytes.now c.args.whole.now (λ i. omega (arith, c.type_inv.bytes i)) c.requires (λ x. (x.0, x.1.now)) c.optionals_row.result (c.optionals_row.ensures (λ xs. value_with code.Strs (tt, xs)) (λ x v h. h.1)) c.args.exact.now

pub content_of-returns-in-Uuids-clause-reads : goal.content_of-returns-in-Uuids-clause-reads
content_of-returns-in-Uuids-clause-reads t c = rw c.in-Uuids.is (c.optionals_row-in-Uuids.ensures (λ xs. value_with code.Uuids (tt, xs)) (λ x v h. h.1))

pub content_of-returns-in-Uuids-clause-exact : goal.content_of-returns-in-Uuids-clause-exact
content_of-returns-in-Uuids-clause-exact t c =
    arm_exact c.args.code code.Uuids tt c.in-Uuids.is c.args.bytes.now c.args.whole.now (λ i. omega (arith, c.type_inv.bytes i)) c.requires (λ x. (x.0, x.1.now)) c.optionals_row-in-Uuids.result (c.optionals_row-in-Uuids.ensures (λ xs. value_with code.Uuids (tt, xs)) (λ x v h. h.1)) c.args.exact.now

pub content_of-returns-in-Dates-clause-reads : goal.content_of-returns-in-Dates-clause-reads
content_of-returns-in-Dates-clause-reads t c = rw c.in-Dates.is (c.optionals_row-in-Dates.ensures (λ xs. value_with code.Dates (tt, xs)) (λ x v h. h.1))

pub content_of-returns-in-Dates-clause-exact : goal.content_of-returns-in-Dates-clause-exact
content_of-returns-in-Dates-clause-exact t c =
    arm_exact c.args.code code.Dates tt c.in-Dates.is c.args.bytes.now c.args.whole.now (λ i. omega (arith, c.type_inv.bytes i)) c.requires (λ x. (x.0, x.1.now)) c.optionals_row-in-Dates.result (c.optionals_row-in-Dates.ensures (λ xs. value_with code.Dates (tt, xs)) (λ x v h. h.1)) c.args.exact.now

pub content_of-returns-in-Objects-clause-reads : goal.content_of-returns-in-Objects-clause-reads
content_of-returns-in-Objects-clause-reads t c = rw c.in-Objects.is c.objects_of.ensures.reads

pub content_of-returns-in-Objects-clause-exact : goal.content_of-returns-in-Objects-clause-exact
content_of-returns-in-Objects-clause-exact t c =
    arm_inside c.args.levels c.args.code code.Objects c.in-Objects.is c.args.bytes.now c.args.whole.now c.requires (λ x. (x.0, x.1.now)) c.objects_of.result c.objects_of.ensures.reads _ _ c.objects_of.ensures.exact

pub content_of-returns-in-Collection-clause-reads : goal.content_of-returns-in-Collection-clause-reads
content_of-returns-in-Collection-clause-reads t c = rw c.in-Collection.is c.collection_of.ensures.reads

pub content_of-returns-in-Collection-clause-exact : goal.content_of-returns-in-Collection-clause-exact
content_of-returns-in-Collection-clause-exact t c =
    arm_inside c.args.levels c.args.code code.Collection c.in-Collection.is c.args.bytes.now c.args.whole.now c.requires (λ x. (x.0, x.1.now)) c.collection_of.result c.collection_of.ensures.reads _ _ c.collection_of.ensures.exact

pub content_of-returns-in-Map-clause-reads : goal.content_of-returns-in-Map-clause-reads
content_of-returns-in-Map-clause-reads t c = rw c.in-Map.is c.map_of.ensures.reads

pub content_of-returns-in-Map-clause-exact : goal.content_of-returns-in-Map-clause-exact
content_of-returns-in-Map-clause-exact t c =
    arm_inside c.args.levels c.args.code code.Map c.in-Map.is c.args.bytes.now c.args.whole.now c.requires (λ x. (x.0, x.1.now)) c.map_of.result c.map_of.ensures.reads _ _ c.map_of.ensures.exact

pub content_of-returns-in-Wrapped-clause-reads : goal.content_of-returns-in-Wrapped-clause-reads
content_of-returns-in-Wrapped-clause-reads t c = rw c.in-Wrapped.is c.wrapped_of.ensures

pub content_of-returns-in-Wrapped-clause-exact : goal.content_of-returns-in-Wrapped-clause-exact
content_of-returns-in-Wrapped-clause-exact t c =
    arm_exact c.args.code code.Wrapped tt c.in-Wrapped.is c.args.bytes.now c.args.whole.now (λ i. omega (arith, c.type_inv.bytes i)) c.requires (λ x. (x.0, x.1.now)) c.wrapped_of.result c.wrapped_of.ensures c.args.exact.now

pub content_of-returns-in-Enum-clause-reads : goal.content_of-returns-in-Enum-clause-reads
content_of-returns-in-Enum-clause-reads t c = rw c.in-Enum.is c.enum_of.ensures

pub content_of-returns-in-Enum-clause-exact : goal.content_of-returns-in-Enum-clause-exact
content_of-returns-in-Enum-clause-exact t c =
    arm_exact c.args.code code.Enum tt c.in-Enum.is c.args.bytes.now c.args.whole.now (λ i. omega (arith, c.type_inv.bytes i)) c.requires (λ x. (x.0, x.1.now)) c.enum_of.result c.enum_of.ensures c.args.exact.now

pub content_of-returns-in-Enums-clause-reads : goal.content_of-returns-in-Enums-clause-reads
content_of-returns-in-Enums-clause-reads t c = rw c.in-Enums.is c.enums_of.ensures.reads

pub content_of-returns-in-Enums-clause-exact : goal.content_of-returns-in-Enums-clause-exact
content_of-returns-in-Enums-clause-exact t c =
    arm_inside c.args.levels c.args.code code.Enums c.in-Enums.is c.args.bytes.now c.args.whole.now c.requires (λ x. (x.0, x.1.now)) c.enums_of.result c.enums_of.ensures.reads _ _ c.enums_of.ensures.exact

pub content_of-returns-in-Decimal-clause-reads : goal.content_of-returns-in-Decimal-clause-reads
content_of-returns-in-Decimal-clause-reads t c = rw c.in-Decimal.is (c.content_row-in-Decimal.ensures (value_with code.Decimal) (λ x v h. h))

pub content_of-returns-in-Decimal-clause-exact : goal.content_of-returns-in-Decimal-clause-exact
content_of-returns-in-Decimal-clause-exact t c =
    arm_exact c.args.code code.Decimal tt c.in-Decimal.is c.args.bytes.now c.args.whole.now (λ i. omega (arith, c.type_inv.bytes i)) c.requires (λ x. (x.0, x.1.now)) c.content_row-in-Decimal.result (c.content_row-in-Decimal.ensures (value_with code.Decimal) (λ x v h. h)) c.args.exact.now

pub content_of-returns-in-Decimals-clause-reads : goal.content_of-returns-in-Decimals-clause-reads
content_of-returns-in-Decimals-clause-reads t c = rw c.in-Decimals.is (c.optionals_row-in-Decimals.ensures (λ xs. value_with code.Decimals (tt, xs)) (λ x v h. h.1))

pub content_of-returns-in-Decimals-clause-exact : goal.content_of-returns-in-Decimals-clause-exact
content_of-returns-in-Decimals-clause-exact t c =
    arm_exact c.args.code code.Decimals tt c.in-Decimals.is c.args.bytes.now c.args.whole.now (λ i. omega (arith, c.type_inv.bytes i)) c.requires (λ x. (x.0, x.1.now)) c.optionals_row-in-Decimals.result (c.optionals_row-in-Decimals.ensures (λ xs. value_with code.Decimals (tt, xs)) (λ x v h. h.1)) c.args.exact.now

pub content_of-returns-in-Timestamp-clause-reads : goal.content_of-returns-in-Timestamp-clause-reads
content_of-returns-in-Timestamp-clause-reads t c = rw c.in-Timestamp.is (c.content_row-in-Timestamp.ensures (value_with code.Timestamp) (λ x v h. h))

pub content_of-returns-in-Timestamp-clause-exact : goal.content_of-returns-in-Timestamp-clause-exact
content_of-returns-in-Timestamp-clause-exact t c =
    arm_exact c.args.code code.Timestamp tt c.in-Timestamp.is c.args.bytes.now c.args.whole.now (λ i. omega (arith, c.type_inv.bytes i)) c.requires (λ x. (x.0, x.1.now)) c.content_row-in-Timestamp.result (c.content_row-in-Timestamp.ensures (value_with code.Timestamp) (λ x v h. h)) c.args.exact.now

pub content_of-returns-in-Timestamps-clause-reads : goal.content_of-returns-in-Timestamps-clause-reads
content_of-returns-in-Timestamps-clause-reads t c = rw c.in-Timestamps.is (c.optionals_row-in-Timestamps.ensures (λ xs. value_with code.Timestamps (tt, xs)) (λ x v h. h.1))

pub content_of-returns-in-Timestamps-clause-exact : goal.content_of-returns-in-Timestamps-clause-exact
content_of-returns-in-Timestamps-clause-exact t c =
    arm_exact c.args.code code.Timestamps tt c.in-Timestamps.is c.args.bytes.now c.args.whole.now (λ i. omega (arith, c.type_inv.bytes i)) c.requires (λ x. (x.0, x.1.now)) c.optionals_row-in-Timestamps.result (c.optionals_row-in-Timestamps.ensures (λ xs. value_with code.Timestamps (tt, xs)) (λ x v h. h.1)) c.args.exact.now

pub content_of-returns-in-Time-clause-reads : goal.content_of-returns-in-Time-clause-reads
content_of-returns-in-Time-clause-reads t c = rw c.in-Time.is (c.element_row-in-Time.ensures (value_with code.Time) (λ x v h. h))

pub content_of-returns-in-Time-clause-exact : goal.content_of-returns-in-Time-clause-exact
content_of-returns-in-Time-clause-exact t c =
    arm_exact c.args.code code.Time tt c.in-Time.is c.args.bytes.now c.args.whole.now (λ i. omega (arith, c.type_inv.bytes i)) c.requires (λ x. (x.0, x.1.now)) c.element_row-in-Time.result (c.element_row-in-Time.ensures (value_with code.Time) (λ x v h. h)) c.args.exact.now

pub content_of-returns-in-Times-clause-reads : goal.content_of-returns-in-Times-clause-reads
content_of-returns-in-Times-clause-reads t c = rw c.in-Times.is (c.optionals_row-in-Times.ensures (λ xs. value_with code.Times (tt, xs)) (λ x v h. h.1))

pub content_of-returns-in-Times-clause-exact : goal.content_of-returns-in-Times-clause-exact
content_of-returns-in-Times-clause-exact t c =
    arm_exact c.args.code code.Times tt c.in-Times.is c.args.bytes.now c.args.whole.now (λ i. omega (arith, c.type_inv.bytes i)) c.requires (λ x. (x.0, x.1.now)) c.optionals_row-in-Times.result (c.optionals_row-in-Times.ensures (λ xs. value_with code.Times (tt, xs)) (λ x v h. h.1)) c.args.exact.now

pub content_of-returns-in-BinaryEnum-clause-reads : goal.content_of-returns-in-BinaryEnum-clause-reads
content_of-returns-in-BinaryEnum-clause-reads t c = rw c.in-BinaryEnum.is c.binary_enum_of.ensures

pub content_of-returns-in-BinaryEnum-clause-exact : goal.content_of-returns-in-BinaryEnum-clause-exact
content_of-returns-in-BinaryEnum-clause-exact t c =
    arm_exact c.args.code code.BinaryEnum tt c.in-BinaryEnum.is c.args.bytes.now c.args.whole.now (λ i. omega (arith, c.type_inv.bytes i)) c.requires (λ x. (x.0, x.1.now)) c.binary_enum_of.result c.binary_enum_of.ensures c.args.exact.now

pub content_of-returns-in-Null-clause-reads : goal.content_of-returns-in-Null-clause-reads
content_of-returns-in-Null-clause-reads t c = rw c.in-Null.is refl

pub content_of-returns-in-Null-clause-exact : goal.content_of-returns-in-Null-clause-exact
content_of-returns-in-Null-clause-exact t c =
    arm_exact c.args.code code.Null tt c.in-Null.is c.args.bytes.now c.args.whole.now (λ i. omega (arith, c.type_inv.bytes i)) c.requires (λ x. x) (Ok (value.Null, c.args.bytes.now)) refl c.args.exact.now

pub content_of-returns-in-Object-clause-reads : goal.content_of-returns-in-Object-clause-reads
content_of-returns-in-Object-clause-reads t c =
    rw c.in-Object.is
    (subst (λ (l : List ℕ). ReaderAnswers (λ x. (x.0, x.1.now)) c.object_of.result (mapped_read value.Object (object_at (value_at c.args.levels) l))) (c.requires ∙ ap (λ (k : Code). byte_of k ∷ c.args.bytes.now) c.in-Object.is) c.object_of.ensures.reads)

-- ---- objects

pub fields_of-followed_by-requires : goal.fields_of-followed_by-requires
fields_of-followed_by-requires t c =
    may_follow c.in-Err.error c.args.levels c.each.rest.now (length c.args.fields.now) (length c.args.footer.now + c.args.after) c.in-Err.ensures.reads
    (field_left c.args.levels _ _ c.args.fields.now _ c.each.rest.now c.each.invariant.exact (λ i. omega (arith, c.type_inv.fields i))) (omega (arith, c.requires))

pub fields_of-returns-in-Err-clause-reads : goal.fields_of-returns-in-Err-clause-reads
fields_of-returns-in-Err-clause-reads t c =
    let less = c.take_one.ensures.more c.each-test.true in
    rw c.followed_by.ensures
    (field_fails (value_at c.args.levels) (offsets_type c.args.form) (key_bytes c.args.form) c.args.fields.now c.args.footer.now c.in-Err.error c.each.values.items c.each.left.items c.take_one.new.self.items
    c.each.entries.now c.take_offset-offset.result.1.now c.each.rest.now c.take_offset-offset.result.0 c.args.after _ less c.take_offset-offset.ensures.offset c.take_offset-offset.ensures.more
    (omega (arith, c.if-offset-fields.false)) c.in-Err.ensures.reads
    (field_left c.args.levels _ _ c.args.fields.now _ c.each.rest.now c.each.invariant.exact (λ i. omega (arith, c.type_inv.fields i))) c.each.invariant.reads)

pub fields_of-each-preserved : goal.fields_of-each-preserved
fields_of-each-preserved t c =
    let less = c.take_one.ensures.more c.each-test.true in
    let entry = entry_bytes c.args.form in
    let room = room_for_one entry c.each.left.items c.take_one.new.self.items c.each.entries.now less c.each.invariant.there in
    record {
      reads = rw c.in_ok-push.ensures.items
          (one_field (value_at c.args.levels) (offsets_type c.args.form) (key_bytes c.args.form) c.args.fields.now c.args.footer.now c.each.values.items c.each.left.items c.take_one.new.self.items
          c.each.entries.now c.take_offset-offset.result.1.now c.each.rest.now c.take_offset-offset.result.0 c.in-Ok.read.0 c.in-Ok.read.1.now _ less c.take_offset-offset.ensures.offset c.take_offset-offset.ensures.more
          room c.each.invariant.within (omega (arith, c.if-offset-fields.false)) c.in-Ok.ensures.reads c.each.invariant.reads);
      last = next_last (offsets_type c.args.form) (key_bytes c.args.form) c.each.left.items c.take_one.new.self.items c.each.entries.now c.take_offset-offset.result.1.now c.each.last c.take_offset-offset.result.0 (last_offset c.args.form c.args.footer.now)
          less c.take_offset-offset.ensures.offset c.take_offset-offset.ensures.more c.each.invariant.last;
      exact = rw c.in_ok-push.ensures.items (next_exact Canon _ _ _ c.args.fields.now c.each.values.items c.each.rest.now c.in-Ok.read.0 c.in-Ok.read.1.now c.each.invariant.exact c.in-Ok.ensures.exact);
      there = room_left entry c.each.left.items c.take_one.new.self.items c.each.entries.now c.take_offset-offset.result.1.now less c.take_offset-offset.ensures.more c.each.invariant.there;
      within = omega (arith, ap length c.take_offset-offset.ensures.more, length-drop entry c.each.entries.now, c.each.invariant.within);
    }

pub object_of-split_at-requires : goal.object_of-split_at-requires
object_of-split_at-requires t c = header_there c.args.bytes.now c.in_ok-header.header c.in_ok-header.ensures.found

pub object_of-returns-in_default-clause-reads : goal.object_of-returns-in_default-clause-reads
object_of-returns-in_default-clause-reads t c =
    let none : c.in_ok-layout.field-0 ≡ None = search rules in
    let laid = subst (IsLaidOut c.in_ok-header.header (length c.args.bytes.now)) none c.in_ok-layout.ensures.found in
    let o : c.in_ok-new.field-0 ≡ alone c.in_ok-header.header = c.in_ok-new.ensures ∙ c.alone_of.ensures in
    ap (mapped_read value.Object) (alone_read c.args.bytes.now c.in_ok-header.header (value_at c.args.levels) c.in_ok-header.ensures.found laid.0 laid.1) ∙ (λ i. Ok (value.Object (sym o i), sym c.split_at.ensures.back i))

pub object_of-returns-in_default-clause-exact : goal.object_of-returns-in_default-clause-exact
object_of-returns-in_default-clause-exact t c =
    let none : c.in_ok-layout.field-0 ≡ None = search rules in
    let laid = subst (IsLaidOut c.in_ok-header.header (length c.args.bytes.now)) none c.in_ok-layout.ensures.found in
    let o : c.in_ok-new.field-0 ≡ alone c.in_ok-header.header = c.in_ok-new.ensures ∙ c.alone_of.ensures in
    subst (λ (x : Record Value). KeepsExact c.args.exact.now c.is_canonical_alone.result c.args.bytes.now (Canon (value.Object x)) c.split_at.result.1.now) (sym o)
    (alone_kept c.args.bytes.now c.in_ok-header.header c.split_at.result.1.now c.in_ok-header.ensures.found (λ i. omega (arith, c.type_inv.bytes i)) c.requires c.in_ok-header.ensures.spelled c.split_at.ensures.back laid.0 laid.1
    c.args.exact.now c.is_canonical_alone.result c.is_canonical_alone.ensures.0 c.is_canonical_alone.ensures.1)

pub object_of-returns-in_default-2-clause-reads : goal.object_of-returns-in_default-2-clause-reads
object_of-returns-in_default-2-clause-reads t c =
    let lay = subst (IsLaidOut c.in_ok-header.header (length c.args.bytes.now)) c.in-Some.is c.in_ok-layout.ensures.found in
    let none : c.in_ok-shape.field-0 ≡ None = search rules in
    let told = subst (IsShapeIn c.in_ok-header.header c.in-Some.layout.form c.parts_of.result.1.now) none c.in_ok-shape.ensures in
    ap (mapped_read value.Object) (shape_wrong c.args.bytes.now c.in_ok-header.header c.in-Some.layout c.in_ok-header.ensures.found lay c.parts_of.result.0.now c.parts_of.result.1.now c.parts_of.result.2.now c.parts_of.ensures.fields c.parts_of.ensures.footer c.parts_of.ensures.rest told.0 told.1 (value_at c.args.levels))

pub object_of-returns-in_err-values-clause-reads : goal.object_of-returns-in_err-values-clause-reads
object_of-returns-in_err-values-clause-reads t c =
    let lay = subst (IsLaidOut c.in_ok-header.header (length c.args.bytes.now)) c.in-Some.is c.in_ok-layout.ensures.found in
    let told = subst (IsShapeIn c.in_ok-header.header c.in-Some.layout.form c.parts_of.result.1.now) c.in-Some-2.is c.in_ok-shape.ensures in
    let right = shape_right c.args.bytes.now c.in_ok-header.header c.in-Some.layout c.in_ok-header.ensures.found lay c.parts_of.result.0.now c.parts_of.result.1.now c.parts_of.result.2.now c.parts_of.ensures.fields c.parts_of.ensures.footer c.parts_of.ensures.rest told.1 in
    let p = err_from_is_err_and c.from_residual-in_err-values.result c.from_residual-in_err-values.ensures.1 in
    rw (p.1, p.2) (object_fails c.args.bytes.now c.in_ok-header.header c.in-Some.layout c.in_ok-header.ensures.found lay c.parts_of.result.0.now c.parts_of.result.1.now c.parts_of.result.2.now c.parts_of.ensures.fields c.parts_of.ensures.footer c.parts_of.ensures.rest right (value_at c.args.levels) c.in_err-values.field-0.0 c.in_err-values.ensures.reads)

pub object_of-returns-clause-reads : goal.object_of-returns-clause-reads
object_of-returns-clause-reads t c =
    let lay = subst (IsLaidOut c.in_ok-header.header (length c.args.bytes.now)) c.in-Some.is c.in_ok-layout.ensures.found in
    let told = subst (IsShapeIn c.in_ok-header.header c.in-Some.layout.form c.parts_of.result.1.now) c.in-Some-2.is c.in_ok-shape.ensures in
    let right = shape_right c.args.bytes.now c.in_ok-header.header c.in-Some.layout c.in_ok-header.ensures.found lay c.parts_of.result.0.now c.parts_of.result.1.now c.parts_of.result.2.now c.parts_of.ensures.fields c.parts_of.ensures.footer c.parts_of.ensures.rest told.1 in
    let fits = header_fits c.args.bytes.now c.in_ok-header.header (λ i. omega (arith, c.type_inv.bytes i)) c.in_ok-header.ensures.found in
    let o : c.in_ok-new-2.field-0 ≡ record { bits = kept_flags c.in_ok-header.header.flags; type_id = c.in_ok-header.header.type_id; shape = c.in-Some-2.shape; fields = c.in_ok-values.values } =
    same_record c.in_ok-new-2.field-0 _ _ _ _ c.in-Some-2.shape c.in_ok-values.values c.in_ok-new-2.ensures c.kept_flags.ensures (to_z-of_z w32 c.in_ok-header.header.type_id fits.type) in
    object_read c.args.bytes.now c.in_ok-header.header c.in-Some.layout c.in_ok-header.ensures.found lay c.parts_of.result.0.now c.parts_of.result.1.now c.parts_of.result.2.now c.parts_of.ensures.fields c.parts_of.ensures.footer c.parts_of.ensures.rest right (value_at c.args.levels) c.in_ok-values.values c.in_ok-values.ensures.reads c.in-Some-2.shape told.0
    ∙ ap (λ (x : Record Value). Ok (value.Object x, c.parts_of.result.2.now)) (sym o)

pub object_of-returns-clause-exact : goal.object_of-returns-clause-exact
object_of-returns-clause-exact t c =
    let lay = subst (IsLaidOut c.in_ok-header.header (length c.args.bytes.now)) c.in-Some.is c.in_ok-layout.ensures.found in
    let told = subst (IsShapeIn c.in_ok-header.header c.in-Some.layout.form c.parts_of.result.1.now) c.in-Some-2.is c.in_ok-shape.ensures in
    let right = shape_right c.args.bytes.now c.in_ok-header.header c.in-Some.layout c.in_ok-header.ensures.found lay c.parts_of.result.0.now c.parts_of.result.1.now c.parts_of.result.2.now c.parts_of.ensures.fields c.parts_of.ensures.footer c.parts_of.ensures.rest told.1 in
    let fits = header_fits c.args.bytes.now c.in_ok-header.header (λ i. omega (arith, c.type_inv.bytes i)) c.in_ok-header.ensures.found in
    let o : c.in_ok-new-2.field-0 ≡ record { bits = kept_flags c.in_ok-header.header.flags; type_id = c.in_ok-header.header.type_id; shape = c.in-Some-2.shape; fields = c.in_ok-values.values } =
    same_record c.in_ok-new-2.field-0 _ _ _ _ c.in-Some-2.shape c.in_ok-values.values c.in_ok-new-2.ensures c.kept_flags.ensures (to_z-of_z w32 c.in_ok-header.header.type_id fits.type) in
    subst (λ (x : Record Value). KeepsExact c.args.exact.now c.is_canonical_head.result c.args.bytes.now (Canon (value.Object x)) c.parts_of.result.2.now) (sym o)
    (object_kept c.args.levels c.args.bytes.now c.in_ok-header.header c.in-Some.layout c.in_ok-header.ensures.found lay c.parts_of.result.0.now c.parts_of.result.1.now c.parts_of.result.2.now c.parts_of.ensures.fields c.parts_of.ensures.footer c.parts_of.ensures.rest (λ i. omega (arith, c.type_inv.bytes i)) c.requires c.in_ok-header.ensures.spelled right
    c.in-Some-2.shape told.0 told.1 c.in_ok-values.values c.in_ok-values.ensures.reads c.in_ok-values.last c.in_ok-values.ensures.last
    c.args.exact.now c.fields_of.new.exact c.is_canonical_head.result c.in_ok-values.ensures.exact c.is_canonical_head.ensures.0 c.is_canonical_head.ensures.1)
