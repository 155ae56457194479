-- The depth of each variant, and the steps of the two loops.
use Rattle.std.proofs.Common.{◌≡◌, ◌≤◌, max, map, ap, sym, ◌∙◌, arith, add-one}
use Rattle.ig_value.specs.Limits.{Depth, greatest, pair_depth}
use Rattle.ig_value.proofs.DepthLemmas.{greatest_item, greatest_more, Depth_objects, Depth_collection, Depth_map, Depth_enums, Depth_object, Depth_default}
use Rattle.ig_value.proofs.+depth.Goals as goal
use Rattle.ig_value.proofs.+depth.Goals.{depth::greatest_depth-then-greatest-depth, depth::greatest_depth-else-greatest-depth, depth::greatest_pair_depth-then-greatest-first, depth::greatest_pair_depth-else-greatest-first, depth::greatest_pair_depth-then-greatest-second, depth::greatest_pair_depth-else-greatest-second}

pub depth::greatest_depth-depth-depth-requires : goal.depth::greatest_depth-depth-depth-requires
depth::greatest_depth-depth-depth-requires t c =
    let le : Depth c.value-item.result ≤ greatest (map Depth c.args.values.now) =
    omega (arith, greatest_item Depth c.args.values.now c.loop-value.value-index c.value-item.result c.loop-value-test.true, ap Depth c.value-item.is) in
    (omega arith, omega arith)

pub depth::greatest_depth-loop-value-preserved : goal.depth::greatest_depth-loop-value-preserved
depth::greatest_depth-loop-value-preserved t c =
    let more = greatest_more Depth c.args.values.now c.loop-value.value-index c.value-item.result c.loop-value-test.true in
    let this = ap Depth c.value-item.is in
    elim c.if-greatest-depth.branch [
      | depth::greatest_depth-then-greatest-depth w ↦ rw add-one (omega (arith, more, this, c.loop-value.invariant, c.depth-depth.ensures))
      | depth::greatest_depth-else-greatest-depth w ↦ rw add-one (omega (arith, more, this, c.loop-value.invariant, c.depth-depth.ensures))
    ]

pub value::Value::depth-greatest_depth-requires : goal.value::Value::depth-greatest_depth-requires
value::Value::depth-greatest_depth-requires t c =
    let d = Depth_objects c.args.self.now c.in-Objects.type_id c.in-Objects.items c.in-Objects.is in
    rw c.as_slice.ensures (omega arith, omega arith)

pub value::Value::depth-overflow_add-result : goal.value::Value::depth-overflow_add-result
value::Value::depth-overflow_add-result t c =
    let d = Depth_objects c.args.self.now c.in-Objects.type_id c.in-Objects.items c.in-Objects.is in
    omega (arith, c.greatest_depth.ensures, ap (λ l. greatest (map Depth l)) c.as_slice.ensures)

pub value::Value::depth-returns-in-Objects : goal.value::Value::depth-returns-in-Objects
value::Value::depth-returns-in-Objects t c =
    let d = Depth_objects c.args.self.now c.in-Objects.type_id c.in-Objects.items c.in-Objects.is in
    omega (arith, c.greatest_depth.ensures, ap (λ l. greatest (map Depth l)) c.as_slice.ensures)

pub value::Value::depth-returns-in_default : goal.value::Value::depth-returns-in_default
value::Value::depth-returns-in_default t c = sym (Depth_default c.args.self.now c.in_default.not-Objects c.in_default.not-Collection c.in_default.not-Map c.in_default.not-Enums c.in_default.not-Object)

pub value::Value::depth-greatest_depth-requires-in-Collection : goal.value::Value::depth-greatest_depth-requires-in-Collection
value::Value::depth-greatest_depth-requires-in-Collection t c =
    let d = Depth_collection c.args.self.now c.in-Collection.kind c.in-Collection.items c.in-Collection.is in
    rw c.as_slice-in-Collection.ensures (omega arith, omega arith)

pub value::Value::depth-overflow_add-result-in-Collection : goal.value::Value::depth-overflow_add-result-in-Collection
value::Value::depth-overflow_add-result-in-Collection t c =
    let d = Depth_collection c.args.self.now c.in-Collection.kind c.in-Collection.items c.in-Collection.is in
    omega (arith, c.greatest_depth-in-Collection.ensures, ap (λ l. greatest (map Depth l)) c.as_slice-in-Collection.ensures)

pub value::Value::depth-returns-in-Collection : goal.value::Value::depth-returns-in-Collection
value::Value::depth-returns-in-Collection t c =
    let d = Depth_collection c.args.self.now c.in-Collection.kind c.in-Collection.items c.in-Collection.is in
    omega (arith, c.greatest_depth-in-Collection.ensures, ap (λ l. greatest (map Depth l)) c.as_slice-in-Collection.ensures)

pub value::Value::depth-greatest_pair_depth-requires : goal.value::Value::depth-greatest_pair_depth-requires
value::Value::depth-greatest_pair_depth-requires t c =
    let d = Depth_map c.args.self.now c.in-Map.kind c.in-Map.pairs c.in-Map.is in
    rw c.as_slice-in-Map.ensures (omega arith, omega arith)

pub value::Value::depth-overflow_add-result-in-Map : goal.value::Value::depth-overflow_add-result-in-Map
value::Value::depth-overflow_add-result-in-Map t c =
    let d = Depth_map c.args.self.now c.in-Map.kind c.in-Map.pairs c.in-Map.is in
    omega (arith, c.greatest_pair_depth.ensures, ap (λ l. greatest (map pair_depth l)) c.as_slice-in-Map.ensures)

pub value::Value::depth-returns-in-Map : goal.value::Value::depth-returns-in-Map
value::Value::depth-returns-in-Map t c =
    let d = Depth_map c.args.self.now c.in-Map.kind c.in-Map.pairs c.in-Map.is in
    omega (arith, c.greatest_pair_depth.ensures, ap (λ l. greatest (map pair_depth l)) c.as_slice-in-Map.ensures)

pub value::Value::depth-greatest_depth-requires-in-Enums : goal.value::Value::depth-greatest_depth-requires-in-Enums
value::Value::depth-greatest_depth-requires-in-Enums t c =
    let d = Depth_enums c.args.self.now c.in-Enums.type_id c.in-Enums.items c.in-Enums.is in
    rw c.as_slice-in-Enums.ensures (omega arith, omega arith)

pub value::Value::depth-overflow_add-result-in-Enums : goal.value::Value::depth-overflow_add-result-in-Enums
value::Value::depth-overflow_add-result-in-Enums t c =
    let d = Depth_enums c.args.self.now c.in-Enums.type_id c.in-Enums.items c.in-Enums.is in
    omega (arith, c.greatest_depth-in-Enums.ensures, ap (λ l. greatest (map Depth l)) c.as_slice-in-Enums.ensures)

pub value::Value::depth-returns-in-Enums : goal.value::Value::depth-returns-in-Enums
value::Value::depth-returns-in-Enums t c =
    let d = Depth_enums c.args.self.now c.in-Enums.type_id c.in-Enums.items c.in-Enums.is in
    omega (arith, c.greatest_depth-in-Enums.ensures, ap (λ l. greatest (map Depth l)) c.as_slice-in-Enums.ensures)

pub depth::greatest_pair_depth-depth-first-requires : goal.depth::greatest_pair_depth-depth-first-requires
depth::greatest_pair_depth-depth-first-requires t c =
    let le : pair_depth c.pair-item.result ≤ greatest (map pair_depth c.args.pairs.now) =
    omega (arith, greatest_item pair_depth c.args.pairs.now c.loop-pair.pair-index c.pair-item.result c.loop-pair-test.true, ap pair_depth c.pair-item.is) in
    (omega arith, omega arith)

pub depth::greatest_pair_depth-depth-second-requires : goal.depth::greatest_pair_depth-depth-second-requires
depth::greatest_pair_depth-depth-second-requires t c =
    let le : pair_depth c.pair-item.result ≤ greatest (map pair_depth c.args.pairs.now) =
    omega (arith, greatest_item pair_depth c.args.pairs.now c.loop-pair.pair-index c.pair-item.result c.loop-pair-test.true, ap pair_depth c.pair-item.is) in
    (omega arith, omega arith)

pub depth::greatest_pair_depth-loop-pair-preserved : goal.depth::greatest_pair_depth-loop-pair-preserved
depth::greatest_pair_depth-loop-pair-preserved t c =
    let more = greatest_more pair_depth c.args.pairs.now c.loop-pair.pair-index c.pair-item.result c.loop-pair-test.true in
    let this = ap pair_depth c.pair-item.is in
    let first : c.if-greatest-first.greatest ≡ max c.loop-pair.greatest c.depth-first.result =
    elim c.if-greatest-first.branch [
      | depth::greatest_pair_depth-then-greatest-first w ↦ omega arith
      | depth::greatest_pair_depth-else-greatest-first w ↦ omega arith
    ] in
    elim c.if-greatest-second.branch [
      | depth::greatest_pair_depth-then-greatest-second w ↦ rw add-one (omega (arith, more, this, first, c.loop-pair.invariant, c.depth-first.ensures, c.depth-second.ensures))
      | depth::greatest_pair_depth-else-greatest-second w ↦ rw add-one (omega (arith, more, this, first, c.loop-pair.invariant, c.depth-first.ensures, c.depth-second.ensures))
    ]

pub value::Value::depth-greatest_depth-requires-in-Object : goal.value::Value::depth-greatest_depth-requires-in-Object
value::Value::depth-greatest_depth-requires-in-Object t c =
    let d = Depth_object c.args.self.now c.in-Object.object c.in-Object.is in
    let same = ap (λ l. greatest (map Depth l)) (c.as_slice-in-Object.ensures ∙ ap (λ o. o.fields) c.get.ensures) in
    (omega (arith, same), omega (arith, same))

pub value::Value::depth-overflow_add-result-in-Object : goal.value::Value::depth-overflow_add-result-in-Object
value::Value::depth-overflow_add-result-in-Object t c =
    let d = Depth_object c.args.self.now c.in-Object.object c.in-Object.is in
    let same = ap (λ l. greatest (map Depth l)) (c.as_slice-in-Object.ensures ∙ ap (λ o. o.fields) c.get.ensures) in
    omega (arith, c.greatest_depth-in-Object.ensures, same)

pub value::Value::depth-returns-in-Object : goal.value::Value::depth-returns-in-Object
value::Value::depth-returns-in-Object t c =
    let d = Depth_object c.args.self.now c.in-Object.object c.in-Object.is in
    let same = ap (λ l. greatest (map Depth l)) (c.as_slice-in-Object.ensures ∙ ap (λ o. o.fields) c.get.ensures) in
    omega (arith, c.greatest_depth-in-Object.ensures, same)
