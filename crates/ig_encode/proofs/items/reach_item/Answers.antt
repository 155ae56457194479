-- Each row of the arrays whose items may be null.
use Rattle.std.proofs.Common.{sym, ap, ◌∙◌}
use Rattle.ig_value.specs.declared.Code.TheVariants as code
use Rattle.ig_value.specs.Part.{i64, scalar, text, uuid, stamp, decimal}
use Rattle.ig_value.specs.Table.{byte_of, value_with}
use Rattle.ig_encode.specs.Marks.{inner_end}
use Rattle.ig_encode.proofs.MarkLemmas.{path_row, items_start, reached_step, reached_end}
use Rattle.ig_encode.proofs.items.reach_item.Goals as goal

pub last_item-requires : goal.last_item-requires
last_item-requires c =
    let v = c.args.value.now in
    let is = c.in-Strs.is ∙ ap (λ l. value_with code.Strs (tt, l)) (sym c.as_slice.ensures) in
    items_start v code.Str text c.as_slice.result.now (inner_end v) c.args.offset c.args.path.now (path_row v code.Strs (tt, c.as_slice.result.now) (inner_end v) c.args.offset c.args.path.now is c.requires)

pub returns-in-Strs-clause-step : goal.returns-in-Strs-clause-step
returns-in-Strs-clause-step c =
    let is = c.in-Strs.is ∙ ap (λ l. value_with code.Strs (tt, l)) (sym c.as_slice.ensures) in
    reached_step c.args.value.now code.Strs (tt, c.as_slice.result.now) c.args.offset c.last_item.result is c.last_item.ensures.step

pub returns-in-Strs-clause-end : goal.returns-in-Strs-clause-end
returns-in-Strs-clause-end c =
    let is = c.in-Strs.is ∙ ap (λ l. value_with code.Strs (tt, l)) (sym c.as_slice.ensures) in
    reached_end c.args.value.now code.Strs (tt, c.as_slice.result.now) c.args.offset c.last_item.result is (c.last_item.ensures.end (byte_of code.Strs))

pub last_item-requires-in-Uuids : goal.last_item-requires-in-Uuids
last_item-requires-in-Uuids c =
    let v = c.args.value.now in
    let is = c.in-Uuids.is ∙ ap (λ l. value_with code.Uuids (tt, l)) (sym c.as_slice-in-Uuids.ensures) in
    items_start v code.Uuid uuid c.as_slice-in-Uuids.result.now (inner_end v) c.args.offset c.args.path.now (path_row v code.Uuids (tt, c.as_slice-in-Uuids.result.now) (inner_end v) c.args.offset c.args.path.now is c.requires)

pub returns-in-Uuids-clause-step : goal.returns-in-Uuids-clause-step
returns-in-Uuids-clause-step c =
    let is = c.in-Uuids.is ∙ ap (λ l. value_with code.Uuids (tt, l)) (sym c.as_slice-in-Uuids.ensures) in
    reached_step c.args.value.now code.Uuids (tt, c.as_slice-in-Uuids.result.now) c.args.offset c.last_item-in-Uuids.result is c.last_item-in-Uuids.ensures.step

pub returns-in-Uuids-clause-end : goal.returns-in-Uuids-clause-end
returns-in-Uuids-clause-end c =
    let is = c.in-Uuids.is ∙ ap (λ l. value_with code.Uuids (tt, l)) (sym c.as_slice-in-Uuids.ensures) in
    reached_end c.args.value.now code.Uuids (tt, c.as_slice-in-Uuids.result.now) c.args.offset c.last_item-in-Uuids.result is (c.last_item-in-Uuids.ensures.end (byte_of code.Uuids))

pub last_item-requires-in-Dates : goal.last_item-requires-in-Dates
last_item-requires-in-Dates c =
    let v = c.args.value.now in
    let is = c.in-Dates.is ∙ ap (λ l. value_with code.Dates (tt, l)) (sym c.as_slice-in-Dates.ensures) in
    items_start v code.Date (scalar i64) c.as_slice-in-Dates.result.now (inner_end v) c.args.offset c.args.path.now (path_row v code.Dates (tt, c.as_slice-in-Dates.result.now) (inner_end v) c.args.offset c.args.path.now is c.requires)

pub returns-in-Dates-clause-step : goal.returns-in-Dates-clause-step
returns-in-Dates-clause-step c =
    let is = c.in-Dates.is ∙ ap (λ l. value_with code.Dates (tt, l)) (sym c.as_slice-in-Dates.ensures) in
    reached_step c.args.value.now code.Dates (tt, c.as_slice-in-Dates.result.now) c.args.offset c.last_item-in-Dates.result is c.last_item-in-Dates.ensures.step

pub returns-in-Dates-clause-end : goal.returns-in-Dates-clause-end
returns-in-Dates-clause-end c =
    let is = c.in-Dates.is ∙ ap (λ l. value_with code.Dates (tt, l)) (sym c.as_slice-in-Dates.ensures) in
    reached_end c.args.value.now code.Dates (tt, c.as_slice-in-Dates.result.now) c.args.offset c.last_item-in-Dates.result is (c.last_item-in-Dates.ensures.end (byte_of code.Dates))

pub last_item-requires-in-Decimals : goal.last_item-requires-in-Decimals
last_item-requires-in-Decimals c =
    let v = c.args.value.now in
    let is = c.in-Decimals.is ∙ ap (λ l. value_with code.Decimals (tt, l)) (sym c.as_slice-in-Decimals.ensures) in
    items_start v code.Decimal decimal c.as_slice-in-Decimals.result.now (inner_end v) c.args.offset c.args.path.now (path_row v code.Decimals (tt, c.as_slice-in-Decimals.result.now) (inner_end v) c.args.offset c.args.path.now is c.requires)

pub returns-in-Decimals-clause-step : goal.returns-in-Decimals-clause-step
returns-in-Decimals-clause-step c =
    let is = c.in-Decimals.is ∙ ap (λ l. value_with code.Decimals (tt, l)) (sym c.as_slice-in-Decimals.ensures) in
    reached_step c.args.value.now code.Decimals (tt, c.as_slice-in-Decimals.result.now) c.args.offset c.last_item-in-Decimals.result is c.last_item-in-Decimals.ensures.step

pub returns-in-Decimals-clause-end : goal.returns-in-Decimals-clause-end
returns-in-Decimals-clause-end c =
    let is = c.in-Decimals.is ∙ ap (λ l. value_with code.Decimals (tt, l)) (sym c.as_slice-in-Decimals.ensures) in
    reached_end c.args.value.now code.Decimals (tt, c.as_slice-in-Decimals.result.now) c.args.offset c.last_item-in-Decimals.result is (c.last_item-in-Decimals.ensures.end (byte_of code.Decimals))

pub last_item-requires-in-Timestamps : goal.last_item-requires-in-Timestamps
last_item-requires-in-Timestamps c =
    let v = c.args.value.now in
    let is = c.in-Timestamps.is ∙ ap (λ l. value_with code.Timestamps (tt, l)) (sym c.as_slice-in-Timestamps.ensures) in
    items_start v code.Timestamp stamp c.as_slice-in-Timestamps.result.now (inner_end v) c.args.offset c.args.path.now (path_row v code.Timestamps (tt, c.as_slice-in-Timestamps.result.now) (inner_end v) c.args.offset c.args.path.now is c.requires)

pub returns-in-Timestamps-clause-step : goal.returns-in-Timestamps-clause-step
returns-in-Timestamps-clause-step c =
    let is = c.in-Timestamps.is ∙ ap (λ l. value_with code.Timestamps (tt, l)) (sym c.as_slice-in-Timestamps.ensures) in
    reached_step c.args.value.now code.Timestamps (tt, c.as_slice-in-Timestamps.result.now) c.args.offset c.last_item-in-Timestamps.result is c.last_item-in-Timestamps.ensures.step

pub returns-in-Timestamps-clause-end : goal.returns-in-Timestamps-clause-end
returns-in-Timestamps-clause-end c =
    let is = c.in-Timestamps.is ∙ ap (λ l. value_with code.Timestamps (tt, l)) (sym c.as_slice-in-Timestamps.ensures) in
    reached_end c.args.value.now code.Timestamps (tt, c.as_slice-in-Timestamps.result.now) c.args.offset c.last_item-in-Timestamps.result is (c.last_item-in-Timestamps.ensures.end (byte_of code.Timestamps))

pub last_item-requires-in-Times : goal.last_item-requires-in-Times
last_item-requires-in-Times c =
    let v = c.args.value.now in
    let is = c.in-Times.is ∙ ap (λ l. value_with code.Times (tt, l)) (sym c.as_slice-in-Times.ensures) in
    items_start v code.Time (scalar i64) c.as_slice-in-Times.result.now (inner_end v) c.args.offset c.args.path.now (path_row v code.Times (tt, c.as_slice-in-Times.result.now) (inner_end v) c.args.offset c.args.path.now is c.requires)

pub returns-in-Times-clause-step : goal.returns-in-Times-clause-step
returns-in-Times-clause-step c =
    let is = c.in-Times.is ∙ ap (λ l. value_with code.Times (tt, l)) (sym c.as_slice-in-Times.ensures) in
    reached_step c.args.value.now code.Times (tt, c.as_slice-in-Times.result.now) c.args.offset c.last_item-in-Times.result is c.last_item-in-Times.ensures.step

pub returns-in-Times-clause-end : goal.returns-in-Times-clause-end
returns-in-Times-clause-end c =
    let is = c.in-Times.is ∙ ap (λ l. value_with code.Times (tt, l)) (sym c.as_slice-in-Times.ensures) in
    reached_end c.args.value.now code.Times (tt, c.as_slice-in-Times.result.now) c.args.offset c.last_item-in-Times.result is (c.last_item-in-Times.ensures.end (byte_of code.Times))
