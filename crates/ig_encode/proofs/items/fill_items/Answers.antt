-- Each row of the arrays whose items may be null.
use Rattle.std.proofs.Common.{◌+◌, sym, ap, ◌∙◌}
use Rattle.ig_value.specs.declared.Code.TheVariants as code
use Rattle.ig_value.specs.Table.{byte_of, value_with}
use Rattle.ig_encode.specs.Marks.{inner_end}
use Rattle.ig_encode.specs.WindowOutput.{window_after}
use Rattle.ig_encode.proofs.CanonLemmas.{Canon_row}
use Rattle.ig_encode.proofs.MarkLemmas.{tail_row, items_here}
use Rattle.ig_encode.proofs.items.fill_items.Goals as goal

pub put_from-requires : goal.put_from-requires
put_from-requires c =
    let is = c.in-Strs.is ∙ ap (λ l. value_with code.Strs (tt, l)) (sym c.as_slice.ensures) in
    items_here c.args.value.now code.Strs (tt, c.as_slice.result.now) c.args.out.now.skip c.args.step is (tail_row c.args.value.now code.Strs (tt, c.as_slice.result.now) (inner_end c.args.value.now) (inner_end c.args.value.now + c.args.out.now.skip) c.args.step is c.requires)

pub returns-in-Strs : goal.returns-in-Strs
returns-in-Strs c =
    let is = c.in-Strs.is ∙ ap (λ l. value_with code.Strs (tt, l)) (sym c.as_slice.ensures) in
    c.put_from.ensures (byte_of code.Strs) ∙ ap (window_after c.args.out.now c.args.into.now) (sym (Canon_row c.args.value.now code.Strs (tt, c.as_slice.result.now) is))

pub put_from-requires-in-Uuids : goal.put_from-requires-in-Uuids
put_from-requires-in-Uuids c =
    let is = c.in-Uuids.is ∙ ap (λ l. value_with code.Uuids (tt, l)) (sym c.as_slice-in-Uuids.ensures) in
    items_here c.args.value.now code.Uuids (tt, c.as_slice-in-Uuids.result.now) c.args.out.now.skip c.args.step is (tail_row c.args.value.now code.Uuids (tt, c.as_slice-in-Uuids.result.now) (inner_end c.args.value.now) (inner_end c.args.value.now + c.args.out.now.skip) c.args.step is c.requires)

pub returns-in-Uuids : goal.returns-in-Uuids
returns-in-Uuids c =
    let is = c.in-Uuids.is ∙ ap (λ l. value_with code.Uuids (tt, l)) (sym c.as_slice-in-Uuids.ensures) in
    c.put_from-in-Uuids.ensures (byte_of code.Uuids) ∙ ap (window_after c.args.out.now c.args.into.now) (sym (Canon_row c.args.value.now code.Uuids (tt, c.as_slice-in-Uuids.result.now) is))

pub put_from-requires-in-Dates : goal.put_from-requires-in-Dates
put_from-requires-in-Dates c =
    let is = c.in-Dates.is ∙ ap (λ l. value_with code.Dates (tt, l)) (sym c.as_slice-in-Dates.ensures) in
    items_here c.args.value.now code.Dates (tt, c.as_slice-in-Dates.result.now) c.args.out.now.skip c.args.step is (tail_row c.args.value.now code.Dates (tt, c.as_slice-in-Dates.result.now) (inner_end c.args.value.now) (inner_end c.args.value.now + c.args.out.now.skip) c.args.step is c.requires)

pub returns-in-Dates : goal.returns-in-Dates
returns-in-Dates c =
    let is = c.in-Dates.is ∙ ap (λ l. value_with code.Dates (tt, l)) (sym c.as_slice-in-Dates.ensures) in
    c.put_from-in-Dates.ensures (byte_of code.Dates) ∙ ap (window_after c.args.out.now c.args.into.now) (sym (Canon_row c.args.value.now code.Dates (tt, c.as_slice-in-Dates.result.now) is))

pub put_from-requires-in-Decimals : goal.put_from-requires-in-Decimals
put_from-requires-in-Decimals c =
    let is = c.in-Decimals.is ∙ ap (λ l. value_with code.Decimals (tt, l)) (sym c.as_slice-in-Decimals.ensures) in
    items_here c.args.value.now code.Decimals (tt, c.as_slice-in-Decimals.result.now) c.args.out.now.skip c.args.step is (tail_row c.args.value.now code.Decimals (tt, c.as_slice-in-Decimals.result.now) (inner_end c.args.value.now) (inner_end c.args.value.now + c.args.out.now.skip) c.args.step is c.requires)

pub returns-in-Decimals : goal.returns-in-Decimals
returns-in-Decimals c =
    let is = c.in-Decimals.is ∙ ap (λ l. value_with code.Decimals (tt, l)) (sym c.as_slice-in-Decimals.ensures) in
    c.put_from-in-Decimals.ensures (byte_of code.Decimals) ∙ ap (window_after c.args.out.now c.args.into.now) (sym (Canon_row c.args.value.now code.Decimals (tt, c.as_slice-in-Decimals.result.now) is))

pub put_from-requires-in-Timestamps : goal.put_from-requires-in-Timestamps
put_from-requires-in-Timestamps c =
    let is = c.in-Timestamps.is ∙ ap (λ l. value_with code.Timestamps (tt, l)) (sym c.as_slice-in-Timestamps.ensures) in
    items_here c.args.value.now code.Timestamps (tt, c.as_slice-in-Timestamps.result.now) c.args.out.now.skip c.args.step is (tail_row c.args.value.now code.Timestamps (tt, c.as_slice-in-Timestamps.result.now) (inner_end c.args.value.now) (inner_end c.args.value.now + c.args.out.now.skip) c.args.step is c.requires)

pub returns-in-Timestamps : goal.returns-in-Timestamps
returns-in-Timestamps c =
    let is = c.in-Timestamps.is ∙ ap (λ l. value_with code.Timestamps (tt, l)) (sym c.as_slice-in-Timestamps.ensures) in
    c.put_from-in-Timestamps.ensures (byte_of code.Timestamps) ∙ ap (window_after c.args.out.now c.args.into.now) (sym (Canon_row c.args.value.now code.Timestamps (tt, c.as_slice-in-Timestamps.result.now) is))

pub put_from-requires-in-Times : goal.put_from-requires-in-Times
put_from-requires-in-Times c =
    let is = c.in-Times.is ∙ ap (λ l. value_with code.Times (tt, l)) (sym c.as_slice-in-Times.ensures) in
    items_here c.args.value.now code.Times (tt, c.as_slice-in-Times.result.now) c.args.out.now.skip c.args.step is (tail_row c.args.value.now code.Times (tt, c.as_slice-in-Times.result.now) (inner_end c.args.value.now) (inner_end c.args.value.now + c.args.out.now.skip) c.args.step is c.requires)

pub returns-in-Times : goal.returns-in-Times
returns-in-Times c =
    let is = c.in-Times.is ∙ ap (λ l. value_with code.Times (tt, l)) (sym c.as_slice-in-Times.ensures) in
    c.put_from-in-Times.ensures (byte_of code.Times) ∙ ap (window_after c.args.out.now c.args.into.now) (sym (Canon_row c.args.value.now code.Times (tt, c.as_slice-in-Times.result.now) is))
