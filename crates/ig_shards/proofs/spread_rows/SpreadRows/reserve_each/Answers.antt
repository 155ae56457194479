use Rattle.std.proofs.Common.{◌≡◌, ◌≤◌, ℕ, Bool, List, length, get_or, ◌∙◌, subst, arith}
use Rattle.std.proofs.lemmas.List.{take_all}
use Rattle.ig_caches.specs.declared.call.Pair.{Pair}
use Rattle.ig_caches.specs.Rows.{Rows}
use Rattle.ig_shards.specs.Marks.{HasRows}
use Rattle.ig_shards.proofs.MarkLemmas.{reserved_count, reserved_marked, reserved_new, reserved_stand, left_marked, left_new, left_within}
use Rattle.ig_shards.proofs.spread_rows.SpreadRows.reserve_each.Goals as goal

pub loop-pair-preserved : goal.loop-pair-preserved
loop-pair-preserved c =
    let pairs : List Pair = c.args.pairs.now in
    let i : ℕ = c.loop-pair.pair-index in
    let pair : Pair = c.pair-item.result in
    let is : pair ≡ get_or pairs i pair = c.pair-item.is in
    let old : Rows = c.args.self.now.1 in
    let now : Rows = c.loop-pair.self.1 in
    let new : Rows = c.reserve_one.new.self.1 in
    let marks : List Bool = c.loop-pair.marks.items in
    let next : List Bool = c.reserve_one.new.marks.items in
    let it = c.loop-pair.invariant in
    let step = c.in_ok-reserve_one.ensures.ok in
    record {
      shards = c.reserve_one.ensures.count ∙ it.shards;
      count = reserved_count old now new marks next pairs i pair it.count c.loop-pair-test.true is it.marked it.new step;
      marked = reserved_marked old now new marks next pairs i pair it.count c.loop-pair-test.true is it.marked it.new step;
      new = reserved_new old now new marks next pairs i pair it.count c.loop-pair-test.true is it.marked it.new step;
      stand = reserved_stand old now new marks next pairs i pair it.count c.loop-pair-test.true is it.marked it.new step it.stand;
    }

pub returns-in_err-reserve_one-clause-marked : goal.returns-in_err-reserve_one-clause-marked
returns-in_err-reserve_one-clause-marked c =
    let it = c.loop-pair.invariant in
    left_marked c.args.self.now.1 c.loop-pair.self.1 c.reserve_one.new.self.1 c.loop-pair.marks.items c.reserve_one.new.marks.items c.args.pairs.now c.loop-pair.pair-index c.pair-item.result
    it.count c.loop-pair-test.true c.pair-item.is it.marked it.new c.in_err-reserve_one.ensures.err

pub returns-in_err-reserve_one-clause-new : goal.returns-in_err-reserve_one-clause-new
returns-in_err-reserve_one-clause-new c =
    let it = c.loop-pair.invariant in
    left_new c.args.self.now.1 c.loop-pair.self.1 c.reserve_one.new.self.1 c.loop-pair.marks.items c.reserve_one.new.marks.items c.args.pairs.now c.loop-pair.pair-index c.pair-item.result
    it.count c.loop-pair-test.true c.pair-item.is it.marked it.new c.in_err-reserve_one.ensures.err

pub returns-in_err-reserve_one-clause-within : goal.returns-in_err-reserve_one-clause-within
returns-in_err-reserve_one-clause-within c =
    let it = c.loop-pair.invariant in
    left_within c.args.self.now.1 c.loop-pair.self.1 c.reserve_one.new.self.1 c.loop-pair.marks.items c.reserve_one.new.marks.items c.args.pairs.now c.loop-pair.pair-index c.pair-item.result
    it.count c.loop-pair-test.true c.pair-item.is it.marked it.new c.in_err-reserve_one.ensures.err

pub returns-clause-ok : goal.returns-clause-ok
returns-clause-ok c =
    let done : length c.args.pairs.now ≤ c.loop-pair.pair-index = omega (arith, c.loop-pair-test.false) in
    subst (HasRows c.loop-pair.self.1) (take_all c.loop-pair.pair-index c.args.pairs.now done) c.loop-pair.invariant.stand
