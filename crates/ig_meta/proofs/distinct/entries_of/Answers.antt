use Rattle.std.proofs.Common.{◌≡◌, true, false, ap}
use Rattle.std.specs.Prelude.{is_some}
use Rattle.std.specs.BTreeMap.{is_at}
use Rattle.std.specs.Map.{lookup}
use Rattle.std.proofs.lemmas.Result.{err_from_is_err_and}
use Rattle.ig_meta.proofs.LoopLemmas.{read_into, one_put, key_failed, key_repeated, rest_failed, all_put}
use Rattle.ig_meta.proofs.distinct.entries_of.Goals as goal

pub each-init : goal.each-init
each-init g c = ap (λ es. read_into g.M.Key.Ord.cmp g.M.Key.ListKey.reads g.M.Rest.FieldFormat.reads es c.args.count.items c.args.bytes.now) c.new-entries.ensures.empty

pub returns-in_err-key : goal.returns-in_err-key
returns-in_err-key g c =
    let p = err_from_is_err_and c.from_residual.result c.from_residual.ensures.1 in
    let less = c.take_one.ensures.more c.each-test.true in
    rw (p.1, p.2) (key_failed g.M.Key.Ord.cmp g.met.M.Key.Ord.total g.M.Key.ListKey.reads g.M.Rest.FieldFormat.reads c.in_err-key.field-0.0 c.each.entries.entries c.each.left.items c.take_one.new.self.items c.each.rest.now _ less c.in_err-key.ensures c.each.invariant)

pub returns-then-contains_key : goal.returns-then-contains_key
returns-then-contains_key g c =
    let less = c.take_one.ensures.more c.each-test.true in
    let found : true ≡ is_some (lookup (is_at (g.M.Key.Ord.cmp c.in_ok-key.key)) c.each.entries.entries) = let a = c.contains_key.ensures in let b = c.if-contains_key.true in cc in
    key_repeated g.M.Key.Ord.cmp g.met.M.Key.Ord.total g.M.Key.ListKey.reads g.M.Rest.FieldFormat.reads c.each.entries.entries c.each.left.items c.take_one.new.self.items c.each.rest.now c.in_ok-key.key c.in_ok-key.after.now _ less c.in_ok-key.ensures found c.each.invariant

pub returns-in_err-item : goal.returns-in_err-item
returns-in_err-item g c =
    let p = err_from_is_err_and c.from_residual-in_err-item.result c.from_residual-in_err-item.ensures.1 in
    let less = c.take_one.ensures.more c.each-test.true in
    let absent : false ≡ is_some (lookup (is_at (g.M.Key.Ord.cmp c.in_ok-key.key)) c.each.entries.entries) = let a = c.contains_key.ensures in let b = c.if-contains_key.false in cc in
    rw (p.1, p.2) (rest_failed g.M.Key.Ord.cmp g.met.M.Key.Ord.total g.M.Key.ListKey.reads g.M.Rest.FieldFormat.reads c.in_err-item.field-0.0 c.each.entries.entries c.each.left.items c.take_one.new.self.items c.each.rest.now c.in_ok-key.key c.in_ok-key.after.now _ less c.in_ok-key.ensures absent c.in_err-item.ensures c.each.invariant)

pub each-preserved : goal.each-preserved
each-preserved g c =
    let less = c.take_one.ensures.more c.each-test.true in
    let absent : false ≡ is_some (lookup (is_at (g.M.Key.Ord.cmp c.in_ok-key.key)) c.each.entries.entries) = let a = c.contains_key.ensures in let b = c.if-contains_key.false in cc in
    one_put g.M.Key.Ord.cmp g.met.M.Key.Ord.total g.M.Key.ListKey.reads g.M.Rest.FieldFormat.reads c.each.entries.entries _ c.each.left.items c.take_one.new.self.items c.each.rest.now c.in_ok-key.key c.in_ok-key.after.now c.in_ok-item.item c.in_ok-item.after.now _ less c.in_ok-key.ensures absent c.in_ok-item.ensures c.in_ok-insert.ensures.entries c.each.invariant

pub returns : goal.returns
returns g c =
    let none = c.take_one.ensures.none c.each-test.false in
    all_put g.M.Key.Ord.cmp g.met.M.Key.Ord.total g.M.Key.ListKey.reads g.M.Rest.FieldFormat.reads c.each.entries.entries c.each.left.items c.each.rest.now _ none c.each.invariant
