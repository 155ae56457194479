use Rattle.std.proofs.Common.{◌≡◌, ◌∙◌, rules, tests}
use Rattle.std.specs.List.{list_any}
use Rattle.std.proofs.lemmas.Iterator.{YieldsList-from_slice}
use Rattle.std.proofs.lemmas.Iterator.Search.{any_from_yields_List}
use Rattle.ig_ops.proofs.AskedLemmas.{is_null_pair, any_pair}
use Rattle.ig_ops.proofs.ask_shapes.any_null_pair.Goals as goal

pub returns : goal.returns
returns c =
    let pairs = c.args.pairs.now in
    let any : c.any.result ≡ list_any is_null_pair pairs = any_from_yields_List is_null_pair _ _ c.any.result c.any.ensures.ran (YieldsList-from_slice pairs cc) (λ x b q k. search (rules, tests)) in
    any ∙ any_pair pairs
