use Rattle.std.proofs.Common.{◌≡◌, ◌+◌, ◌/◌, List, get_or, sym, ap, ◌∙◌, drop}
use Rattle.std.specs.List.{flat_map}
use Rattle.ig_value.specs.declared.value.Value.{Value}
use Rattle.ig_value.specs.Canon.{Canon}
use Rattle.ig_encode.specs.ListBytes.{pair_bytes}
use Rattle.ig_encode.specs.WindowOutput.{window_after, filled_empty, filled_longer}
use Rattle.ig_encode.proofs.OutputLemmas.{two}
use Rattle.ig_encode.proofs.MarkLemmas.{drop_keys, drop_values, drop_no_pair, rest_all}
use Rattle.ig_encode.proofs.resume.fill_from_pair.Goals as goal

pub returns-then-at-pairs : goal.returns-then-at-pairs
returns-then-at-pairs c = sym (ap (window_after c.args.out.now c.args.into.now) (drop_no_pair c.args.pairs.now c.args.index c.if-at-pairs.true) ∙ filled_empty c.args.out.now c.args.into.now)

pub returns-then-index-eq0 : goal.returns-then-index-eq0
returns-then-index-eq0 c = c.fill_pairs.ensures ∙ ap (λ (l : List (Value × Value)). window_after c.args.out.now c.args.into.now (flat_map pair_bytes l)) (rest_all c.args.pairs.now (c.args.index / 2)) ∙ ap (window_after c.args.out.now c.args.into.now) (sym (drop_keys c.args.pairs.now c.args.index c.if-index-eq0.true))

pub returns : goal.returns
returns c =
    let ps = c.args.pairs.now in
    let at = c.args.index / 2 in
    let p = get_or ps at c.index-pairs-at.result in
    let item : p ≡ get_or ps at p = ap (get_or ps at) c.index-pairs-at.is in
    two window_after filled_longer c.args.out.now c.args.into.now (Canon p.1) (flat_map pair_bytes (drop (at + 1) ps)) (c.fill_value.new.out, c.fill_value.new.into) (c.fill_pairs-2.new.out, c.fill_pairs-2.new.into) c.fill_value.ensures
    (c.fill_pairs-2.ensures ∙ ap (λ (l : List (Value × Value)). window_after c.fill_value.new.out c.fill_value.new.into (flat_map pair_bytes l)) (rest_all ps (at + 1)))
    ∙ ap (window_after c.args.out.now c.args.into.now) (sym (drop_values ps c.args.index p c.if-at-pairs.false item c.if-index-eq0.false))
