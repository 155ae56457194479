use Rattle.std.proofs.Common.{◌≡◌, ◌==◌, ℕ, true, false, length, ap, sym, ◌∙◌}
use Rattle.ig_shards_tests.proofs.tests.name.Goals as goal

pub returns : goal.returns
returns c = λ e.
    let zero : length c.args.word.now ≡ 0 = ap length (sym c.in_ok-text.ensures ∙ e) in
    let never : false ≡ true = c.if-is_empty.ensures ∙ ap (λ (n : ℕ). n == 0) zero in
    cc
