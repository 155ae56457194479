use Rattle.std.proofs.Common.{◌≡◌, List, ℕ, ◌-◌, ◌++◌, length, take, drop, sym, ap, ◌∙◌}
use Rattle.std.specs.Prelude.{min}
use Rattle.ig_replies.proofs.ResultLemmas.{meta_shown, meta_bytes, other_bytes}
use Rattle.ig_replies.proofs.result.whole_part.Goals as goal

pub result_part-requires : goal.result_part-requires
result_part-requires c = meta_shown c.args.shown.now (sym c.is_meta.ensures ∙ c.if-is_meta.true)

pub returns-then-is_meta-clause-count : goal.returns-then-is_meta-clause-count
returns-then-is_meta-clause-count c =
    c.result_part.ensures.count
    ∙ ap (λ (l : List ℕ). min (length c.args.into.now) (length l - c.args.from)) (sym (meta_bytes c.args.shown.now (sym c.is_meta.ensures ∙ c.if-is_meta.true)))

pub returns-then-is_meta-clause-bytes : goal.returns-then-is_meta-clause-bytes
returns-then-is_meta-clause-bytes c =
    c.result_part.ensures.bytes
    ∙ ap (λ (l : List ℕ). take c.result_part.result (drop c.args.from l) ++ drop c.result_part.result c.args.into.now)
    (sym (meta_bytes c.args.shown.now (sym c.is_meta.ensures ∙ c.if-is_meta.true)))

pub returns-clause-count : goal.returns-clause-count
returns-clause-count c =
    c.message_part.ensures.count
    ∙ ap (λ (l : List ℕ). min (length c.args.into.now) (length l - c.args.from)) (sym (other_bytes c.args.shown.now (sym c.is_meta.ensures ∙ c.if-is_meta.false)))

pub returns-clause-bytes : goal.returns-clause-bytes
returns-clause-bytes c =
    c.message_part.ensures.bytes
    ∙ ap (λ (l : List ℕ). take c.message_part.result (drop c.args.from l) ++ drop c.message_part.result c.args.into.now)
    (sym (other_bytes c.args.shown.now (sym c.is_meta.ensures ∙ c.if-is_meta.false)))
