use Rattle.std.proofs.Common.{◌≡◌, List, ℕ, ◌-◌, length, sym, ap, ◌∙◌}
use Rattle.std.specs.Prelude.{◌^◌, min}
use Rattle.ig_replies.proofs.ResultLemmas.{meta_shown, meta_bytes, other_bytes}
use Rattle.ig_replies.proofs.result.shown_len.Goals as goal

pub result_len-requires : goal.result_len-requires
result_len-requires c = meta_shown c.args.shown.now (sym c.is_meta.ensures ∙ c.if-is_meta.true)

pub returns-then-is_meta : goal.returns-then-is_meta
returns-then-is_meta c =
    c.result_len.ensures
    ∙ ap (λ (l : List ℕ). min (length l) (2 ^ 128 - 1)) (sym (meta_bytes c.args.shown.now (sym c.is_meta.ensures ∙ c.if-is_meta.true)))

pub returns : goal.returns
returns c =
    c.message_len.ensures
    ∙ ap (λ (l : List ℕ). min (length l) (2 ^ 128 - 1)) (sym (other_bytes c.args.shown.now (sym c.is_meta.ensures ∙ c.if-is_meta.false)))
