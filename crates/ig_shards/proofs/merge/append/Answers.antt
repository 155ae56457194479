use Rattle.std.proofs.Common.{◌≤◌, ℕ, List, [], ◌∷◌, ◌++◌, length, take, ap, sym, ◌∙◌, arith}
use Rattle.std.proofs.lemmas.List.{append_assoc, take_all}
use Rattle.ig_caches.proofs.ItemLemmas.{taken_at}
use Rattle.ig_shards.proofs.MergeLemmas.{Lent}
use Rattle.ig_shards.proofs.merge.append.Goals as goal

pub loop-entry-preserved : goal.loop-entry-preserved
loop-entry-preserved c =
    let old : List Lent = c.args.rows.now.items in
    let i : ℕ = c.loop-entry.entry-index in
    let entry : Lent = c.entry-item.result in
    c.in_ok-push.ensures.items ∙ ap (λ (l : List Lent). l ++ entry ∷ []) c.loop-entry.invariant ∙ append_assoc old (take i c.args.more.now) (entry ∷ [])
    ∙ ap (λ (l : List Lent). old ++ l) (sym (taken_at c.args.more.now i entry c.loop-entry-test.true c.entry-item.is))

pub returns : goal.returns
returns c =
    let done : length c.args.more.now ≤ c.loop-entry.entry-index = omega (arith, c.loop-entry-test.false) in
    record { ok = c.loop-entry.invariant ∙ ap (λ (l : List Lent). c.args.rows.now.items ++ l) (take_all c.loop-entry.entry-index c.args.more.now done) }
