use Rattle.std.proofs.Common.{◌≡◌, ℤ, pos, List, [], ◌∷◌, ◌++◌, take, Vec, Global, true, false, cond, get_or, rules, sym, ap, ◌∙◌}
use mir.Val.{SFits}
use Rattle.std.specs.Int.{w32}
use Rattle.std.specs.Ordering.{int_eq}
use Rattle.std.proofs.lemmas.Int.{to_z-of_z}
use Rattle.ig_parts.proofs.ServedLemmas.{mentions, mentioned_again, mentioned_first, mentions_more, not_there, there}
use Rattle.ig_parts.proofs.served.first_mentions.Goals as goal
use Rattle.ig_parts.proofs.served.first_mentions.Goals.{then-branch+in_ok-push, else-branch}

pub loop-number-preserved : goal.loop-number-preserved
loop-number-preserved c =
    let numbers = c.args.numbers.now in
    let i = c.loop-number.number-index in
    let x = get_or numbers i (pos 0) in
    let lt = c.loop-number-test.true in
    let fits : SFits w32 x = search rules in
    let added = simp to_z-of_z at c.in_ok-insert.ensures.added in
    let known = c.loop-number.invariant.seen x in
    let made = c.loop-number.invariant.made in
    record {
      made = elim c.if-branch.branch [
        | then-branch+in_ok-push w ↦
            let unseen : mentions (take i numbers) x ≡ false = sym known ∙ not_there _ (sym w.if-branch.true ∙ added) in
            ap (λ (v : Vec ℤ Global). v.items) w.made-is ∙ (simp to_z-of_z at w.in_ok-push.ensures.items) ∙ ap (λ (l : List ℤ). l ++ x ∷ []) made ∙ sym (mentioned_first numbers i (pos 0) lt unseen)
        | else-branch w ↦
            let seen : mentions (take i numbers) x ≡ true = sym known ∙ there _ (sym w.if-branch.false ∙ added) in
            ap (λ (v : Vec ℤ Global). v.items) w.made-is ∙ made ∙ sym (mentioned_again numbers i (pos 0) lt seen)
      ];
      seen = λ q.
          (simp to_z-of_z at (c.in_ok-insert.ensures.updates.0 q)) ∙ ap (cond (int_eq x q) true) (c.loop-number.invariant.seen q) ∙ mentions_more numbers i (pos 0) q lt;
    }
