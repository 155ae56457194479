use Rattle.std.proofs.Common.{◌≡◌, ◌<◌, ◌≤◌, ◌+◌, ℕ, Bool, List, [], ◌∷◌, ◌++◌, length, take, drop, ◌-◌, All, is_lt, ap, ap₂, sym, subst, ◌⊎◌, ◌∙◌, inl, inr, arith, rules}
use Rattle.std.proofs.lemmas.Bool.{cases_Bool, cond-true, cond-false}
use Rattle.std.proofs.lemmas.List.{take_all, length-drop}
use Rattle.std.proofs.lemmas.List.Elements.{All-push, All-append, All-drop}
use Rattle.std.specs.FinMap as finite
use Rattle.ig_caches.specs.LentRows.{lent_rows, HasKey}
use Rattle.ig_caches.proofs.ItemLemmas.{split_at}
use Rattle.ig_caches.proofs.RowEntryLemmas.{by_bytes}
use Rattle.ig_shards.specs.Spread.{either}
use Rattle.ig_shards.proofs.MergeLemmas.{Lent, Merges, merge_start, all_at, step_right, step_left, merged_end, one_done}
use Rattle.ig_shards.proofs.merge.merged.Goals.{then-loop-at-test+else-next-right, else-loop-at-test}
use Rattle.ig_shards.proofs.merge.merged.Goals as goal

pub loop-at-init : goal.loop-at-init
loop-at-init c = record {
  of_left = omega arith;
  of_right = omega arith;
  keys = search rules;
  rows = λ a b of_left of_right apart.
      subst (λ (l : List Lent). Merges (lent_rows l) (lent_rows c.args.left.now) (lent_rows c.args.right.now) (finite.entries (either a b))) (sym c.new-merged.ensures.items)
      (merge_start (lent_rows c.args.left.now) (lent_rows c.args.right.now) a b of_left of_right apart);
}

pub loop-at-preserved : goal.loop-at-preserved
loop-at-preserved c =
    let left : List Lent = c.args.left.now in
    let right : List Lent = c.args.right.now in
    let merged : List Lent = c.loop-at.merged.items in
    let i : ℕ = c.loop-at.at in
    let j : ℕ = c.loop-at.next in
    let x : Lent = c.index-left-at.result in
    let y : Lent = c.index-right-next.result in
    let in_left : i < length left = search rules in
    let in_right : j < length right = search rules in
    let at_left : drop i left ≡ x ∷ drop (i + 1) left = split_at left i x in_left c.index-left-at.is in
    let at_right : drop j right ≡ y ∷ drop (j + 1) right = split_at right j y in_right c.index-right-next.is in
    let test : Bool = is_lt (by_bytes y.0.now x.0.now) in
    let it = c.loop-at.invariant in
    elim (cases_Bool test) [
      | inl less ↦
          let is : ◌≡◌ {A = Lent × ℕ × ℕ} c.first-step.result (y, i, j + 1) = c.first-step.ensures ∙ cond-true test (y, i, j + 1) (x, i + 1, j) less in
          record {
            of_left = subst (λ (r : Lent × ℕ × ℕ). r.1 ≤ length left) (sym is) it.of_left;
            of_right = subst (λ (r : Lent × ℕ × ℕ). r.2 ≤ length right) (sym is) (omega (arith, in_right));
            keys = subst (All HasKey) (sym c.in_ok-push.ensures.items)
                (All-push HasKey merged c.first-step.result.0 it.keys (subst (λ (r : Lent × ℕ × ℕ). HasKey r.0) (sym is) (all_at HasKey right (drop (j + 1) right) j y at_right c.requires.1)));
            rows = λ a b of_left of_right apart.
                subst (λ (l : List Lent). Merges (lent_rows l) (lent_rows (drop c.first-step.result.1 left)) (lent_rows (drop c.first-step.result.2 right)) (finite.entries (either a b))) (sym c.in_ok-push.ensures.items)
                (subst (λ (r : Lent × ℕ × ℕ). Merges (lent_rows (merged ++ r.0 ∷ [])) (lent_rows (drop r.1 left)) (lent_rows (drop r.2 right)) (finite.entries (either a b))) (sym is)
                (step_right left right merged i j x y (finite.entries (either a b)) at_left at_right (it.rows a b of_left of_right apart) less));
          }
      | inr more ↦
          let is : ◌≡◌ {A = Lent × ℕ × ℕ} c.first-step.result (x, i + 1, j) = c.first-step.ensures ∙ cond-false test (y, i, j + 1) (x, i + 1, j) more in
          record {
            of_left = subst (λ (r : Lent × ℕ × ℕ). r.1 ≤ length left) (sym is) (omega (arith, in_left));
            of_right = subst (λ (r : Lent × ℕ × ℕ). r.2 ≤ length right) (sym is) it.of_right;
            keys = subst (All HasKey) (sym c.in_ok-push.ensures.items)
                (All-push HasKey merged c.first-step.result.0 it.keys (subst (λ (r : Lent × ℕ × ℕ). HasKey r.0) (sym is) (all_at HasKey left (drop (i + 1) left) i x at_left c.requires.0)));
            rows = λ a b of_left of_right apart.
                subst (λ (l : List Lent). Merges (lent_rows l) (lent_rows (drop c.first-step.result.1 left)) (lent_rows (drop c.first-step.result.2 right)) (finite.entries (either a b))) (sym c.in_ok-push.ensures.items)
                (subst (λ (r : Lent × ℕ × ℕ). Merges (lent_rows (merged ++ r.0 ∷ [])) (lent_rows (drop r.1 left)) (lent_rows (drop r.2 right)) (finite.entries (either a b))) (sym is)
                (step_left left right merged i j x y (finite.entries (either a b)) at_left at_right (it.rows a b of_left of_right apart) more));
          }
    ]

-- what is left of both is added
joined : (merged left right one both : List Lent) (i j : ℕ) → one ≡ merged ++ take (length left - i) (drop i left) → both ≡ one ++ take (length right - j) (drop j right)
    → both ≡ (merged ++ drop i left) ++ drop j right
joined merged left right one both i j first second =
    second ∙ ap₂ (λ (l r : List Lent). l ++ r) (first ∙ ap (λ (l : List Lent). merged ++ l) (take_all (length left - i) (drop i left) (omega (arith, length-drop i left))))
    (take_all (length right - j) (drop j right) (omega (arith, length-drop j right)))

pub returns-clause-rows : goal.returns-clause-rows
returns-clause-rows c = λ a b of_left of_right apart.
    let left : List Lent = c.args.left.now in
    let right : List Lent = c.args.right.now in
    let merged : List Lent = c.loop-at.merged.items in
    let i : ℕ = c.loop-at.at in
    let j : ℕ = c.loop-at.next in
    let items : c.append-2.new.rows.items ≡ (merged ++ drop i left) ++ drop j right =
    joined merged left right c.append.new.rows.items c.append-2.new.rows.items i j c.in_ok-append.ensures.ok c.in_ok-append-2.ensures.ok in
    let done : (length left ≤ i) ⊎ (length right ≤ j) = elim c.loop-at-test.branch [
      | then-loop-at-test+else-next-right w ↦ inr (omega (arith, w.if-next-right.false))
      | else-loop-at-test w ↦ inl (omega (arith, w.loop-at-test.false))
    ] in
    ap lent_rows items ∙ merged_end merged (drop i left) (drop j right) (finite.entries (either a b)) (one_done left right i j done) (c.loop-at.invariant.rows a b of_left of_right apart)

pub returns-clause-keys : goal.returns-clause-keys
returns-clause-keys c =
    let left : List Lent = c.args.left.now in
    let right : List Lent = c.args.right.now in
    let merged : List Lent = c.loop-at.merged.items in
    let i : ℕ = c.loop-at.at in
    let j : ℕ = c.loop-at.next in
    let items : c.append-2.new.rows.items ≡ (merged ++ drop i left) ++ drop j right =
    joined merged left right c.append.new.rows.items c.append-2.new.rows.items i j c.in_ok-append.ensures.ok c.in_ok-append-2.ensures.ok in
    subst (All HasKey) (sym items)
    (All-append HasKey (merged ++ drop i left) (drop j right) (All-append HasKey merged (drop i left) c.loop-at.invariant.keys (All-drop HasKey i left c.requires.0)) (All-drop HasKey j right c.requires.1))
