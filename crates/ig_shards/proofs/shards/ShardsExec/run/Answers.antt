use Rattle.std.proofs.Common.{◌≡◌, ◌<◌, ◌≤◌, ◌++◌, ℕ, List, length, set, take, drop, IfOk, OnOk, OnErr, sym, ap, subst, ◌∙◌, rules, arith}
use Rattle.ig_caches.specs.PlainCaches.{PlainCaches}
use Rattle.ig_caches.specs.Answered.{answered, after}
use Rattle.ig_caches.specs.RunsOn.{RunsOn}
use Rattle.ig_shards.specs.declared.shard_rows.ShardRows.{ShardRows}
use Rattle.ig_shards.specs.declared.touch.Touched.{Touched}
use Rattle.ig_shards.specs.declared.touch.Touched.TheVariants as touched
use Rattle.ig_shards.specs.Touches.{touches}
use Rattle.ig_shards.specs.Parts.{together, AreAll}
use Rattle.ig_shards.specs.PartView.{parts_of}
use Rattle.ig_shards.specs.RunsOnParts.{AreThose}
use Rattle.ig_shards.proofs.SpreadLemmas.{all_written}
use Rattle.ig_shards.proofs.RunLemmas.{few_in_all, run_here, run_answers, run_leaves, run_hands_back, run_keeps}
use Rattle.ig_shards.proofs.shards.ShardsExec.run.Goals as goal

pub overflow_cast-len : goal.overflow_cast-len
overflow_cast-len c =
    let shards : ℕ = c.self.inside.parts.len in
    let count : c.len.result ≡ shards = search rules in
    let few : shards ≤ 256 = few_in_all shards (parts_of c.self.inside.parts.items) c.self.invariant in
    omega (arith, few, count)

pub invariant_of-self : goal.invariant_of-self
invariant_of-self c =
    let all : List ShardRows = c.self.inside.parts.items in
    let shards : ℕ = c.self.inside.parts.len in
    let count : c.len.result ≡ shards = search rules in
    let i : ℕ = c.in-One.shard in
    let here : ShardRows = c.index_mut.result.now in
    let new : ShardRows = c.run.new.self in
    let touches_it : touches c.args.call shards ≡ touched.One i = sym (c.in-One.ensures.touched ∙ ap (touches c.args.call) count) in
    let within : i < length all = omega (arith, c.in-One.ensures.within, c.self.inside.parts.ok.0, count) in
    let left : RunsOn c.args.call (together (parts_of all)) c.run.result (together (parts_of (set all i new))) × AreAll shards (parts_of (set all i new)) =
    run_here shards i all here new c.args.call c.run.result c.self.invariant within c.index_mut.ensures.value touches_it c.run.ensures.number c.run.ensures.shards c.run.ensures.runs in
    left.1

pub returns-in-One-clause-answer : goal.returns-in-One-clause-answer
returns-in-One-clause-answer c =
    let all : List ShardRows = c.self.inside.parts.items in
    let shards : ℕ = c.self.inside.parts.len in
    let count : c.len.result ≡ shards = search rules in
    let i : ℕ = c.in-One.shard in
    let here : ShardRows = c.index_mut.result.now in
    let new : ShardRows = c.run.new.self in
    let touches_it : touches c.args.call shards ≡ touched.One i = sym (c.in-One.ensures.touched ∙ ap (touches c.args.call) count) in
    let within : i < length all = omega (arith, c.in-One.ensures.within, c.self.inside.parts.ok.0, count) in
    let left : RunsOn c.args.call (together (parts_of all)) c.run.result (together (parts_of (set all i new))) × AreAll shards (parts_of (set all i new)) =
    run_here shards i all here new c.args.call c.run.result c.self.invariant within c.index_mut.ensures.value touches_it c.run.ensures.number c.run.ensures.shards c.run.ensures.runs in
    subst (λ (p : PlainCaches). IfOk c.run.result (λ answer. answer ≡ answered p c.args.call)) c.self.view_is
    (run_answers c.args.call (together (parts_of all)) (together (parts_of (set all i new))) c.run.result left.0)

pub returns-in-One-clause-after : goal.returns-in-One-clause-after
returns-in-One-clause-after c =
    let all : List ShardRows = c.self.inside.parts.items in
    let shards : ℕ = c.self.inside.parts.len in
    let count : c.len.result ≡ shards = search rules in
    let i : ℕ = c.in-One.shard in
    let here : ShardRows = c.index_mut.result.now in
    let new : ShardRows = c.run.new.self in
    let touches_it : touches c.args.call shards ≡ touched.One i = sym (c.in-One.ensures.touched ∙ ap (touches c.args.call) count) in
    let within : i < length all = omega (arith, c.in-One.ensures.within, c.self.inside.parts.ok.0, count) in
    let left : RunsOn c.args.call (together (parts_of all)) c.run.result (together (parts_of (set all i new))) × AreAll shards (parts_of (set all i new)) =
    run_here shards i all here new c.args.call c.run.result c.self.invariant within c.index_mut.ensures.value touches_it c.run.ensures.number c.run.ensures.shards c.run.ensures.runs in
    subst (λ (p : PlainCaches). OnOk c.run.result (together (parts_of (set all i new)) ≡ after p c.args.call)) c.self.view_is
    (run_leaves c.args.call (together (parts_of all)) (together (parts_of (set all i new))) c.run.result left.0)

pub returns-in-One-clause-unchanged : goal.returns-in-One-clause-unchanged
returns-in-One-clause-unchanged c =
    let all : List ShardRows = c.self.inside.parts.items in
    let shards : ℕ = c.self.inside.parts.len in
    let count : c.len.result ≡ shards = search rules in
    let i : ℕ = c.in-One.shard in
    let here : ShardRows = c.index_mut.result.now in
    let new : ShardRows = c.run.new.self in
    let touches_it : touches c.args.call shards ≡ touched.One i = sym (c.in-One.ensures.touched ∙ ap (touches c.args.call) count) in
    let within : i < length all = omega (arith, c.in-One.ensures.within, c.self.inside.parts.ok.0, count) in
    let left : RunsOn c.args.call (together (parts_of all)) c.run.result (together (parts_of (set all i new))) × AreAll shards (parts_of (set all i new)) =
    run_here shards i all here new c.args.call c.run.result c.self.invariant within c.index_mut.ensures.value touches_it c.run.ensures.number c.run.ensures.shards c.run.ensures.runs in
    subst (λ (p : PlainCaches). OnErr c.run.result (together (parts_of (set all i new)) ≡ p)) c.self.view_is
    (run_keeps c.args.call (together (parts_of all)) (together (parts_of (set all i new))) c.run.result left.0)

pub returns-in-One-clause-back : goal.returns-in-One-clause-back
returns-in-One-clause-back c =
    let all : List ShardRows = c.self.inside.parts.items in
    let shards : ℕ = c.self.inside.parts.len in
    let count : c.len.result ≡ shards = search rules in
    let i : ℕ = c.in-One.shard in
    let here : ShardRows = c.index_mut.result.now in
    let new : ShardRows = c.run.new.self in
    let touches_it : touches c.args.call shards ≡ touched.One i = sym (c.in-One.ensures.touched ∙ ap (touches c.args.call) count) in
    let within : i < length all = omega (arith, c.in-One.ensures.within, c.self.inside.parts.ok.0, count) in
    let left : RunsOn c.args.call (together (parts_of all)) c.run.result (together (parts_of (set all i new))) × AreAll shards (parts_of (set all i new)) =
    run_here shards i all here new c.args.call c.run.result c.self.invariant within c.index_mut.ensures.value touches_it c.run.ensures.number c.run.ensures.shards c.run.ensures.runs in
    run_hands_back c.args.call (together (parts_of all)) (together (parts_of (set all i new))) c.run.result left.0

pub run_on-requires-clause-touched : goal.run_on-requires-clause-touched
run_on-requires-clause-touched c =
    let shards : ℕ = c.self.inside.parts.len in
    let count : c.len.result ≡ shards = search rules in
    let lent : List ShardRows = c.as_mut_slice.result.now in (
      shards,
      subst (λ (t : Touched). AreThose shards t (parts_of lent)) (c.in-All.ensures.touched ∙ ap (touches c.args.call) count)
          (subst (λ (l : List ShardRows). AreAll shards (parts_of l)) (sym c.as_mut_slice.ensures.value) c.self.invariant),
    )

pub invariant_of-self-in-All : goal.invariant_of-self-in-All
invariant_of-self-in-All c =
    let all : List ShardRows = c.self.inside.parts.items in
    let shards : ℕ = c.self.inside.parts.len in
    let count : c.len.result ≡ shards = search rules in
    let new : List ShardRows = c.run_on.new.parts in
    let old : length all ≡ shards = omega (arith, c.self.inside.parts.ok.0) in
    let many : length new ≡ shards = omega (arith, c.run_on.auto.parts, c.as_mut_slice.ensures.len, old) in
    let written : take shards (new ++ drop (length new) all) ≡ new = all_written new all shards many old in
    let lent : List ShardRows = c.as_mut_slice.result.now in
    let before : AreThose shards (touches c.args.call shards) (parts_of lent) =
    subst (λ (t : Touched). AreThose shards t (parts_of lent)) (c.in-All.ensures.touched ∙ ap (touches c.args.call) count)
    (subst (λ (l : List ShardRows). AreAll shards (parts_of l)) (sym c.as_mut_slice.ensures.value) c.self.invariant) in
    let left : AreAll shards (parts_of new) =
    subst (λ (t : Touched). AreThose shards t (parts_of new)) (sym (c.in-All.ensures.touched ∙ ap (touches c.args.call) count)) (c.run_on.ensures.touched shards before) in
    subst (λ (l : List ShardRows). AreAll shards (parts_of l)) (sym written) left

pub returns-in-All-clause-answer : goal.returns-in-All-clause-answer
returns-in-All-clause-answer c =
    let all : List ShardRows = c.self.inside.parts.items in
    let shards : ℕ = c.self.inside.parts.len in
    let count : c.len.result ≡ shards = search rules in
    let new : List ShardRows = c.run_on.new.parts in
    let old : length all ≡ shards = omega (arith, c.self.inside.parts.ok.0) in
    let many : length new ≡ shards = omega (arith, c.run_on.auto.parts, c.as_mut_slice.ensures.len, old) in
    let written : take shards (new ++ drop (length new) all) ≡ new = all_written new all shards many old in
    let runs : RunsOn c.args.call c.args.self.now c.run_on.result (together (parts_of (take shards (new ++ drop (length new) all)))) =
    subst (λ (l : List ShardRows). RunsOn c.args.call c.args.self.now c.run_on.result (together (parts_of l))) (sym written)
    (subst (λ (p : PlainCaches). RunsOn c.args.call p c.run_on.result (together (parts_of new)))
    (ap (λ (l : List ShardRows). together (parts_of l)) c.as_mut_slice.ensures.value ∙ c.self.view_is) c.run_on.ensures.runs) in
    run_answers c.args.call c.args.self.now (together (parts_of (take shards (new ++ drop (length new) all)))) c.run_on.result runs

pub returns-in-All-clause-after : goal.returns-in-All-clause-after
returns-in-All-clause-after c =
    let all : List ShardRows = c.self.inside.parts.items in
    let shards : ℕ = c.self.inside.parts.len in
    let count : c.len.result ≡ shards = search rules in
    let new : List ShardRows = c.run_on.new.parts in
    let old : length all ≡ shards = omega (arith, c.self.inside.parts.ok.0) in
    let many : length new ≡ shards = omega (arith, c.run_on.auto.parts, c.as_mut_slice.ensures.len, old) in
    let written : take shards (new ++ drop (length new) all) ≡ new = all_written new all shards many old in
    let runs : RunsOn c.args.call c.args.self.now c.run_on.result (together (parts_of (take shards (new ++ drop (length new) all)))) =
    subst (λ (l : List ShardRows). RunsOn c.args.call c.args.self.now c.run_on.result (together (parts_of l))) (sym written)
    (subst (λ (p : PlainCaches). RunsOn c.args.call p c.run_on.result (together (parts_of new)))
    (ap (λ (l : List ShardRows). together (parts_of l)) c.as_mut_slice.ensures.value ∙ c.self.view_is) c.run_on.ensures.runs) in
    run_leaves c.args.call c.args.self.now (together (parts_of (take shards (new ++ drop (length new) all)))) c.run_on.result runs

pub returns-in-All-clause-back : goal.returns-in-All-clause-back
returns-in-All-clause-back c =
    let all : List ShardRows = c.self.inside.parts.items in
    let shards : ℕ = c.self.inside.parts.len in
    let count : c.len.result ≡ shards = search rules in
    let new : List ShardRows = c.run_on.new.parts in
    let old : length all ≡ shards = omega (arith, c.self.inside.parts.ok.0) in
    let many : length new ≡ shards = omega (arith, c.run_on.auto.parts, c.as_mut_slice.ensures.len, old) in
    let written : take shards (new ++ drop (length new) all) ≡ new = all_written new all shards many old in
    let runs : RunsOn c.args.call c.args.self.now c.run_on.result (together (parts_of (take shards (new ++ drop (length new) all)))) =
    subst (λ (l : List ShardRows). RunsOn c.args.call c.args.self.now c.run_on.result (together (parts_of l))) (sym written)
    (subst (λ (p : PlainCaches). RunsOn c.args.call p c.run_on.result (together (parts_of new)))
    (ap (λ (l : List ShardRows). together (parts_of l)) c.as_mut_slice.ensures.value ∙ c.self.view_is) c.run_on.ensures.runs) in
    run_hands_back c.args.call c.args.self.now (together (parts_of (take shards (new ++ drop (length new) all)))) c.run_on.result runs

pub returns-in-All-clause-unchanged : goal.returns-in-All-clause-unchanged
returns-in-All-clause-unchanged c =
    let all : List ShardRows = c.self.inside.parts.items in
    let shards : ℕ = c.self.inside.parts.len in
    let count : c.len.result ≡ shards = search rules in
    let new : List ShardRows = c.run_on.new.parts in
    let old : length all ≡ shards = omega (arith, c.self.inside.parts.ok.0) in
    let many : length new ≡ shards = omega (arith, c.run_on.auto.parts, c.as_mut_slice.ensures.len, old) in
    let written : take shards (new ++ drop (length new) all) ≡ new = all_written new all shards many old in
    let runs : RunsOn c.args.call c.args.self.now c.run_on.result (together (parts_of (take shards (new ++ drop (length new) all)))) =
    subst (λ (l : List ShardRows). RunsOn c.args.call c.args.self.now c.run_on.result (together (parts_of l))) (sym written)
    (subst (λ (p : PlainCaches). RunsOn c.args.call p c.run_on.result (together (parts_of new)))
    (ap (λ (l : List ShardRows). together (parts_of l)) c.as_mut_slice.ensures.value ∙ c.self.view_is) c.run_on.ensures.runs) in
    run_keeps c.args.call c.args.self.now (together (parts_of (take shards (new ++ drop (length new) all)))) c.run_on.result runs
