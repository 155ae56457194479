use Rattle.std.proofs.Common.{◌≡◌, ◌≤◌, ◌-◌, ◌^◌, ℕ, pos, min, List, sum_by, w64, to_z, of_z, ap, sym, subst, ◌∙◌, rules, arith}
use Rattle.std.proofs.Math.Nat.{min-eq_right}
use Rattle.std.specs.FinMap as finite
use Rattle.ig_caches.specs.Rows.{Rows}
use Rattle.ig_caches.specs.Effect.{count_of}
use Rattle.ig_shards.specs.Spread.{union}
use Rattle.ig_shards.proofs.SpreadLemmas.{len_union}
use Rattle.ig_shards.proofs.spread_rows.SpreadRows.count.Goals as goal

many : (n : ℕ) → 2 ^ 64 ≤ n → min n (2 ^ 63 - 1) ≡ 2 ^ 63 - 1
many n big = min-eq_right (omega (arith, big))

pub returns-in-Some : goal.returns-in-Some
returns-in-Some c =
    let all : List Rows = c.self.inside.shards.items in
    let same : to_z w64 (of_z w64 c.saturating.result) ≡ c.saturating.result = search rules in
    let summed : c.in-Some.count ≡ finite.len (union all) =
    c.in-Some.ensures.some ∙ ap (sum_by finite.len) c.as_slice.ensures.value ∙ sym (len_union c.self.inside.shards.len 0 all c.self.invariant.2) in
    same ∙ c.saturating.ensures ∙ ap (λ n. pos (min n (2 ^ 63 - 1))) summed ∙ ap (λ (v : ℕ × Rows). count_of v.1) c.self.view_is

pub returns-in-None : goal.returns-in-None
returns-in-None c =
    let all : List Rows = c.self.inside.shards.items in
    let big : 2 ^ 64 ≤ finite.len (union all) =
    subst (λ n. 2 ^ 64 ≤ n) (ap (sum_by finite.len) c.as_slice.ensures.value ∙ sym (len_union c.self.inside.shards.len 0 all c.self.invariant.2)) c.in-None.ensures.none in
    ap pos (sym (many (finite.len (union all)) big)) ∙ ap (λ (v : ℕ × Rows). count_of v.1) c.self.view_is
