use Rattle.std.proofs.Common.{◌≡◌, ◌<◌, ◌++◌, ℕ, ℤ, true, List, None, Ok, Err, length, take, drop, get_or, w32, to_z, of_z, sym, ap, subst, ◌∙◌, arith}
use Rattle.std.proofs.lemmas.Int.{to_z-of_z}
use Rattle.std.specs.List.{list_any}
use Rattle.ig_caches.specs.Rows.{Rows}
use Rattle.ig_caches.specs.CachesView.{plain_caches}
use Rattle.ig_caches.specs.PlainCaches.{has_id, cache_of}
use Rattle.ig_caches.specs.Effect.{effect}
use Rattle.ig_caches.specs.RunsOnRows.{IsOnRowsOf, RunsOnRows}
use Rattle.ig_shards.specs.declared.shard_rows.ShardRows.{ShardRows}
use Rattle.ig_shards.specs.Spread.{union}
use Rattle.ig_shards.specs.PartView.{part_of, parts_of}
use Rattle.ig_shards.proofs.WholeLemmas.{absent_from, refused_all}
use Rattle.ig_shards.proofs.FirstLemmas.{first_again, first_part, first_minor, some_shards}
use Rattle.ig_shards.proofs.SeveralLemmas.{few_shards, len_is, whole_spread, whole_back, whole_ran, whole_failed}
use Rattle.ig_shards.proofs.whole.run_on_rows.Goals as goal

pub returns-then-not-has-clause-runs : goal.returns-then-not-has-clause-runs
returns-then-not-has-clause-runs c =
    let old : List ShardRows = c.args.parts.now in
    let id : ℤ = to_z w32 (of_z w32 c.args.cache) in
    let first : ShardRows = get_or old 0 c.index-parts-0-then-not-has.result in
    let at : first ≡ get_or old 0 first = ap (get_or old 0) c.index-parts-0-then-not-has.is in
    let tested : ShardRows = get_or old 0 c.index-parts-0.result in
    let is_tested : tested ≡ first = first_again c.requires.all.0 old first c.requires.all.1 at tested (ap (get_or old 0) c.index-parts-0.is) in
    let none : cache_of (plain_caches first.caches).caches id ≡ None =
    subst (λ (p : ShardRows). cache_of (plain_caches p.caches).caches id ≡ None) is_tested (absent_from (plain_caches tested.caches).caches id (sym c.if-not-has.ensures)) in
    let on : IsOnRowsOf id (effect c.args.call) = subst (λ (i : ℤ). IsOnRowsOf i (effect c.args.call)) (sym (to_z-of_z w32 c.args.cache c.ranges.cache)) c.requires.its_cache in
    refused_all c.requires.all.0 id c.args.call (part_of first) on (parts_of old) c.requires.all.1 (first_part old first at) none c.answer.result c.answer.ensures.outcome c.answer.ensures.minor

pub invariant_of-rows : goal.invariant_of-rows
invariant_of-rows c =
    let old : List ShardRows = c.args.parts.now in
    let id : ℤ = to_z w32 (of_z w32 c.args.cache) in
    let held : length c.in-Ok.shards.items ≡ c.in-Ok.shards.len = omega (arith, c.in-Ok.shards.ok.0) in
    let same_len : length c.swap_rows.new.rows ≡ length c.as_mut_slice.result.now = omega (arith, c.swap_rows.auto.rows) in
    let first : ShardRows = get_or old 0 c.index-parts-0.result in
    let at : first ≡ get_or old 0 first = ap (get_or old 0) c.index-parts-0.is in
    let is : c.in-Ok.shards.len ≡ c.requires.all.0 =
    len_is c.requires.all.0 id c.args.parts.now c.swap_rows.new.parts c.in-Ok.shards.items c.as_mut_slice.result.now c.swap_rows.new.rows c.in-Ok.shards.len c.requires.all.1
    held c.as_mut_slice.ensures.value c.in-Ok.ensures.count c.in-Ok.ensures.empty same_len c.swap_rows.ensures.given c.swap_rows.ensures.taken in (
      omega (arith, is, c.requires.all.1.some),
      omega (arith, is, few_shards c.requires.all.0 old first c.requires.all.1 at),
      whole_spread c.requires.all.0 id c.args.parts.now c.swap_rows.new.parts c.in-Ok.shards.items c.as_mut_slice.result.now c.swap_rows.new.rows c.in-Ok.shards.len c.requires.all.1
          held c.as_mut_slice.ensures.value c.in-Ok.ensures.count c.in-Ok.ensures.empty same_len c.swap_rows.ensures.given c.swap_rows.ensures.taken,
    )

pub returns-in-Ok-ran : goal.returns-in-Ok-ran
returns-in-Ok-ran c =
    let old : List ShardRows = c.args.parts.now in
    let id : ℤ = to_z w32 (of_z w32 c.args.cache) in
    let held : length c.in-Ok.shards.items ≡ c.in-Ok.shards.len = omega (arith, c.in-Ok.shards.ok.0) in
    let same_len : length c.swap_rows.new.rows ≡ length c.as_mut_slice.result.now = omega (arith, c.swap_rows.auto.rows) in
    let first : ShardRows = get_or old 0 c.index-parts-0.result in
    let at : first ≡ get_or old 0 first = ap (get_or old 0) c.index-parts-0.is in
    let on : IsOnRowsOf id (effect c.args.call) = subst (λ (i : ℤ). IsOnRowsOf i (effect c.args.call)) (sym (to_z-of_z w32 c.args.cache c.ranges.cache)) c.requires.its_cache in
    let some : list_any (has_id id) (plain_caches first.caches).caches ≡ true = sym c.if-not-has.ensures in
    let len_same : c.rows.inside.shards.len ≡ c.in-Ok.shards.len = ap (λ (v : ℕ × Rows). v.0) c.rows.view_is ∙ c.run-ran.ensures.count in
    let lent : Rows = union (take c.in-Ok.shards.len (c.swap_rows.new.rows ++ drop (length c.swap_rows.new.rows) c.in-Ok.shards.items)) in
    let new : List ShardRows = c.swap_rows-2.new.parts in
    let answering : ShardRows = get_or new 0 c.index-parts-0-in-Ok-ran.result in
    let many : 0 < length new = omega (arith, some_shards c.requires.all.0 old first c.requires.all.1 at, c.swap_rows.auto.parts, c.swap_rows-2.auto.parts) in
    let ran : RunsOnRows c.args.call lent (Ok c.in-Ok-ran.outcome) (union c.rows.inside.shards.items) =
    subst (λ (v : ℕ × Rows). RunsOnRows c.args.call lent (Ok c.in-Ok-ran.outcome) v.1) (sym c.rows.view_is) c.in-Ok-ran.ensures.runs in
    record {
      runs = whole_ran c.requires.all.0 id c.args.parts.now c.swap_rows.new.parts c.in-Ok.shards.items c.as_mut_slice.result.now c.swap_rows.new.rows c.in-Ok.shards.len c.requires.all.1
          held c.as_mut_slice.ensures.value c.in-Ok.ensures.count c.in-Ok.ensures.empty same_len c.swap_rows.ensures.given c.swap_rows.ensures.taken
          c.swap_rows-2.new.parts c.rows.inside.shards.items c.as_mut_slice-2.result.now c.rows.inside.shards.len c.as_mut_slice-2.ensures.value len_same c.swap_rows-2.ensures.given c.rows.invariant.2
          c.args.call first on at some c.in-Ok-ran.outcome c.answer-in-Ok-ran.result ran c.answer-in-Ok-ran.ensures.outcome
          (c.answer-in-Ok-ran.ensures.minor ∙ first_minor new answering many (ap (get_or new 0) c.index-parts-0-in-Ok-ran.is));
      all = λ shards are. whole_back shards id c.args.parts.now c.swap_rows.new.parts c.in-Ok.shards.items c.as_mut_slice.result.now c.swap_rows.new.rows c.in-Ok.shards.len are
          held c.as_mut_slice.ensures.value c.in-Ok.ensures.count c.in-Ok.ensures.empty same_len c.swap_rows.ensures.given c.swap_rows.ensures.taken
          c.swap_rows-2.new.parts c.rows.inside.shards.items c.as_mut_slice-2.result.now c.rows.inside.shards.len c.as_mut_slice-2.ensures.value len_same c.swap_rows-2.ensures.given c.rows.invariant.2;
    }

pub returns-in-Err : goal.returns-in-Err
returns-in-Err c =
    let old : List ShardRows = c.args.parts.now in
    let id : ℤ = to_z w32 (of_z w32 c.args.cache) in
    let held : length c.in-Ok.shards.items ≡ c.in-Ok.shards.len = omega (arith, c.in-Ok.shards.ok.0) in
    let same_len : length c.swap_rows.new.rows ≡ length c.as_mut_slice.result.now = omega (arith, c.swap_rows.auto.rows) in
    let first : ShardRows = get_or old 0 c.index-parts-0.result in
    let at : first ≡ get_or old 0 first = ap (get_or old 0) c.index-parts-0.is in
    let on : IsOnRowsOf id (effect c.args.call) = subst (λ (i : ℤ). IsOnRowsOf i (effect c.args.call)) (sym (to_z-of_z w32 c.args.cache c.ranges.cache)) c.requires.its_cache in
    let some : list_any (has_id id) (plain_caches first.caches).caches ≡ true = sym c.if-not-has.ensures in
    let len_same : c.rows.inside.shards.len ≡ c.in-Ok.shards.len = ap (λ (v : ℕ × Rows). v.0) c.rows.view_is ∙ c.run-ran.ensures.count in
    let lent : Rows = union (take c.in-Ok.shards.len (c.swap_rows.new.rows ++ drop (length c.swap_rows.new.rows) c.in-Ok.shards.items)) in
    let failed : RunsOnRows c.args.call lent (Err c.in-Err.e) (union c.rows.inside.shards.items) =
    subst (λ (v : ℕ × Rows). RunsOnRows c.args.call lent (Err c.in-Err.e) v.1) (sym c.rows.view_is) c.in-Err.ensures.runs in
    record {
      runs = whole_failed c.requires.all.0 id c.args.parts.now c.swap_rows.new.parts c.in-Ok.shards.items c.as_mut_slice.result.now c.swap_rows.new.rows c.in-Ok.shards.len c.requires.all.1
          held c.as_mut_slice.ensures.value c.in-Ok.ensures.count c.in-Ok.ensures.empty same_len c.swap_rows.ensures.given c.swap_rows.ensures.taken
          c.swap_rows-2.new.parts c.rows.inside.shards.items c.as_mut_slice-2.result.now c.rows.inside.shards.len c.as_mut_slice-2.ensures.value len_same c.swap_rows-2.ensures.given c.rows.invariant.2
          c.args.call first on at some c.in-Err.e failed;
      all = λ shards are. whole_back shards id c.args.parts.now c.swap_rows.new.parts c.in-Ok.shards.items c.as_mut_slice.result.now c.swap_rows.new.rows c.in-Ok.shards.len are
          held c.as_mut_slice.ensures.value c.in-Ok.ensures.count c.in-Ok.ensures.empty same_len c.swap_rows.ensures.given c.swap_rows.ensures.taken
          c.swap_rows-2.new.parts c.rows.inside.shards.items c.as_mut_slice-2.result.now c.rows.inside.shards.len c.as_mut_slice-2.ensures.value len_same c.swap_rows-2.ensures.given c.rows.invariant.2;
    }
