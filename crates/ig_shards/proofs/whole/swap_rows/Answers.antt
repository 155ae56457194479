use Rattle.std.proofs.Common.{◌≡◌, ◌<◌, ◌≤◌, ℕ, ℤ, List, length, get_or, w32, to_z, of_z, refl, ap, ap₂, sym, ◌∙◌, arith}
use Rattle.std.proofs.lemmas.Int.{to_z-of_z}
use Rattle.std.proofs.lemmas.List.{take_all, length-map}
use Rattle.ig_caches.specs.Rows.{Rows}
use Rattle.ig_shards.specs.declared.shard_rows.ShardRows.{ShardRows}
use Rattle.ig_shards.specs.Parts.{Part}
use Rattle.ig_shards.specs.PartView.{part_of, parts_of}
use Rattle.ig_shards.specs.RowsOfParts.{rows_or, with_rows_in_parts}
use Rattle.ig_shards.proofs.TogetherLemmas.{rows_none}
use Rattle.ig_shards.proofs.WholeLemmas.{swap_given, swap_taken}
use Rattle.ig_shards.proofs.whole.swap_rows.Goals as goal

pub loop-at-init : goal.loop-at-init
loop-at-init c = record { given = sym (rows_none (parts_of c.args.parts.now) (to_z w32 (of_z w32 c.args.cache))); taken = refl }

pub loop-at-preserved : goal.loop-at-preserved
loop-at-preserved c =
    let old : List ShardRows = c.args.parts.now in
    let parts : List ShardRows = c.loop-at.parts in
    let given : List Rows = c.args.rows.now in
    let rows : List Rows = c.loop-at.rows in
    let i : ℕ = c.loop-at.at in
    let id : ℤ = to_z w32 (of_z w32 c.args.cache) in
    let part : ShardRows = get_or parts i c.index-parts-at.result in
    let at_part : part ≡ get_or parts i part = ap (get_or parts i) c.index-parts-at.is in
    let row : Rows = get_or rows i c.index-rows-at.result in
    let at_row : row ≡ get_or rows i row = ap (get_or rows i) c.index-rows-at.is in
    let new : ShardRows = record part { caches = c.swap_rows.new.self } in
    let left : Rows = c.swap_rows.new.rows in
    let within : i < length old = omega (arith, c.loop-at-test.true, c.loop-at.auto.parts) in
    record {
      given = swap_given id old parts given rows i part new row left within c.requires at_part at_row c.loop-at.invariant.given c.loop-at.invariant.taken refl refl
          c.swap_rows.ensures.given c.swap_rows.ensures.taken;
      taken = swap_taken id old parts given rows i part new row left within c.requires at_part at_row c.loop-at.invariant.given c.loop-at.invariant.taken refl refl
          c.swap_rows.ensures.given c.swap_rows.ensures.taken;
    }

pub returns-clause-taken : goal.returns-clause-taken
returns-clause-taken c =
    let old : List Part = parts_of c.args.parts.now in
    let done : length old ≤ c.loop-at.at = omega (arith, c.loop-at-test.false, length-map c.args.parts.now part_of, c.loop-at.auto.parts) in
    let id : to_z w32 (of_z w32 c.args.cache) ≡ c.args.cache = to_z-of_z w32 c.args.cache c.ranges.cache in
    c.loop-at.invariant.taken ∙ ap₂ (λ (ps : List Part) (i : ℤ). rows_or ps i c.args.rows.now) (take_all c.loop-at.at old done) id

pub returns-clause-given : goal.returns-clause-given
returns-clause-given c =
    let done : length c.args.rows.now ≤ c.loop-at.at = omega (arith, c.requires, c.loop-at-test.false, c.loop-at.auto.parts) in
    let id : to_z w32 (of_z w32 c.args.cache) ≡ c.args.cache = to_z-of_z w32 c.args.cache c.ranges.cache in
    c.loop-at.invariant.given ∙ ap₂ (λ (rs : List Rows) (i : ℤ). with_rows_in_parts (parts_of c.args.parts.now) i rs) (take_all c.loop-at.at c.args.rows.now done) id
