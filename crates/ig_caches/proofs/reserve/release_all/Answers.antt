use Rattle.std.proofs.Common.{◌≡◌, ◌<◌, ◌≤◌, ◌+◌, ℕ, List, ◌∷◌, length, drop, ap, sym, subst, ◌∙◌, arith}
use Rattle.std.proofs.Math.ListN.{drop_of_length-le}
use Rattle.ig_value.specs.Canon.{Canon}
use Rattle.ig_caches.specs.declared.call.Pair.{Pair}
use Rattle.ig_caches.specs.Reserved.{released, Reserves}
use Rattle.ig_caches.specs.RowEntries.{rows_of_entries}
use Rattle.ig_caches.specs.Rows.{Rows}
use Rattle.ig_caches.proofs.ItemLemmas.{split_at}
use Rattle.ig_caches.proofs.ReserveLemmas.{released_step, skipped_step, reserves_nothing}
use Rattle.ig_caches.proofs.reserve.release_all.Goals.{in-Some, in_default}
use Rattle.ig_caches.proofs.reserve.release_all.Goals as goal

pub loop-pair-preserved : goal.loop-pair-preserved
loop-pair-preserved c = λ before most kept start.
    let pair : Pair = c.pair-item.result in
    let rest : List Pair = drop (c.loop-pair.pair-index + 1) c.args.pairs.now in
    let room : ℕ = length c.args.room.now in
    let now : Rows = rows_of_entries (λ k. k.items) c.loop-pair.rows.entries in
    let all : Reserves room before now (pair ∷ rest) =
    subst (Reserves room before now) (split_at c.args.pairs.now c.loop-pair.pair-index pair c.loop-pair-test.true c.pair-item.is) (c.loop-pair.invariant before most kept start) in
    elim c.match-spell.branch [
      | in-Some w ↦
          let next : rows_of_entries (λ k. k.items) c.match-spell.rows.entries ≡ released now (Canon pair.key) =
          ap (λ m. rows_of_entries (λ k. k.items) m.entries) w.rows-is ∙ w.release.ensures ∙ ap (released now) w.in-Some.ensures.bytes in
          subst (λ (r : Rows). Reserves room before r rest) (sym next) (released_step most room before now pair rest kept all)
      | in_default w ↦
          let same : rows_of_entries (λ k. k.items) c.match-spell.rows.entries ≡ now = ap (λ m. rows_of_entries (λ k. k.items) m.entries) w.rows-is in
          let short : length c.loop-pair.room < length (Canon pair.key) = w.in_default.ensures.short in
          let long : room < length (Canon pair.key) = omega (arith, short, c.loop-pair.auto.room) in
          subst (λ (r : Rows). Reserves room before r rest) (sym same) (skipped_step room before now pair rest long all)
    ]

pub returns : goal.returns
returns c = λ before most kept start.
    let now : Rows = rows_of_entries (λ k. k.items) c.loop-pair.rows.entries in
    let done : length c.args.pairs.now ≤ c.loop-pair.pair-index = omega (arith, c.loop-pair-test.false) in
    reserves_nothing (length c.args.room.now) before now
    (subst (Reserves (length c.args.room.now) before now) (drop_of_length-le c.args.pairs.now done) (c.loop-pair.invariant before most kept start))
