use Rattle.std.proofs.Common.{◌≡◌, ◌≤◌, ◌+◌, ℕ, List, true, length, take, vec_len, ap, sym, subst, ◌∙◌, arith}
use Rattle.std.proofs.lemmas.List.{length-take}
use Rattle.ig_value.specs.Canon.{Canon}
use Rattle.ig_caches.specs.declared.call.Pair.{Pair}
use Rattle.ig_caches.specs.Reserved.{reserved, has_key, Reserves, AllStand}
use Rattle.ig_caches.specs.RowEntries.{rows_of_entries}
use Rattle.ig_caches.specs.Rows.{Rows}
use Rattle.ig_caches.proofs.ItemLemmas.{taken_at}
use Rattle.ig_caches.proofs.ReserveLemmas.{named_at, reserves_step, reserves_more, stand_step}
use Rattle.ig_caches.proofs.reserve.reserve_all.Goals as goal

pub loop-pair-preserved : goal.loop-pair-preserved
loop-pair-preserved c =
    let pair : Pair = c.pair-item.result in
    let form : List ℕ = Canon pair.key in
    let old : Rows = rows_of_entries (λ k. k.items) c.args.rows.now.entries in
    let now : Rows = rows_of_entries (λ k. k.items) c.loop-pair.rows.entries in
    let more : ℕ = vec_len c.spell_growing.new.into in
    let spelled : take c.in_ok-len.len c.deref.result.now ≡ form = ap (take c.in_ok-len.len) c.deref.ensures.value ∙ c.in_ok-len.ensures.bytes in
    let next : rows_of_entries (λ k. k.items) c.reserve.new.rows.entries ≡ reserved now form = c.in_ok-reserve.ensures.ok ∙ ap (reserved now) spelled in
    let within : c.in_ok-len.len ≤ more = c.in_ok-len.ensures.within in
    let short : length form ≤ more = subst (λ (l : List ℕ). length l ≤ more) c.in_ok-len.ensures.bytes (omega (arith, length-take c.in_ok-len.len c.spell_growing.new.into.items)) in
    let longer : vec_len c.loop-pair.room ≤ more = c.in_ok-len.ensures.longer in
    let named : has_key c.args.pairs.now form ≡ true = named_at c.args.pairs.now c.loop-pair.pair-index pair c.loop-pair-test.true c.pair-item.is in
    record {
      longer = omega (arith, c.loop-pair.invariant.longer);
      reserves = subst (λ (r : Rows). Reserves more old r c.args.pairs.now) (sym next)
          (reserves_step more old now c.args.pairs.now form named short (reserves_more (vec_len c.loop-pair.room) more old now c.args.pairs.now longer c.loop-pair.invariant.reserves));
      stand = subst (λ (r : Rows). AllStand more r (take (c.loop-pair.pair-index + 1) c.args.pairs.now)) (sym next)
          (subst (AllStand more (reserved now form)) (sym (taken_at c.args.pairs.now c.loop-pair.pair-index pair c.loop-pair-test.true c.pair-item.is))
          (stand_step (vec_len c.loop-pair.room) more now (take c.loop-pair.pair-index c.args.pairs.now) pair longer short c.loop-pair.invariant.stand));
    }
