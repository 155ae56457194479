use Rattle.std.proofs.Common.{◌≡◌, ℕ, List, All, length, vec_len, ap, sym, subst, ◌∙◌, arith}
use Rattle.ig_caches.specs.declared.call.Pair.{Pair}
use Rattle.ig_caches.specs.IsRunnable.{IsRow}
use Rattle.ig_caches.specs.Reserved.{Reserves}
use Rattle.ig_caches.specs.RowEntries.{rows_of_entries, AreKept}
use Rattle.ig_caches.specs.Rows.{Rows, with_rows}
use Rattle.ig_caches.proofs.RowLemmas.{kept_more}
use Rattle.ig_caches.proofs.ReserveLemmas.{written_over, kept_written}
use Rattle.ig_caches.proofs.row_map.RowMap.put_all.Goals as goal

pub invariant_of-self : goal.invariant_of-self
invariant_of-self c =
    let old : Rows = rows_of_entries (λ k. k.items) c.self.inside.rows.entries in
    let now : Rows = rows_of_entries (λ k. k.items) c.reserve_all.new.rows.entries in
    let more : ℕ = vec_len c.reserve_all.new.room in
    let pairs : List Pair = c.as_slice.result.now in
    let written : rows_of_entries (λ k. k.items) c.write_all.new.rows.entries ≡ with_rows old pairs =
    c.write_all.ensures ∙ ap (with_rows now) (c.into_std.ensures ∙ sym c.as_slice.ensures) ∙ written_over more old now pairs c.in-Ok.ensures.reserves in
    subst (AreKept more) (sym written)
    (kept_written c.one_reader.ensures.spelled c.one_form.ensures.spells more pairs old (subst (All IsRow) (sym c.as_slice.ensures) c.requires) (λ q named. (c.in-Ok.ensures.stand q named).1)
    (kept_more (vec_len c.self.inside.room) more old c.in-Ok.ensures.longer c.self.invariant))

pub invariant_of-self-in-Err : goal.invariant_of-self-in-Err
invariant_of-self-in-Err c =
    let old : Rows = rows_of_entries (λ k. k.items) c.self.inside.rows.entries in
    let now : Rows = rows_of_entries (λ k. k.items) c.reserve_all.new.rows.entries in
    let most : ℕ = vec_len c.self.inside.room in
    let more : ℕ = vec_len c.reserve_all.new.room in
    let pairs : c.as_slice.result.now ≡ c.as_slice-in-Err.result.now = c.as_slice.ensures ∙ sym c.as_slice-in-Err.ensures in
    let room : more ≡ length c.as_mut_slice-in-Err.result.now = omega (arith, c.as_mut_slice-in-Err.ensures.len) in
    let reserves : Reserves (length c.as_mut_slice-in-Err.result.now) old now c.as_slice-in-Err.result.now =
    subst (λ (n : ℕ). Reserves n old now c.as_slice-in-Err.result.now) room (subst (Reserves more old now) pairs c.in-Err.ensures.reserves) in
    subst (AreKept more) (sym (c.release_all.ensures old most c.self.invariant reserves)) (kept_more most more old c.in-Err.ensures.longer c.self.invariant)

pub returns-in-Ok-clause-ok : goal.returns-in-Ok-clause-ok
returns-in-Ok-clause-ok c =
    let old : Rows = rows_of_entries (λ k. k.items) c.self.inside.rows.entries in
    let now : Rows = rows_of_entries (λ k. k.items) c.reserve_all.new.rows.entries in
    let more : ℕ = vec_len c.reserve_all.new.room in
    let pairs : List Pair = c.as_slice.result.now in
    c.write_all.ensures ∙ ap (with_rows now) (c.into_std.ensures ∙ sym c.as_slice.ensures) ∙ written_over more old now pairs c.in-Ok.ensures.reserves
    ∙ ap (with_rows old) c.as_slice.ensures ∙ ap (λ (r : Rows). with_rows r c.args.pairs) c.self.view_is
