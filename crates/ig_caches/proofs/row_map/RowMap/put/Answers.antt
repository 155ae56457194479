use Rattle.std.proofs.Common.{◌≡◌, ◌≤◌, ℕ, List, length, take, vec_len, OnOk, ap, sym, subst, ◌∙◌, arith}
use Rattle.std.proofs.lemmas.List.{length-take}
use Rattle.ig_value.specs.Canon.{Canon}
use Rattle.ig_caches.specs.RowEntries.{row_under, rows_of_entries, IsKept}
use Rattle.ig_caches.specs.Rows.{with_row}
use Rattle.ig_caches.proofs.RowLemmas.{kept_more, kept_after, kept_row, row_put}
use Rattle.ig_caches.proofs.row_map.RowMap.put.Goals.{in-Ok-put, in-Err}
use Rattle.ig_caches.proofs.row_map.RowMap.put.Goals as goal

pub invariant_of-self : goal.invariant_of-self
invariant_of-self c =
    kept_more (vec_len c.self.inside.room) (vec_len c.spell_growing.new.into) (rows_of_entries (λ k. k.items) c.self.inside.rows.entries) c.in_default.ensures.longer c.self.invariant

pub invariant_of-self-2 : goal.invariant_of-self-2
invariant_of-self-2 c =
    let more : ℕ = vec_len c.spell_growing.new.into in
    let form : List ℕ = take c.in-Ok.len c.deref.result.now in
    let spelled : form ≡ Canon c.args.row.key = ap (take c.in-Ok.len) c.deref.ensures.value ∙ c.in-Ok.ensures.bytes in
    let within : c.in-Ok.len ≤ more = c.in-Ok.ensures.within in
    let short : length form ≤ more = omega (arith, length-take c.in-Ok.len c.deref.result.now) in
    let it : IsKept more form (row_under form c.args.row.value) = kept_row c.one_reader.ensures.spelled c.one_form.ensures.spells more form c.args.row c.requires spelled short in
    kept_after (λ k. k.items) (vec_len c.self.inside.room) more c.self.inside.rows.entries c.put.new.rows.entries form (row_under form c.args.row.value) c.put.result
    c.in-Ok.ensures.longer c.self.invariant it c.put.ensures.ok c.put.ensures.err

pub returns-clause-ok : goal.returns-clause-ok
returns-clause-ok c =
    let spelled : take c.in-Ok.len c.deref.result.now ≡ Canon c.args.row.key = ap (take c.in-Ok.len) c.deref.ensures.value ∙ c.in-Ok.ensures.bytes in
    elim c.match-put.branch [
      | in-Ok-put w ↦
          subst (λ r. OnOk r (rows_of_entries (λ k. k.items) c.put.new.rows.entries ≡ with_row c.args.self.now c.args.row)) (sym w.result-is)
          (row_put c.one_reader.ensures.spelled c.one_form.ensures.spells c.args.self.now (rows_of_entries (λ k. k.items) c.self.inside.rows.entries)
          (rows_of_entries (λ k. k.items) c.put.new.rows.entries) (take c.in-Ok.len c.deref.result.now) c.args.row c.requires.0 spelled c.self.view_is w.in-Ok-put.ensures.ok)
      | in-Err w ↦ subst (λ r. OnOk r (rows_of_entries (λ k. k.items) c.put.new.rows.entries ≡ with_row c.args.self.now c.args.row)) (sym w.result-is) tt
    ]
