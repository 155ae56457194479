use Rattle.std.proofs.Common.{◌≡◌, ◌≤◌, ℕ, List, length, take, vec_len, option_map, OnOk, ap, sym, subst, rules, arith}
use Rattle.std.proofs.lemmas.Grind.{common_steps}
use Rattle.std.proofs.lemmas.List.{length-take}
use Rattle.ig_value.specs.Canon.{Canon}
use Rattle.ig_caches.specs.declared.call.Pair.{Pair}
use Rattle.ig_caches.specs.RowEntries.{row_under, rows_of_entries, IsKept}
use Rattle.ig_caches.specs.Rows.{with_row}
use Rattle.ig_caches.proofs.RowLemmas.{missing_of, kept_after, kept_row, row_put}
use Rattle.ig_caches.proofs.row_map.RowMap.replace.Goals.{in-Ok, in-Err}
use Rattle.ig_caches.proofs.row_map.RowMap.replace.Goals as goal

pub returns-in_default-clause-absent : goal.returns-in_default-clause-absent
returns-in_default-clause-absent c =
    ap (option_map (λ (row : Pair). row.value))
    (missing_of c.self.inside.room.len (rows_of_entries (λ k. k.items) c.self.inside.rows.entries) c.args.self.now (Canon c.args.row.key) c.self.invariant (search rules) c.self.view_is)

pub invariant_of-self-2 : goal.invariant_of-self-2
invariant_of-self-2 c =
    let most : ℕ = vec_len c.self.inside.room in
    let form : List ℕ = take c.in-Some.len c.deref.result.now in
    let spelled : take c.in-Some.len c.deref.result.now ≡ Canon c.args.row.key = grind (arith, common_steps) in
    let room : length c.spell.new.into ≡ most = search rules in
    let within : c.in-Some.len ≤ length c.spell.new.into = c.in-Some.ensures.within in
    let short : length form ≤ most = omega (arith, length-take c.in-Some.len c.deref.result.now) in
    let it : IsKept most form (row_under form c.args.row.value) = kept_row c.one_reader.ensures.spelled c.one_form.ensures.spells most form c.args.row c.requires spelled short in
    kept_after (λ k. k.items) most most c.self.inside.rows.entries c.replace.new.rows.entries form (row_under form c.args.row.value) c.replace.result
    (omega arith) c.self.invariant it c.replace.ensures.ok c.replace.ensures.err

pub returns-clause-ok : goal.returns-clause-ok
returns-clause-ok c =
    let spelled : take c.in-Some.len c.deref.result.now ≡ Canon c.args.row.key = grind (arith, common_steps) in
    elim c.match-replace.branch [
      | in-Ok w ↦
          subst (λ r. OnOk r (rows_of_entries (λ k. k.items) c.replace.new.rows.entries ≡ with_row c.args.self.now c.args.row)) (sym w.result-is)
          (row_put c.one_reader.ensures.spelled c.one_form.ensures.spells c.args.self.now (rows_of_entries (λ k. k.items) c.self.inside.rows.entries)
          (rows_of_entries (λ k. k.items) c.replace.new.rows.entries) (take c.in-Some.len c.deref.result.now) c.args.row c.requires.0 spelled c.self.view_is w.in-Ok.ensures.ok)
      | in-Err w ↦ subst (λ r. OnOk r (rows_of_entries (λ k. k.items) c.replace.new.rows.entries ≡ with_row c.args.self.now c.args.row)) (sym w.result-is) tt
    ]
