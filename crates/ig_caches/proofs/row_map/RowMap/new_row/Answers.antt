use Rattle.std.proofs.Common.{◌≡◌, None, is_some, take, ap, ◌∙◌, arith, rules}
use Rattle.std.proofs.lemmas.Grind.{common_steps}
use Rattle.std.specs.FinMap as finite
use Rattle.ig_value.specs.Canon.{Canon}
use Rattle.ig_caches.specs.RowEntries.{key_of, rows_of_entries, is_among}
use Rattle.ig_caches.proofs.RowEntryLemmas.{ties}
use Rattle.ig_caches.proofs.RowLemmas.{missing_of, key_back}
use Rattle.ig_caches.proofs.FormLemmas.{none_met, none_either}
use Rattle.ig_caches.proofs.row_map.RowMap.new_row.Goals as goal

pub returns-in_default-clause-row : goal.returns-in_default-clause-row
returns-in_default-clause-row c =
    none_either (is_among (λ k. k.items) c.args.met.now.keys (Canon c.args.key.now)) (finite.get c.args.self.now (Canon c.args.key.now))
    (missing_of c.self.inside.room.len (rows_of_entries (λ k. k.items) c.self.inside.rows.entries) c.args.self.now (Canon c.args.key.now) c.self.invariant (search rules) c.self.view_is)

pub returns-in_default-clause-met : goal.returns-in_default-clause-met
returns-in_default-clause-met c =
    let none : finite.get c.args.self.now (Canon c.args.key.now) ≡ None =
    missing_of c.self.inside.room.len (rows_of_entries (λ k. k.items) c.self.inside.rows.entries) c.args.self.now (Canon c.args.key.now) c.self.invariant (search rules) c.self.view_is in
    λ q. none_met (is_among (λ k. k.items) c.args.met.now.keys q) (ties q (Canon c.args.key.now)) (is_some (finite.get c.args.self.now (Canon c.args.key.now))) (ap is_some none)

pub copy_new-requires : goal.copy_new-requires
copy_new-requires c =
    let spelled : take c.in-Some.len c.deref.result.now ≡ Canon c.args.key.now = grind (arith, common_steps) in
    ap key_of spelled ∙ key_back c.one_reader.ensures.spelled c.one_form.ensures.spells c.args.key.now c.requires
