use Rattle.std.proofs.Common.{◌≡◌, Option, ap, sym, ◌∙◌, option_map, arith, rules}
use Rattle.std.specs.FinMap as finite
use Rattle.ig_value.specs.Canon.{Canon}
use Rattle.ig_caches.specs.declared.call.Pair.{Pair}
use Rattle.ig_caches.specs.RowEntries.{rows_of_entries}
use Rattle.ig_caches.proofs.RowLemmas.{missing_of}
use Rattle.std.proofs.Common.{take}
use Rattle.std.proofs.lemmas.Grind.{common_steps}
use Rattle.ig_caches.specs.Effect.{is_wanted}
use Rattle.ig_caches.proofs.row_map.RowMap.has_value.Goals as goal

pub returns-in_default-clause-answer : goal.returns-in_default-clause-answer
returns-in_default-clause-answer c = sym (ap (λ (o : Option Pair). is_wanted c.args.wanted.now (option_map (λ (row : Pair). row.value) o)) (missing_of c.self.inside.room.len (rows_of_entries (λ k. k.items) c.self.inside.rows.entries) c.args.self.now (Canon c.args.key.now) c.self.invariant (search rules) c.self.view_is))

pub returns-clause-answer : goal.returns-clause-answer
returns-clause-answer c =
    let spelled : take c.in-Some.len c.deref.result.now ≡ Canon c.args.key.now = grind (arith, common_steps) in
    c.has_value.ensures c.self.inside.room.len c.self.invariant
    ∙ ap (λ q. is_wanted c.args.wanted.now (option_map (λ (row : Pair). row.value) (finite.get (rows_of_entries (λ k. k.items) c.self.inside.rows.entries) q))) spelled
    ∙ ap (λ r. is_wanted c.args.wanted.now (option_map (λ (row : Pair). row.value) (finite.get r (Canon c.args.key.now)))) c.self.view_is
