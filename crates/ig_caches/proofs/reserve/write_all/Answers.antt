use Rattle.std.proofs.Common.{◌≡◌, ◌≤◌, true, List, ◌++◌, is_some, length, ap, sym, subst, ◌∙◌, arith}
use Rattle.std.specs.FinMap as finite
use Rattle.ig_value.specs.Canon.{Canon}
use Rattle.ig_caches.specs.declared.call.Pair.{Pair}
use Rattle.ig_caches.specs.Reserved.{has_key}
use Rattle.ig_caches.specs.RowEntries.{rows_of_entries}
use Rattle.ig_caches.specs.Rows.{Rows}
use Rattle.ig_caches.proofs.ReserveLemmas.{named_in, written_keeps}
use Rattle.ig_caches.proofs.reserve.write_all.Goals as goal

pub write-requires-clause-short : goal.write-requires-clause-short
write-requires-clause-short c =
    let all = ap (λ (ps : List Pair). c.loop-pair.yielded ++ ps) (sym c.in-Some.ensures.steps.0) ∙ c.loop-pair.invariant.items in
    let named : has_key c.args.pairs.items (Canon c.in-Some.pair.key) ≡ true =
    subst (λ (ps : List Pair). has_key ps (Canon c.in-Some.pair.key) ≡ true) all (named_in c.loop-pair.yielded c.next.new.self.rest.items c.in-Some.pair) in
    let short : length (Canon c.in-Some.pair.key) ≤ length c.args.room.now = (c.requires.stand (Canon c.in-Some.pair.key) named).1 in
    omega (arith, short, c.loop-pair.auto.room)

pub write-requires-clause-stands : goal.write-requires-clause-stands
write-requires-clause-stands c =
    let all = ap (λ (ps : List Pair). c.loop-pair.yielded ++ ps) (sym c.in-Some.ensures.steps.0) ∙ c.loop-pair.invariant.items in
    let named : has_key c.args.pairs.items (Canon c.in-Some.pair.key) ≡ true =
    subst (λ (ps : List Pair). has_key ps (Canon c.in-Some.pair.key) ≡ true) all (named_in c.loop-pair.yielded c.next.new.self.rest.items c.in-Some.pair) in
    subst (λ (r : Rows). is_some (finite.get r (Canon c.in-Some.pair.key)) ≡ true) (sym c.loop-pair.invariant.rows)
    (written_keeps c.loop-pair.yielded (rows_of_entries (λ k. k.items) c.args.rows.now.entries) (Canon c.in-Some.pair.key) (c.requires.stand (Canon c.in-Some.pair.key) named).0)
