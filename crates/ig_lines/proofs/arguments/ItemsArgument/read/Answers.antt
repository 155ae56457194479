use Rattle.std.proofs.Common.{rules, ◌-◌, ℕ, List, length, sym, ap, ◌∙◌}
use Rattle.ig_text.specs.ReaderAnswers.{Fails}
use Rattle.ig_text.proofs.ReadsLemmas.{done}
use Rattle.ig_text.proofs.WholeLemmas.{none_left, some_left}
use Rattle.ig_lines.specs.Arguments.{to_end_at}
use Rattle.ig_lines.proofs.EndLoopLemmas.{end_reached, end_missed, end_pushed, end_stops}
use Rattle.ig_lines.proofs.arguments.ItemsArgument.read.Goals as goal

pub returns-then-is_empty : goal.returns-then-is_empty
returns-then-is_empty g c =
    let R = g.F.Argument.reads in
    let s : List ℕ = c.args.text.now in
    let rest : List ℕ = c.loop.rest.now in
    end_reached R (length s - c.loop.counter) rest c.loop.read.items (to_end_at R (length s) s) (none_left rest c.if-is_empty.ensures) c.loop.invariant ∙ ap (λ l. done (l, rest)) (sym c.new.ensures)

pub returns-in_err-item : goal.returns-in_err-item
returns-in_err-item g c =
    let R = g.F.Argument.reads in
    let s : List ℕ = c.args.text.now in
    let fails : Fails c.in_err-item.field-0.0 (to_end_at R (length s) s) =
    end_stops R (length s) c.loop.counter c.loop.rest.now c.loop.read.items c.in_err-item.field-0.0 (to_end_at R (length s) s) c.loop-test.true (some_left c.loop.rest.now c.if-is_empty.ensures) c.in_err-item.ensures c.loop.invariant in
    search rules

pub loop-preserved : goal.loop-preserved
loop-preserved g c =
    let R = g.F.Argument.reads in
    let s : List ℕ = c.args.text.now in
    end_pushed R (length s) c.loop.counter c.loop.rest.now c.loop.read.items c.push.new.self.items c.in_ok-item.item c.in_ok-item.next.now (to_end_at R (length s) s) c.loop-test.true (some_left c.loop.rest.now c.if-is_empty.ensures) c.in_ok-item.ensures
    c.in_ok-push.ensures.items c.loop.invariant

pub returns-then-is_empty-2 : goal.returns-then-is_empty-2
returns-then-is_empty-2 g c =
    let R = g.F.Argument.reads in
    let s : List ℕ = c.args.text.now in
    let rest : List ℕ = c.loop.rest.now in
    end_reached R (length s - c.loop.counter) rest c.loop.read.items (to_end_at R (length s) s) (none_left rest c.if-is_empty-2.ensures) c.loop.invariant ∙ ap (λ l. done (l, rest)) (sym c.new-then-is_empty-2.ensures)

pub returns : goal.returns
returns g c =
    let R = g.F.Argument.reads in
    let s : List ℕ = c.args.text.now in
    end_missed R (length s) c.loop.counter c.loop.rest.now c.loop.read.items (to_end_at R (length s) s) c.loop-test.false (some_left c.loop.rest.now c.if-is_empty-2.ensures) c.loop.invariant
