use Rattle.std.proofs.Common.{◌≡◌, ℕ, ◌<◌, ◌≤◌, ◌-◌, List, [], length, drop, sym, ap, subst, ◌∙◌, arith}
use Rattle.std.proofs.lemmas.Grind.{common_steps}
use Rattle.std.proofs.lemmas.List.{length-drop, nil_from_length}
use Rattle.ig_replies.specs.Showing.{Waiting, piece_shown, after_gone}
use Rattle.ig_replies.specs.Queues.{IsQueue, waiting_in}
use Rattle.ig_replies.proofs.QueueLemmas.{pass_queue, pass_waiting, spent_queue, spent_waiting, shown_is_left}
use Rattle.ig_replies.proofs.queue.Queue.gone.Goals as goal

pub pass-requires : goal.pass-requires
pass-requires c =
    let shown : c.self.inside.piece ≡ piece_shown c.args.self.now =
    shown_is_left c.self.inside.first c.self.inside.piece c.self.inside.later.items c.self.invariant ∙ ap piece_shown c.self.view_is in
    subst (λ (p : List ℕ). c.args.count ≤ length p) (sym shown) c.requires

pub invariant_of-self : goal.invariant_of-self
invariant_of-self c =
    let len : length (drop c.args.count c.self.inside.piece) ≡ length c.self.inside.piece - c.args.count = length-drop c.args.count c.self.inside.piece in
    let lt : c.args.count < length c.self.inside.piece = grind (arith, common_steps, len) in
    subst (λ (p : List ℕ). IsQueue c.self.inside.first p c.self.inside.later.items) (sym c.pass.ensures)
    (pass_queue c.self.inside.first c.self.inside.piece c.self.inside.later.items c.args.count c.self.invariant lt)

pub returns-then-not-is_empty : goal.returns-then-not-is_empty
returns-then-not-is_empty c =
    let len : length (drop c.args.count c.self.inside.piece) ≡ length c.self.inside.piece - c.args.count = length-drop c.args.count c.self.inside.piece in
    let lt : c.args.count < length c.self.inside.piece = grind (arith, common_steps, len) in
    ap (λ (p : List ℕ). waiting_in c.self.inside.first p c.self.inside.later.items) c.pass.ensures
    ∙ pass_waiting c.self.inside.first c.self.inside.piece c.self.inside.later.items c.args.count c.self.invariant lt
    ∙ ap (λ (w : Waiting). after_gone w c.args.count) c.self.view_is

pub go_on-requires-clause-empty : goal.go_on-requires-clause-empty
go_on-requires-clause-empty c = nil_from_length c.pass.new.self (grind (arith, common_steps))

pub go_on-requires-clause-spent : goal.go_on-requires-clause-spent
go_on-requires-clause-spent c = spent_queue c.self.inside.first c.self.inside.piece c.self.inside.later.items c.self.invariant

pub returns : goal.returns
returns c =
    let le : c.args.count ≤ length (piece_shown (waiting_in c.self.inside.first c.self.inside.piece c.self.inside.later.items)) =
    subst (λ (w : Waiting). c.args.count ≤ length (piece_shown w)) (sym c.self.view_is) c.requires in
    let none : drop c.args.count c.self.inside.piece ≡ [] = sym c.pass.ensures ∙ nil_from_length c.pass.new.self (grind (arith, common_steps)) in
    c.go_on.ensures.waiting
    ∙ spent_waiting c.self.inside.first c.self.inside.piece c.self.inside.later.items c.args.count c.self.invariant le none
    ∙ ap (λ (w : Waiting). after_gone w c.args.count) c.self.view_is
