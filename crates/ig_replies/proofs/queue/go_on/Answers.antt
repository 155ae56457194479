use Rattle.std.proofs.Common.{◌≡◌, ◌<◌, List, ℕ, [], ◌∷◌, length, sym, ap, subst, ◌∙◌, arith}
use Rattle.std.specs.Prelude.{Option, Some}
use Rattle.std.proofs.lemmas.Grind.{common_steps}
use Rattle.std.proofs.lemmas.List.{nil_from_length}
use Rattle.ig_replies.specs.Showing.{Showing}
use Rattle.ig_replies.specs.Queues.{IsSpentQueue, waiting_spent}
use Rattle.ig_replies.proofs.QueueLemmas.{taken_from, none_is, next_is, popped, over_is, last_is}
use Rattle.ig_replies.proofs.queue.go_on.Goals as goal

pub returns-in_default-clause-queue : goal.returns-in_default-clause-queue
returns-in_default-clause-queue c = (none_is c.args.first.now c.args.piece.now c.args.later.now.items c.in_default.not-Some c.requires.empty c.requires.spent).0

pub returns-in_default-clause-waiting : goal.returns-in_default-clause-waiting
returns-in_default-clause-waiting c = (none_is c.args.first.now c.args.piece.now c.args.later.now.items c.in_default.not-Some c.requires.empty c.requires.spent).1

pub returns-then-not-is_empty-clause-queue : goal.returns-then-not-is_empty-clause-queue
returns-then-not-is_empty-clause-queue c =
    let spent : IsSpentQueue (Some c.in-Some.frame) c.args.later.now.items =
    subst (λ (o : Option Showing). IsSpentQueue o c.args.later.now.items) c.in-Some.is c.requires.spent in
    let some : 0 < length c.refill.new.self = grind (arith, common_steps) in
    (next_is c.in-Some.frame c.refill.new.frame c.refill.new.self c.args.later.now.items spent some c.refill.ensures.piece c.refill.ensures.moved).0

pub returns-then-not-is_empty-clause-waiting : goal.returns-then-not-is_empty-clause-waiting
returns-then-not-is_empty-clause-waiting c =
    let spent : IsSpentQueue (Some c.in-Some.frame) c.args.later.now.items =
    subst (λ (o : Option Showing). IsSpentQueue o c.args.later.now.items) c.in-Some.is c.requires.spent in
    let some : 0 < length c.refill.new.self = grind (arith, common_steps) in
    (next_is c.in-Some.frame c.refill.new.frame c.refill.new.self c.args.later.now.items spent some c.refill.ensures.piece c.refill.ensures.moved).1
    ∙ ap (λ (o : Option Showing). waiting_spent o c.args.later.now.items) (sym c.in-Some.is)

pub begin-requires : goal.begin-requires
begin-requires c =
    let spent : IsSpentQueue (Some c.in-Some.frame) c.args.later.now.items =
    subst (λ (o : Option Showing). IsSpentQueue o c.args.later.now.items) c.in-Some.is c.requires.spent in
    let none : taken_from c.in-Some.frame ≡ [] = sym c.refill.ensures.piece ∙ nil_from_length c.refill.new.self (grind (arith, common_steps)) in
    let shape : c.args.later.now.items ≡ c.in-Some-pop_front.next ∷ c.pop_front.new.self.items =
    popped c.pop_front.result c.in-Some-pop_front.next c.args.later.now.items c.pop_front.new.self.items c.in-Some-pop_front.is c.pop_front.ensures.items in
    (over_is c.in-Some.frame c.in-Some-pop_front.next c.args.later.now.items c.pop_front.new.self.items spent shape none).0.0

pub returns-in-Some-pop_front-clause-waiting : goal.returns-in-Some-pop_front-clause-waiting
returns-in-Some-pop_front-clause-waiting c =
    let spent : IsSpentQueue (Some c.in-Some.frame) c.args.later.now.items =
    subst (λ (o : Option Showing). IsSpentQueue o c.args.later.now.items) c.in-Some.is c.requires.spent in
    let none : taken_from c.in-Some.frame ≡ [] = sym c.refill.ensures.piece ∙ nil_from_length c.refill.new.self (grind (arith, common_steps)) in
    let shape : c.args.later.now.items ≡ c.in-Some-pop_front.next ∷ c.pop_front.new.self.items =
    popped c.pop_front.result c.in-Some-pop_front.next c.args.later.now.items c.pop_front.new.self.items c.in-Some-pop_front.is c.pop_front.ensures.items in
    c.begin.ensures.waiting c.pop_front.new.self.items
    ∙ sym (over_is c.in-Some.frame c.in-Some-pop_front.next c.args.later.now.items c.pop_front.new.self.items spent shape none).1
    ∙ ap (λ (o : Option Showing). waiting_spent o c.args.later.now.items) (sym c.in-Some.is)

pub returns-in-None-clause-waiting : goal.returns-in-None-clause-waiting
returns-in-None-clause-waiting c =
    let spent : IsSpentQueue (Some c.in-Some.frame) c.args.later.now.items =
    subst (λ (o : Option Showing). IsSpentQueue o c.args.later.now.items) c.in-Some.is c.requires.spent in
    let none : taken_from c.in-Some.frame ≡ [] = sym c.refill.ensures.piece ∙ nil_from_length c.refill.new.self (grind (arith, common_steps)) in
    let last : c.args.later.now.items ≡ [] = nil_from_length c.args.later.now.items (grind (arith, common_steps)) in
    sym (last_is c.in-Some.frame c.args.later.now.items spent last none)
    ∙ ap (λ (o : Option Showing). waiting_spent o c.args.later.now.items) (sym c.in-Some.is)
