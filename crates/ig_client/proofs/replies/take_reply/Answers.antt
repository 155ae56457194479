use Rattle.std.proofs.Common.{◌≡◌, ◌∙◌, w64, Some, None, sym, ap}
use Rattle.std.proofs.lemmas.Int.{to_z-of_z}
use Rattle.ig_client.specs.PendingState.{came, left_by, map_of}
use Rattle.ig_client.proofs.ReplyLemmas.{found, removed_at}
use Rattle.ig_client.proofs.replies.take_reply.Goals as goal

pub returns-in-Some-None-clause-frame : goal.returns-in-Some-None-clause-frame
returns-in-Some-None-clause-frame c =
    ap came (ap Some (sym c.in-Some-None.field-0-is)
    ∙ found c.args.replies.now.entries (Some c.in-Some-None.field-0.now) _ c.args.id (to_z-of_z w64 c.args.id c.ranges.id) c.in-Some-None.ensures.value)

pub returns-in-None-clause-frame : goal.returns-in-None-clause-frame
returns-in-None-clause-frame c =
    ap came (found c.args.replies.now.entries None _ c.args.id (to_z-of_z w64 c.args.id c.ranges.id) c.in-None.ensures.value)

pub returns-clause-frame : goal.returns-clause-frame
returns-clause-frame c =
    ap came (found c.args.replies.now.entries (Some c.in_ok-remove.field-0) _ c.args.id (to_z-of_z w64 c.args.id c.ranges.id) c.in_ok-remove.ensures.value)

pub returns-clause-new : goal.returns-clause-new
returns-clause-new c =
    let same : Some (Some c.in-Some-Some.field-0-0) ≡ Some c.in_ok-remove.field-0 =
    ap Some (sym c.in-Some-Some.field-0-is) ∙ c.in-Some-Some.ensures.value ∙ sym c.in_ok-remove.ensures.value in
    let kept : Some c.in-Some-Some.field-0-0 ≡ c.in_ok-remove.field-0 = ap came same in
    removed_at c.args.replies.now.entries c.remove.new.self.entries _ c.args.id (to_z-of_z w64 c.args.id c.ranges.id) c.remove.ensures.updates.0
    ∙ ap (λ r. left_by c.args.id r (map_of c.args.replies.now.entries)) kept
