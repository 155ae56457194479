use Rattle.std.proofs.Common.{◌∙◌, w64, Some, None, sym, ap}
use Rattle.std.proofs.lemmas.Int.{to_z-of_z}
use Rattle.ig_client.specs.PendingState.{is_waiting}
use Rattle.ig_client.proofs.ReplyLemmas.{found}
use Rattle.ig_client.proofs.replies.is_waiting.Goals as goal

pub returns-in-Some-None : goal.returns-in-Some-None
returns-in-Some-None c =
    ap is_waiting (ap Some (sym c.in-Some-None.field-0-is)
    ∙ found c.args.replies.now.entries (Some c.in-Some-None.field-0.now) _ c.args.id (to_z-of_z w64 c.args.id c.ranges.id) c.in-Some-None.ensures.value)

pub returns-in-Some-Some : goal.returns-in-Some-Some
returns-in-Some-Some c =
    ap is_waiting (ap Some (sym c.in-Some-Some.field-0-is)
    ∙ found c.args.replies.now.entries (Some c.in-Some-Some.field-0.now) _ c.args.id (to_z-of_z w64 c.args.id c.ranges.id) c.in-Some-Some.ensures.value)

pub returns-in-None : goal.returns-in-None
returns-in-None c =
    ap is_waiting (found c.args.replies.now.entries None _ c.args.id (to_z-of_z w64 c.args.id c.ranges.id) c.in-None.ensures.value)
