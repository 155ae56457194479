use Rattle.std.proofs.Common.{sym, ◌∙◌, to_z, of_z, w64}
use Rattle.std.proofs.lemmas.Int.{to_z-of_z}
use Rattle.ig_wire.specs.declared.reason.Reason.TheVariants as reason
use Rattle.ig_replies.specs.RunTerms.{terms_of}
use Rattle.ig_replies.proofs.ReasonLemmas.{reason_short}
use Rattle.ig_replies.proofs.TurnLemmas.{closed_some, closed_none}
use Rattle.ig_replies.proofs.turns.close.Goals as goal

pub say-requires-in-None : goal.say-requires-in-None
say-requires-in-None c = reason_short reason.NoResource

pub returns-in-Some : goal.returns-in-Some
returns-in-Some c =
    closed_some (terms_of c.args.terms.now) c.args.desk.now c.take.new.self c.args.id (to_z w64 (of_z w64 c.args.id)) c.args.resource
    (to_z w64 (of_z w64 c.args.resource)) c.in-Some.cursor c.say.result
    (to_z-of_z w64 c.args.id c.ranges.id) (to_z-of_z w64 c.args.resource c.ranges.resource)
    (sym c.take.ensures.taken ∙ c.in-Some.is) c.take.ensures.left c.say.ensures

pub returns-in-None : goal.returns-in-None
returns-in-None c =
    closed_none (terms_of c.args.terms.now) c.args.desk.now c.take.new.self c.args.id (to_z w64 (of_z w64 c.args.id)) c.args.resource
    (to_z w64 (of_z w64 c.args.resource)) c.say-in-None.result
    (to_z-of_z w64 c.args.id c.ranges.id) (to_z-of_z w64 c.args.resource c.ranges.resource)
    (sym c.take.ensures.taken ∙ c.in-None.is) c.take.ensures.left c.say-in-None.ensures
