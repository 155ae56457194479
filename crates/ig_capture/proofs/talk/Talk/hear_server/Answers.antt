use Rattle.std.proofs.Common.{true, length, Err, refl}
use Rattle.ig_capture.specs.declared.phase.Phase.TheVariants.{Fresh, Asked, Talking, Closed}
use Rattle.ig_capture.specs.declared.stop.Stop.TheVariants as stop
use Rattle.ig_capture.proofs.TurnLemmas.{server_at, least_at}
use Rattle.ig_capture.proofs.talk.Talk.hear_server.Goals as goal

pub hear_greeting-requires-clause-long : goal.hear_greeting-requires-clause-long
hear_greeting-requires-clause-long c = least_at _ _ _ c.self.view_is (Asked c.in-Asked.version) c.in-Asked.is true (length c.args.body.now) c.requires.least

pub returns-in-Asked : goal.returns-in-Asked
returns-in-Asked c =
    server_at _ _ _ c.self.view_is (Asked c.in-Asked.version) c.in-Asked.is c.args.place c.args.body.now c.hear_greeting.new.self c.hear_greeting.new.text c.hear_greeting.result c.hear_greeting.ensures

pub returns-in-Talking : goal.returns-in-Talking
returns-in-Talking c =
    server_at _ _ _ c.self.view_is (Talking c.in-Talking.version) c.in-Talking.is c.args.place c.args.body.now c.hear_reply.new.self c.hear_reply.new.text c.hear_reply.result c.hear_reply.ensures

pub returns-in-Fresh : goal.returns-in-Fresh
returns-in-Fresh c = server_at _ _ _ c.self.view_is Fresh c.in-Fresh.is c.args.place c.args.body.now c.args.self.now c.args.text.now (Err (stop.At c.args.place)) refl

pub returns-in-Closed : goal.returns-in-Closed
returns-in-Closed c = server_at _ _ _ c.self.view_is Closed c.in-Closed.is c.args.place c.args.body.now c.args.self.now c.args.text.now (Err (stop.At c.args.place)) refl
