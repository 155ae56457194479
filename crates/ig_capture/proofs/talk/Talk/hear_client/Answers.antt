use Rattle.std.proofs.Common.{false, length, Err, refl}
use Rattle.ig_capture.specs.declared.phase.Phase.TheVariants.{Fresh, Talking, Closed}
use Rattle.ig_capture.specs.declared.stop.Stop.TheVariants as stop
use Rattle.ig_capture.proofs.TurnLemmas.{client_at, least_at}
use Rattle.ig_capture.proofs.talk.Talk.hear_client.Goals as goal

pub hear_hello-requires-clause-long : goal.hear_hello-requires-clause-long
hear_hello-requires-clause-long c = least_at _ _ _ c.self.view_is Fresh c.in-Fresh.is false (length c.args.body.now) c.requires.least

pub hear_request-requires-clause-long : goal.hear_request-requires-clause-long
hear_request-requires-clause-long c = least_at _ _ _ c.self.view_is (Talking c.in-Talking.version) c.in-Talking.is false (length c.args.body.now) c.requires.least

pub returns-in-Fresh : goal.returns-in-Fresh
returns-in-Fresh c = client_at _ _ _ c.self.view_is Fresh c.in-Fresh.is c.args.place c.args.body.now c.hear_hello.new.self c.hear_hello.new.text c.hear_hello.result c.hear_hello.ensures

pub returns-in-Talking : goal.returns-in-Talking
returns-in-Talking c =
    client_at _ _ _ c.self.view_is (Talking c.in-Talking.version) c.in-Talking.is c.args.place c.args.body.now c.hear_request.new.self c.hear_request.new.text c.hear_request.result c.hear_request.ensures

pub returns-in-Asked : goal.returns-in-Asked
returns-in-Asked c = client_at _ _ _ c.self.view_is _ c.in-Asked.is c.args.place c.args.body.now c.args.self.now c.args.text.now (Err (stop.At c.args.place)) refl

pub returns-in-Closed : goal.returns-in-Closed
returns-in-Closed c = client_at _ _ _ c.self.view_is Closed c.in-Closed.is c.args.place c.args.body.now c.args.self.now c.args.text.now (Err (stop.At c.args.place)) refl
