use Rattle.ig_client.proofs.StartLemmas.{stands_start}
use Rattle.ig_client.proofs.channel.Channel.over.Goals as goal

pub returns-in-Ok-clause-stands : goal.returns-in-Ok-clause-stands
returns-in-Ok-clause-stands g c = stands_start g.L.Source.source g.L.Sink.sink c.args.version c.in-Ok.pending c.args.link c.in-Ok.ensures
