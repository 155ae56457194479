use Rattle.ig_client.specs.declared.ask.ChannelAsk.TheVariants as ask
use Rattle.ig_client.specs.declared.ask.ChannelGot.TheVariants as got
use Rattle.ig_client.proofs.SubmitLemmas.{parts_are_submit, same_source, still_linked, stands_submit}
use Rattle.ig_client.proofs.channel.Channel.submit_parts.Goals as goal

pub returns-clause-pairs : goal.returns-clause-pairs
returns-clause-pairs g c =
    stands_submit g.L.Source.source g.L.Sink.sink (ask.SubmitParts c.args.caches.now) (got.NotSentParts c.args.caches.now) (parts_are_submit c.args.caches.now)
    c.args.self.now.pending c.submit_parts_over.new.pending c.args.self.now.link c.submit_parts_over.new.link c.submit_parts_over.result
    (same_source g.L.Source.source g.L.Sink.source_beside g.met.L.Duplex.writes_beside c.args.self.now.link c.submit_parts_over.new.link c.submit_parts_over.ensures.beside)
    c.submit_parts_over.ensures.submits

pub returns-clause-link : goal.returns-clause-link
returns-clause-link g c = still_linked g.L.Sink.source_beside c.args.self.now.link c.submit_parts_over.new.link c.submit_parts_over.ensures.beside
