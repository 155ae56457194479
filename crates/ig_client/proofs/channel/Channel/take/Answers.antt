use Rattle.std.proofs.Common.{◌≡◌, ◌∙◌, w64, to_z, of_z, Some, sym, ap, subst}
use Rattle.std.proofs.lemmas.Int.{to_z-of_z}
use Rattle.ig_client.specs.PendingState.{PendingState, after_take, reply_to}
use Rattle.ig_client.specs.Stands.{ChannelStands, Gains}
use Rattle.ig_client.specs.declared.ask.ChannelAsk.TheVariants as ask
use Rattle.ig_client.specs.declared.ask.ChannelGot.TheVariants as got
use Rattle.ig_client.proofs.StandLemmas.{stands_take}
use Rattle.ig_client.proofs.channel.Channel.take.Goals as goal

pub returns-clause-pairs : goal.returns-clause-pairs
returns-clause-pairs g c =
    let key : to_z w64 (of_z w64 c.args.id) ≡ c.args.id = to_z-of_z w64 c.args.id c.ranges.id in
    subst (λ (n : PendingState). Gains (ChannelStands g.L.Source.source g.L.Sink.sink c.args.self.now.pending c.args.self.now.link) (ChannelStands g.L.Source.source g.L.Sink.sink n c.args.self.now.link) (Some (ask.Take c.args.id, got.Taken c.take.result)))
    (sym (c.take.ensures.new ∙ ap (λ i. after_take i c.args.self.now.pending) key))
    (stands_take g.L.Source.source g.L.Sink.sink c.args.id c.args.self.now.pending c.args.self.now.link c.take.result
    (sym (c.take.ensures.frame ∙ ap (λ i. reply_to i c.args.self.now.pending) key)))
