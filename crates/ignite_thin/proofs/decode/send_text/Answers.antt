use Rattle.std.proofs.Common.{◌≡◌, ℕ, List, refl, inl, subst}
use Rattle.ig_link.specs.States.{SinkAdvances}
use Rattle.ig_link.specs.WritesAs.{SentPart}
use Rattle.ignite_thin.proofs.DecodeStepLemmas.{sent_part}
use Rattle.ignite_thin.proofs.decode.send_text.Goals as goal

pub returns-in-Ok : goal.returns-in-Ok
returns-in-Ok g c =
    inl (
      subst (λ (l : List ℕ). SinkAdvances (g.K.Sink.sink c.args.sink.now) (g.K.Sink.sink c.send_all.new.sink) l) c.as_slice.ensures c.in-Ok.ensures.ok,
      c.in-Ok.ensures.no_fault,
      refl,
    )

pub returns-in-Err : goal.returns-in-Err
returns-in-Err g c =
    sent_part c.args.text.now (g.K.Sink.sink c.args.sink.now) (g.K.Sink.sink c.send_all.new.sink) c.in-Err.field-0.sent c.args.end
    (subst (λ (l : List ℕ). SentPart c.in-Err.field-0.sent (g.K.Sink.sink c.args.sink.now) (g.K.Sink.sink c.send_all.new.sink) l) c.as_slice.ensures c.in-Err.ensures.err)
