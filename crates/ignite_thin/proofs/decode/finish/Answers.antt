use Rattle.std.proofs.Common.{Err, subst}
use Rattle.ig_capture.specs.declared.fault.CaptureFault.{CaptureFault}
use Rattle.ig_capture.specs.Feeds.{Finishes}
use Rattle.ignite_thin.proofs.DecodeStepLemmas.{ends_well, ends_wrong}
use Rattle.ignite_thin.proofs.decode.finish.Goals as goal

pub returns-in-Ok : goal.returns-in-Ok
returns-in-Ok g c =
    ends_well c.args.capture c.args.text.now c.finish.new.out (g.K.Sink.sink c.args.sink.now) (g.K.Sink.sink c.send_text.new.sink) c.send_text.result c.requires.none c.in-Ok.ensures.finishes c.send_text.ensures

pub returns-in-Err-Bad : goal.returns-in-Err-Bad
returns-in-Err-Bad g c =
    ends_wrong c.args.capture c.args.text.now c.finish.new.out c.in-Err-Bad.field-0-0 (g.K.Sink.sink c.args.sink.now) (g.K.Sink.sink c.send_text-in-Err-Bad.new.sink) c.send_text-in-Err-Bad.result c.requires.none
    (subst (λ (f : CaptureFault). Finishes c.args.capture c.args.text.now c.finish.new.out (Err f)) c.in-Err-Bad.field-0-is c.in-Err-Bad.ensures.finishes) c.send_text-in-Err-Bad.ensures
