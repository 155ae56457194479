use Rattle.std.proofs.Common.{◌≡◌, ◌∙◌, ℕ, List, take, drop, refl, sym, ap, subst}
use Rattle.std.proofs.lemmas.List.{take-append-drop}
use Rattle.ig_link.specs.WritesAs.{SentPart}
use Rattle.ig_session.specs.States.{State}
use Rattle.ig_session.proofs.SendLemmas.{Sent, sent_piece, sent_first}
use Rattle.ig_session.proofs.serve.send_waiting.Goals as goal

pub pieces-preserved : goal.pieces-preserved
pieces-preserved g c = record {
  sent = subst (λ (s : State). Sent c.args.session.now s (g.K.Sink.sink c.args.sink.now) (g.K.Sink.sink c.send_all.new.sink)) (sym c.gone.ensures)
      (sent_piece c.args.session.now c.pieces.session (g.K.Sink.sink c.args.sink.now) (g.K.Sink.sink c.pieces.sink) (g.K.Sink.sink c.send_all.new.sink) c.waiting-waiting.result.now
      c.pieces.invariant.sent c.waiting-waiting.ensures.shown c.in-Ok.ensures.ok c.in-Ok.ensures.no_fault);
  beside = c.send_all.ensures.beside ∙ c.pieces.invariant.beside;
}

pub returns-in-Err-clause-sends : goal.returns-in-Err-clause-sends
returns-in-Err-clause-sends g c =
    let piece : List ℕ = c.waiting-waiting.result.now in
    let n : ℕ = c.in-Err.field-0.sent in
    let part : SentPart n (g.K.Sink.sink c.pieces.sink) (g.K.Sink.sink c.send_all.new.sink) piece = c.in-Err.ensures.err in (
      refl,
      ap (λ (s : State). s.cfg) c.pieces.invariant.sent.same,
      sent_first c.args.session.now c.pieces.session (g.K.Sink.sink c.args.sink.now) (g.K.Sink.sink c.pieces.sink) (g.K.Sink.sink c.send_all.new.sink) piece (take n piece) (drop n piece)
          c.pieces.invariant.sent c.waiting-waiting.ensures.shown (sym (take-append-drop n piece)) part.advances (record { rose = part.rose; holds_not = part.holds_not }),
    )
