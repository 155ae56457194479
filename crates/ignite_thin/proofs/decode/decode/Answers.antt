use Rattle.std.proofs.Common.{◌≡◌, ℕ, ◌+◌, ◌<◌, ◌≤◌, List, [], length, Err, refl, sym, ap, ◌∙◌, subst, arith}
use Rattle.ig_link.specs.States.{SourceState, SinkState, SinkAdvances}
use Rattle.ig_link.specs.WritesAs.{SentPart}
use Rattle.ignite_thin.specs.declared.decode_end.DecodeEnd.{DecodeEnd}
use Rattle.ignite_thin.specs.Decodes.{TakesText, SendsText}
use Rattle.ig_wire.specs.Limits.{most_session_bytes}
use Rattle.ig_capture.specs.Reading.{fresh_reading}
use Rattle.ignite_thin.proofs.DecodeLemmas.{decodes_nothing, decoded_none, decoded_more, decoded_unsent, decoded_stop, decoded_malformed, decoded_finish}
use Rattle.ignite_thin.proofs.DecodeStepLemmas.{first_sent}
use Rattle.ignite_thin.proofs.decode.decode.Goals as goal

pub returns-in_default : goal.returns-in_default
returns-in_default g c = decodes_nothing (g.S.Source.source c.args.source.now) (g.K.Sink.sink c.args.sink.now)

pub returns-in_default-new : goal.returns-in_default-new
returns-in_default-new g c = decodes_nothing (g.S.Source.source c.args.source.now) (g.K.Sink.sink c.args.sink.now)

pub pieces-init : goal.pieces-init
pieces-init g c = record {
  so_far = decoded_none (g.S.Source.source c.args.source.now) (g.K.Sink.sink c.args.sink.now) fresh_reading c.in-Ok-new.capture c.in-Ok-new.ensures refl;
  none = c.empty-text.ensures;
  room = omega (arith, c.in-Ok.ensures.len);
}

pub pieces-preserved : goal.pieces-preserved
pieces-preserved g c = record {
  so_far = decoded_more c.captures_are_shown.ensures.cuttings c.captures_are_shown.ensures.text c.captures_are_shown.ensures.lines
      (g.S.Source.source c.args.source.now) (g.S.Source.source c.pieces.source) (g.K.Sink.sink c.args.sink.now) (g.K.Sink.sink c.pieces.sink) c.pieces.capture c.pieces.taken c.pieces.invariant.so_far
      c.take_piece.new.capture (g.S.Source.source c.take_piece.new.source) (g.K.Sink.sink c.send_all.new.sink) c.take_piece.new.text c.in-Ok-take_piece.more c.in-Ok-take_piece.ensures
      (subst (λ (l : List ℕ). SinkAdvances (g.K.Sink.sink c.pieces.sink) (g.K.Sink.sink c.send_all.new.sink) l) c.as_slice.ensures c.in-Ok-send_all.ensures.ok) c.in-Ok-send_all.ensures.no_fault;
  none = c.clear.ensures;
  room = c.pieces.invariant.room;
}

pub pieces-smaller : goal.pieces-smaller
pieces-smaller g c = omega (arith, c.in-Ok-take_piece.ensures.does.0, c.in-Ok-take_piece.ensures.does.1, c.in-Ok-take_piece.ensures.does.2)

pub returns-in-Ended : goal.returns-in-Ended
returns-in-Ended g c =
    let took = subst (λ (e : DecodeEnd). TakesText c.pieces.capture c.take_piece.new.capture (g.S.Source.source c.pieces.source) (g.S.Source.source c.take_piece.new.source) c.pieces.taken c.take_piece.new.text (Err e))
    c.in-Ended.is c.in-Err.ensures in
    decoded_finish c.captures_are_shown.ensures.cuttings c.captures_are_shown.ensures.text c.captures_are_shown.ensures.lines
    (g.S.Source.source c.args.source.now) (g.S.Source.source c.pieces.source) (g.K.Sink.sink c.args.sink.now) (g.K.Sink.sink c.pieces.sink) c.pieces.capture c.pieces.taken c.pieces.invariant.so_far
    c.take_piece.new.capture (g.S.Source.source c.take_piece.new.source) (g.K.Sink.sink c.finish.new.sink) c.take_piece.new.text c.finish.result took c.finish.ensures

pub returns-in-Malformed : goal.returns-in-Malformed
returns-in-Malformed g c =
    let took = subst (λ (e : DecodeEnd). TakesText c.pieces.capture c.take_piece.new.capture (g.S.Source.source c.pieces.source) (g.S.Source.source c.take_piece.new.source) c.pieces.taken c.take_piece.new.text (Err e))
    c.in-Malformed.is c.in-Err.ensures in
    let sends = subst (λ (e : DecodeEnd). SendsText c.take_piece.new.text (g.K.Sink.sink c.pieces.sink) (g.K.Sink.sink c.send_text.new.sink) e c.send_text.result) c.in-Malformed.is c.send_text.ensures in
    decoded_malformed c.captures_are_shown.ensures.cuttings c.captures_are_shown.ensures.text c.captures_are_shown.ensures.lines
    (g.S.Source.source c.args.source.now) (g.S.Source.source c.pieces.source) (g.K.Sink.sink c.args.sink.now) (g.K.Sink.sink c.pieces.sink) c.pieces.capture c.pieces.taken c.pieces.invariant.so_far
    (g.S.Source.source c.take_piece.new.source) (g.K.Sink.sink c.send_text.new.sink) took.piece c.take_piece.new.text c.send_text.result took.takes took.does.0 took.does.1 took.does.2 took.does.3.0 took.does.3.1 sends

pub returns-in_default-end : goal.returns-in_default-end
returns-in_default-end g c =
    decoded_stop c.captures_are_shown.ensures.cuttings c.captures_are_shown.ensures.text c.captures_are_shown.ensures.lines
    (g.S.Source.source c.args.source.now) (g.S.Source.source c.pieces.source) (g.K.Sink.sink c.args.sink.now) (g.K.Sink.sink c.pieces.sink) c.pieces.capture c.pieces.taken c.pieces.invariant.so_far
    c.take_piece.new.capture (g.S.Source.source c.take_piece.new.source) c.take_piece.new.text c.in-Err.end c.in-Err.ensures c.in_default-end.not-Ended c.in_default-end.not-Malformed

pub returns-in-Err-send_all : goal.returns-in-Err-send_all
returns-in-Err-send_all g c =
    let part = subst (λ (l : List ℕ). SentPart c.in-Err-send_all.field-0.sent (g.K.Sink.sink c.pieces.sink) (g.K.Sink.sink c.send_all.new.sink) l) c.as_slice.ensures c.in-Err-send_all.ensures.err in
    decoded_unsent c.captures_are_shown.ensures.cuttings c.captures_are_shown.ensures.text c.captures_are_shown.ensures.lines
    (g.S.Source.source c.args.source.now) (g.S.Source.source c.pieces.source) (g.K.Sink.sink c.args.sink.now) (g.K.Sink.sink c.pieces.sink) c.pieces.capture c.pieces.taken c.pieces.invariant.so_far
    c.take_piece.new.capture (g.S.Source.source c.take_piece.new.source) (g.K.Sink.sink c.send_all.new.sink) c.take_piece.new.text c.in-Ok-take_piece.more c.in-Ok-take_piece.ensures
    (first_sent c.take_piece.new.text (g.K.Sink.sink c.pieces.sink) (g.K.Sink.sink c.send_all.new.sink) c.in-Err-send_all.field-0.sent part)
