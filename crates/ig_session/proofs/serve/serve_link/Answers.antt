use Rattle.std.proofs.Common.{◌≡◌, ◌∙◌, ℕ, Ok, Err, refl, sym, subst, arith}
use Rattle.ig_link.specs.States.{SourceState, SinkState}
use Rattle.ig_session.specs.States.{State}
use Rattle.ig_session.specs.Serving.{AnswersAll, Going, Served}
use Rattle.ig_session.proofs.TakeLemmas.{all_fed}
use Rattle.ig_session.proofs.LoopLemmas.{none_served, going_start, going_on, taken_none, take_ended, answer_ended}
use Rattle.ig_session.proofs.serve.serve_link.Goals as goal

pub returns-in_default-clause-served : goal.returns-in_default-clause-served
returns-in_default-clause-served g c = none_served g.C.Caller.stands (g.C.Caller.seat c.args.caller.now) c.args.cfg.now c.args.caller.now (g.L.Source.source c.args.link.now) (g.L.Sink.sink c.args.link.now)

pub returns-in_default-new-clause-served : goal.returns-in_default-new-clause-served
returns-in_default-new-clause-served g c = none_served g.C.Caller.stands (g.C.Caller.seat c.args.caller.now) c.args.cfg.now c.args.caller.now (g.L.Source.source c.args.link.now) (g.L.Sink.sink c.args.link.now)

pub pieces-init : goal.pieces-init
pieces-init g c = record {
  going = subst (λ (s : State). Going g.C.Caller.stands (g.C.Caller.seat c.args.caller.now) c.args.cfg.now c.args.caller.now c.args.caller.now s (g.L.Source.source c.args.link.now) (g.L.Source.source c.args.link.now) (g.L.Sink.sink c.args.link.now) (g.L.Sink.sink c.args.link.now) 0) (sym c.in-Ok-new.ensures)
      (going_start g.C.Caller.stands (g.C.Caller.seat c.args.caller.now) c.args.cfg.now c.args.caller.now (g.L.Source.source c.args.link.now) (g.L.Sink.sink c.args.link.now) c.requires);
  seat = refl;
  lent = refl;
  kept = refl;
  room = omega (arith, c.in-Ok.ensures.len);
}

pub take_piece-requires-clause-sound : goal.take_piece-requires-clause-sound
take_piece-requires-clause-sound g c = c.pieces.invariant.going.sound

pub take_piece-requires-clause-paused : goal.take_piece-requires-clause-paused
take_piece-requires-clause-paused g c = c.pieces.invariant.going.paused

pub take_piece-requires-clause-none : goal.take_piece-requires-clause-none
take_piece-requires-clause-none g c = c.pieces.invariant.going.none_out

pub take_piece-requires-clause-within : goal.take_piece-requires-clause-within
take_piece-requires-clause-within g c = c.pieces.invariant.going.within

pub take_piece-requires-clause-counts : goal.take_piece-requires-clause-counts
take_piece-requires-clause-counts g c =
    let going = c.pieces.invariant.going in
    let all = all_fed c.pieces.session going.input going.ran _ going.output (omega (arith, going.counts, going.within)) going.stands_for in
    omega (arith, all, going.counts)

pub returns-in-Err-clause-served : goal.returns-in-Err-clause-served
returns-in-Err-clause-served g c =
    let sinks : g.L.Sink.sink c.take_piece.new.source ≡ g.L.Sink.sink c.pieces.link =
    sym (g.met.L.Duplex.reads_beside c.take_piece.new.source) ∙ c.take_piece.ensures.beside ∙ g.met.L.Duplex.reads_beside c.pieces.link in
    let going = subst (λ (y : SinkState). Going g.C.Caller.stands (g.C.Caller.seat c.args.caller.now) c.args.cfg.now c.args.caller.now c.pieces.caller c.pieces.session (g.L.Source.source c.args.link.now) (g.L.Source.source c.pieces.link) (g.L.Sink.sink c.args.link.now) y c.pieces.taken) (sym sinks) c.pieces.invariant.going in
    take_ended g.C.Caller.stands (g.C.Caller.seat c.args.caller.now) c.args.cfg.now c.args.caller.now c.pieces.caller c.pieces.session c.take_piece.new.session (g.L.Source.source c.args.link.now) (g.L.Source.source c.pieces.link) (g.L.Source.source c.take_piece.new.source) (g.L.Sink.sink c.args.link.now) (g.L.Sink.sink c.take_piece.new.source)
    c.pieces.taken c.in-Err.end going c.in-Err.ensures.takes

pub answer_all-requires : goal.answer_all-requires
answer_all-requires g c = record {
  none = taken_none g.C.Caller.stands (g.C.Caller.seat c.args.caller.now) c.args.cfg.now c.args.caller.now c.pieces.caller c.pieces.session c.take_piece.new.session (g.L.Source.source c.args.link.now) (g.L.Source.source c.pieces.link) (g.L.Source.source c.take_piece.new.source) (g.L.Sink.sink c.args.link.now) (g.L.Sink.sink c.pieces.link)
      c.pieces.taken c.in-Ok-take_piece.more c.pieces.invariant.going c.in-Ok-take_piece.ensures.takes;
}

pub pieces-smaller : goal.pieces-smaller
pieces-smaller g c = let takes = c.in-Ok-take_piece.ensures.takes in omega (arith, takes.cause.0, takes.cause.1)

pub pieces-preserved : goal.pieces-preserved
pieces-preserved g c =
    let sinks : g.L.Sink.sink c.take_piece.new.source ≡ g.L.Sink.sink c.pieces.link =
    sym (g.met.L.Duplex.reads_beside c.take_piece.new.source) ∙ c.take_piece.ensures.beside ∙ g.met.L.Duplex.reads_beside c.pieces.link in
    let going = subst (λ (y : SinkState). Going g.C.Caller.stands (g.C.Caller.seat c.args.caller.now) c.args.cfg.now c.args.caller.now c.pieces.caller c.pieces.session (g.L.Source.source c.args.link.now) (g.L.Source.source c.pieces.link) (g.L.Sink.sink c.args.link.now) y c.pieces.taken) (sym sinks) c.pieces.invariant.going in
    let sources : g.L.Source.source c.answer_all.new.sink ≡ g.L.Source.source c.take_piece.new.source =
    sym (g.met.L.Duplex.writes_beside c.answer_all.new.sink) ∙ c.answer_all.ensures.beside ∙ g.met.L.Duplex.writes_beside c.take_piece.new.source in
    let takes = c.in-Ok-take_piece.ensures.takes in
    record {
      going = subst (λ (x : SourceState). Going g.C.Caller.stands (g.C.Caller.seat c.args.caller.now) c.args.cfg.now c.args.caller.now c.answer_all.new.caller c.answer_all.new.session (g.L.Source.source c.args.link.now) x (g.L.Sink.sink c.args.link.now) (g.L.Sink.sink c.answer_all.new.sink) c.in-Ok-take_piece.more) (sym sources)
          (going_on g.C.Caller.stands (g.C.Caller.seat c.args.caller.now) c.args.cfg.now c.args.caller.now c.pieces.caller c.answer_all.new.caller c.pieces.session c.take_piece.new.session c.answer_all.new.session (g.L.Source.source c.args.link.now) (g.L.Source.source c.pieces.link) (g.L.Source.source c.take_piece.new.source) (g.L.Sink.sink c.args.link.now) (g.L.Sink.sink c.take_piece.new.source) (g.L.Sink.sink c.answer_all.new.sink)
          c.pieces.taken c.in-Ok-take_piece.more tt going takes
          (subst (λ (s : ℕ). AnswersAll g.C.Caller.stands s c.pieces.caller c.answer_all.new.caller c.take_piece.new.session c.answer_all.new.session (g.L.Sink.sink c.take_piece.new.source) (g.L.Sink.sink c.answer_all.new.sink) (Ok tt)) c.pieces.invariant.seat c.in_default-answer_all.ensures.answers));
      seat = c.answer_all.ensures.seat ∙ c.pieces.invariant.seat;
      lent = c.answer_all.ensures.lent ∙ c.pieces.invariant.lent;
      kept = c.answer_all.ensures.kept ∙ c.pieces.invariant.kept;
      room = c.pieces.invariant.room;
    }

pub returns-in-Err-answer_all-clause-served : goal.returns-in-Err-answer_all-clause-served
returns-in-Err-answer_all-clause-served g c =
    let sinks : g.L.Sink.sink c.take_piece.new.source ≡ g.L.Sink.sink c.pieces.link =
    sym (g.met.L.Duplex.reads_beside c.take_piece.new.source) ∙ c.take_piece.ensures.beside ∙ g.met.L.Duplex.reads_beside c.pieces.link in
    let going = subst (λ (y : SinkState). Going g.C.Caller.stands (g.C.Caller.seat c.args.caller.now) c.args.cfg.now c.args.caller.now c.pieces.caller c.pieces.session (g.L.Source.source c.args.link.now) (g.L.Source.source c.pieces.link) (g.L.Sink.sink c.args.link.now) y c.pieces.taken) (sym sinks) c.pieces.invariant.going in
    let sources : g.L.Source.source c.answer_all.new.sink ≡ g.L.Source.source c.take_piece.new.source =
    sym (g.met.L.Duplex.writes_beside c.answer_all.new.sink) ∙ c.answer_all.ensures.beside ∙ g.met.L.Duplex.writes_beside c.take_piece.new.source in
    subst (λ (x : SourceState). Served g.C.Caller.stands (g.C.Caller.seat c.args.caller.now) c.args.cfg.now c.args.caller.now c.answer_all.new.caller (g.L.Source.source c.args.link.now) x (g.L.Sink.sink c.args.link.now) (g.L.Sink.sink c.answer_all.new.sink) c.in-Err-answer_all.end) (sym sources)
    (answer_ended g.C.Caller.stands (g.C.Caller.seat c.args.caller.now) c.args.cfg.now c.args.caller.now c.pieces.caller c.answer_all.new.caller c.pieces.session c.take_piece.new.session c.answer_all.new.session (g.L.Source.source c.args.link.now) (g.L.Source.source c.pieces.link) (g.L.Source.source c.take_piece.new.source) (g.L.Sink.sink c.args.link.now) (g.L.Sink.sink c.take_piece.new.source) (g.L.Sink.sink c.answer_all.new.sink)
    c.pieces.taken c.in-Ok-take_piece.more c.in-Err-answer_all.end going c.in-Ok-take_piece.ensures.takes
    (subst (λ (s : ℕ). AnswersAll {A = Unit {0}} g.C.Caller.stands s c.pieces.caller c.answer_all.new.caller c.take_piece.new.session c.answer_all.new.session (g.L.Sink.sink c.take_piece.new.source) (g.L.Sink.sink c.answer_all.new.sink) (Err c.in-Err-answer_all.end)) c.pieces.invariant.seat c.in-Err-answer_all.ensures.answers))

pub returns-in-Err-clause-seat : goal.returns-in-Err-clause-seat
returns-in-Err-clause-seat g c = c.pieces.invariant.seat

pub returns-in-Err-answer_all-clause-seat : goal.returns-in-Err-answer_all-clause-seat
returns-in-Err-answer_all-clause-seat g c = c.answer_all.ensures.seat ∙ c.pieces.invariant.seat

pub returns-in-Err-clause-lent : goal.returns-in-Err-clause-lent
returns-in-Err-clause-lent g c = c.pieces.invariant.lent

pub returns-in-Err-answer_all-clause-lent : goal.returns-in-Err-answer_all-clause-lent
returns-in-Err-answer_all-clause-lent g c = c.answer_all.ensures.lent ∙ c.pieces.invariant.lent

pub returns-in-Err-clause-kept : goal.returns-in-Err-clause-kept
returns-in-Err-clause-kept g c = c.pieces.invariant.kept

pub returns-in-Err-answer_all-clause-kept : goal.returns-in-Err-answer_all-clause-kept
returns-in-Err-answer_all-clause-kept g c = c.answer_all.ensures.kept ∙ c.pieces.invariant.kept
