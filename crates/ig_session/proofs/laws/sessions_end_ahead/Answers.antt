use Rattle.ig_session.proofs.AheadEndLemmas.{stop_is_end_ahead, fault_is_end_ahead, pause_is_end_ahead}
use Rattle.ig_session.proofs.laws.sessions_end_ahead.Goals as goal

pub returns : goal.returns
returns c = record {
  stop = λ limit s input ran order output end sound within stood stops. stop_is_end_ahead limit s input ran order output within stood sound end stops;
  fault = fault_is_end_ahead;
  pause = λ limit s input ran order output missing sound within stood none comes. pause_is_end_ahead limit s input ran order output within stood sound missing none comes;
}
