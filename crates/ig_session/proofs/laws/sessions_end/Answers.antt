use Rattle.ig_session.proofs.EndLemmas.{stop_is_end, fault_is_end, pause_is_end}
use Rattle.ig_session.proofs.laws.sessions_end.Goals as goal

pub returns : goal.returns
returns c = record {
  stop = λ s input ran output end sound within stood stops. stop_is_end s input ran output sound within stood end stops;
  fault = fault_is_end;
  pause = λ s input ran output missing sound within stood comes. pause_is_end s input ran output sound within stood missing comes;
}
