use Rattle.ig_value.proofs.LawLemmas.{read_is_spelled, spelled_is_read, reading_stops_rightly, stop_is_read}
use Rattle.ig_value.proofs.laws.one_reader.Goals as goal

pub returns : goal.returns
returns c = record { read = read_is_spelled; spelled = spelled_is_read; stops = reading_stops_rightly; stopped = stop_is_read }
