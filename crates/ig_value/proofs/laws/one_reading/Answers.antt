use Rattle.ig_value.proofs.LawLemmas.{every_input_is_decided, one_prefix_spells, one_stop, no_stop_after_value}
use Rattle.ig_value.proofs.laws.one_reading.Goals as goal

pub returns : goal.returns
returns c = record { decided = every_input_is_decided; one_prefix = one_prefix_spells; one_stop = one_stop; not_both = no_stop_after_value }
