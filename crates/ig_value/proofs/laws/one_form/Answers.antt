use Rattle.ig_value.proofs.LawLemmas.{spelled_values_fit, canon_spells, canon_is_shortest, canon_tells_apart}
use Rattle.ig_value.proofs.laws.one_form.Goals as goal

pub returns : goal.returns
returns c = record { fits = spelled_values_fit; spells = canon_spells; shortest = canon_is_shortest; apart = canon_tells_apart }
