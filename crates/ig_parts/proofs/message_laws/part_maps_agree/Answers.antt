use Rattle.ig_fields.proofs.AskLemmas.{shown_is_right, one_right_result}
use Rattle.ig_parts.specs.PartsMessages.{map_form}
use Rattle.ig_parts.proofs.MessageLemmas.{written_map_is_read, maps_tell_apart, spelled_map_fits}
use Rattle.ig_parts.proofs.ServedFitsLemmas.{served_map_fits}
use Rattle.ig_parts.proofs.message_laws.part_maps_agree.Goals as goal

pub returns-clause-right : goal.returns-clause-right
returns-clause-right c body at bytes le = shown_is_right map_form body at bytes le

pub returns-clause-only : goal.returns-clause-only
returns-clause-only c body at answer le right n = one_right_result map_form body at answer le right n

pub returns-clause-written : goal.returns-clause-written
returns-clause-written c = written_map_is_read

pub returns-clause-apart : goal.returns-clause-apart
returns-clause-apart c = maps_tell_apart

pub returns-clause-fit : goal.returns-clause-fit
returns-clause-fit c = spelled_map_fits

pub returns-clause-served : goal.returns-clause-served
returns-clause-served c = served_map_fits
