use Rattle.ig_value.proofs.LawLemmas.{byte_for_each_node, nodes_inside_count, fits_is_shallow, fits_at_its_depth}
use Rattle.ig_value.proofs.laws.bounded_trees.Goals as goal

pub returns : goal.returns
returns c = record { nodes = byte_for_each_node; inside = nodes_inside_count; shallow = fits_is_shallow; own_depth = fits_at_its_depth }
