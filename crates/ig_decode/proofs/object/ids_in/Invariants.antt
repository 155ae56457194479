use Rattle.std.proofs.Common.{◌≡◌, ◌++◌, ◌*◌, ◌≤◌, length}
use Rattle.ig_value.specs.Objects.{ids_of}
use Rattle.ig_decode.specs.FooterForms.{entry_bytes}
use Rattle.ig_decode.specs.ObjectAnswers.{footer_ids}
use Rattle.ig_decode.proofs.object.ids_in.Given as goal

abbrev pub invariant-each : goal.invariant-each
invariant-each l = record {
  so_far : l.ids.items ++ ids_of (entry_bytes l.form) l.left.items l.entries ≡ footer_ids l.form l.footer;
  there : l.left.items * entry_bytes l.form ≤ length l.entries;
}

abbrev pub decreases-each : goal.decreases-each
decreases-each l = l.left.items
