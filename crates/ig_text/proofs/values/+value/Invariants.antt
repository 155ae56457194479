use Rattle.std.proofs.Common.{◌≡◌, ◌+◌, ◌-◌, ◌*◌, length}
use Rattle.ig_text.specs.Tokens.{equals, close_bracket, close_brace}
use Rattle.ig_text.specs.TextOf.{entries}
use Rattle.ig_text.specs.ReadText.{joined_at, until_at, next_at, any_at, entry_at, value_at}
use Rattle.ig_text.proofs.ReaderLoopLemmas.{with_front}
use Rattle.ig_text.proofs.values.+value.Given as goal

abbrev pub invariant-values-loop : goal.invariant-values-loop
invariant-values-loop l = with_front l.read.items (until_at (next_at (value_at l.levels)) l.close (l.most - l.counter) l.rest) ≡ any_at (value_at l.levels) l.close l.text

abbrev pub invariant-pairs-loop : goal.invariant-pairs-loop
invariant-pairs-loop l =
    with_front l.read.items (until_at (next_at (joined_at (value_at l.levels) equals (value_at l.levels))) close_bracket (l.most - l.counter) l.rest) ≡ any_at (joined_at (value_at l.levels) equals (value_at l.levels)) close_bracket l.text

abbrev pub invariant-entries-loop : goal.invariant-entries-loop
invariant-entries-loop l = record {
  same : length l.ids.items ≡ length l.fields.items;
  so_far : with_front (entries l.ids.items l.fields.items) (until_at (next_at (entry_at (value_at l.levels))) close_brace (l.most - l.counter) l.rest) ≡ any_at (entry_at (value_at l.levels)) close_brace l.text;
}

abbrev pub decreases-value : goal.decreases-value
decreases-value l = 5 * l.levels

abbrev pub decreases-content : goal.decreases-content
decreases-content l = 5 * l.levels + 4

abbrev pub decreases-objects : goal.decreases-objects
decreases-objects l = 5 * l.levels + 3

abbrev pub decreases-enums : goal.decreases-enums
decreases-enums l = 5 * l.levels + 3

abbrev pub decreases-collection : goal.decreases-collection
decreases-collection l = 5 * l.levels + 3

abbrev pub decreases-map : goal.decreases-map
decreases-map l = 5 * l.levels + 3

abbrev pub decreases-named : goal.decreases-named
decreases-named l = 5 * l.levels + 3

abbrev pub decreases-compact : goal.decreases-compact
decreases-compact l = 5 * l.levels + 3

abbrev pub decreases-values : goal.decreases-values
decreases-values l = 5 * l.levels + 1

abbrev pub decreases-pairs : goal.decreases-pairs
decreases-pairs l = 5 * l.levels + 2

abbrev pub decreases-entries : goal.decreases-entries
decreases-entries l = 5 * l.levels + 2

abbrev pub decreases-value_pair : goal.decreases-value_pair
decreases-value_pair l = 5 * l.levels + 1

abbrev pub decreases-entry : goal.decreases-entry
decreases-entry l = 5 * l.levels + 1
