use Rattle.std.proofs.Common.{◌≡◌, ◌++◌, ◌∷◌, ◌+◌, ◌*◌, drop, map}
use Rattle.ig_value.specs.Limits.{Depth, greatest, pair_depth}
use Rattle.ig_text.specs.PairText.{pair_text}
use Rattle.ig_text.specs.Tokens.{comma, close_bracket, close_brace, until_text}
use Rattle.ig_text.specs.TextOf.{TextOf, entries, entry_text}
use Rattle.ig_text.proofs.write.+put.Given as goal

abbrev pub invariant-put_values-loop-value : goal.invariant-put_values-loop-value
invariant-put_values-loop-value l = l.out ++ until_text l.close (λ y. comma ∷ TextOf y) (drop l.value-index l.rest) ≡ l.initial.out ++ until_text l.close (λ y. comma ∷ TextOf y) l.rest

abbrev pub invariant-put_pairs-loop-pair : goal.invariant-put_pairs-loop-pair
invariant-put_pairs-loop-pair l = l.out ++ until_text close_bracket (λ y. comma ∷ pair_text y) (drop l.pair-index l.rest) ≡ l.initial.out ++ until_text close_bracket (λ y. comma ∷ pair_text y) l.rest

abbrev pub invariant-put_more_entries-loop-index : goal.invariant-put_more_entries-loop-index
invariant-put_more_entries-loop-index l =
    l.out ++ until_text close_brace (λ y. comma ∷ entry_text TextOf y) (entries (drop l.index l.ids) (drop l.index l.fields)) ≡ l.initial.out ++ until_text close_brace (λ y. comma ∷ entry_text TextOf y) (entries l.ids l.fields)

abbrev pub decreases-put_value : goal.decreases-put_value
decreases-put_value l = 5 * Depth l.value.now

abbrev pub decreases-put_values : goal.decreases-put_values
decreases-put_values l = 5 * greatest (map Depth l.values.now) + 1

abbrev pub decreases-put_pair : goal.decreases-put_pair
decreases-put_pair l = 5 * pair_depth l.pair.now + 1

abbrev pub decreases-put_pairs : goal.decreases-put_pairs
decreases-put_pairs l = 5 * greatest (map pair_depth l.pairs.now) + 2

abbrev pub decreases-put_object : goal.decreases-put_object
decreases-put_object l = 5 * greatest (map Depth l.object.now.fields) + 4

abbrev pub decreases-put_entry : goal.decreases-put_entry
decreases-put_entry l = 5 * Depth l.field.now + 1

abbrev pub decreases-put_entries : goal.decreases-put_entries
decreases-put_entries l = 5 * greatest (map Depth l.fields.now) + 3

abbrev pub decreases-put_more_entries : goal.decreases-put_more_entries
decreases-put_more_entries l = 5 * greatest (map Depth l.fields.now) + 2
