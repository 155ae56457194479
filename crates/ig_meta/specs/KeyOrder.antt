-- Items in the order of their keys.
use Rattle.std.specs.Prelude.{List, [], ◌∷◌}
use Rattle.std.specs.BTreeMap.{insert_entry}
use Rattle.std.specs.declared.cmp.Ordering.{Ordering}

-- the entries of an ordered map, with these put in
abbrev pub with_entries : {K X : Type 0} → (K → K → Ordering) → List (K × X) → List (K × X) → List (K × X)
with_entries compare entries [] = entries
with_entries compare entries (x ∷ xs) = with_entries compare (insert_entry compare entries x.0 x.1) xs

-- the items in the order of their keys
abbrev pub in_key_order : {K X : Type 0} → (K → K → Ordering) → List (K × X) → List (K × X)
in_key_order compare xs = with_entries compare [] xs
