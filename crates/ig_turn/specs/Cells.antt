-- Used by this crate's tests alone, whose object has to find its meaning here: a map of numbers, which counts its calls. An ask is a key and a value to put there, or none. The got is the call's place and what the key had.
use Rattle.std.specs.Prelude.{◌≡◌, ℕ, ◌+◌, ℤ, List, [], ◌∷◌, ◌++◌, Option, Some, None, length}
use Rattle.std.specs.Ordering.{int_cmp}
use Rattle.std.specs.BTreeMap.{insert_entry, is_at}
use Rattle.std.specs.Map.{lookup}

abbrev pub value_at : List (ℤ × ℤ) → ℤ → Option ℤ
value_at es key = lookup (is_at (int_cmp key)) es

abbrev pub after_ask : List (ℤ × ℤ) → ℤ × Option ℤ → List (ℤ × ℤ)
after_ask es (key, None) = es
after_ask es (key, Some value) = insert_entry int_cmp es key value

abbrev pub after_pairs : List (ℤ × ℤ) → List ((ℤ × Option ℤ) × (ℕ × Option ℤ)) → List (ℤ × ℤ)
after_pairs es [] = es
after_pairs es (p ∷ ps) = after_pairs (after_ask es p.0) ps

-- each call from place n on got its place and what the key had
abbrev pub RunsFrom : ℕ → List (ℤ × ℤ) → List ((ℤ × Option ℤ) × (ℕ × Option ℤ)) → Type 0
RunsFrom n es [] = Unit {0}
RunsFrom n es (p ∷ ps) = (p.1 ≡ (n, value_at es p.0.0)) × RunsFrom (n + 1) (after_ask es p.0) ps

pub record StandsFor (entries : List (ℤ × ℤ)) (calls : ℕ) (start : List (ℤ × ℤ)) (pairs : List ((ℤ × Option ℤ) × (ℕ × Option ℤ))) : Type 0 where
  pub runs : RunsFrom 0 start pairs
  pub entries_are : entries ≡ after_pairs start pairs
  pub counted : calls ≡ length pairs

pub runs_front : (n : ℕ) (es : List (ℤ × ℤ)) (ps qs : List ((ℤ × Option ℤ) × (ℕ × Option ℤ))) → RunsFrom n es (ps ++ qs) → RunsFrom n es ps
runs_front n es [] qs r = tt
runs_front n es (p ∷ ps) qs r = (r.0, runs_front (n + 1) (after_ask es p.0) ps qs r.1)
