-- What a step leads to, and what is printed on the way.
use Rattle.std.specs.Prelude.{ℕ, List, [], ◌++◌, Result, Ok, Err}

-- where it leads, or why it stops; and what is printed until then
abbrev pub Said : Type 0 → Type 0 → Type 0
Said A E = Result A E × List ℕ

-- a step that prints nothing
abbrev pub silent : {A E : Type 0} → A → Said A E
silent x = (Ok x, [])

-- a step and then, unless it stops, the next one
abbrev pub and_then : {A B E : Type 0} → Said A E → (A → Said B E) → Said B E
and_then (Ok x, text) next = ((next x).0, text ++ (next x).1)
and_then (Err why, text) next = (Err why, text)
