-- The results of the functions that read fields, compared with reading as a function of lists.
use Rattle.std.specs.Prelude.{◌≡◌, ℕ, Result, Ok, Err}
use Rattle.ig_wire.specs.declared.stop.Stop.{Stop}

-- the result, seen through `view`, is what reading the list gives
abbrev pub FieldAnswers : {X Y : Type 0} → (X → Y) → Result X Stop → Result Y ℕ → Type 0
FieldAnswers view (Ok x) read = read ≡ Ok (view x)
FieldAnswers view (Err stop) read = read ≡ Err stop.left
