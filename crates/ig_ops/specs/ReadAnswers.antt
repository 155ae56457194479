-- The results of the function that reads results, compared with reading as a function of lists.
use Rattle.std.specs.Prelude.{ℕ, List, Option, None, Some, Result}
use Rattle.ig_wire.specs.declared.ReadFault.{ReadFault}
use Rattle.ig_caches.specs.declared.request.Shown.{Shown}
use Rattle.ig_fields.specs.Ask.{ResultForm}
use Rattle.ig_fields.specs.ShowsRightly.{ShowsRightly, shown_by}
use Rattle.ig_fields.specs.ShownAnswers.{ShowsAs}

-- the table has the row
abbrev pub IsKnown : Option (ResultForm Shown) → Type 0
IsKnown None = ⊥
IsKnown (Some form) = Unit {0}

-- the answer is what the row shows, unless memory ran out
abbrev pub ShowsRow : Option (ResultForm Shown) → List ℕ → ℕ → Result Shown ReadFault → Type 0
ShowsRow None body at answer = ⊥
ShowsRow (Some form) body at answer = ShowsAs (shown_by form body at) answer

-- the answer is right for the row
abbrev pub RowShowsRightly : Option (ResultForm Shown) → List ℕ → ℕ → Result Shown ReadFault → Type 0
RowShowsRightly None body at answer = ⊥
RowShowsRightly (Some form) body at answer = ShowsRightly form body at answer
