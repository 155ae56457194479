-- Laws of the texts of descriptions of types.
use Rattle.std.specs.Prelude.{◌≡◌, List, ◌++◌, ℕ, Ok}
use Rattle.ig_types.specs.declared.meta.TypeMeta.{TypeMeta}
use Rattle.ig_text.specs.TextLaws.{Ends}
use Rattle.ig_text.specs.DescriptionText.{description_text, description_at}
use Rattle.ig_text.specs.FitsDescription.{FitsDescription}

-- what is read keeps to the limits, and its text stood there
abbrev pub DescriptionIsText : Type 0
DescriptionIsText = (s rest : List ℕ) (m : TypeMeta) → description_at s ≡ Ok (m, rest) → FitsDescription m × (s ≡ description_text m ++ rest)

-- the text of a description within the limits is read, whatever follows that a number can't go on with
abbrev pub DescriptionIsRead : Type 0
DescriptionIsRead = (m : TypeMeta) (rest : List ℕ) → FitsDescription m → Ends rest → description_at (description_text m ++ rest) ≡ Ok (m, rest)

-- two descriptions within the limits have the same text only if they are equal
abbrev pub DescriptionTextTellsApart : Type 0
DescriptionTextTellsApart = (m n : TypeMeta) → FitsDescription m → FitsDescription n → description_text m ≡ description_text n → m ≡ n
