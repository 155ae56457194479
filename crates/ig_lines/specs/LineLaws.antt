-- Laws of the texts of lines.
use Rattle.std.specs.Prelude.{◌≡◌, ℕ, List, [], Ok}
use Rattle.ig_lines.specs.declared.line.Line.{Line}
use Rattle.ig_lines.specs.LineText.{LineOf, IsLineText, FitsLine}
use Rattle.ig_lines.specs.ReadLine.{line_at}

-- what is read whole is a line, of which this is a text
abbrev pub LineIsText : Type 0
LineIsText = (s : List ℕ) (line : Line) → line_at s ≡ Ok (line, []) → IsLineText s line

-- each text of a line is read, as this line
abbrev pub TextIsLine : Type 0
TextIsLine = (s : List ℕ) (line : Line) → IsLineText s line → line_at s ≡ Ok (line, [])

-- a line within the limits has the text that is written
abbrev pub WrittenIsText : Type 0
WrittenIsText = (line : Line) → FitsLine line → IsLineText (LineOf line) line

-- and no other line has it
abbrev pub LinesTellApart : Type 0
LinesTellApart = (line other : Line) → FitsLine line → FitsLine other → LineOf line ≡ LineOf other → line ≡ other
