-- Reading a line from left to right.
use Rattle.std.specs.Prelude.{◌≡◌, ℕ, ◌+◌, not, List, [], length, take, drop, Option, Some, None, Result, Ok, Err, ◌==◌}
use Rattle.std.specs.List.{prefix_len}
use Rattle.ig_text.specs.declared.fault.TextFault.{TextFault}
use Rattle.ig_text.specs.declared.fault.TextFault.TheVariants as fault
use Rattle.ig_text.specs.ReadText.{Read, ◌>>=◌, mapped_read, joined_at}
use Rattle.ig_lines.specs.declared.line.Line.{Line}
use Rattle.ig_lines.specs.declared.line.LineAsk.{LineAsk}
use Rattle.ig_lines.specs.declared.word.Word.{Word}
use Rattle.ig_lines.specs.Arguments.{space, up_to_at, argument_at, by_id}
use Rattle.ig_lines.specs.Commands.{ask_with}
use Rattle.ig_lines.specs.Words.{shape, word_of}

-- the word in front, and what follows it
abbrev pub word_found : ℕ → List ℕ → Option Word → Read Word
word_found n s None = Err (length s)
word_found n s (Some w) = Ok (w, drop n s)

-- a word ends at a space, or at the end
abbrev pub word_front : ℕ → List ℕ → Read Word
word_front n s = word_found n s (word_of (take n s))

abbrev pub word_len : List ℕ → ℕ
word_len s = prefix_len (λ b. not (b == space)) s

abbrev pub word_at : List ℕ → Read Word
word_at s = word_front (word_len s) s

-- what a word's arguments ask
abbrev pub ask_of_word : Word → List ℕ → Read LineAsk
ask_of_word w s = mapped_read (λ x. ask_with w (by_id (shape w) x)) (argument_at (shape w) s)

abbrev pub ask_at : List ℕ → Read LineAsk
ask_at s = word_at s >>= λ w. ask_of_word w.0 w.1

-- a lane is 0 to 15
abbrev pub line_at : List ℕ → Read Line
line_at s = mapped_read (λ x. record { lane = x.0; ask = x.1 }) (joined_at (up_to_at 15) space ask_at s)

-- where a whole line is to be read: the place of the first wrong part, or of what follows the line
abbrev pub IsRefusal : List ℕ → ℕ → Read Line → Type 0
IsRefusal s place (Ok (line, after)) = (place + length after ≡ length s) × (after ≡ [] → ⊥)
IsRefusal s place (Err left) = place + left ≡ length s

abbrev pub IsFault : List ℕ → TextFault → Type 0
IsFault s fault.NoMemory = Unit {0}
IsFault s (fault.Bad place) = IsRefusal s place (line_at s)

abbrev pub IsLineResult : List ℕ → Result Line TextFault → Type 0
IsLineResult s (Ok line) = line_at s ≡ Ok (line, [])
IsLineResult s (Err e) = IsFault s e
