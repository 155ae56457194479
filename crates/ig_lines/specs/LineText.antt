-- The texts of a line.
use Rattle.std.specs.Prelude.{◌≡◌, ◌≤◌, ℕ, ℤ, List, [], ◌∷◌, ◌++◌, map, Option, Some, None, Result, Ok, Err}
use Rattle.std.specs.Fmt.{decimal}
use Rattle.ig_text.specs.declared.fault.TextFault.{TextFault}
use Rattle.ig_text.specs.declared.fault.TextFault.TheVariants as fault
use Rattle.ig_lines.specs.declared.line.Line.{Line}
use Rattle.ig_lines.specs.declared.line.LineAsk.{LineAsk}
use Rattle.ig_lines.specs.Arguments.{Argument, nothing, cache, item, pair, small, page, cursor, type_id, name, quoted_text, description, both, listed, Held, Mention, numbered, space, numbered_text, cache_text, argument_text, by_id}
use Rattle.ig_lines.specs.Commands.{Command, ask_with, command_of}
use Rattle.ig_lines.specs.FitsLine.{FitsArgument}
use Rattle.ig_lines.specs.Words.{text_of, shape}

abbrev pub command_text : {C : Type 0} → (C → List ℕ) → Command C → List ℕ
command_text text c = text_of c.0 ++ argument_text text (shape c.0) c.1

abbrev pub optional_command_text : Option (Command ℤ) → List ℕ
optional_command_text None = []
optional_command_text (Some c) = command_text numbered_text c

-- what is asked, with each cache by its identifier
unfoldable pub AskText : LineAsk → List ℕ
AskText ask = optional_command_text (command_of ask)

-- the text of a line: the lane, a space, and what is asked
unfoldable pub LineOf : Line → List ℕ
LineOf line = decimal line.lane ++ space ∷ AskText line.ask

-- the line of a lane and a command
abbrev pub line_with : ℕ → Command Mention → Line
line_with lane c = record { lane = lane; ask = ask_with c.0 (by_id (shape c.0) c.1) }

-- A text of the line, which keeps to the limits: the same, or with any cache by a name that has its
-- identifier.
pub record IsLineText (s : List ℕ) (line : Line) : Type 0 where
  pub command : Command Mention
  pub same : line ≡ line_with line.lane command
  pub lane : line.lane ≤ 15
  pub fits : FitsArgument (shape command.0) command.1
  pub whole : s ≡ decimal line.lane ++ space ∷ command_text cache_text command

-- where the text isn't that of a line, it is refused, unless memory ran out
abbrev pub IsNoText : List ℕ → TextFault → Type 0
IsNoText s fault.NoMemory = Unit {0}
IsNoText s (fault.Bad place) = (line : Line) → IsLineText s line → ⊥

-- the line of which this is a text
abbrev pub IsTextResult : List ℕ → Result Line TextFault → Type 0
IsTextResult s (Ok line) = IsLineText s line
IsTextResult s (Err e) = IsNoText s e

-- the same arguments, with each identifier as it is written
abbrev pub by_number : (a : Argument) → Held ℤ a → Held Mention a
by_number cache x = numbered x
by_number (both a b) x = (by_number a x.0, by_number b x.1)
by_number (listed a) xs = map (by_number a) xs
by_number nothing x = x
by_number item x = x
by_number pair x = x
by_number small x = x
by_number page x = x
by_number cursor x = x
by_number type_id x = x
by_number name x = x
by_number quoted_text x = x
by_number description x = x

abbrev pub FitsCommand : Option (Command ℤ) → Type 0
FitsCommand None = ⊥
FitsCommand (Some c) = FitsArgument (shape c.0) (by_number (shape c.0) c.1)

-- what is asked has a text: it is neither a whole scan nor a call for pairs of caches, and it keeps to the
-- limits
abbrev pub FitsAsk : LineAsk → Type 0
FitsAsk ask = FitsCommand (command_of ask)

abbrev pub FitsLine : Line → Type 0
FitsLine line = (line.lane ≤ 15) × FitsAsk line.ask
