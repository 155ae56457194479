-- What is left of a line that was read, and the place of what is wrong.
use Rattle.std.proofs.Common.{◌≡◌, ℕ, ◌+◌, ◌≤◌, List, [], length, Ok, Err, sym, ap, subst, ◌∙◌}
use Rattle.ig_text.specs.declared.fault.TextFault.TheVariants as fault
use Rattle.ig_text.specs.ReadText.{Read}
use Rattle.ig_text.proofs.PlaceLemmas.{IsWithin}
use Rattle.ig_text.proofs.ReadsLemmas.{done}
use Rattle.ig_lines.specs.declared.line.Line.{Line}
use Rattle.ig_lines.specs.ReadLine.{line_at, IsRefusal, IsLineResult}
use Rattle.ig_lines.proofs.LinePlaceLemmas.{line_advances}

pub rest_within : (s rest : List ℕ) (line : Line) → line_at s ≡ Ok (line, rest) → length rest ≤ length s
rest_within s rest line e = subst (λ (r : Read Line). IsWithin (length s) r) e (line_advances s)

pub left_within : (s : List ℕ) (left : ℕ) → line_at s ≡ Err left → left ≤ length s
left_within s left e = subst (λ (r : Read Line). IsWithin (length s) r) e (line_advances s)

-- the whole text was read
pub all_read : (s rest : List ℕ) (line : Line) → line_at s ≡ Ok (line, rest) → rest ≡ [] → IsLineResult s (Ok line)
all_read s rest line e none = e ∙ ap (λ (l : List ℕ). done (line, l)) none

-- something follows the line
pub more_there : (s rest : List ℕ) (line : Line) (place : ℕ) → line_at s ≡ Ok (line, rest) → (rest ≡ [] → ⊥) → place + length rest ≡ length s → IsLineResult s (Err (fault.Bad place))
more_there s rest line place e some size = subst (λ (r : Read Line). IsRefusal s place r) (sym e) (size, some)

-- a part is wrong
pub part_wrong : (s : List ℕ) (left place : ℕ) → line_at s ≡ Err left → place + left ≡ length s → IsLineResult s (Err (fault.Bad place))
part_wrong s left place e size = subst (λ (r : Read Line). IsRefusal s place r) (sym e) size
