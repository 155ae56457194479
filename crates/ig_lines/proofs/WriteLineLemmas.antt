-- What was written of a line, after each of its parts.
use Rattle.std.proofs.Common.{◌≡◌, ℕ, ℤ, List, [], ◌∷◌, ◌++◌, sym, ap, ◌∙◌, append_assoc}
use Rattle.std.specs.Fmt.{decimal}
use Rattle.ig_caches.specs.declared.call.Call.{Call}
use Rattle.ig_lines.specs.declared.line.Line.{Line}
use Rattle.ig_lines.specs.declared.line.LineAsk.{LineAsk}
use Rattle.ig_lines.specs.Arguments.{space}
use Rattle.ig_lines.specs.Commands.{call_command, command_of}
use Rattle.ig_lines.specs.LineText.{optional_command_text, AskText, LineOf}

-- a word and its arguments, and one more of them
pub put_after_one : (old mid new word a d : List ℕ) → mid ≡ old ++ (word ++ a) → new ≡ mid ++ d → new ≡ old ++ (word ++ (a ++ d))
put_after_one old mid new word a d one two = two ∙ ap (λ (l : List ℕ). l ++ d) one ∙ append_assoc old (word ++ a) d ∙ ap (λ (l : List ℕ). old ++ l) (append_assoc word a d)

pub put_after_two : (old mid new word a b d : List ℕ) → mid ≡ old ++ (word ++ (a ++ b)) → new ≡ mid ++ d → new ≡ old ++ (word ++ (a ++ (b ++ d)))
put_after_two old mid new word a b d one two = put_after_one old mid new word (a ++ b) d one two ∙ ap (λ (l : List ℕ). old ++ (word ++ l)) (append_assoc a b d)

pub put_after_three : (old mid new word a b c d : List ℕ) → mid ≡ old ++ (word ++ (a ++ (b ++ c))) → new ≡ mid ++ d → new ≡ old ++ (word ++ (a ++ (b ++ (c ++ d))))
put_after_three old mid new word a b c d one two = put_after_two old mid new word a (b ++ c) d one two ∙ ap (λ (l : List ℕ). old ++ (word ++ (a ++ l))) (append_assoc b c d)

-- the text of what was matched
pub call_text : (call made : Call) (now : List ℕ) → call ≡ made → now ++ optional_command_text (call_command made) ≡ now ++ optional_command_text (call_command call)
call_text call made now e = ap (λ (c : Call). now ++ optional_command_text (call_command c)) (sym e)

-- the same, where the cache was given as it is stored
pub cache_text : (make : ℤ → Call) (call : Call) (now : List ℕ) (cache given : ℤ) → given ≡ cache → call ≡ make cache → now ++ optional_command_text (call_command (make given)) ≡ now ++ optional_command_text (call_command call)
cache_text make call now cache given same e = ap (λ (z : ℤ). now ++ optional_command_text (call_command (make z))) same ∙ call_text call (make cache) now e

pub ask_text : (ask made : LineAsk) (now : List ℕ) → ask ≡ made → now ++ optional_command_text (command_of made) ≡ now ++ AskText ask
unfolding AskText
ask_text ask made now e = ap (λ (a : LineAsk). now ++ optional_command_text (command_of a)) (sym e)

-- a whole line
pub line_text : (line : Line) (empty lane after whole : List ℕ) → empty ≡ [] → lane ≡ empty ++ decimal line.lane → after ≡ lane ++ space ∷ [] → whole ≡ after ++ AskText line.ask → whole ≡ LineOf line
unfolding LineOf
line_text line empty lane after whole none first mark ask =
    ask ∙ ap (λ (l : List ℕ). l ++ AskText line.ask) (mark ∙ ap (λ (l : List ℕ). l ++ space ∷ []) (first ∙ ap (λ (l : List ℕ). l ++ decimal line.lane) none)) ∙ append_assoc (decimal line.lane) (space ∷ []) (AskText line.ask)
