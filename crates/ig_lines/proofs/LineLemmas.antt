-- Lines are read as they are written.
use Rattle.std.proofs.Common.{◌≡◌, ℕ, ℤ, ◌+◌, ◌≤◌, Bool, true, false, cond, not, ◌&&◌, List, [], ◌∷◌, ◌++◌, length, take, drop, Option, Some, None, Result, Ok, Err, eqb, refl, sym, ap, subst, ◌∙◌, append_assoc, arith}
use Rattle.std.specs.Fmt.{decimal}
use Rattle.std.specs.List.{find}
use Rattle.std.specs.Str.{bytes_eq}
use Rattle.std.proofs.lemmas.Bool.{and_parts, cond-true, cond-false}
use Rattle.std.proofs.lemmas.List.{take_at, drop_at, take-append-drop, append-nil}
use Rattle.std.proofs.lemmas.Slice.Eq.{bytes_eq-Decides}
use Rattle.ig_caches.specs.declared.call.Call.{Call}
use Rattle.ig_caches.specs.declared.call.Call.TheVariants.{Scan, Affinity}
use Rattle.ig_caches.specs.declared.request.Request.TheVariants as request
use Rattle.ig_text.specs.declared.fault.TextFault.{TextFault}
use Rattle.ig_text.specs.declared.fault.TextFault.TheVariants as fault
use Rattle.ig_text.specs.ReadText.{Read, ◌>>=◌, mapped_read, mark_at, joined_at}
use Rattle.ig_text.proofs.ReadsLemmas.{bind_ok, done, ok_is, mark_taken}
use Rattle.ig_lines.specs.declared.line.Line.{Line}
use Rattle.ig_lines.specs.declared.line.LineAsk.{LineAsk}
use Rattle.ig_lines.specs.declared.line.LineAsk.TheVariants as asks
use Rattle.ig_lines.specs.declared.word.Word.{Word}
use Rattle.ig_lines.specs.declared.word.Word.TheVariants as word
use Rattle.ig_lines.specs.Arguments.{space, Argument, nothing, cache, item, pair, small, page, cursor, type_id, name, quoted_text, description, both, listed, Held, Mention, cache_text, numbered_text, up_to_at, argument_text, argument_at, by_id}
use Rattle.ig_lines.specs.Commands.{Command, run, ask_with, call_command, command_of}
use Rattle.ig_lines.specs.FitsLine.{FitsArgument}
use Rattle.ig_lines.specs.LineText.{command_text, optional_command_text, AskText, LineOf, line_with, IsLineText, IsTextResult, by_number, FitsCommand}
use Rattle.ig_lines.specs.LineLaws.{LineIsText, TextIsLine, WrittenIsText, LinesTellApart}
use Rattle.ig_lines.specs.ReadLine.{word_found, word_front, word_len, word_at, ask_of_word, ask_at, line_at, IsRefusal, IsLineResult}
use Rattle.ig_lines.specs.Words.{text_of, words, word_of, shape}
use Rattle.ig_lines.proofs.ArgumentLemmas.{Spaced, IsProper, Follows, up_to_reads, argument_reads, argument_spaced}

-- ---- words

found_first : (test : Word → Bool) (d w : Word) (ws : List Word) (b : Bool) → test d ≡ b → cond b (Some d) (find test ws) ≡ Some w → (find test ws ≡ Some w → test w ≡ true) → test w ≡ true
found_first test d w ws true is e later = let same : d ≡ w = cc in ap test (sym same) ∙ is
found_first test d w ws false is e later = later e

found_passes : (test : Word → Bool) (ws : List Word) (w : Word) → find test ws ≡ Some w → test w ≡ true
found_passes test [] w e = absurd cc
found_passes test (d ∷ ws) w e = found_first test d w ws (test d) refl e (found_passes test ws w)

-- a word has the text that it was found by
word_has : (s : List ℕ) (w : Word) → word_of s ≡ Some w → s ≡ text_of w
word_has s w e = (bytes_eq-Decides s (text_of w)).0 (found_passes (λ v. bytes_eq s (text_of v)) words w e)

word_known : (w : Word) → word_of (text_of w) ≡ Some w
word_known word.Get = refl
word_known _ = refl

found_case : (n : ℕ) (s : List ℕ) (w : Word) (rest : List ℕ) (o : Option Word) → word_of (take n s) ≡ o → word_found n s o ≡ Ok (w, rest) → s ≡ text_of w ++ rest
found_case n s w rest None is e = absurd cc
found_case n s w rest (Some v) is e =
    let made : Word × List ℕ = (v, drop n s) in
    let whole : s ≡ text_of v ++ drop n s = sym (take-append-drop n s) ∙ ap (λ (l : List ℕ). l ++ drop n s) (word_has (take n s) v is) in
    subst (λ (z : Word × List ℕ). s ≡ text_of z.0 ++ z.1) (ok_is made (w, rest) e) whole

word_takes : (s : List ℕ) (w : Word) (rest : List ℕ) → word_at s ≡ Ok (w, rest) → s ≡ text_of w ++ rest
word_takes s w rest e = found_case (word_len s) s w rest (word_of (take (word_len s) s)) refl e

abbrev is_other : ℕ → Bool
is_other b = not (eqb b space)

abbrev are_other : List ℕ → Bool
are_other [] = true
are_other (b ∷ bytes) = is_other b && are_other bytes

word_other : (w : Word) → are_other (text_of w) ≡ true
word_other word.Get = refl
word_other _ = refl

space_ends : (b : ℕ) → b ≡ space → is_other b ≡ false
space_ends b e = ap is_other e

front_length : (bytes rest : List ℕ) → are_other bytes ≡ true → Spaced rest → word_len (bytes ++ rest) ≡ length bytes
front_length [] [] h f = refl
front_length [] (b ∷ rest) h f = cond-false (is_other b) (1 + word_len rest) 0 (space_ends b f)
front_length (b ∷ bytes) rest h f =
    let p = and_parts (is_other b) (are_other bytes) h in
    cond-true (is_other b) (1 + word_len (bytes ++ rest)) 0 p.0 ∙ omega (arith, front_length bytes rest p.1 f)

word_again : (w : Word) (rest : List ℕ) → Spaced rest → word_at (text_of w ++ rest) ≡ Ok (w, rest)
word_again w rest f =
    let s : List ℕ = text_of w ++ rest in
    let n : ℕ = length (text_of w) in
    ap (λ (k : ℕ). word_front k s) (front_length (text_of w) rest (word_other w) f)
    ∙ ap (λ (l : List ℕ). word_found n s (word_of l)) (take_at (text_of w) rest n refl)
    ∙ ap (word_found n s) (word_known w)
    ∙ ap (λ (l : List ℕ). done (w, l)) (drop_at (text_of w) rest n refl)

-- ---- what is asked

proper : (w : Word) → IsProper (shape w)
proper word.Get = (tt, tt)
proper word.GetAndRemove = (tt, tt)
proper word.Contains = (tt, tt)
proper word.ClearKey = (tt, tt)
proper word.Remove = (tt, tt)
proper word.Put = (tt, (tt, tt))
proper word.PutIfAbsent = (tt, (tt, tt))
proper word.GetAndPut = (tt, (tt, tt))
proper word.GetAndReplace = (tt, (tt, tt))
proper word.GetAndPutIfAbsent = (tt, (tt, tt))
proper word.Replace = (tt, (tt, tt))
proper word.ReplaceIf = (tt, (tt, (tt, tt)))
proper word.RemoveIf = (tt, (tt, tt))
proper word.GetAll = (tt, tt)
proper word.ContainsAll = (tt, tt)
proper word.ClearKeys = (tt, tt)
proper word.RemoveKeys = (tt, tt)
proper word.PutAll = (tt, tt)
proper word.Size = (tt, tt)
proper word.Scan = (tt, tt)
proper word.TypeName = (tt, tt)
proper word.SetTypeName = (tt, (tt, tt))
proper _ = tt

-- the command of which this is the text, and what it asks
record IsCommandText (s rest : List ℕ) (ask : LineAsk) : Type 0 where
  command : Command Mention
  fits : FitsArgument (shape command.0) command.1
  same : ask ≡ ask_with command.0 (by_id (shape command.0) command.1)
  whole : s ≡ command_text cache_text command ++ rest

ask_takes : (s : List ℕ) (ask : LineAsk) (rest : List ℕ) → ask_at s ≡ Ok (ask, rest) → IsCommandText s rest ask
ask_takes s ask rest e =
    let w = bind_ok (word_at s) (λ w. ask_of_word w.0 w.1) (ask, rest) e in
    let v : Word = w.0.0 in
    let x = bind_ok (argument_at (shape v) w.0.1) (λ x. Ok (ask_with v (by_id (shape v) x.0), x.1)) (ask, rest) w.2 in
    let t = (argument_reads (shape v) (proper v)).takes w.0.1 x.0.0 x.0.1 x.1 in
    let made : LineAsk × List ℕ = (ask_with v (by_id (shape v) x.0.0), x.0.1) in
    let all : IsCommandText s made.1 made.0 = record {
      command = (v, x.0.0);
      fits = t.fits;
      same = refl;
      whole = word_takes s v w.0.1 w.1 ∙ ap (λ (l : List ℕ). text_of v ++ l) t.whole ∙ sym (append_assoc (text_of v) (argument_text cache_text (shape v) x.0.0) x.0.1);
    } in
    subst (λ (z : LineAsk × List ℕ). IsCommandText s z.1 z.0) (ok_is made (ask, rest) x.2) all

follows_end : (a : Argument) → Follows a []
follows_end (both a b) = follows_end b
follows_end (listed a) = refl
follows_end nothing = tt
follows_end cache = tt
follows_end item = tt
follows_end pair = tt
follows_end small = tt
follows_end page = tt
follows_end cursor = tt
follows_end type_id = tt
follows_end name = tt
follows_end quoted_text = tt
follows_end description = tt

ask_again : (w : Word) (x : Held Mention (shape w)) → FitsArgument (shape w) x → ask_at (text_of w ++ argument_text cache_text (shape w) x) ≡ Ok (ask_with w (by_id (shape w) x), [])
ask_again w x fits =
    let a : Argument = shape w in
    let text : List ℕ = argument_text cache_text a x in
    let spaced : Spaced text = subst Spaced (append-nil text) (argument_spaced a (proper w) x [] (follows_end a)) in
    let args : argument_at a text ≡ Ok (x, []) = ap (argument_at a) (sym (append-nil text)) ∙ (argument_reads a (proper w)).again x [] fits (follows_end a) in
    ap (λ (r : Read Word). r >>= λ v. ask_of_word v.0 v.1) (word_again w text spaced) ∙ ap (mapped_read (λ y. ask_with w (by_id a y))) args

-- ---- lines

abbrev line_made : (ℕ × LineAsk) × List ℕ → Line × List ℕ
line_made z = (record { lane = z.0.0; ask = z.0.1 }, z.1)

pub line_is_text : LineIsText
line_is_text s line e =
    let end : Line × List ℕ = (line, []) in
    let a = bind_ok (joined_at (up_to_at 15) space ask_at s) (λ z. done (line_made z)) end e in
    let l = bind_ok (up_to_at 15 s) (λ x. mark_at space x.1 >>= λ m. ask_at m.1 >>= λ y. done ((x.0, y.0), y.1)) a.0 a.1 in
    let m = bind_ok (mark_at space l.0.1) (λ m. ask_at m.1 >>= λ y. done ((l.0.0, y.0), y.1)) a.0 l.2 in
    let k = bind_ok (ask_at m.0.1) (λ y. done ((l.0.0, y.0), y.1)) a.0 m.2 in
    let t = (up_to_reads 15 (omega arith)).takes s l.0.0 l.0.1 l.1 in
    let q = ask_takes m.0.1 k.0.0 k.0.1 k.1 in
    let both : (ℕ × LineAsk) × List ℕ = ((l.0.0, k.0.0), k.0.1) in
    let same : done (line_made both) ≡ done end = ap (λ (z : (ℕ × LineAsk) × List ℕ). done (line_made z)) (ok_is both a.0 k.2) ∙ a.2 in
    let text : List ℕ = command_text cache_text q.command in
    let all : k.0.1 ≡ [] → IsLineText s (line_made both).0 = λ nil. record {
      command = q.command;
      same = ap (λ (ask : LineAsk). record { lane = l.0.0; ask = ask }) q.same;
      lane = t.fits;
      fits = q.fits;
      whole =
          t.whole ∙ ap (λ (r : List ℕ). decimal l.0.0 ++ r) (mark_taken space l.0.1 m.0 m.1 ∙ ap (λ (r : List ℕ). space ∷ r) (q.whole ∙ ap (λ (r : List ℕ). text ++ r) nil ∙ append-nil text));
    } in
    subst (λ (z : Line × List ℕ). z.1 ≡ [] → IsLineText s z.0) (ok_is (line_made both) end same) all refl

abbrev line_of : ℕ × LineAsk → Line
line_of x = record { lane = x.0; ask = x.1 }

text_again : (lane : ℕ) (c : Command Mention) → lane ≤ 15 → FitsArgument (shape c.0) c.1 → line_at (decimal lane ++ space ∷ command_text cache_text c) ≡ Ok (line_with lane c, [])
text_again lane c le fits =
    let text : List ℕ = command_text cache_text c in
    let one : up_to_at 15 (decimal lane ++ space ∷ text) ≡ Ok (lane, space ∷ text) = (up_to_reads 15 (omega arith)).again lane (space ∷ text) le refl in
    ap (λ (r : Read ℕ). mapped_read line_of (r >>= λ x. mark_at space x.1 >>= λ m. ask_at m.1 >>= λ y. Ok ((x.0, y.0), y.1))) one
    ∙ ap (λ (r : Read LineAsk). mapped_read line_of (r >>= λ y. Ok ((lane, y.0), y.1))) (ask_again c.0 c.1 fits)

pub text_is_line : TextIsLine
text_is_line s line h = ap line_at h.whole ∙ text_again line.lane h.command h.lane h.fits ∙ ap (λ (l : Line). done (l, [])) (sym h.same)

-- ---- the text that is written

number_back : (a : Argument) (x : Held ℤ a) → by_id a (by_number a x) ≡ x
number_back cache x = refl
number_back (both a b) x = rw (number_back a x.0, number_back b x.1) refl
number_back (listed a) [] = refl
number_back (listed a) (x ∷ xs) = rw (number_back a x, number_back (listed a) xs) refl
number_back nothing x = refl
number_back item x = refl
number_back pair x = refl
number_back small x = refl
number_back page x = refl
number_back cursor x = refl
number_back type_id x = refl
number_back name x = refl
number_back quoted_text x = refl
number_back description x = refl

number_text : (a : Argument) (x : Held ℤ a) → argument_text numbered_text a x ≡ argument_text cache_text a (by_number a x)
number_text cache x = refl
number_text (both a b) x = rw (number_text a x.0, number_text b x.1) refl
number_text (listed a) [] = refl
number_text (listed a) (x ∷ xs) = rw (number_text a x, number_text (listed a) xs) refl
number_text nothing x = refl
number_text item x = refl
number_text pair x = refl
number_text small x = refl
number_text page x = refl
number_text cursor x = refl
number_text type_id x = refl
number_text name x = refl
number_text quoted_text x = refl
number_text description x = refl

some_is : (d c : Command ℤ) → Some d ≡ Some c → d ≡ c
some_is d c e = cc

back_from : (d c : Command ℤ) (ask : LineAsk) → Some d ≡ Some c → ask_with d.0 d.1 ≡ ask → ask_with c.0 c.1 ≡ ask
back_from d c ask e is = ap (λ (z : Command ℤ). ask_with z.0 z.1) (sym (some_is d c e)) ∙ is

call_back : (call : Call) (c : Command ℤ) → call_command call ≡ Some c → ask_with c.0 c.1 ≡ run call
call_back (Scan id) c e = absurd cc
call_back (Affinity ids) c e = absurd cc
call_back call c e = back_from _ c (run call) e refl

ask_back : (ask : LineAsk) (c : Command ℤ) → command_of ask ≡ Some c → ask_with c.0 c.1 ≡ ask
ask_back (asks.Ask (request.Run call)) c e = call_back call c e
ask_back (asks.Ask (request.Scan id rows)) c e = back_from _ c _ e refl
ask_back (asks.Ask (request.NextPage id)) c e = back_from _ c _ e refl
ask_back (asks.Ask (request.Close id)) c e = back_from _ c _ e refl
ask_back (asks.Parts ids) c e = back_from _ c _ e refl

written_case : (l : Line) (o : Option (Command ℤ)) → command_of l.ask ≡ o → l.lane ≤ 15 → FitsCommand o → IsLineText (decimal l.lane ++ space ∷ optional_command_text o) l
written_case l None is le fits = absurd fits
written_case l (Some c) is le fits =
    let a : Argument = shape c.0 in
    let ask : l.ask ≡ ask_with c.0 (by_id a (by_number a c.1)) = sym (ask_back l.ask c is) ∙ ap (ask_with c.0) (sym (number_back a c.1)) in
    record {
      command = (c.0, by_number a c.1);
      same = ap (λ (x : LineAsk). record { lane = l.lane; ask = x }) ask;
      lane = le;
      fits = fits;
      whole = ap (λ (t : List ℕ). decimal l.lane ++ space ∷ (text_of c.0 ++ t)) (number_text a c.1);
    }

pub written_is_text : WrittenIsText
unfolding LineOf AskText
written_is_text l fits = written_case l (command_of l.ask) refl fits.0 fits.1

pub lines_tell_apart : LinesTellApart
lines_tell_apart l m fl fm e =
    let first : Line × List ℕ = (l, []) in
    let second : Line × List ℕ = (m, []) in
    let same : done first ≡ done second = sym (text_is_line (LineOf l) l (written_is_text l fl)) ∙ ap line_at e ∙ text_is_line (LineOf m) m (written_is_text m fm) in
    ap (λ (z : Line × List ℕ). z.0) (ok_is first second same)

-- ---- a whole line is read, or is none

refused : (s : List ℕ) (place : ℕ) (r : Read Line) → line_at s ≡ r → IsRefusal s place r → (l : Line) → IsLineText s l → ⊥
refused s place (Ok z) is h l text =
    let whole : Line × List ℕ = (l, []) in
    let read : done z ≡ done whole = sym is ∙ text_is_line s l text in
    h.1 (ap (λ (y : Line × List ℕ). y.1) (ok_is z whole read))
refused s place (Err left) is h l text = let both = sym is ∙ text_is_line s l text in cc

pub whole_result : (s : List ℕ) (r : Result Line TextFault) → IsLineResult s r → IsTextResult s r
whole_result s (Ok l) e = line_is_text s l e
whole_result s (Err fault.NoMemory) e = tt
whole_result s (Err (fault.Bad place)) e = λ l text. refused s place (line_at s) refl e l text
