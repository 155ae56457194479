-- No reader of a line goes back.
use Rattle.std.proofs.Common.{ℕ, zero, suc, pos, not, List, [], ◌∷◌, length, take, drop, Option, Some, None, leb, ltb}
use Rattle.std.specs.Prelude.{int_le}
use Rattle.ig_value.specs.Part.{i32, i64}
use Rattle.ig_fields.specs.ReadingFields.{is_null}
use Rattle.ig_text.specs.ReadText.{Read, ◌>>=◌, mapped_read, begins_with, joined_at, natural_at, scalar_at, quoted_at, text_at}
use Rattle.ig_text.specs.Tokens.{equals}
use Rattle.ig_text.specs.DescriptionText.{description_at}
use Rattle.ig_text.proofs.ReadsLemmas.{done}
use Rattle.ig_text.proofs.PlaceLemmas.{IsWithin, Advances, drop_within, more_within, then_within, chosen_within, here, mapped_within, checked_advances, marked_advances, joined_advances, natural_advances, scalar_advances, quoted_advances, text_advances}
use Rattle.ig_text.proofs.DescriptionPlaceLemmas.{adjacent_advances, description_advances}
use Rattle.ig_lines.specs.declared.word.Word.{Word}
use Rattle.ig_lines.specs.Arguments.{space, number_sign, Argument, nothing, cache, item, pair, small, page, cursor, type_id, name, quoted_text, description, both, listed, Mention, numbered, graphic_len, name_of, cache_at, item_at, pair_of, pair_at, up_to_at, page_at, name_at, spaced_at, to_end_at, argument_at, by_id}
use Rattle.ig_lines.specs.Commands.{ask_with}
use Rattle.ig_lines.specs.ReadLine.{word_found, word_len, word_at, ask_of_word, ask_at, line_at}
use Rattle.ig_lines.specs.Words.{shape, word_of}

-- ---- arguments

name_of_advances : (n : ℕ) → Advances (name_of n)
name_of_advances zero s = here (length s)
name_of_advances (suc n) s = drop_within (suc n) s

cache_advances : Advances cache_at
cache_advances s =
    let t : List ℕ = drop 1 s in
    let by_number = more_within (length t) (length s) (mapped_read numbered (scalar_at i32 t)) (drop_within 1 s) (mapped_within numbered (length t) (scalar_at i32 t) (scalar_advances i32 t)) in
    chosen_within {A = Mention} (begins_with (number_sign ∷ []) s) (length s) (mapped_read numbered (scalar_at i32 t)) (name_of (graphic_len s) s) by_number (name_of_advances (graphic_len s) s)

item_advances : Advances item_at
item_advances = checked_advances (λ v. not (is_null v)) text_at text_advances

pair_advances : Advances pair_at
pair_advances s = mapped_within pair_of (length s) (joined_at item_at equals item_at s) (joined_advances item_at equals item_at item_advances item_advances s)

pub up_to_advances : (limit : ℕ) → Advances (up_to_at limit)
up_to_advances limit = checked_advances (λ n. leb n limit) natural_at natural_advances

page_advances : Advances page_at
page_advances = checked_advances (λ n. int_le (pos 1) n) (scalar_at i32) (scalar_advances i32)

name_advances : Advances name_at
name_advances = checked_advances {A = List ℕ} (λ bytes. ltb 0 (length bytes)) quoted_at quoted_advances

spaced_advances : {A : Type 0} (R : List ℕ → Read A) → Advances R → Advances (spaced_at R)
spaced_advances R p = marked_advances space R p

to_end_advances : {A : Type 0} (R : List ℕ → Read A) (n : ℕ) → Advances R → Advances (to_end_at R n)
to_end_advances R zero p [] = here 0
to_end_advances R (suc n) p [] = here 0
to_end_advances R zero p (b ∷ s) = here (suc (length s))
to_end_advances R (suc n) p (b ∷ s) =
    then_within (suc (length s)) (R (b ∷ s)) (λ x. to_end_at R n x.1 >>= λ xs. done (x.0 ∷ xs.0, xs.1)) (p (b ∷ s))
    (λ x. then_within (length x.1) (to_end_at R n x.1) (λ xs. done (x.0 ∷ xs.0, xs.1)) (to_end_advances R n p x.1) (λ xs. here (length xs.1)))

argument_advances : (a : Argument) → Advances (argument_at a)
argument_advances nothing s = here (length s)
argument_advances cache s = spaced_advances cache_at cache_advances s
argument_advances item s = spaced_advances item_at item_advances s
argument_advances pair s = spaced_advances pair_at pair_advances s
argument_advances small s = spaced_advances (up_to_at 255) (up_to_advances 255) s
argument_advances page s = spaced_advances page_at page_advances s
argument_advances cursor s = spaced_advances (scalar_at i64) (scalar_advances i64) s
argument_advances type_id s = spaced_advances (scalar_at i32) (scalar_advances i32) s
argument_advances name s = spaced_advances name_at name_advances s
argument_advances quoted_text s = spaced_advances quoted_at quoted_advances s
argument_advances description s = spaced_advances description_at description_advances s
argument_advances (both a b) s = adjacent_advances (argument_at a) (argument_at b) (argument_advances a) (argument_advances b) s
argument_advances (listed a) s = to_end_advances (argument_at a) (length s) (argument_advances a) s

-- ---- lines

found_within : (n : ℕ) (s : List ℕ) (o : Option Word) → IsWithin (length s) (word_found n s o)
found_within n s None = here (length s)
found_within n s (Some w) = drop_within n s

word_advances : Advances word_at
word_advances s = found_within (word_len s) s (word_of (take (word_len s) s))

ask_of_word_advances : (w : Word) → Advances (ask_of_word w)
ask_of_word_advances w s = mapped_within (λ x. ask_with w (by_id (shape w) x)) (length s) (argument_at (shape w) s) (argument_advances (shape w) s)

ask_advances : Advances ask_at
ask_advances s = then_within (length s) (word_at s) (λ w. ask_of_word w.0 w.1) (word_advances s) (λ w. ask_of_word_advances w.0 w.1)

pub line_advances : Advances line_at
line_advances s = mapped_within _ (length s) (joined_at (up_to_at 15) space ask_at s) (joined_advances (up_to_at 15) space ask_at (up_to_advances 15) ask_advances s)
