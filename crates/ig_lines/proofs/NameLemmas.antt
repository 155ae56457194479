-- The name of a cache, and the word, that stand in front.
use Rattle.std.proofs.Common.{◌≡◌, ◌<◌, ◌≤◌, ℕ, zero, suc, true, not, w32, List, [], ◌∷◌, length, take, drop, Option, None, Some, Ok, Err, eqb, leb, refl, sym, ap, subst, ◌∙◌, arith}
use Rattle.std.specs.Int.{cast_signed}
use Rattle.std.specs.Str.{IsAscii, IsUtf8}
use Rattle.std.proofs.lemmas.Bool.{and_parts, leb-true}
use Rattle.std.proofs.lemmas.List.Sums.{prefix_len-le-length}
use Rattle.std.proofs.lemmas.Str.{IsUtf8-from_ascii}
use Rattle.ig_base.specs.Hashes.{Java, units}
use Rattle.ig_text.specs.ReadText.{mapped_read}
use Rattle.ig_text.proofs.ReadsLemmas.{done}
use Rattle.ig_lines.specs.declared.word.Word.{Word}
use Rattle.ig_lines.specs.Arguments.{space, id_of, is_graphic, graphic_len, name_of}
use Rattle.ig_lines.specs.ReadLine.{word_found, word_front, word_len, word_at}
use Rattle.ig_lines.specs.Words.{word_of}
use Rattle.ig_lines.proofs.ArgumentLemmas.{AreGraphic, front_graphic}

-- ---- a name

-- the bytes of a name are a text
graphic_small : (b : ℕ) → is_graphic b ≡ true → b < 128
graphic_small b e = let p = and_parts (leb 33 b) (leb b 126) e in omega (arith, leb-true b 126 p.1)

graphic_ascii : (bytes : List ℕ) → AreGraphic bytes → IsAscii bytes
graphic_ascii [] h i = omega arith
graphic_ascii (b ∷ bytes) h zero = graphic_small b h.0
graphic_ascii (b ∷ bytes) h (suc i) = graphic_ascii bytes h.1 i

pub name_is_text : (n : ℕ) (s bytes : List ℕ) → n ≡ graphic_len s → bytes ≡ take n s → IsUtf8 bytes
name_is_text n s bytes len front =
    let same : bytes ≡ take (graphic_len s) s = front ∙ ap (λ (k : ℕ). take k s) len in
    subst IsUtf8 (sym same) (IsUtf8-from_ascii (take (graphic_len s) s) (graphic_ascii (take (graphic_len s) s) (front_graphic s)))

pub name_within : (n : ℕ) (s : List ℕ) → n ≡ graphic_len s → n ≤ length s
name_within n s len = subst (λ (k : ℕ). k ≤ length s) (sym len) (prefix_len-le-length is_graphic s)

-- no byte of a name stands there
none_of : (n : ℕ) (s bytes : List ℕ) → n ≤ length s → bytes ≡ take n s → bytes ≡ [] → mapped_read id_of (name_of n s) ≡ Err (length s)
none_of zero s bytes le front none = refl
none_of (suc n) [] bytes le front none = absurd (omega (arith, le))
none_of (suc n) (b ∷ s) bytes le front none = let both = sym front ∙ none in cc

pub no_name : (n : ℕ) (s bytes : List ℕ) → n ≡ graphic_len s → bytes ≡ take n s → bytes ≡ [] → mapped_read id_of (name_of (graphic_len s) s) ≡ Err (length s)
no_name n s bytes len front none = ap (λ (k : ℕ). mapped_read id_of (name_of k s)) (sym len) ∙ none_of n s bytes (name_within n s len) front none

-- a name stands there
some_of : (n : ℕ) (s bytes rest : List ℕ) → bytes ≡ take n s → rest ≡ drop n s → (bytes ≡ [] → ⊥) → mapped_read id_of (name_of n s) ≡ Ok (cast_signed w32 (Java (units bytes)), rest)
some_of zero s bytes rest front back some = absurd (some front)
some_of (suc n) s bytes rest front back some =
    ap (λ (l : List ℕ). done (cast_signed w32 (Java (units l)), drop (suc n) s)) (sym front) ∙ ap (λ (l : List ℕ). done (cast_signed w32 (Java (units bytes)), l)) (sym back)

pub name_there : (n : ℕ) (s bytes rest : List ℕ) → n ≡ graphic_len s → bytes ≡ take n s → rest ≡ drop n s → (bytes ≡ [] → ⊥) → mapped_read id_of (name_of (graphic_len s) s) ≡ Ok (cast_signed w32 (Java (units bytes)), rest)
name_there n s bytes rest len front back some = ap (λ (k : ℕ). mapped_read id_of (name_of k s)) (sym len) ∙ some_of n s bytes rest front back some

-- ---- a word

pub word_within : (n : ℕ) (s : List ℕ) → n ≡ word_len s → n ≤ length s
word_within n s len = subst (λ (k : ℕ). k ≤ length s) (sym len) (prefix_len-le-length (λ b. not (eqb b space)) s)

-- the word that was found, or none
word_by : (n : ℕ) (s front : List ℕ) (o : Option Word) → n ≡ word_len s → front ≡ take n s → o ≡ word_of front → word_at s ≡ word_found n s o
word_by n s front o len is found = ap (λ (k : ℕ). word_front k s) (sym len) ∙ ap (λ (l : List ℕ). word_found n s (word_of l)) (sym is) ∙ ap (word_found n s) (sym found)

pub word_there : (n : ℕ) (s front rest : List ℕ) (o : Option Word) (w : Word) → n ≡ word_len s → front ≡ take n s → rest ≡ drop n s → o ≡ word_of front → o ≡ Some w → word_at s ≡ Ok (w, rest)
word_there n s front rest o w len is back found some = word_by n s front o len is found ∙ ap (word_found n s) some ∙ ap (λ (l : List ℕ). done (w, l)) (sym back)

pub no_word : (n : ℕ) (s front : List ℕ) (o : Option Word) → n ≡ word_len s → front ≡ take n s → o ≡ word_of front → o ≡ None → word_at s ≡ Err (length s)
no_word n s front o len is found none = word_by n s front o len is found ∙ ap (word_found n s) none
