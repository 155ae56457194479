-- Arguments are read as they are written.
use Rattle.std.proofs.Common.{◌≡◌, ℕ, zero, suc, pos, ◌+◌, ◌<◌, ◌≤◌, ◌^◌, Bool, true, false, cond, not, List, [], ◌∷◌, ◌++◌, length, take, drop, Ok, ltb, leb, refl, sym, ap, subst, ◌∙◌, append_assoc, arith, length-append}
use Rattle.std.specs.Prelude.{int_le}
use Rattle.std.specs.Fmt.{decimal}
use Rattle.std.specs.List.{AllByRecursion, flat_map, prefix_len, take_while}
use Rattle.std.proofs.lemmas.Bool.{ltb-true, leb-true, lt-ltb, le-leb, cond-true, cond-false, not-true, not_from_false}
use Rattle.std.proofs.lemmas.List.{take_at, drop_at, take-append-drop, append-nil}
use Rattle.std.proofs.lemmas.List.Sums.{take_while-cons}
use Rattle.ig_value.specs.declared.value.Value.{Value}
use Rattle.ig_value.specs.Limits.{IsLimitedText, Fits}
use Rattle.ig_value.specs.Part.{i32, i64}
use Rattle.ig_value.specs.Spells.{IsInRange}
use Rattle.ig_fields.specs.ReadingFields.{is_null}
use Rattle.ig_caches.specs.declared.call.Pair.{Pair}
use Rattle.ig_text.specs.ReadText.{Read, ◌>>=◌, mapped_read, begins_with, joined_at, is_hex, natural_at, scalar_at, quoted_at, text_at}
use Rattle.ig_text.specs.TextLaws.{Ends}
use Rattle.ig_text.specs.TextOf.{TextOf}
use Rattle.ig_text.specs.Tokens.{equals, quoted, scalar_text}
use Rattle.ig_text.proofs.ReadsLemmas.{Takes, Reads, bind_ok, done, ok_is, mapped_reads, checked_reads, marked_reads, joined_reads}
use Rattle.ig_text.proofs.NumberLemmas.{natural_reads}
use Rattle.ig_text.proofs.TokenLemmas.{begun, scalar_reads, quoted_reads}
use Rattle.ig_text.proofs.LevelLemmas.{read_is_text, text_is_read}
use Rattle.ig_lines.specs.Arguments.{space, number_sign, Argument, nothing, cache, item, pair, small, page, cursor, type_id, name, quoted_text, description, both, listed, Held, Mention, numbered, named, cache_text, is_graphic, graphic_len, name_of, cache_at, pair_text, item_at, pair_of, pair_at, up_to_at, page_at, name_at, argument_text, spaced_at, to_end_at, argument_at}
use Rattle.ig_text.specs.DescriptionText.{description_text, description_at}
use Rattle.ig_text.specs.FitsDescription.{FitsDescription}
use Rattle.ig_lines.specs.FitsLine.{IsPresent, FitsCache, FitsArgument}
use Rattle.ig_text.proofs.DescriptionLemmas.{adjacent_reads, description_reads}

-- ---- what follows an argument: nothing, or a space

abbrev pub Spaced : List ℕ → Type 0
Spaced [] = Unit {0}
Spaced (b ∷ s) = b ≡ space

spaced_ends : (s : List ℕ) → Spaced s → Ends s
spaced_ends [] e = tt
spaced_ends (b ∷ s) e = ap (is_hex true) e

pub narrow_reads : {A : Type 0} (Fits : A → Type 0) (T : A → List ℕ) (F G : List ℕ → Type 0) (R : List ℕ → Read A) → ((s : List ℕ) → G s → F s) → Reads Fits T F R → Reads Fits T G R
narrow_reads Fits T F G R less p = record { takes = p.takes; again = λ x rest fits g. p.again x rest fits (less rest g) }

-- one argument, after a space
single_reads : {A : Type 0} (Fits : A → Type 0) (T : A → List ℕ) (R : List ℕ → Read A) → Reads Fits T Ends R → Reads Fits (λ x. space ∷ T x) Spaced (spaced_at R)
single_reads Fits T R p = marked_reads space Fits T Spaced R (narrow_reads Fits T Ends Spaced R spaced_ends p)

-- ---- values that aren't null

text_reads : Reads Fits TextOf Ends text_at
text_reads = record {
  takes = λ s v rest e. let t = read_is_text s rest v e in record { fits = t.fits; whole = t.whole };
  again = λ v rest fits ends. text_is_read v rest fits ends;
}

item_reads : Reads IsPresent TextOf Ends item_at
item_reads =
    checked_reads (λ v. not (is_null v)) length Fits IsPresent TextOf Ends text_at (λ v test fits. record { fits = fits; present = not-true (is_null v) test })
    (λ v is. (not_from_false (is_null v) is.present, is.fits)) text_reads

abbrev ArePresent : Pair → Type 0
ArePresent p = IsPresent p.key × IsPresent p.value

pair_reads : Reads ArePresent pair_text Ends pair_at
pair_reads =
    mapped_reads {A = Value × Value} {B = Pair} pair_of (λ p. (p.key, p.value)) (λ z. IsPresent z.0 × IsPresent z.1) (λ z. TextOf z.0 ++ equals ∷ TextOf z.1) Ends (joined_at item_at equals item_at) (λ x. refl) (λ y. refl)
    (joined_reads IsPresent TextOf item_at equals IsPresent TextOf Ends item_at refl item_reads item_reads)

-- ---- numbers and names

pub up_to_reads : (limit : ℕ) → limit ≤ 255 → Reads (λ n. n ≤ limit) decimal Ends (up_to_at limit)
up_to_reads limit most =
    checked_reads (λ n. leb n limit) length (λ n. n < 10 ^ 19) (λ n. n ≤ limit) decimal Ends natural_at (λ n test fits. leb-true n limit test) (λ n le. (le-leb n limit le, omega (arith, le, most))) natural_reads

page_reads : Reads (λ n. IsInRange i32 n × (int_le (pos 1) n ≡ true)) (scalar_text i32) Ends page_at
page_reads =
    checked_reads (λ n. int_le (pos 1) n) length (IsInRange i32) (λ n. IsInRange i32 n × (int_le (pos 1) n ≡ true)) (scalar_text i32) Ends (scalar_at i32) (λ n test fits. (fits, test)) (λ n fits. (fits.1, fits.0)) (scalar_reads i32)

name_reads : Reads (λ t. IsLimitedText t × (0 < length t)) quoted Ends name_at
name_reads =
    checked_reads (λ t. ltb 0 (length t)) length IsLimitedText (λ t. IsLimitedText t × (0 < length t)) quoted Ends quoted_at (λ t test fits. (fits, ltb-true 0 (length t) test)) (λ t fits. (lt-ltb 0 (length t) fits.1, fits.0)) quoted_reads

-- ---- caches

abbrev pub AreGraphic : List ℕ → Type 0
AreGraphic bytes = AllByRecursion (λ b. is_graphic b ≡ true) bytes

front_one : (b : ℕ) (bytes : List ℕ) (t : Bool) → is_graphic b ≡ t → AreGraphic bytes → AreGraphic (cond t (b ∷ bytes) [])
front_one b bytes true is h = (is, h)
front_one b bytes false is h = tt

pub front_graphic : (s : List ℕ) → AreGraphic (take_while is_graphic s)
front_graphic [] = tt
front_graphic (b ∷ s) = subst AreGraphic (sym (take_while-cons is_graphic b s)) (front_one b (take_while is_graphic s) (is_graphic b) refl (front_graphic s))

spaced_graphic : (b : ℕ) → b ≡ space → is_graphic b ≡ false
spaced_graphic b e = ap is_graphic e

graphic_length : (bytes rest : List ℕ) → AreGraphic bytes → Spaced rest → graphic_len (bytes ++ rest) ≡ length bytes
graphic_length [] [] h f = refl
graphic_length [] (b ∷ rest) h f = cond-false (is_graphic b) (1 + prefix_len is_graphic rest) 0 (spaced_graphic b f)
graphic_length (b ∷ bytes) rest h f =
    cond-true (is_graphic b) (1 + prefix_len is_graphic (bytes ++ rest)) 0 h.0 ∙ omega (arith, graphic_length bytes rest h.1 f)

name_takes : (n : ℕ) (s : List ℕ) (c : Mention) (rest : List ℕ) → AreGraphic (take n s) → begins_with (number_sign ∷ []) s ≡ false → n ≤ length s → name_of n s ≡ Ok (c, rest) → Takes FitsCache cache_text s c rest
name_takes zero s c rest graphic other le e = absurd cc
name_takes (suc n) [] c rest graphic other le e = absurd (omega (arith, le))
name_takes (suc n) (b ∷ s) c rest graphic other le e =
    let bytes : List ℕ = take (suc n) (b ∷ s) in
    let made : Mention × List ℕ = (named bytes, drop (suc n) (b ∷ s)) in
    let all : Takes FitsCache cache_text (b ∷ s) made.0 made.1 = record {
      fits = record { some = omega arith; graphic = graphic; no_number = other };
      whole = sym (take-append-drop (suc n) (b ∷ s));
    } in
    subst (λ (z : Mention × List ℕ). Takes FitsCache cache_text (b ∷ s) z.0 z.1) (ok_is made (c, rest) e) all

within_one : (t : Bool) (n m : ℕ) → n ≤ m → cond t (1 + n) 0 ≤ suc m
within_one true n m le = omega (arith, le)
within_one false n m le = omega arith

graphic_within : (s : List ℕ) → graphic_len s ≤ length s
graphic_within [] = omega arith
graphic_within (b ∷ s) = within_one (is_graphic b) (prefix_len is_graphic s) (length s) (graphic_within s)

cache_case : (s : List ℕ) (c : Mention) (rest : List ℕ) (b : Bool) → begins_with (number_sign ∷ []) s ≡ b →
    cond b (mapped_read numbered (scalar_at i32 (drop 1 s))) (name_of (graphic_len s) s) ≡ Ok (c, rest) → Takes FitsCache cache_text s c rest
cache_case s c rest true is e =
    let a = bind_ok (scalar_at i32 (drop 1 s)) (λ x. Ok (numbered x.0, x.1)) (c, rest) e in
    let t = (scalar_reads i32).takes (drop 1 s) a.0.0 a.0.1 a.1 in
    let made : Mention × List ℕ = (numbered a.0.0, a.0.1) in
    let all : Takes FitsCache cache_text s made.0 made.1 = record {
      fits = t.fits;
      whole = begun (number_sign ∷ []) s is ∙ ap (λ (l : List ℕ). number_sign ∷ l) t.whole;
    } in
    subst (λ (z : Mention × List ℕ). Takes FitsCache cache_text s z.0 z.1) (ok_is made (c, rest) a.2) all
cache_case s c rest false is e = name_takes (graphic_len s) s c rest (front_graphic s) is (graphic_within s) e

not_begun : (b : ℕ) (bytes rest : List ℕ) → begins_with (number_sign ∷ []) (b ∷ bytes) ≡ false → begins_with (number_sign ∷ []) (b ∷ (bytes ++ rest)) ≡ false
not_begun b bytes rest e = e

cache_again : (c : Mention) (rest : List ℕ) → FitsCache c → Spaced rest → cache_at (cache_text c ++ rest) ≡ Ok (c, rest)
cache_again (numbered id) rest fits f = ap (mapped_read numbered) ((scalar_reads i32).again id rest fits (spaced_ends rest f))
cache_again (named []) rest fits f = absurd (omega (arith, fits.some))
cache_again (named (b ∷ bytes)) rest fits f =
    let s : List ℕ = b ∷ (bytes ++ rest) in
    let n : ℕ = suc (length bytes) in
    let other : begins_with (number_sign ∷ []) s ≡ false = not_begun b bytes rest fits.no_number in
    let len : graphic_len s ≡ n = graphic_length (b ∷ bytes) rest fits.graphic f in
    cond-false (begins_with (number_sign ∷ []) s) (mapped_read numbered (scalar_at i32 (drop 1 s))) (name_of (graphic_len s) s) other
    ∙ ap (λ (k : ℕ). name_of k s) len
    ∙ ap (λ (l : List ℕ). done (named l, drop n s)) (take_at (b ∷ bytes) rest n refl)
    ∙ ap (λ (l : List ℕ). done (named (b ∷ bytes), l)) (drop_at (b ∷ bytes) rest n refl)

cache_reads : Reads FitsCache cache_text Spaced cache_at
cache_reads = record {
  takes = λ s c rest e. cache_case s c rest (begins_with (number_sign ∷ []) s) refl e;
  again = cache_again;
}

-- ---- arguments up to the end

abbrev IsEnd : List ℕ → Type 0
IsEnd s = s ≡ []

to_end_takes : {A : Type 0} (Fits : A → Type 0) (T : A → List ℕ) (F : List ℕ → Type 0) (R : List ℕ → Read A) → Reads Fits T F R → (n : ℕ) (s : List ℕ) (xs : List A) (rest : List ℕ) → to_end_at R n s ≡ Ok (xs, rest) →
    Takes (AllByRecursion Fits) (flat_map T) s xs rest
to_end_takes {A} Fits T F R p zero [] xs rest e =
    let made : List A × List ℕ = ([], []) in
    let all : Takes (AllByRecursion Fits) (flat_map T) [] made.0 made.1 = record { fits = tt; whole = refl } in
    subst (λ (z : List A × List ℕ). Takes (AllByRecursion Fits) (flat_map T) [] z.0 z.1) (ok_is made (xs, rest) e) all
to_end_takes {A} Fits T F R p (suc n) [] xs rest e =
    let made : List A × List ℕ = ([], []) in
    let all : Takes (AllByRecursion Fits) (flat_map T) [] made.0 made.1 = record { fits = tt; whole = refl } in
    subst (λ (z : List A × List ℕ). Takes (AllByRecursion Fits) (flat_map T) [] z.0 z.1) (ok_is made (xs, rest) e) all
to_end_takes Fits T F R p zero (b ∷ s) xs rest e = absurd cc
to_end_takes {A} Fits T F R p (suc n) (b ∷ s) xs rest e =
    let a = bind_ok (R (b ∷ s)) (λ x. to_end_at R n x.1 >>= λ xs. done (x.0 ∷ xs.0, xs.1)) (xs, rest) e in
    let c = bind_ok (to_end_at R n a.0.1) (λ xs. done (a.0.0 ∷ xs.0, xs.1)) (xs, rest) a.2 in
    let t = p.takes (b ∷ s) a.0.0 a.0.1 a.1 in
    let u = to_end_takes Fits T F R p n a.0.1 c.0.0 c.0.1 c.1 in
    let made : List A × List ℕ = (a.0.0 ∷ c.0.0, c.0.1) in
    let all : Takes (AllByRecursion Fits) (flat_map T) (b ∷ s) made.0 made.1 = record {
      fits = (t.fits, u.fits);
      whole = t.whole ∙ ap (λ (l : List ℕ). T a.0.0 ++ l) u.whole ∙ sym (append_assoc (T a.0.0) (flat_map T c.0.0) c.0.1);
    } in
    subst (λ (z : List A × List ℕ). Takes (AllByRecursion Fits) (flat_map T) (b ∷ s) z.0 z.1) (ok_is made (xs, rest) c.2) all

-- the text of an argument that may stand in a list begins with a space
record IsListable {A : Type 0} (T : A → List ℕ) : Type 0 where
  begins : (x : A) (rest : List ℕ) → (t : List ℕ) × (T x ++ rest ≡ space ∷ t)

end_step : {A : Type 0} (R : List ℕ → Read A) (n : ℕ) (s t : List ℕ) (x : A) (r : List ℕ) → s ≡ space ∷ t → R s ≡ Ok (x, r) → to_end_at R (suc n) s ≡ (to_end_at R n r >>= λ xs. done (x ∷ xs.0, xs.1))
end_step R n [] t x r is e = absurd cc
end_step R n (b ∷ s) t x r is e = rw e refl

texts_spaced : {A : Type 0} (T : A → List ℕ) → IsListable T → (xs : List A) → Spaced (flat_map T xs)
texts_spaced T l [] = tt
texts_spaced T l (x ∷ xs) = let b = l.begins x (flat_map T xs) in subst Spaced (sym b.1) refl

to_end_again : {A : Type 0} (Fits : A → Type 0) (T : A → List ℕ) (R : List ℕ → Read A) → Reads Fits T Spaced R → IsListable T → (n : ℕ) (xs : List A) → length (flat_map T xs) ≤ n → AllByRecursion Fits xs → to_end_at R n (flat_map T xs) ≡ Ok (xs, [])
to_end_again Fits T R p l zero [] le fits = refl
to_end_again Fits T R p l (suc n) [] le fits = refl
to_end_again Fits T R p l zero (x ∷ xs) le fits = let b = l.begins x (flat_map T xs) in absurd (omega (arith, ap length b.1, le))
to_end_again Fits T R p l (suc n) (x ∷ xs) le fits =
    let more : List ℕ = flat_map T xs in
    let b = l.begins x more in
    let nil = l.begins x [] in
    let some : 0 < length (T x) = omega (arith, ap length nil.1, length-append (T x) []) in
    let one : R (T x ++ more) ≡ Ok (x, more) = p.again x more fits.0 (texts_spaced T l xs) in
    end_step R n (T x ++ more) b.0 x more b.1 one ∙ rw (to_end_again Fits T R p l n xs (omega (arith, le, some, length-append (T x) more)) fits.1) refl

listed_reads : {A : Type 0} (Fits : A → Type 0) (T : A → List ℕ) (R : List ℕ → Read A) → Reads Fits T Spaced R → IsListable T → Reads (AllByRecursion Fits) (flat_map T) IsEnd (λ s. to_end_at R (length s) s)
listed_reads Fits T R p l = record {
  takes = λ s xs rest e. to_end_takes Fits T Spaced R p (length s) s xs rest e;
  again = λ xs rest fits end.
      let nil : flat_map T xs ++ rest ≡ flat_map T xs = ap (λ (r : List ℕ). flat_map T xs ++ r) end ∙ append-nil (flat_map T xs) in
      ap (λ (s : List ℕ). to_end_at R (length s) s) nil ∙ to_end_again Fits T R p l (length (flat_map T xs)) xs (omega arith) fits ∙ ap (λ (r : List ℕ). done (xs, r)) (sym end);
}

-- ---- all arguments

-- an argument after a space
abbrev IsSingle : Argument → Type 0
IsSingle nothing = ⊥
IsSingle (both a b) = ⊥
IsSingle (listed a) = ⊥
IsSingle _ = Unit {0}

-- lists stand at the end
abbrev pub IsProper : Argument → Type 0
IsProper (both a b) = IsSingle a × IsProper b
IsProper (listed a) = IsSingle a
IsProper _ = Unit {0}

abbrev pub Follows : Argument → List ℕ → Type 0
Follows (both a b) s = Follows b s
Follows (listed a) s = s ≡ []
Follows _ s = Spaced s

single : (a : Argument) → IsSingle a → Reads (FitsArgument a) (argument_text cache_text a) Spaced (argument_at a)
single cache is = marked_reads space FitsCache cache_text Spaced cache_at cache_reads
single item is = single_reads IsPresent TextOf item_at item_reads
single pair is = single_reads ArePresent pair_text pair_at pair_reads
single small is = single_reads (λ n. n ≤ 255) decimal (up_to_at 255) (up_to_reads 255 (omega arith))
single page is = single_reads (λ n. IsInRange i32 n × (int_le (pos 1) n ≡ true)) (scalar_text i32) page_at page_reads
single cursor is = single_reads (IsInRange i64) (scalar_text i64) (scalar_at i64) (scalar_reads i64)
single type_id is = single_reads (IsInRange i32) (scalar_text i32) (scalar_at i32) (scalar_reads i32)
single name is = single_reads (λ t. IsLimitedText t × (0 < length t)) quoted name_at name_reads
single quoted_text is = single_reads IsLimitedText quoted quoted_at quoted_reads
single description is = single_reads FitsDescription description_text description_at description_reads
single nothing is = absurd is
single (both a b) is = absurd is
single (listed a) is = absurd is

single_listable : (a : Argument) → IsSingle a → IsListable (argument_text cache_text a)
single_listable cache is = record { begins = λ x rest. (cache_text x ++ rest, refl) }
single_listable item is = record { begins = λ x rest. (TextOf x ++ rest, refl) }
single_listable pair is = record { begins = λ x rest. (pair_text x ++ rest, refl) }
single_listable small is = record { begins = λ x rest. (decimal x ++ rest, refl) }
single_listable page is = record { begins = λ x rest. (scalar_text i32 x ++ rest, refl) }
single_listable cursor is = record { begins = λ x rest. (scalar_text i64 x ++ rest, refl) }
single_listable type_id is = record { begins = λ x rest. (scalar_text i32 x ++ rest, refl) }
single_listable name is = record { begins = λ x rest. (quoted x ++ rest, refl) }
single_listable quoted_text is = record { begins = λ x rest. (quoted x ++ rest, refl) }
single_listable description is = record { begins = λ x rest. (description_text x ++ rest, refl) }
single_listable nothing is = absurd is
single_listable (both a b) is = absurd is
single_listable (listed a) is = absurd is

-- what an argument's text begins with, or what follows it
pub argument_spaced : (a : Argument) → IsProper a → (x : Held Mention a) (rest : List ℕ) → Follows a rest → Spaced (argument_text cache_text a x ++ rest)
argument_spaced nothing is x rest f = f
argument_spaced (both a b) is x rest f =
    let l = single_listable a is.0 in
    let t = l.begins x.0 (argument_text cache_text b x.1 ++ rest) in
    subst Spaced (sym (append_assoc (argument_text cache_text a x.0) (argument_text cache_text b x.1) rest ∙ t.1)) refl
argument_spaced (listed a) is xs rest f =
    subst Spaced (sym (ap (λ (r : List ℕ). flat_map (argument_text cache_text a) xs ++ r) f ∙ append-nil (flat_map (argument_text cache_text a) xs))) (texts_spaced (argument_text cache_text a) (single_listable a is) xs)
argument_spaced cache is x rest f = refl
argument_spaced item is x rest f = refl
argument_spaced pair is x rest f = refl
argument_spaced small is x rest f = refl
argument_spaced page is x rest f = refl
argument_spaced cursor is x rest f = refl
argument_spaced type_id is x rest f = refl
argument_spaced name is x rest f = refl
argument_spaced quoted_text is x rest f = refl
argument_spaced description is x rest f = refl

abbrev Nothing : Unit {0} → Type 0
Nothing x = Unit {0}

nothing_reads : Reads Nothing (λ x. []) Spaced (λ s. Ok (tt, s))
nothing_reads = record {
  takes = λ s x rest e.
      let none : Unit {0} × List ℕ = (tt, s) in
      record { fits = tt; whole = ap (λ (z : Unit {0} × List ℕ). z.1) (ok_is none (x, rest) e) };
  again = λ x rest fits f. refl;
}

pub argument_reads : (a : Argument) → IsProper a → Reads (FitsArgument a) (argument_text cache_text a) (Follows a) (argument_at a)
argument_reads nothing is = nothing_reads
argument_reads (both a b) is =
    adjacent_reads (FitsArgument a) (argument_text cache_text a) Spaced (argument_at a) (FitsArgument b) (argument_text cache_text b) (Follows b) (argument_at b)
    (λ y rest fits f. argument_spaced b is.1 y rest f) (single a is.0) (argument_reads b is.1)
argument_reads (listed a) is = listed_reads (FitsArgument a) (argument_text cache_text a) (argument_at a) (single a is) (single_listable a is)
argument_reads cache is = single cache tt
argument_reads item is = single item tt
argument_reads pair is = single pair tt
argument_reads small is = single small tt
argument_reads page is = single page tt
argument_reads cursor is = single cursor tt
argument_reads type_id is = single type_id tt
argument_reads name is = single name tt
argument_reads quoted_text is = single quoted_text tt
argument_reads description is = single description tt
