-- What the arguments after a word ask, with each cache by its identifier.
use Rattle.std.proofs.Common.{◌≡◌, ℕ, ℤ, zero, suc, List, [], ◌∷◌, length, map, Result, Ok, Err, refl, sym, ap, ◌∙◌}
use Rattle.ig_text.specs.declared.fault.ReadError.{ReadError}
use Rattle.ig_text.specs.ReadText.{Read, ◌>>=◌, mapped_read}
use Rattle.ig_text.specs.declared.fault.ReadError.TheVariants as error
use Rattle.ig_text.specs.ReaderAnswers.{Fails, ReaderAnswers}
use Rattle.ig_text.specs.DescriptionText.{adjacent_at}
use Rattle.ig_text.proofs.ReaderStopLemmas.{answers_by}
use Rattle.ig_lines.specs.declared.line.LineAsk.{LineAsk}
use Rattle.ig_lines.specs.declared.word.Word.{Word}
use Rattle.ig_lines.specs.Arguments.{Argument, nothing, cache, item, pair, small, page, cursor, type_id, name, quoted_text, description, both, listed, Held, Mention, id_of, to_end_at, argument_at, by_id}
use Rattle.ig_lines.specs.Commands.{ask_with}
use Rattle.ig_lines.specs.ReadLine.{ask_of_word}
use Rattle.ig_lines.specs.Words.{shape}

-- an argument, with each cache by its identifier
abbrev pub id_at : (a : Argument) → List ℕ → Read (Held ℤ a)
id_at a s = mapped_read (by_id a) (argument_at a s)

-- the reader reads such an argument
pub record ReadsIds (a : Argument) (R : List ℕ → Read (Held ℤ a)) : Type 0 where
  pub same : (s : List ℕ) → R s ≡ id_at a s

same_read : {A : Type 0} (r : Read A) → mapped_read (λ x. x) r ≡ r
same_read (Ok x) = refl
same_read (Err left) = refl

-- ---- one argument

pub cache_ids : ReadsIds cache (λ s. mapped_read id_of (argument_at cache s))
cache_ids = record { same = λ s. refl }

pub nothing_ids : ReadsIds nothing (argument_at nothing)
nothing_ids = record { same = λ s. sym (same_read (argument_at nothing s)) }

pub item_ids : ReadsIds item (argument_at item)
item_ids = record { same = λ s. sym (same_read (argument_at item s)) }

pub pair_ids : ReadsIds pair (argument_at pair)
pair_ids = record { same = λ s. sym (same_read (argument_at pair s)) }

pub small_ids : ReadsIds small (argument_at small)
small_ids = record { same = λ s. sym (same_read (argument_at small s)) }

pub page_ids : ReadsIds page (argument_at page)
page_ids = record { same = λ s. sym (same_read (argument_at page s)) }

pub cursor_ids : ReadsIds cursor (argument_at cursor)
cursor_ids = record { same = λ s. sym (same_read (argument_at cursor s)) }

pub type_ids : ReadsIds type_id (argument_at type_id)
type_ids = record { same = λ s. sym (same_read (argument_at type_id s)) }

pub name_ids : ReadsIds name (argument_at name)
name_ids = record { same = λ s. sym (same_read (argument_at name s)) }

pub quoted_ids : ReadsIds quoted_text (argument_at quoted_text)
quoted_ids = record { same = λ s. sym (same_read (argument_at quoted_text s)) }

pub description_ids : ReadsIds description (argument_at description)
description_ids = record { same = λ s. sym (same_read (argument_at description s)) }

-- ---- one after the other

abbrev paired : {A B : Type 0} → A → Read B → Read (A × B)
paired x r = r >>= λ y. Ok ((x, y.0), y.1)

both_case : (a b : Argument) (x : Held Mention a) (r : Read (Held Mention b)) → paired (by_id a x) (mapped_read (by_id b) r) ≡ mapped_read (by_id (both a b)) (paired x r)
both_case a b x (Ok y) = refl
both_case a b x (Err left) = refl

both_step : (a b : Argument) (r : Read (Held Mention a)) → (mapped_read (by_id a) r >>= λ x. paired x.0 (id_at b x.1)) ≡ mapped_read (by_id (both a b)) (r >>= λ x. paired x.0 (argument_at b x.1))
both_step a b (Ok x) = both_case a b x.0 (argument_at b x.1)
both_step a b (Err left) = refl

second_is : (a b : Argument) (Q : List ℕ → Read (Held ℤ b)) → ReadsIds b Q → (r : Read (Held ℤ a)) → (r >>= λ x. paired x.0 (Q x.1)) ≡ (r >>= λ x. paired x.0 (id_at b x.1))
second_is a b Q q (Ok x) = ap (paired x.0) (q.same x.1)
second_is a b Q q (Err left) = refl

pub both_ids : (a b : Argument) (R : List ℕ → Read (Held ℤ a)) (Q : List ℕ → Read (Held ℤ b)) → ReadsIds a R → ReadsIds b Q → ReadsIds (both a b) (adjacent_at R Q)
both_ids a b R Q p q = record {
  same = λ s. ap (λ (r : Read (Held ℤ a)). r >>= λ x. paired x.0 (Q x.1)) (p.same s) ∙ second_is a b Q q (id_at a s) ∙ both_step a b (argument_at a s);
}

-- ---- up to the end

abbrev in_front : {A : Type 0} → A → Read (List A) → Read (List A)
in_front x r = r >>= λ xs. Ok (x ∷ xs.0, xs.1)

listed_case : (a : Argument) (x : Held Mention a) (r : Read (List (Held Mention a))) → in_front (by_id a x) (mapped_read (map (by_id a)) r) ≡ mapped_read (map (by_id a)) (in_front x r)
listed_case a x (Ok xs) = refl
listed_case a x (Err left) = refl

listed_step : (a : Argument) (R : List ℕ → Read (Held ℤ a)) (n : ℕ) → ((t : List ℕ) → to_end_at R n t ≡ mapped_read (map (by_id a)) (to_end_at (argument_at a) n t)) → (r : Read (Held Mention a)) →
    (mapped_read (by_id a) r >>= λ x. in_front x.0 (to_end_at R n x.1)) ≡ mapped_read (map (by_id a)) (r >>= λ x. in_front x.0 (to_end_at (argument_at a) n x.1))
listed_step a R n again (Ok x) = ap (in_front (by_id a x.0)) (again x.1) ∙ listed_case a x.0 (to_end_at (argument_at a) n x.1)
listed_step a R n again (Err left) = refl

listed_same : (a : Argument) (R : List ℕ → Read (Held ℤ a)) → ReadsIds a R → (n : ℕ) (s : List ℕ) → to_end_at R n s ≡ mapped_read (map (by_id a)) (to_end_at (argument_at a) n s)
listed_same a R p zero [] = refl
listed_same a R p (suc n) [] = refl
listed_same a R p zero (b ∷ s) = refl
listed_same a R p (suc n) (b ∷ s) =
    ap (λ (r : Read (Held ℤ a)). r >>= λ x. in_front x.0 (to_end_at R n x.1)) (p.same (b ∷ s)) ∙ listed_step a R n (λ t. listed_same a R p n t) (argument_at a (b ∷ s))

pub listed_ids : (a : Argument) (R : List ℕ → Read (Held ℤ a)) → ReadsIds a R → ReadsIds (listed a) (λ s. to_end_at R (length s) s)
listed_ids a R p = record { same = λ s. listed_same a R p (length s) s }

-- ---- what a word asks with them

twice : {A B C : Type 0} (f : B → C) (g : A → B) (r : Read A) → mapped_read f (mapped_read g r) ≡ mapped_read (λ x. f (g x)) r
twice f g (Ok x) = refl
twice f g (Err left) = refl

pub asked : (w : Word) (R : List ℕ → Read (Held ℤ (shape w))) → ReadsIds (shape w) R → (s : List ℕ) → ask_of_word w s ≡ mapped_read (ask_with w) (R s)
asked w R p s = sym (ap (mapped_read (ask_with w)) (p.same s) ∙ twice (ask_with w) (by_id (shape w)) (argument_at (shape w) s))

pub word_is : (w v : Word) (s : List ℕ) → w ≡ v → ask_of_word w s ≡ ask_of_word v s
word_is w v s is = ap (λ (u : Word). ask_of_word u s) is

-- what the arguments of a word are read as
pub by_word : {X : Type 0} (view : X → LineAsk × List ℕ) (result : Result X ReadError) (w v : Word) (s : List ℕ) (R : List ℕ → Read (Held ℤ (shape v))) → w ≡ v → ReadsIds (shape v) R →
    ReaderAnswers view result (mapped_read (ask_with v) (R s)) → ReaderAnswers view result (ask_of_word w s)
by_word view result w v s R is p h = answers_by view result (ask_of_word w s) (mapped_read (ask_with v) (R s)) (word_is w v s is ∙ asked v R p s) h

-- what the arguments are read as, the word asks
pub asks_read : (w : Word) (R : List ℕ → Read (Held ℤ (shape w))) → ReadsIds (shape w) R → (s rest : List ℕ) (x : Held ℤ (shape w)) → R s ≡ Ok (x, rest) → ask_of_word w s ≡ Ok (ask_with w x, rest)
asks_read w R p s rest x e = asked w R p s ∙ ap (mapped_read (ask_with w)) e

pub asks_stop : (w : Word) (R : List ℕ → Read (Held ℤ (shape w))) → ReadsIds (shape w) R → (s : List ℕ) (e : ReadError) → Fails e (R s) → Fails e (ask_of_word w s)
asks_stop w R p s error.NoMemory f = tt
asks_stop w R p s (error.Bad left) f = asked w R p s ∙ ap (mapped_read (ask_with w)) f

-- ---- two arguments, one after the other

pub both_read : {A B : Type 0} (R : List ℕ → Read A) (Q : List ℕ → Read B) (s t rest : List ℕ) (x : A) (y : B) → R s ≡ Ok (x, t) → Q t ≡ Ok (y, rest) → adjacent_at R Q s ≡ Ok ((x, y), rest)
both_read R Q s t rest x y e f = rw (e, f) refl

pub first_stops : {A B : Type 0} (R : List ℕ → Read A) (Q : List ℕ → Read B) (s : List ℕ) (e : ReadError) → Fails e (R s) → Fails e (adjacent_at R Q s)
first_stops R Q s error.NoMemory f = tt
first_stops R Q s (error.Bad left) f = rw f refl

pub second_stops : {A B : Type 0} (R : List ℕ → Read A) (Q : List ℕ → Read B) (s t : List ℕ) (x : A) (e : ReadError) → R s ≡ Ok (x, t) → Fails e (Q t) → Fails e (adjacent_at R Q s)
second_stops R Q s t x error.NoMemory r f = tt
second_stops R Q s t x (error.Bad left) r f = rw (r, f) refl

-- ---- the arguments of words

abbrev pub cache_id_at : List ℕ → Read ℤ
cache_id_at s = mapped_read id_of (argument_at cache s)

pub key_ids : ReadsIds (both cache item) (adjacent_at cache_id_at (argument_at item))
key_ids = both_ids cache item cache_id_at (argument_at item) cache_ids item_ids

pub items_ids : ReadsIds (both item item) (adjacent_at (argument_at item) (argument_at item))
items_ids = both_ids item item (argument_at item) (argument_at item) item_ids item_ids

pub two_ids : ReadsIds (both cache (both item item)) (adjacent_at cache_id_at (adjacent_at (argument_at item) (argument_at item)))
two_ids = both_ids cache (both item item) cache_id_at (adjacent_at (argument_at item) (argument_at item)) cache_ids items_ids

pub three_ids : ReadsIds (both cache (both item (both item item))) (adjacent_at cache_id_at (adjacent_at (argument_at item) (adjacent_at (argument_at item) (argument_at item))))
three_ids =
    both_ids cache (both item (both item item)) cache_id_at (adjacent_at (argument_at item) (adjacent_at (argument_at item) (argument_at item))) cache_ids
    (both_ids item (both item item) (argument_at item) (adjacent_at (argument_at item) (argument_at item)) item_ids items_ids)

-- arguments up to the end
abbrev pub all_at : {A : Type 0} → (List ℕ → Read A) → List ℕ → Read (List A)
all_at R s = to_end_at R (length s) s

pub keys_ids : ReadsIds (both cache (listed item)) (adjacent_at cache_id_at (all_at (argument_at item)))
keys_ids = both_ids cache (listed item) cache_id_at (all_at (argument_at item)) cache_ids (listed_ids item (argument_at item) item_ids)

pub pairs_ids : ReadsIds (both cache (listed pair)) (adjacent_at cache_id_at (all_at (argument_at pair)))
pairs_ids = both_ids cache (listed pair) cache_id_at (all_at (argument_at pair)) cache_ids (listed_ids pair (argument_at pair) pair_ids)

pub size_ids : ReadsIds (both cache (listed small)) (adjacent_at cache_id_at (all_at (argument_at small)))
size_ids = both_ids cache (listed small) cache_id_at (all_at (argument_at small)) cache_ids (listed_ids small (argument_at small) small_ids)

pub scan_ids : ReadsIds (both cache page) (adjacent_at cache_id_at (argument_at page))
scan_ids = both_ids cache page cache_id_at (argument_at page) cache_ids page_ids

pub type_name_ids : ReadsIds (both small type_id) (adjacent_at (argument_at small) (argument_at type_id))
type_name_ids = both_ids small type_id (argument_at small) (argument_at type_id) small_ids type_ids

pub set_type_name_ids : ReadsIds (both small (both type_id quoted_text)) (adjacent_at (argument_at small) (adjacent_at (argument_at type_id) (argument_at quoted_text)))
set_type_name_ids =
    both_ids small (both type_id quoted_text) (argument_at small) (adjacent_at (argument_at type_id) (argument_at quoted_text)) small_ids
    (both_ids type_id quoted_text (argument_at type_id) (argument_at quoted_text) type_ids quoted_ids)

pub parts_ids : ReadsIds (listed cache) (all_at cache_id_at)
parts_ids = listed_ids cache cache_id_at cache_ids
