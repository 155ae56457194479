-- The steps of the loops that write, and of the one that looks a word up.
use Rattle.std.proofs.Common.{◌≡◌, ℕ, ◌+◌, ◌<◌, ◌≤◌, Bool, cond, List, [], ◌∷◌, ◌++◌, length, drop, get_or, Option, Some, sym, ap, ◌∙◌, append_assoc}
use Rattle.std.specs.List.{flat_map, find}
use Rattle.std.proofs.lemmas.List.{drop_more, drop_all, append-nil}
use Rattle.ig_text.specs.Tokens.{comma, until_text, items_text}

-- the item that a loop is at, and those after it
pub drop_item : {A : Type 0} (xs : List A) (i : ℕ) (x : A) → i < length xs → x ≡ get_or xs i x → drop i xs ≡ x ∷ drop (i + 1) xs
drop_item {A} xs i x lt item = drop_more xs i x lt ∙ ap (λ (y : A). y ∷ drop (i + 1) xs) (sym item)

-- one more text is written
pub flat_step : {A : Type 0} (h : A → List ℕ) (xs : List A) (i : ℕ) (x : A) (now next goal : List ℕ) → i < length xs → x ≡ get_or xs i x → now ++ flat_map h (drop i xs) ≡ goal → next ≡ now ++ h x →
    next ++ flat_map h (drop (i + 1) xs) ≡ goal
flat_step h xs i x now next goal lt item before step =
    ap (λ (l : List ℕ). l ++ flat_map h (drop (i + 1) xs)) step ∙ append_assoc now (h x) (flat_map h (drop (i + 1) xs)) ∙ ap (λ (l : List _). now ++ flat_map h l) (sym (drop_item xs i x lt item)) ∙ before

-- all are written
pub flat_done : {A : Type 0} (h : A → List ℕ) (xs : List A) (i : ℕ) (now goal : List ℕ) → length xs ≤ i → now ++ flat_map h (drop i xs) ≡ goal → now ≡ goal
flat_done h xs i now goal le before = sym (append-nil now) ∙ ap (λ (l : List _). now ++ flat_map h l) (sym (drop_all i xs le)) ∙ before

-- the same of texts that a byte closes
pub until_step : {A : Type 0} (close : ℕ) (h : A → List ℕ) (xs : List A) (i : ℕ) (x : A) (now next goal : List ℕ) → i < length xs → x ≡ get_or xs i x → now ++ until_text close h (drop i xs) ≡ goal → next ≡ now ++ h x →
    next ++ until_text close h (drop (i + 1) xs) ≡ goal
until_step close h xs i x now next goal lt item before step =
    ap (λ (l : List ℕ). l ++ until_text close h (drop (i + 1) xs)) step ∙ append_assoc now (h x) (until_text close h (drop (i + 1) xs)) ∙ ap (λ (l : List _). now ++ until_text close h l) (sym (drop_item xs i x lt item)) ∙ before

pub until_done : {A : Type 0} (close : ℕ) (h : A → List ℕ) (xs : List A) (i : ℕ) (now goal : List ℕ) → length xs ≤ i → now ++ until_text close h (drop i xs) ≡ goal → now ++ close ∷ [] ≡ goal
until_done close h xs i now goal le before = ap (λ (l : List _). now ++ until_text close h l) (sym (drop_all i xs le)) ∙ before

-- the first item, and the others after commas
pub items_done : {A : Type 0} (close : ℕ) (T : A → List ℕ) (old first now : List ℕ) (ys xs : List A) (x : A) (i : ℕ) → ys ≡ x ∷ xs → first ≡ old ++ T x → length xs ≤ i →
    now ++ until_text close (λ y. comma ∷ T y) (drop i xs) ≡ first ++ until_text close (λ y. comma ∷ T y) xs → now ++ close ∷ [] ≡ old ++ items_text close T ys
items_done close T old first now ys xs x i whole one le before =
    until_done close (λ y. comma ∷ T y) xs i now (first ++ until_text close (λ y. comma ∷ T y) xs) le before ∙ ap (λ (l : List ℕ). l ++ until_text close (λ y. comma ∷ T y) xs) one
    ∙ append_assoc old (T x) (until_text close (λ y. comma ∷ T y) xs) ∙ ap (λ (l : List _). old ++ items_text close T l) (sym whole)

-- a byte and a text after it
pub after_byte : (now pushed next text : List ℕ) (b : ℕ) → pushed ≡ now ++ b ∷ [] → next ≡ pushed ++ text → next ≡ now ++ b ∷ text
after_byte now pushed next text b push step = step ∙ ap (λ (l : List ℕ). l ++ text) push ∙ append_assoc now (b ∷ []) text

-- ---- looking a word up

pub find_step : {A : Type 0} (test : A → Bool) (xs : List A) (i : ℕ) (x : A) → i < length xs → x ≡ get_or xs i x → find test (drop i xs) ≡ cond (test x) (Some x) (find test (drop (i + 1) xs))
find_step test xs i x lt item = ap (find test) (drop_item xs i x lt item)

-- ---- a word, a part and the bracket, and then the items

pub opened : (old mid next front part items : List ℕ) → mid ≡ old ++ (front ++ (part ++ 91 ∷ [])) → next ≡ mid ++ items → next ≡ old ++ (front ++ (part ++ 91 ∷ items))
opened old mid next front part items first step =
    step ∙ ap (λ (l : List ℕ). l ++ items) first ∙ append_assoc old (front ++ (part ++ 91 ∷ [])) items
    ∙ ap (λ (l : List ℕ). old ++ l) (append_assoc front (part ++ 91 ∷ []) items ∙ ap (λ (l : List ℕ). front ++ l) (append_assoc part (91 ∷ []) items))
