-- An output and its slice after several pieces.
use Rattle.std.proofs.Common.{◌≡◌, ℕ, ◌+◌, ◌*◌, ◌<◌, ◌≤◌, List, [], ◌∷◌, ◌++◌, length, take, drop, get_or, sym, ap, ◌∙◌, arith, length-append, length-take-le}
use Rattle.std.specs.List.{flat_map}
use Rattle.std.proofs.Math.Nat.{mul-le-mul_right}
use Rattle.std.proofs.lemmas.List.{take-append-drop, append-nil}
use Rattle.std.proofs.lemmas.Grind.{flat_map-append, take_at_read}
use Rattle.ig_encode.specs.Splice.{splice, splice_both}

-- how an output and its slice take bytes
abbrev pub Takes : Type 0 → Type 0
Takes S = S → List ℕ → List ℕ → S × List ℕ

-- two pieces are taken as one
abbrev pub TakesLonger : {S : Type 0} → Takes S → Type 0
TakesLonger {S} after = (s : S) (into p q : List ℕ) → after s into (p ++ q) ≡ after (after s into p).0 (after s into p).1 q

pub two : {S : Type 0} (after : Takes S) → TakesLonger after → (s : S) (into p q : List ℕ) (t u : S × List ℕ) → t ≡ after s into p → u ≡ after t.0 t.1 q → u ≡ after s into (p ++ q)
two {S} after longer s into p q t u a b = b ∙ ap (λ (z : S × List ℕ). after z.0 z.1 q) a ∙ sym (longer s into p q)

pub each_full : {S A : Type 0} (after : Takes S) → TakesLonger after → (h : A → List ℕ) (s : S) (into : List ℕ) (xs : List A) (i : ℕ) (t : S × List ℕ) →
    t ≡ after s into (flat_map h (take i xs)) → ((bytes : List ℕ) → after t.0 t.1 bytes ≡ t) → t ≡ after s into (flat_map h xs)
each_full after longer h s into xs i t a full =
    let all : flat_map h xs ≡ flat_map h (take i xs) ++ flat_map h (drop i xs) = ap (flat_map h) (sym (take-append-drop i xs)) ∙ flat_map-append h (take i xs) (drop i xs) in
    two after longer s into (flat_map h (take i xs)) (flat_map h (drop i xs)) t t a (sym (full (flat_map h (drop i xs)))) ∙ ap (after s into) (sym all)

pub length-flat_wide : {A : Type 0} (h : A → List ℕ) (width : ℕ) → ((x : A) → length (h x) ≡ width) → (xs : List A) → length (flat_map h xs) ≡ length xs * width
length-flat_wide h width wide [] = omega arith
length-flat_wide h width wide (x ∷ xs) = omega (arith, length-append (h x) (flat_map h xs), wide x, length-flat_wide h width wide xs)

-- the first items were passed, and the others taken
pub first_passed : {S A : Type 0} (after : Takes S) → TakesLonger after → (h : A → List ℕ) (width : ℕ) → ((x : A) → length (h x) ≡ width) → (s : S) (into : List ℕ) (xs back : List A) (n : ℕ) (t u : S × List ℕ) → n ≤ length xs → back ≡ drop n xs →
    ((bytes : List ℕ) → length bytes ≡ n * width → t ≡ after s into bytes) → u ≡ after t.0 t.1 (flat_map h back) → u ≡ after s into (flat_map h xs)
first_passed after longer h width wide s into xs back n t u le is a b =
    let front = flat_map h (take n xs) in
    let len : length (take n xs) ≡ n = length-take-le n xs le in
    let bytes : length front ≡ n * width = length-flat_wide h width wide (take n xs) ∙ ap (λ (m : ℕ). m * width) len in
    let all : flat_map h xs ≡ front ++ flat_map h back = ap (flat_map h) (sym (take-append-drop n xs)) ∙ flat_map-append h (take n xs) (drop n xs) ∙ ap (λ (l : List _). front ++ flat_map h l) (sym is) in
    two after longer s into front (flat_map h back) t u (a front bytes) b ∙ ap (after s into) (sym all)

pub flat_map_more : {A : Type 0} (h : A → List ℕ) (xs : List A) (i : ℕ) (d : A) → i < length xs → flat_map h (take (i + 1) xs) ≡ flat_map h (take i xs) ++ h (get_or xs i d)
flat_map_more h xs i d lt =
    ap (flat_map h) (take_at_read xs i d lt).1 ∙ flat_map-append h (take i xs) (get_or xs i d ∷ []) ∙ ap (λ (l : List ℕ). flat_map h (take i xs) ++ l) (append-nil (h (get_or xs i d)))

-- one more item that is written after those before it
pub written_more : {A : Type 0} (h : A → List ℕ) (width : ℕ) → ((x : A) → length (h x) ≡ width) → (into : List ℕ) (at : ℕ) (xs : List A) (i : ℕ) (x : A) (place : ℕ) (now next : List ℕ) → i < length xs → at + length xs * width ≤ length into → x ≡ get_or xs i x → place ≡ at + i * width →
    now ≡ splice into at (flat_map h (take i xs)) → next ≡ splice now place (h x) → next ≡ splice into at (flat_map h (take (i + 1) xs))
written_more h width wide into at xs i x place now next lt room item is a b =
    let front = flat_map h (take i xs) in
    let len : length front ≡ i * width = length-flat_wide h width wide (take i xs) ∙ ap (λ (n : ℕ). n * width) (length-take-le i xs (omega arith)) in
    let le : i ≤ length xs = omega arith in
    let before = mul-le-mul_right width le in
    let there : place ≡ at + length front = omega (arith, len, is) in
    let fits : at + length front ≤ length into = omega (arith, len) in
    b ∙ ap (λ (l : List ℕ). splice l place (h x)) a ∙ ap (λ (n : ℕ). splice (splice into at front) n (h x)) there ∙ splice_both into at front (h x) fits
    ∙ ap (splice into at) (ap (λ (y : _). front ++ h y) item ∙ sym (flat_map_more h xs i x lt))

-- the first items were claimed and written, and the others taken
pub first_claimed : {S A : Type 0} (after : Takes S) → TakesLonger after → (h : A → List ℕ) (width : ℕ) → ((x : A) → length (h x) ≡ width) → (s : S) (into : List ℕ) (xs front back : List A) (at n : ℕ) (t : S) (now : List ℕ) (u : S × List ℕ) → n ≤ length xs → front ≡ take n xs → back ≡ drop n xs →
    ((bytes : List ℕ) → length bytes ≡ n * width → after s into bytes ≡ (t, splice into at bytes)) → now ≡ splice into at (flat_map h front) → u ≡ after t now (flat_map h back) → u ≡ after s into (flat_map h xs)
first_claimed {S} after longer h width wide s into xs front back at n t now u le f is a w b =
    let bytes = flat_map h front in
    let len : length front ≡ n = ap length f ∙ length-take-le n xs le in
    let fits : length bytes ≡ n * width = length-flat_wide h width wide front ∙ ap (λ (m : ℕ). m * width) len in
    let all : flat_map h xs ≡ bytes ++ flat_map h back =
    ap (flat_map h) (sym (take-append-drop n xs)) ∙ flat_map-append h (take n xs) (drop n xs) ∙ ap (λ (l : List _). flat_map h l ++ flat_map h (drop n xs)) (sym f) ∙ ap (λ (l : List _). bytes ++ flat_map h l) (sym is) in
    let beside : List ℕ → S × List ℕ = λ l. (t, l) in
    two after longer s into bytes (flat_map h back) (beside now) u (ap beside w ∙ sym (a bytes fits)) b ∙ ap (after s into) (sym all)

-- a piece that is written right after another
pub spliced_next : (into : List ℕ) (at place : ℕ) (p q now next : List ℕ) → at + length p ≤ length into → place ≡ at + length p → now ≡ splice into at p → next ≡ splice now place q → next ≡ splice into at (p ++ q)
spliced_next into at place p q now next fits there a b =
    b ∙ ap (λ (l : List ℕ). splice l place q) a ∙ ap (λ (n : ℕ). splice (splice into at p) n q) there ∙ splice_both into at p q fits

-- bytes that were placed, and written
pub placed : {S : Type 0} (after : Takes S) (s r t : S) (into : List ℕ) (at : ℕ) (bytes now : List ℕ) → r ≡ s → after r into bytes ≡ (t, splice into at bytes) → now ≡ splice into at bytes → (t, now) ≡ after s into bytes
placed {S} after s r t into at bytes now same a w =
    let beside : List ℕ → S × List ℕ = λ l. (t, l) in
    ap beside w ∙ sym a ∙ ap (λ (x : S). after x into bytes) same

-- an output that took nothing
pub each_none : {S : Type 0} (after : Takes S) → ((s : S) (into : List ℕ) → after s into [] ≡ (s, into)) → (s : S) (into : List ℕ) → (s, into) ≡ after s into []
each_none after empty s into = sym (empty s into)

-- the first items, and one more
pub each_more : {S A : Type 0} (after : Takes S) → TakesLonger after → (h : A → List ℕ) (s : S) (into : List ℕ) (xs : List A) (i : ℕ) (x : A) (t u : S × List ℕ) → i < length xs → x ≡ get_or xs i x →
    t ≡ after s into (flat_map h (take i xs)) → u ≡ after t.0 t.1 (h x) → u ≡ after s into (flat_map h (take (i + 1) xs))
each_more after longer h s into xs i x t u lt item before step =
    two after longer s into (flat_map h (take i xs)) (h x) t u before step ∙ ap (after s into) (ap (λ (y : _). flat_map h (take i xs) ++ h y) item ∙ sym (flat_map_more h xs i x lt))
