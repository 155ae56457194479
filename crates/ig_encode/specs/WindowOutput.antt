-- What a window puts into a slice: the bytes from an offset on, as far as there is room.
use Rattle.std.specs.Prelude.{◌≡◌, ℕ, zero, suc, ◌+◌, ◌-◌, ◌≤◌, ◌<◌, ◌⊎◌, min, List, [], ◌∷◌, ◌++◌, length, take, drop}
use Rattle.std.proofs.Common.{refl, sym, ap, ◌∙◌, drop_of_length-le, arith, inl, inr, length-append, length-drop, length-take}
use Rattle.std.proofs.Math.Seq.{drop-nil, take-nil}
use Rattle.std.proofs.lemmas.Bool.{cases_lt}
use Rattle.std.proofs.lemmas.List.{nil_from_length}
use Rattle.ig_encode.specs.declared.window.Window.{Window}
use Rattle.ig_encode.specs.Splice.{splice, splice_none, splice_both, length-splice}

-- which of more bytes go into the slice
abbrev pub visible_bytes : Window → List ℕ → List ℕ → List ℕ
visible_bytes p into bytes = take (length into - p.filled) (drop p.skip bytes)

-- the window and the slice after more bytes
abbrev pub window_after : Window → List ℕ → List ℕ → Window × List ℕ
window_after p into bytes =
    let here = visible_bytes p into bytes in
    (record { skip = p.skip - length bytes; filled = p.filled + length here }, splice into p.filled here)

-- ---- the laws of an output

drop_both : (n : ℕ) (xs ys : List ℕ) → drop n (xs ++ ys) ≡ drop n xs ++ drop (n - length xs) ys
drop_both zero xs ys = let none : 0 - length xs ≡ 0 = omega arith in rw none refl
drop_both (suc n) [] ys = let same : suc n - 0 ≡ suc n = omega arith in rw same refl
drop_both (suc n) (x ∷ xs) ys = let same : suc n - suc (length xs) ≡ n - length xs = omega arith in drop_both n xs ys ∙ rw same refl

take_both : (n : ℕ) (xs ys : List ℕ) → take n (xs ++ ys) ≡ take n xs ++ take (n - length xs) ys
take_both zero xs ys = let none : 0 - length xs ≡ 0 = omega arith in rw none refl
take_both (suc n) [] ys = let same : suc n - 0 ≡ suc n = omega arith in rw same refl
take_both (suc n) (x ∷ xs) ys = let same : suc n - suc (length xs) ≡ n - length xs = omega arith in ap (λ (l : List ℕ). x ∷ l) (take_both n xs ys) ∙ rw same refl

-- the visible bytes of two pieces are those of the first, and then those of the second
visible_both : (room skip : ℕ) (p q : List ℕ) → take room (drop skip (p ++ q)) ≡ take room (drop skip p) ++ take (room - length (take room (drop skip p))) (drop (skip - length p) q)
visible_both room skip p q =
    let same : room - length (drop skip p) ≡ room - length (take room (drop skip p)) = omega (arith, length-take room (drop skip p)) in
    ap (take room) (drop_both skip p q) ∙ take_both room (drop skip p) (drop (skip - length p) q) ∙ ap (λ (n : ℕ). take room (drop skip p) ++ take n (drop (skip - length p) q)) same

abbrev pub beside : ℕ → ℕ → List ℕ → Window × List ℕ
beside skip at into = (record { skip = skip; filled = at }, into)

pub part_same : (skip skip' at at' : ℕ) (into into' : List ℕ) → skip ≡ skip' → at ≡ at' → into ≡ into' → beside skip at into ≡ beside skip' at' into'
part_same skip skip' at at' into into' a b c = rw (a, b, c) refl

pub filled_empty : (p : Window) (into : List ℕ) → window_after p into [] ≡ (p, into)
filled_empty p into =
    let none : visible_bytes p into [] ≡ [] = ap (take (length into - p.filled)) (drop-nil p.skip) ∙ take-nil (length into - p.filled) in
    part_same _ _ _ _ _ _ (omega arith) (omega (arith, ap length none)) (ap (splice into p.filled) none ∙ splice_none into p.filled)

-- a slice that is full stays as it is
pub filled_full : (p : Window) (into bytes : List ℕ) → length into ≤ p.filled → window_after p into bytes ≡ beside (p.skip - length bytes) p.filled into
filled_full p into bytes le =
    let room : length into - p.filled ≡ 0 = omega arith in
    let none : visible_bytes p into bytes ≡ [] = ap (λ (n : ℕ). take n (drop p.skip bytes)) room in
    part_same _ _ _ _ _ _ refl (omega (arith, ap length none)) (ap (splice into p.filled) none ∙ splice_none into p.filled)

longer_full : (p : Window) (into a b : List ℕ) → length into ≤ p.filled → window_after p into (a ++ b) ≡ window_after (window_after p into a).0 (window_after p into a).1 b
longer_full p into a b le =
    let skips : p.skip - length (a ++ b) ≡ p.skip - length a - length b = omega (arith, length-append a b) in
    filled_full p into (a ++ b) le ∙ part_same _ _ _ _ _ _ skips refl refl ∙ sym (ap (λ (t : Window × List ℕ). window_after t.0 t.1 b) (filled_full p into a le) ∙ filled_full (beside (p.skip - length a) p.filled into).0 into b le)

longer_open : (p : Window) (into a b : List ℕ) → p.filled ≤ length into → window_after p into (a ++ b) ≡ window_after (window_after p into a).0 (window_after p into a).1 b
longer_open p into a b le =
    let first = visible_bytes p into a in
    let fits : p.filled + length first ≤ length into = omega (arith, length-take (length into - p.filled) (drop p.skip a)) in
    let len : length (splice into p.filled first) ≡ length into = length-splice into p.filled first fits in
    let second = visible_bytes (window_after p into a).0 (window_after p into a).1 b in
    let room : length (splice into p.filled first) - (p.filled + length first) ≡ (length into - p.filled) - length first = omega (arith, len) in
    let both : visible_bytes p into (a ++ b) ≡ first ++ second =
    visible_both (length into - p.filled) p.skip a b ∙ ap (λ (n : ℕ). first ++ take n (drop (p.skip - length a) b)) (sym room) in
    let skips : p.skip - length (a ++ b) ≡ p.skip - length a - length b = omega (arith, length-append a b) in
    let ats : p.filled + length (visible_bytes p into (a ++ b)) ≡ (p.filled + length first) + length second = omega (arith, ap length both, length-append first second) in
    part_same _ _ _ _ _ _ skips ats (ap (splice into p.filled) both ∙ sym (splice_both into p.filled first second fits))

longer_by : (p : Window) (into a b : List ℕ) → (length into < p.filled) ⊎ (p.filled ≤ length into) → window_after p into (a ++ b) ≡ window_after (window_after p into a).0 (window_after p into a).1 b
longer_by p into a b (inl full) = longer_full p into a b (omega arith)
longer_by p into a b (inr open_) = longer_open p into a b open_

pub filled_longer : (p : Window) (into a b : List ℕ) → window_after p into (a ++ b) ≡ window_after (window_after p into a).0 (window_after p into a).1 b
filled_longer p into a b = longer_by p into a b (cases_lt (length into) p.filled)

-- bytes that are all skipped change no byte of the slice
pub filled_before : (p : Window) (into bytes : List ℕ) → length bytes ≤ p.skip → window_after p into bytes ≡ beside (p.skip - length bytes) p.filled into
filled_before p into bytes le =
    let none : visible_bytes p into bytes ≡ [] = ap (take (length into - p.filled)) (drop_of_length-le bytes le) ∙ take-nil (length into - p.filled) in
    part_same _ _ _ _ _ _ refl (omega (arith, ap length none)) (ap (splice into p.filled) none ∙ splice_none into p.filled)

-- bytes of which none is visible change no byte of the slice
pub filled_nothing : (p : Window) (into bytes : List ℕ) (before : ℕ) → before ≡ min (length bytes) p.skip → min (length into - p.filled) (length bytes - before) ≡ 0 → beside (p.skip - before) p.filled into ≡ window_after p into bytes
filled_nothing p into bytes before is none =
    let nothing : visible_bytes p into bytes ≡ [] = nil_from_length (visible_bytes p into bytes) (omega (arith, length-take (length into - p.filled) (drop p.skip bytes), length-drop p.skip bytes)) in
    part_same _ _ _ _ _ _ (omega arith) (omega (arith, ap length nothing)) (sym (ap (splice into p.filled) nothing ∙ splice_none into p.filled))
