-- Fields after their identifiers, read into two lists.
use Rattle.std.proofs.Common.{◌≡◌, ℕ, ℤ, ◌+◌, ◌-◌, ◌<◌, ◌≤◌, ◌^◌, Bool, true, false, cond, List, [], ◌∷◌, ◌++◌, length, map, Result, Ok, Err, ltb, refl, sym, ap, subst, ◌∙◌, arith, length-append}
use Rattle.std.proofs.lemmas.Bool.{cond-true}
use Rattle.ig_text.specs.declared.fault.ReadError.{ReadError}
use Rattle.ig_text.specs.declared.fault.ReadError.TheVariants as error
use Rattle.ig_text.specs.ReaderAnswers.{Fails}
use Rattle.ig_text.specs.TextOf.{entries}
use Rattle.ig_text.specs.ReadText.{Read, mapped_read, checked_read, is_countable, until_at, next_at, some_at, any_at, items_at}
use Rattle.ig_text.proofs.ReadsLemmas.{done, passed}
use Rattle.ig_text.proofs.ReaderLoopLemmas.{with_front, IsNotBefore, until_out, any_some, first_read, items_are}
use Rattle.ig_text.proofs.ReaderStopLemmas.{until_pushed, items_stop}

-- the identifiers and the fields
abbrev pub apart : {X : Type 0} → List (ℤ × X) → List ℤ × List X
apart es = (map (λ e. e.0) es, map (λ e. e.1) es)

pub entries_pushed : {X : Type 0} (ids : List ℤ) (xs : List X) (id : ℤ) (x : X) → length ids ≡ length xs → entries (ids ++ id ∷ []) (xs ++ x ∷ []) ≡ entries ids xs ++ (id, x) ∷ []
entries_pushed [] [] id x same = refl
entries_pushed [] (y ∷ ys) id x same = absurd (omega (arith, same))
entries_pushed (i ∷ ids) [] id x same = absurd (omega (arith, same))
entries_pushed {X} (i ∷ ids) (y ∷ ys) id x same = ap (λ (l : List (ℤ × X)). (i, y) ∷ l) (entries_pushed ids ys id x (omega (arith, same)))

pub entries_len : {X : Type 0} (ids : List ℤ) (xs : List X) → length ids ≡ length xs → length (entries ids xs) ≡ length xs
entries_len [] [] same = refl
entries_len [] (y ∷ ys) same = absurd (omega (arith, same))
entries_len (i ∷ ids) [] same = absurd (omega (arith, same))
entries_len (i ∷ ids) (y ∷ ys) same = omega (arith, entries_len ids ys (omega (arith, same)))

entries_ids : {X : Type 0} (ids : List ℤ) (xs : List X) → length ids ≡ length xs → map (λ (e : ℤ × X). e.0) (entries ids xs) ≡ ids
entries_ids [] [] same = refl
entries_ids [] (y ∷ ys) same = absurd (omega (arith, same))
entries_ids (i ∷ ids) [] same = absurd (omega (arith, same))
entries_ids (i ∷ ids) (y ∷ ys) same = ap (λ (l : List ℤ). i ∷ l) (entries_ids ids ys (omega (arith, same)))

entries_fields : {X : Type 0} (ids : List ℤ) (xs : List X) → length ids ≡ length xs → map (λ (e : ℤ × X). e.1) (entries ids xs) ≡ xs
entries_fields [] [] same = refl
entries_fields [] (y ∷ ys) same = absurd (omega (arith, same))
entries_fields (i ∷ ids) [] same = absurd (omega (arith, same))
entries_fields {X} (i ∷ ids) (y ∷ ys) same = ap (λ (l : List X). y ∷ l) (entries_fields ids ys (omega (arith, same)))

entries_apart : {X : Type 0} (ids : List ℤ) (xs : List X) → length ids ≡ length xs → apart (entries ids xs) ≡ (ids, xs)
entries_apart {X} ids xs same =
    ap (λ (l : List ℤ). (l, map (λ (e : ℤ × X). e.1) (entries ids xs))) (entries_ids ids xs same) ∙ ap (λ (l : List X). (ids, l)) (entries_fields ids xs same)

countable_alike : {X : Type 0} (ids : List ℤ) (xs : List X) → length ids ≡ length xs → is_countable (entries ids xs) ≡ is_countable xs
countable_alike ids xs same = ap (λ (n : ℕ). ltb n (2 ^ 31)) (entries_len ids xs same)

abbrev wrong : {A : Type 0} → ℕ → Result A ℕ
wrong n = Err n

-- all entries are read
pub entries_done : {X : Type 0} (R : List ℕ → Read (ℤ × X)) (close : ℕ) (s : List ℕ) (ids : List ℤ) (xs ys : List X) (behind rest : List ℕ) → length ids ≡ length xs → any_at R close s ≡ Ok (entries ids xs, behind) →
    checked_read is_countable (length s) (done (xs, behind)) ≡ Ok (ys, rest) → mapped_read apart (items_at R close s) ≡ Ok ((ids, ys), rest)
entries_done {X} R close s ids xs ys behind rest same e counted =
    let p = passed (is_countable xs) (xs, behind) (length s) (ys, rest) counted in
    let few : is_countable (entries ids xs) ≡ true = countable_alike ids xs same ∙ p.0 in
    ap (mapped_read apart) (items_are R close s (Ok (entries ids xs, behind)) e ∙ cond-true (is_countable (entries ids xs)) (done (entries ids xs, behind)) (Err (length s)) few)
    ∙ ap (λ (z : List ℤ × List X). done (z, behind)) (entries_apart ids xs same) ∙ ap (λ (z : List X × List ℕ). done ((ids, z.0), z.1)) p.1

-- they are too many
wrong_is : {A : Type 0} → (m n : ℕ) → wrong {A = A} m ≡ wrong {A = A} n → m ≡ n
wrong_is m n e = cc

too_many : {X : Type 0} (R : List ℕ → Read (ℤ × X)) (close : ℕ) (s : List ℕ) (ids : List ℤ) (xs : List X) (behind : List ℕ) (left : ℕ) → length ids ≡ length xs → any_at R close s ≡ Ok (entries ids xs, behind) →
    (b : Bool) → is_countable xs ≡ b → cond b (done {A = List X × List ℕ} (xs, behind)) (Err (length s)) ≡ Err left → mapped_read apart (items_at R close s) ≡ Err left
too_many R close s ids xs behind left same e true is counted = absurd cc
too_many {X} R close s ids xs behind left same e false is counted =
    let place : length s ≡ left = wrong_is {A = List X × List ℕ} (length s) left counted in
    ap (mapped_read apart) (items_are R close s (Ok (entries ids xs, behind)) e) ∙ ap (λ (b : Bool). mapped_read apart (cond b (done {A = List (ℤ × X) × List ℕ} (entries ids xs, behind)) (Err (length s)))) (countable_alike ids xs same ∙ is)
    ∙ ap (λ (n : ℕ). wrong {A = (List ℤ × List X) × List ℕ} n) place

pub entries_long : {X : Type 0} (R : List ℕ → Read (ℤ × X)) (close : ℕ) (s : List ℕ) (ids : List ℤ) (xs : List X) (behind : List ℕ) (e : ReadError) → length ids ≡ length xs → any_at R close s ≡ Ok (entries ids xs, behind) →
    Fails e (checked_read is_countable (length s) (done (xs, behind))) → Fails e (mapped_read apart (items_at R close s))
entries_long R close s ids xs behind error.NoMemory same all e = tt
entries_long R close s ids xs behind (error.Bad left) same all e = too_many R close s ids xs behind left same all (is_countable xs) refl e

-- ---- a part of them is wrong

pub mapped_stops : {A B : Type 0} (f : A → B) (r : Read A) (e : ReadError) → Fails e r → Fails e (mapped_read f r)
mapped_stops f r error.NoMemory e = tt
mapped_stops f r (error.Bad left) e = ap (mapped_read f) e

pub mapped_wrong : {A B : Type 0} (f : A → B) (r : Read A) (left : ℕ) → r ≡ Err left → mapped_read f r ≡ Err left
mapped_wrong f r left e = ap (mapped_read f) e

-- ---- the loop

-- one more entry
pub pushed_same : {X : Type 0} (ids pids : List ℤ) (xs pxs : List X) (id : ℤ) (x : X) → length ids ≡ length xs → pids ≡ ids ++ id ∷ [] → pxs ≡ xs ++ x ∷ [] → length pids ≡ length pxs
pushed_same ids pids xs pxs id x same p q = omega (arith, ap length p, ap length q, length-append ids (id ∷ []), length-append xs (x ∷ []), same)

pub entry_pushed : {X : Type 0} (R : List ℕ → Read (ℤ × X)) (close most counter : ℕ) (s : List ℕ) (ids pids : List ℤ) (xs pxs : List X) (id : ℤ) (x : X) (rest : List ℕ) (whole : Read (List (ℤ × X))) →
    length ids ≡ length xs → R [] ≡ Err 0 → counter < most → IsNotBefore close s → R s ≡ Ok ((id, x), rest) → pids ≡ ids ++ id ∷ [] → pxs ≡ xs ++ x ∷ [] →
    with_front (entries ids xs) (until_at R close (most - counter) s) ≡ whole → with_front (entries pids pxs) (until_at R close (most - (counter + 1)) rest) ≡ whole
entry_pushed {X} R close most counter s ids pids xs pxs id x rest whole same none lt other e p q before =
    let push : entries pids pxs ≡ entries ids xs ++ (id, x) ∷ [] = ap (λ (l : List ℤ). entries l pxs) p ∙ ap (λ (l : List X). entries (ids ++ id ∷ []) l) q ∙ entries_pushed ids xs id x same in
    until_pushed R close most counter s (entries ids xs) (entries pids pxs) (id, x) rest whole none lt other e push before

-- a part of an entry is wrong
pub entries_stop : {X : Type 0} (R : List ℕ → Read (ℤ × X)) (close : ℕ) (s : List ℕ) (e : ReadError) → Fails e (any_at R close s) → Fails e (mapped_read apart (items_at R close s))
entries_stop R close s e h = mapped_stops apart (items_at R close s) e (items_stop R close s e h)

-- nothing closes them
pub entries_out : {X : Type 0} (R Q : List ℕ → Read (ℤ × X)) (close most counter left : ℕ) (s rest : List ℕ) (front : List (ℤ × X)) → most ≤ counter → with_front front (until_at Q close (most - counter) rest) ≡ any_at R close s → left ≡ length rest →
    mapped_read apart (items_at R close s) ≡ Err left
entries_out {X} R Q close most counter left s rest front le before is =
    mapped_wrong apart (items_at R close s) left (items_are R close s (Err left) (until_out Q close most counter rest front (any_at R close s) le before ∙ ap (λ (n : ℕ). wrong {A = List (ℤ × X) × List ℕ} n) (sym is)))

-- the first entry
pub entries_first : {X : Type 0} (R : List ℕ → Read (ℤ × X)) (close : ℕ) (s rest : List ℕ) (ids : List ℤ) (xs : List X) (id : ℤ) (x : X) → ids ≡ id ∷ [] → xs ≡ x ∷ [] → R s ≡ Ok ((id, x), rest) → IsNotBefore close s →
    with_front (entries ids xs) (until_at (next_at R) close (length rest - 0) rest) ≡ any_at R close s
entries_first {X} R close s rest ids xs id x p q e other =
    let all : length rest - 0 ≡ length rest = omega arith in
    ap (λ (l : List ℤ). with_front (entries l xs) (until_at (next_at R) close (length rest - 0) rest)) p ∙ ap (λ (l : List X). with_front (entries (id ∷ []) l) (until_at (next_at R) close (length rest - 0) rest)) q
    ∙ ap (λ (n : ℕ). with_front ((id, x) ∷ []) (until_at (next_at R) close n rest)) all ∙ first_read R close s (id, x) rest e ∙ sym (any_some R close s other)
