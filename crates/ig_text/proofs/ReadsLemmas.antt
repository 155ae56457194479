-- A text and its reader: how each way of putting parts together keeps their agreement.
use Rattle.std.proofs.Common.{◌≡◌, ℕ, zero, suc, ◌+◌, ◌<◌, ◌≤◌, Bool, true, false, cond, List, [], ◌∷◌, ◌++◌, length, Option, Some, None, Result, Ok, Err, eqb, eq-eqb, refl, sym, ap, subst, ◌∙◌, append_assoc, arith, inl, inr, length-append, get_or}
use Rattle.std.specs.List.{AllByRecursion}
use Rattle.std.proofs.lemmas.Bool.{cases_eq, ne_eqb}
use Rattle.ig_text.specs.Tokens.{comma, until_text, items_text}
use Rattle.ig_text.specs.TextLaws.{Ends}
use Rattle.ig_text.specs.ReadText.{Read, ◌>>=◌, mapped_read, checked_read, mark_at, joined_at, is_hex, until_at, next_at, some_at, any_at}

-- ---- tools

-- the value of a step that did not fail
pub bind_ok : {A B : Type 0} (r : Result A ℕ) (f : A → Result B ℕ) (y : B) → (r >>= f) ≡ Ok y → (x : A) × (r ≡ Ok x) × (f x ≡ Ok y)
bind_ok (Ok x) f y e = (x, refl, e)
bind_ok (Err d) f y e = absurd cc

abbrev pub done : {A : Type 0} → A → Result A ℕ
done x = Ok x

pub ok_is : {A : Type 0} (x y : A) → done x ≡ done y → x ≡ y
ok_is x y e = cc

-- the value of a test that passed
pub passed : {A : Type 0} (b : Bool) (y : A) (left : ℕ) (z : A) → cond b (done y) (Err left) ≡ Ok z → (b ≡ true) × (y ≡ z)
passed true y left z e = (refl, ok_is y z e)
passed false y left z e = absurd cc

-- ---- agreement

-- what was read fits, and its text stood there
pub record Takes {A : Type 0} (Fits : A → Type 0) (T : A → List ℕ) (s : List ℕ) (x : A) (rest : List ℕ) : Type 0 where
  pub fits : Fits x
  pub whole : s ≡ T x ++ rest

-- What is read fits and stood there, and the text of what fits is read, if what follows is as F
-- says.
pub record Reads {A : Type 0} (Fits : A → Type 0) (T : A → List ℕ) (F : List ℕ → Type 0) (R : List ℕ → Read A) : Type 0 where
  pub takes : (s : List ℕ) (x : A) (rest : List ℕ) → R s ≡ Ok (x, rest) → Takes Fits T s x rest
  pub again : (x : A) (rest : List ℕ) → Fits x → F rest → R (T x ++ rest) ≡ Ok (x, rest)

-- the reader takes nothing that begins with this byte
abbrev pub Refuses : {A : Type 0} → (List ℕ → Read A) → ℕ → Type 0
Refuses {A} R b = (s : List ℕ) (z : A × List ℕ) → R (b ∷ s) ≡ Ok z → ⊥

-- the reader takes nothing where nothing is left
abbrev pub RefusesNone : {A : Type 0} → (List ℕ → Read A) → Type 0
RefusesNone {A} R = (z : A × List ℕ) → R [] ≡ Ok z → ⊥

abbrev pub Anything : List ℕ → Type 0
Anything s = Unit {0}

pub with_end : {A : Type 0} (Fits : A → Type 0) (T : A → List ℕ) (R : List ℕ → Read A) → Reads Fits T Anything R → Reads Fits T Ends R
with_end Fits T R p = record { takes = p.takes; again = λ x rest fits f. p.again x rest fits tt }

-- ---- the same reading of something else

pub mapped_reads : {A B : Type 0} (f : A → B) (g : B → A) (Fits : A → Type 0) (T : A → List ℕ) (F : List ℕ → Type 0) (R : List ℕ → Read A) →
    ((x : A) → g (f x) ≡ x) → ((y : B) → f (g y) ≡ y) → Reads Fits T F R → Reads (λ y. Fits (g y)) (λ y. T (g y)) F (λ s. mapped_read f (R s))
mapped_reads {A} {B} f g Fits T F R there back p = record {
  takes = λ s y rest e.
      let a = bind_ok (R s) (λ x. Ok (f x.0, x.1)) (y, rest) e in
      let t = p.takes s a.0.0 a.0.1 a.1 in
      let made : B × List ℕ = (f a.0.0, a.0.1) in
      let all : Takes (λ y. Fits (g y)) (λ y. T (g y)) s made.0 made.1 = record {
        fits = subst Fits (sym (there a.0.0)) t.fits;
        whole = subst (λ (x : A). s ≡ T x ++ a.0.1) (sym (there a.0.0)) t.whole;
      } in
      subst (λ (z : B × List ℕ). Takes (λ y. Fits (g y)) (λ y. T (g y)) s z.0 z.1) (ok_is made (y, rest) a.2) all;
  again = λ y rest fits f'. rw (p.again (g y) rest fits f') (ap (λ (z : B). done (z, rest)) (back y));
}

pub checked_reads : {A : Type 0} (test : A → Bool) (left : List ℕ → ℕ) (Fits Better : A → Type 0) (T : A → List ℕ) (F : List ℕ → Type 0) (R : List ℕ → Read A) →
    ((x : A) → test x ≡ true → Fits x → Better x) → ((x : A) → Better x → (test x ≡ true) × Fits x) → Reads Fits T F R → Reads Better T F (λ s. checked_read test (left s) (R s))
checked_reads {A} test left Fits Better T F R better good p = record {
  takes = λ s x rest e.
      let a = bind_ok (R s) (λ x. cond (test x.0) (done x) (Err (left s))) (x, rest) e in
      let b = passed (test a.0.0) a.0 (left s) (x, rest) a.2 in
      let t = p.takes s a.0.0 a.0.1 a.1 in
      let all : Takes Better T s a.0.0 a.0.1 = record { fits = better a.0.0 b.0 t.fits; whole = t.whole } in
      subst (λ (z : A × List ℕ). Takes Better T s z.0 z.1) b.1 all;
  again = λ x rest fits f. let g = good x fits in rw (p.again x rest g.1 f, g.0) refl;
}

-- the same between what fits alone
pub viewed_reads : {A B : Type 0} (f : A → B) (g : B → A) (Fits : A → Type 0) (T : A → List ℕ) (F : List ℕ → Type 0) (R : List ℕ → Read A) (FitsB : B → Type 0) (TB : B → List ℕ) →
    ((x : A) → Fits x → FitsB (f x) × (g (f x) ≡ x)) → ((y : B) → FitsB y → Fits (g y) × (f (g y) ≡ y) × (T (g y) ≡ TB y)) → Reads Fits T F R → Reads FitsB TB F (λ s. mapped_read f (R s))
viewed_reads {A} {B} f g Fits T F R FitsB TB there back p = record {
  takes = λ s y rest e.
      let a = bind_ok (R s) (λ x. Ok (f x.0, x.1)) (y, rest) e in
      let t = p.takes s a.0.0 a.0.1 a.1 in
      let k = there a.0.0 t.fits in
      let text : T a.0.0 ≡ TB (f a.0.0) = ap T (sym k.1) ∙ (back (f a.0.0) k.0).2 in
      let made : B × List ℕ = (f a.0.0, a.0.1) in
      let all : Takes FitsB TB s made.0 made.1 = record { fits = k.0; whole = t.whole ∙ ap (λ (l : List ℕ). l ++ a.0.1) text } in
      subst (λ (z : B × List ℕ). Takes FitsB TB s z.0 z.1) (ok_is made (y, rest) a.2) all;
  again = λ y rest fits f'.
      let k = back y fits in
      let one : R (TB y ++ rest) ≡ Ok (g y, rest) = subst (λ (l : List ℕ). R (l ++ rest) ≡ Ok (g y, rest)) k.2 (p.again (g y) rest k.0 f') in
      rw one (ap (λ (z : B). done (z, rest)) k.1);
}

-- ---- marks

pub mark_taken : (b : ℕ) (s : List ℕ) (m : Unit {0} × List ℕ) → mark_at b s ≡ Ok m → s ≡ b ∷ m.1
mark_taken b [] m e = absurd cc
mark_taken b (c ∷ s) m e =
    elim (cases_eq c b) [
      | inl same ↦
          let is : mark_at b (c ∷ s) ≡ Ok (tt, s) = rw (eq-eqb c b same) refl in
          let z : (tt, s) ≡ m = ok_is (tt, s) m (sym is ∙ e) in
          ap (λ (n : ℕ). n ∷ s) same ∙ ap (λ (z : Unit {0} × List ℕ). b ∷ z.1) z
      | inr ne ↦ absurd (let is : mark_at b (c ∷ s) ≡ Err (suc (length s)) = rw (ne_eqb c b ne) refl in let both = sym is ∙ e in cc)
    ]

pub mark_again : (b : ℕ) (s : List ℕ) → mark_at b (b ∷ s) ≡ Ok (tt, s)
mark_again b s = rw (eq-eqb b b refl) refl

-- a part after a mark
pub marked_reads : {A : Type 0} (b : ℕ) (Fits : A → Type 0) (T : A → List ℕ) (F : List ℕ → Type 0) (R : List ℕ → Read A) → Reads Fits T F R → Reads Fits (λ x. b ∷ T x) F (λ s. mark_at b s >>= λ m. R m.1)
marked_reads b Fits T F R p = record {
  takes = λ s x rest e.
      let m = bind_ok (mark_at b s) (λ m. R m.1) (x, rest) e in
      let t = p.takes m.0.1 x rest m.2 in
      record { fits = t.fits; whole = mark_taken b s m.0 m.1 ∙ ap (λ (l : List ℕ). b ∷ l) t.whole };
  again = λ x rest fits f. rw (mark_again b (T x ++ rest), p.again x rest fits f) refl;
}

-- ---- two parts and a mark between them

pub joined_reads : {A B : Type 0} (FA : A → Type 0) (TA : A → List ℕ) (RA : List ℕ → Read A) (b : ℕ) (FB : B → Type 0) (TB : B → List ℕ) (F : List ℕ → Type 0) (RB : List ℕ → Read B) →
    is_hex true b ≡ false → Reads FA TA Ends RA → Reads FB TB F RB → Reads (λ (z : A × B). FA z.0 × FB z.1) (λ z. TA z.0 ++ b ∷ TB z.1) F (joined_at RA b RB)
joined_reads {A} {B} FA TA RA b FB TB F RB ends p q = record {
  takes = λ s z rest e.
      let a = bind_ok (RA s) (λ x. mark_at b x.1 >>= λ m. RB m.1 >>= λ y. Ok ((x.0, y.0), y.1)) (z, rest) e in
      let m = bind_ok (mark_at b a.0.1) (λ m. RB m.1 >>= λ y. Ok ((a.0.0, y.0), y.1)) (z, rest) a.2 in
      let c = bind_ok (RB m.0.1) (λ y. Ok ((a.0.0, y.0), y.1)) (z, rest) m.2 in
      let t = p.takes s a.0.0 a.0.1 a.1 in
      let u = q.takes m.0.1 c.0.0 c.0.1 c.1 in
      let k : a.0.1 ≡ b ∷ (TB c.0.0 ++ c.0.1) = mark_taken b a.0.1 m.0 m.1 ∙ ap (λ (l : List ℕ). b ∷ l) u.whole in
      let made : (A × B) × List ℕ = ((a.0.0, c.0.0), c.0.1) in
      let all : Takes (λ (z : A × B). FA z.0 × FB z.1) (λ z. TA z.0 ++ b ∷ TB z.1) s made.0 made.1 = record {
        fits = (t.fits, u.fits);
        whole = t.whole ∙ ap (λ (l : List ℕ). TA a.0.0 ++ l) k ∙ sym (append_assoc (TA a.0.0) (b ∷ TB c.0.0) c.0.1);
      } in
      subst (λ (y : (A × B) × List ℕ). Takes (λ (z : A × B). FA z.0 × FB z.1) (λ z. TA z.0 ++ b ∷ TB z.1) s y.0 y.1) (ok_is made (z, rest) c.2) all;
  again = λ z rest fits f.
      let e : (TA z.0 ++ b ∷ TB z.1) ++ rest ≡ TA z.0 ++ (b ∷ (TB z.1 ++ rest)) = append_assoc (TA z.0) (b ∷ TB z.1) rest in
      rw (e, p.again z.0 (b ∷ (TB z.1 ++ rest)) fits.0 ends, mark_again b (TB z.1 ++ rest), q.again z.1 rest fits.1 f) refl;
}

-- ---- items up to the byte that closes them

until_step : {A : Type 0} (R : List ℕ → Read A) (close : ℕ) → Refuses R close → RefusesNone R → (n : ℕ) (s : List ℕ) (x : A) (r : List ℕ) → R s ≡ Ok (x, r) →
    until_at R close (suc n) s ≡ (until_at R close n r >>= λ xs. done (x ∷ xs.0, xs.1))
until_step R close refuses none n [] x r e = absurd (none (x, r) e)
until_step R close refuses none n (b ∷ s) x r e =
    elim (cases_eq b close) [
      | inl same ↦ absurd (refuses s (x, r) (subst (λ (c : ℕ). R (c ∷ s) ≡ Ok (x, r)) same e))
      | inr ne ↦ rw (ne_eqb b close ne, e) refl
    ]

until_takes : {A : Type 0} (Fits : A → Type 0) (T : A → List ℕ) (F : List ℕ → Type 0) (R : List ℕ → Read A) (close : ℕ) → Reads Fits T F R →
    (n : ℕ) (s : List ℕ) (xs : List A) (rest : List ℕ) → until_at R close n s ≡ Ok (xs, rest) → Takes (AllByRecursion Fits) (until_text close T) s xs rest
until_takes Fits T F R close p zero s xs rest e = absurd cc
until_takes Fits T F R close p (suc n) [] xs rest e = absurd cc
until_takes {A} Fits T F R close p (suc n) (b ∷ s) xs rest e =
    elim (cases_eq b close) [
      | inl same ↦
          let made : List A × List ℕ = ([], s) in
          let is : until_at R close (suc n) (b ∷ s) ≡ Ok made = rw (eq-eqb b close same) refl in
          let all : Takes (AllByRecursion Fits) (until_text close T) (b ∷ s) made.0 made.1 = record { fits = tt; whole = ap (λ (c : ℕ). c ∷ s) same } in
          subst (λ (z : List A × List ℕ). Takes (AllByRecursion Fits) (until_text close T) (b ∷ s) z.0 z.1) (ok_is made (xs, rest) (sym is ∙ e)) all
      | inr ne ↦
          let is : until_at R close (suc n) (b ∷ s) ≡ (R (b ∷ s) >>= λ x. until_at R close n x.1 >>= λ xs. done (x.0 ∷ xs.0, xs.1)) = rw (ne_eqb b close ne) refl in
          let a = bind_ok (R (b ∷ s)) (λ x. until_at R close n x.1 >>= λ xs. done (x.0 ∷ xs.0, xs.1)) (xs, rest) (sym is ∙ e) in
          let c = bind_ok (until_at R close n a.0.1) (λ xs. done (a.0.0 ∷ xs.0, xs.1)) (xs, rest) a.2 in
          let t = p.takes (b ∷ s) a.0.0 a.0.1 a.1 in
          let u = until_takes Fits T F R close p n a.0.1 c.0.0 c.0.1 c.1 in
          let made : List A × List ℕ = (a.0.0 ∷ c.0.0, c.0.1) in
          let all : Takes (AllByRecursion Fits) (until_text close T) (b ∷ s) made.0 made.1 = record {
            fits = (t.fits, u.fits);
            whole = t.whole ∙ ap (λ (l : List ℕ). T a.0.0 ++ l) u.whole ∙ sym (append_assoc (T a.0.0) (until_text close T c.0.0) c.0.1);
          } in
          subst (λ (z : List A × List ℕ). Takes (AllByRecursion Fits) (until_text close T) (b ∷ s) z.0 z.1) (ok_is made (xs, rest) c.2) all
    ]

-- what follows an item in a list of items may follow it
abbrev pub Follows : {A : Type 0} → (A → List ℕ) → (List ℕ → Type 0) → ℕ → Type 0
Follows {A} T F close = (xs : List A) (rest : List ℕ) → F (until_text close T xs ++ rest)

until_again : {A : Type 0} (Fits : A → Type 0) (T : A → List ℕ) (F : List ℕ → Type 0) (R : List ℕ → Read A) (close : ℕ) → Reads Fits T F R → Refuses R close → RefusesNone R → Follows T F close →
    (n : ℕ) (xs : List A) (rest : List ℕ) → length xs < n → AllByRecursion Fits xs → until_at R close n (until_text close T xs ++ rest) ≡ Ok (xs, rest)
until_again Fits T F R close p refuses none follows zero xs rest lt fits = absurd (omega (arith, lt))
until_again Fits T F R close p refuses none follows (suc n) [] rest lt fits = rw (eq-eqb close close refl) refl
until_again Fits T F R close p refuses none follows (suc n) (x ∷ xs) rest lt fits =
    let r = until_text close T xs ++ rest in
    let one : R (T x ++ r) ≡ Ok (x, r) = p.again x r fits.0 (follows xs rest) in
    let more : until_at R close n r ≡ Ok (xs, rest) = until_again Fits T F R close p refuses none follows n xs rest (omega (arith, lt)) fits.1 in
    ap (until_at R close (suc n)) (append_assoc (T x) (until_text close T xs) rest) ∙ until_step R close refuses none n (T x ++ r) x r one ∙ rw more refl

-- each text has a byte at least, so a list has no more items than bytes
pub until_long : {A : Type 0} (T : A → List ℕ) (close : ℕ) → ((x : A) → 0 < length (T x)) → (xs : List A) (rest : List ℕ) → length xs < length (until_text close T xs ++ rest)
until_long T close some [] rest = omega arith
until_long T close some (x ∷ xs) rest =
    omega (arith, some x, until_long T close some xs rest, ap length (append_assoc (T x) (until_text close T xs) rest), length-append (T x) (until_text close T xs ++ rest))

pub until_reads : {A : Type 0} (Fits : A → Type 0) (T : A → List ℕ) (F : List ℕ → Type 0) (R : List ℕ → Read A) (close : ℕ) → Reads Fits T F R → Refuses R close → RefusesNone R → Follows T F close →
    ((x : A) → 0 < length (T x)) → Reads (AllByRecursion Fits) (until_text close T) Anything (λ s. until_at R close (length s) s)
until_reads Fits T F R close p refuses none follows some = record {
  takes = λ s xs rest e. until_takes Fits T F R close p (length s) s xs rest e;
  again = λ xs rest fits f. until_again Fits T F R close p refuses none follows (length (until_text close T xs ++ rest)) xs rest (until_long T close some xs rest) fits;
}

-- ---- lists: items with commas between them

next_reads : {A : Type 0} (Fits : A → Type 0) (T : A → List ℕ) (R : List ℕ → Read A) → Reads Fits T Ends R → Reads Fits (λ x. comma ∷ T x) Ends (next_at R)
next_reads Fits T R p = marked_reads comma Fits T Ends R p

next_refuses : {A : Type 0} (R : List ℕ → Read A) (close : ℕ) → (close ≡ comma → ⊥) → Refuses (next_at R) close
next_refuses R close apart s z e =
    let m = bind_ok (mark_at comma (close ∷ s)) (λ m. R m.1) z e in
    apart (ap (λ (l : List ℕ). get_or l 0 0) (mark_taken comma (close ∷ s) m.0 m.1))

next_none : {A : Type 0} (R : List ℕ → Read A) → RefusesNone (next_at R)
next_none R z e = cc

next_follows : {A : Type 0} (T : A → List ℕ) (close : ℕ) → is_hex true close ≡ false → Follows (λ x. comma ∷ T x) Ends close
next_follows T close ends [] rest = ends
next_follows T close ends (x ∷ xs) rest = refl

-- a byte that can close a list
pub record Closes (close : ℕ) : Type 0 where
  pub ends : is_hex true close ≡ false
  pub apart : close ≡ comma → ⊥

rest_reads : {A : Type 0} (Fits : A → Type 0) (T : A → List ℕ) (R : List ℕ → Read A) (close : ℕ) → Closes close → Reads Fits T Ends R →
    Reads (AllByRecursion Fits) (until_text close (λ x. comma ∷ T x)) Anything (λ s. until_at (next_at R) close (length s) s)
rest_reads Fits T R close c p =
    until_reads Fits (λ x. comma ∷ T x) Ends (next_at R) close (next_reads Fits T R p) (next_refuses R close c.apart) (next_none R) (next_follows T close c.ends) (λ x. omega arith)

any_step : {A : Type 0} (R : List ℕ → Read A) (close : ℕ) → Refuses R close → RefusesNone R → (s : List ℕ) (z : A × List ℕ) → R s ≡ Ok z → any_at R close s ≡ some_at R close s
any_step R close refuses none [] z e = absurd (none z e)
any_step R close refuses none (b ∷ s) z e =
    elim (cases_eq b close) [
      | inl same ↦ absurd (refuses s z (subst (λ (c : ℕ). R (c ∷ s) ≡ Ok z) same e))
      | inr ne ↦ rw (ne_eqb b close ne) refl
    ]

some_takes : {A : Type 0} (Fits : A → Type 0) (T : A → List ℕ) (R : List ℕ → Read A) (close : ℕ) → Closes close → Reads Fits T Ends R →
    (s : List ℕ) (xs : List A) (rest : List ℕ) → some_at R close s ≡ Ok (xs, rest) → Takes (AllByRecursion Fits) (items_text close T) s xs rest
some_takes {A} Fits T R close k p s xs rest e =
    let q = rest_reads Fits T R close k p in
    let a = bind_ok (R s) (λ x. until_at (next_at R) close (length x.1) x.1 >>= λ xs. done (x.0 ∷ xs.0, xs.1)) (xs, rest) e in
    let c = bind_ok (until_at (next_at R) close (length a.0.1) a.0.1) (λ xs. done (a.0.0 ∷ xs.0, xs.1)) (xs, rest) a.2 in
    let t = p.takes s a.0.0 a.0.1 a.1 in
    let u = q.takes a.0.1 c.0.0 c.0.1 c.1 in
    let made : List A × List ℕ = (a.0.0 ∷ c.0.0, c.0.1) in
    let all : Takes (AllByRecursion Fits) (items_text close T) s made.0 made.1 = record {
      fits = (t.fits, u.fits);
      whole = t.whole ∙ ap (λ (l : List ℕ). T a.0.0 ++ l) u.whole ∙ sym (append_assoc (T a.0.0) (until_text close (λ y. comma ∷ T y) c.0.0) c.0.1);
    } in
    subst (λ (z : List A × List ℕ). Takes (AllByRecursion Fits) (items_text close T) s z.0 z.1) (ok_is made (xs, rest) c.2) all

any_takes : {A : Type 0} (Fits : A → Type 0) (T : A → List ℕ) (R : List ℕ → Read A) (close : ℕ) → Closes close → Reads Fits T Ends R →
    (s : List ℕ) (xs : List A) (rest : List ℕ) → any_at R close s ≡ Ok (xs, rest) → Takes (AllByRecursion Fits) (items_text close T) s xs rest
any_takes Fits T R close k p [] xs rest e = some_takes Fits T R close k p [] xs rest e
any_takes {A} Fits T R close k p (b ∷ s) xs rest e =
    elim (cases_eq b close) [
      | inl same ↦
          let made : List A × List ℕ = ([], s) in
          let is : any_at R close (b ∷ s) ≡ Ok made = rw (eq-eqb b close same) refl in
          let all : Takes (AllByRecursion Fits) (items_text close T) (b ∷ s) made.0 made.1 = record { fits = tt; whole = ap (λ (c : ℕ). c ∷ s) same } in
          subst (λ (z : List A × List ℕ). Takes (AllByRecursion Fits) (items_text close T) (b ∷ s) z.0 z.1) (ok_is made (xs, rest) (sym is ∙ e)) all
      | inr ne ↦
          let is : any_at R close (b ∷ s) ≡ some_at R close (b ∷ s) = rw (ne_eqb b close ne) refl in
          some_takes Fits T R close k p (b ∷ s) xs rest (sym is ∙ e)
    ]

any_again : {A : Type 0} (Fits : A → Type 0) (T : A → List ℕ) (R : List ℕ → Read A) (close : ℕ) → Closes close → Reads Fits T Ends R → Refuses R close → RefusesNone R →
    (xs : List A) (rest : List ℕ) → AllByRecursion Fits xs → any_at R close (items_text close T xs ++ rest) ≡ Ok (xs, rest)
any_again Fits T R close k p refuses none [] rest fits = rw (eq-eqb close close refl) refl
any_again Fits T R close k p refuses none (x ∷ xs) rest fits =
    let q = rest_reads Fits T R close k p in
    let r = until_text close (λ y. comma ∷ T y) xs ++ rest in
    let one : R (T x ++ r) ≡ Ok (x, r) = p.again x r fits.0 (next_follows T close k.ends xs rest) in
    let more : until_at (next_at R) close (length r) r ≡ Ok (xs, rest) = q.again xs rest fits.1 tt in
    ap (any_at R close) (append_assoc (T x) (until_text close (λ y. comma ∷ T y) xs) rest) ∙ any_step R close refuses none (T x ++ r) (x, r) one ∙ rw (one, more) refl

pub any_reads : {A : Type 0} (Fits : A → Type 0) (T : A → List ℕ) (R : List ℕ → Read A) (close : ℕ) → Closes close → Reads Fits T Ends R → Refuses R close → RefusesNone R →
    Reads (AllByRecursion Fits) (items_text close T) Anything (any_at R close)
any_reads Fits T R close k p refuses none = record {
  takes = any_takes Fits T R close k p;
  again = λ xs rest fits f. any_again Fits T R close k p refuses none xs rest fits;
}
