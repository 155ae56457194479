-- Whether bytes were in the canonical form of what was read, part by part.
use Rattle.std.proofs.Common.{◌≡◌, ℕ, ◌+◌, ◌≤◌, Bool, List, [], ◌∷◌, ◌++◌, length, take, drop, refl, sym, ap, subst, ◌∙◌, append_assoc, arith, length-append}
use Rattle.std.specs.List.{flat_map}
use Rattle.std.proofs.lemmas.List.{take_at, drop_at, append-nil}
use Rattle.ig_decode.specs.Exactness.{KeepsExact}

-- two parts are two others, none of them longer, only if each is the other
pub same_parts : (p q f g : List ℕ) → length f ≤ length p → length g ≤ length q → p ++ q ≡ f ++ g → (p ≡ f) × (q ≡ g)
same_parts p q f g a b e =
    let len : length f ≡ length p = omega (arith, a, b, ap length e, length-append p q, length-append f g) in
    (sym (take_at p q (length p) refl) ∙ ap (take (length p)) e ∙ take_at f g (length p) len, sym (drop_at p q (length p) refl) ∙ ap (drop (length p)) e ∙ drop_at f g (length p) len)

joined : (p q f g : List ℕ) → p ≡ f → q ≡ g → p ++ q ≡ f ++ g
joined p q f g a b = ap (λ (l : List ℕ). l ++ q) a ∙ ap (λ (l : List ℕ). f ++ l) b

-- one part, and then another
pub both_exact : (a b c : Bool) (s f m g r : List ℕ) → KeepsExact a b s f m → KeepsExact b c m g r → KeepsExact a c s (f ++ g) r
both_exact a b c s f m g r p q = record {
  prefix = p.prefix ++ q.prefix;
  whole = p.whole ∙ ap (λ (l : List ℕ). p.prefix ++ l) q.whole ∙ sym (append_assoc p.prefix q.prefix r);
  least = omega (arith, p.least, q.least, length-append f g, length-append p.prefix q.prefix);
  exact = (
    λ h. let y = q.exact.0 h in let x = p.exact.0 y.0 in (x.0, joined p.prefix q.prefix f g x.1 y.1),
    λ h. let parts = same_parts p.prefix q.prefix f g p.least q.least h.1 in q.exact.1 (p.exact.1 (h.0, parts.0), parts.1),
  );
}

-- a part that has one encoding
pub plain_exact : (b : Bool) (s f r : List ℕ) → s ≡ f ++ r → KeepsExact b b s f r
plain_exact b s f r e = record { prefix = f; whole = e; least = omega arith; exact = (λ h. (h, refl), λ h. h.0) }

-- a part after its code
pub coded_exact : (a b : Bool) (byte : ℕ) (s f r : List ℕ) → KeepsExact a b s f r → KeepsExact a b (byte ∷ s) (byte ∷ f) r
coded_exact a b byte s f r p = record {
  prefix = byte ∷ p.prefix;
  whole = ap (λ (l : List ℕ). byte ∷ l) p.whole;
  least = omega (arith, p.least);
  exact = (λ h. let x = p.exact.0 h in (x.0, ap (λ (l : List ℕ). byte ∷ l) x.1), λ h. p.exact.1 (h.0, ap (drop 1) h.1));
}

-- ---- many parts

flat_append : {A : Type 0} (h : A → List ℕ) (xs : List A) (x : A) → flat_map h (xs ++ x ∷ []) ≡ flat_map h xs ++ h x
flat_append h [] x = append-nil (h x)
flat_append h (y ∷ xs) x = ap (λ (l : List ℕ). h y ++ l) (flat_append h xs x) ∙ sym (append_assoc (h y) (flat_map h xs) (h x))

pub next_exact : {A : Type 0} (h : A → List ℕ) (a b c : Bool) (s : List ℕ) (front : List A) (rest : List ℕ) (x : A) (after : List ℕ) → KeepsExact a b s (flat_map h front) rest → KeepsExact b c rest (h x) after
    → KeepsExact a c s (flat_map h (front ++ x ∷ [])) after
next_exact h a b c s front rest x after p q = subst (λ (l : List ℕ). KeepsExact a c s l after) (sym (flat_append h front x)) (both_exact a b c s (flat_map h front) rest (h x) after p q)
