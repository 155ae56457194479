-- Lists that are bytes, laid end to end.
use Rattle.std.proofs.Common.{◌≡◌, ℕ, ◌+◌, ◌-◌, ◌<◌, ◌≤◌, List, ◌++◌, length, take, drop, take-append-drop, inl, inr, refl, sym, subst, arith}
use Rattle.std.proofs.lemmas.Bool.{cases_lt}
use Rattle.std.proofs.lemmas.List.{get_or_append_left, get_or-append-add, get_or-append_right, get_or_past}
use Rattle.ig_base.specs.Numbers.{AreBytes}

pub are_first : (a b : List ℕ) → AreBytes (a ++ b) → AreBytes a
are_first a b are i = elim (cases_lt i (length a)) [
  | inl inside ↦ subst (λ (n : ℕ). n < 256) (get_or_append_left a b 0 i inside) (are i)
  | inr past ↦ subst (λ (n : ℕ). n < 256) (sym (get_or_past a i 0 past)) (omega arith)
]

pub are_last : (a b : List ℕ) → AreBytes (a ++ b) → AreBytes b
are_last a b are i = subst (λ (n : ℕ). n < 256) (get_or-append-add a b i 0) (are (length a + i))

pub are_both : (a b : List ℕ) → AreBytes a → AreBytes b → AreBytes (a ++ b)
are_both a b first last i = elim (cases_lt i (length a)) [
  | inl inside ↦ subst (λ (n : ℕ). n < 256) (sym (get_or_append_left a b 0 i inside)) (first i)
  | inr past ↦ subst (λ (n : ℕ). n < 256) (sym (get_or-append_right a b (length a) i 0 refl past)) (last (i - length a))
]

pub are_taken : (n : ℕ) (a : List ℕ) → AreBytes a → AreBytes (take n a)
are_taken n a are = are_first (take n a) (drop n a) (subst AreBytes (sym (take-append-drop n a)) are)
