-- Steps one after another.
use Rattle.std.proofs.Common.{◌≡◌, ℕ, List, ◌++◌, Result, Ok, Err, refl, sym, ap, ◌∙◌, append_assoc}
use Rattle.ig_capture.specs.Said.{Said, silent, and_then}

-- what was printed before a step comes first
pub printed_first : {A B E : Type 0} (text : List ℕ) (s : Said A E) (f : A → Said B E)
    → and_then (s.0, text ++ s.1) f ≡ ((and_then s f).0, text ++ (and_then s f).1)
printed_first text (Ok x, t) f = λ i. ((f x).0, append_assoc text t (f x).1 i)
printed_first text (Err why, t) f = refl

pub assoc : {A B C E : Type 0} (s : Said A E) (f : A → Said B E) (g : B → Said C E) → and_then (and_then s f) g ≡ and_then s (λ x. and_then (f x) g)
assoc (Ok x, t) f g = printed_first t (f x) g
assoc (Err why, t) f g = refl

pub same_next : {A B E : Type 0} (s : Said A E) (f g : A → Said B E) → ((x : A) → f x ≡ g x) → and_then s f ≡ and_then s g
same_next (Ok x, t) f g same = λ i. ((same x i).0, t ++ (same x i).1)
same_next (Err why, t) f g same = refl
