-- Writing bytes over those of a list.
use Rattle.std.specs.Prelude.{◌≡◌, ℕ, ◌+◌, ◌≤◌, List, [], ◌++◌, length, take, drop}
use Rattle.std.proofs.Common.{sym, ap, ◌∙◌, append_assoc, arith, length-append, length-drop, length-take}
use Rattle.std.proofs.Math.Seq.{drop-append-add}
use Rattle.std.proofs.lemmas.List.{take_at, drop-drop, take-append-drop}

-- the list with these bytes over its own from an index on
abbrev pub splice : List ℕ → ℕ → List ℕ → List ℕ
splice into at bytes = take at into ++ (bytes ++ drop (at + length bytes) into)

pub splice_none : (into : List ℕ) (at : ℕ) → splice into at [] ≡ into
splice_none into at = let same : at + 0 ≡ at = omega arith in rw same (take-append-drop at into)

pub splice_both : (into : List ℕ) (at : ℕ) (a b : List ℕ) → at + length a ≤ length into → splice (splice into at a) (at + length a) b ≡ splice into at (a ++ b)
splice_both into at a b le =
    let A = take at into in
    let D = drop (at + length a) into in
    let len : length (A ++ a) ≡ at + length a = omega (arith, length-append A a, length-take at into) in
    let grouped : A ++ (a ++ D) ≡ (A ++ a) ++ D = sym (append_assoc A a D) in
    let front : take (at + length a) (A ++ (a ++ D)) ≡ A ++ a = ap (take (at + length a)) grouped ∙ take_at (A ++ a) D (at + length a) len in
    let far : (at + length a) + length b ≡ length (A ++ a) + length b = ap (λ (n : ℕ). n + length b) (sym len) in
    let back : drop ((at + length a) + length b) (A ++ (a ++ D)) ≡ drop (length b) D =
    ap (drop ((at + length a) + length b)) grouped ∙ ap (λ (n : ℕ). drop n ((A ++ a) ++ D)) far ∙ drop-append-add (A ++ a) D (length b) in
    let there : drop (length b) D ≡ drop (at + length (a ++ b)) into =
    drop-drop (length b) (at + length a) into ∙ ap (λ (n : ℕ). drop n into) (let e : (at + length a) + length b ≡ at + length (a ++ b) = omega (arith, length-append a b) in e) in
    rw (front, back, there) (append_assoc A a (b ++ drop (at + length (a ++ b)) into) ∙ ap (λ (l : List ℕ). A ++ l) (sym (append_assoc a b (drop (at + length (a ++ b)) into))))

pub length-splice : (into : List ℕ) (at : ℕ) (a : List ℕ) → at + length a ≤ length into → length (splice into at a) ≡ length into
length-splice into at a le =
    omega (arith, length-append (take at into) (a ++ drop (at + length a) into), length-append a (drop (at + length a) into), length-take at into, length-drop (at + length a) into)
