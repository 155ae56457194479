-- Which frames of a stream were asked for, as calls and frames are added.
use Rattle.std.proofs.Common.{◌≡◌, cond, ℕ, suc, ◌+◌, ◌<◌, ◌≤◌, ℤ, pos, negsuc, Bool, true, false, ◌||◌, ◌&&◌, List, [], ◌∷◌, ◌++◌, Option, None, Some, inl, inr, refl, sym, ap, subst, ◌∙◌, arith, append-nil, append_assoc}
use Rattle.std.proofs.lemmas.Bool.{cond-true, cond-false, cases_Bool, cases_lt, and_from, and_parts, le-leb, lt-ltb, leb-true, false_from_ne_true, false≢true}
use Rattle.std.proofs.lemmas.Bool.Decides.{Decides-int_eq}
use Rattle.std.specs.Prelude.{nat_lt, nat_le, not}
use Rattle.std.specs.Ordering.{int_eq}
use Rattle.std.specs.List.{list_any, find}
use Rattle.ig_client.specs.PendingState.{id_of}
use Rattle.ig_client.specs.Cutting.{has_id, was_made, is_pending, asked_from, asked}

-- ---- calls that were made

pub made_more : (n : ℕ) (id : ℤ) → was_made n id ≡ true → was_made (n + 1) id ≡ true
made_more n (pos k) made =
    let parts : (nat_lt 0 k ≡ true) × (nat_le k n ≡ true) = and_parts (nat_lt 0 k) (nat_le k n) made in
    and_from (nat_lt 0 k) (nat_le k (n + 1)) parts.0 (le-leb k (n + 1) (omega (arith, leb-true k n parts.1)))
made_more n (negsuc k) made = cc

pub made_last : (n : ℕ) → was_made (n + 1) (pos (n + 1)) ≡ true
made_last n = and_from (nat_lt 0 (n + 1)) (nat_le (n + 1) (n + 1)) (lt-ltb 0 (n + 1) (omega arith)) (le-leb (n + 1) (n + 1) (omega arith))

pub not_made_yet : (n : ℕ) → was_made n (pos (n + 1)) ≡ false
not_made_yet n = false_from_ne_true (was_made n (pos (n + 1))) (λ made.
    let parts : (nat_lt 0 (n + 1) ≡ true) × (nat_le (n + 1) n ≡ true) = and_parts (nat_lt 0 (n + 1)) (nat_le (n + 1) n) made in
    absurd (omega (arith, leb-true (n + 1) n parts.1)))

within_same : (n k : ℕ) → (k ≡ n + 1 → ⊥) → nat_le k (n + 1) ≡ nat_le k n
within_same n k other = elim (cases_lt n k) [
  | inl above ↦
      let high : nat_le k n ≡ false = false_from_ne_true (nat_le k n) (λ t. absurd (omega (arith, leb-true k n t, above))) in
      let higher : nat_le k (n + 1) ≡ false =
      false_from_ne_true (nat_le k (n + 1)) (λ t. let is : k ≡ n + 1 = omega (arith, leb-true k (n + 1) t, above) in other is) in
      higher ∙ sym high
  | inr below ↦ le-leb k (n + 1) (omega (arith, below)) ∙ sym (le-leb k n below)
]

-- one call more is made under one identifier alone
pub made_same : (n : ℕ) (id : ℤ) → (id ≡ pos (n + 1) → ⊥) → was_made (n + 1) id ≡ was_made n id
made_same n (pos k) other = ap (λ b. nat_lt 0 k && b) (within_same n k (λ e. other (ap pos e)))
made_same n (negsuc k) other = refl

pending_more : (n : ℕ) (earlier : List (List ℕ)) (id : ℤ) → is_pending n earlier id ≡ true → is_pending (n + 1) earlier id ≡ true
pending_more n earlier id is =
    let parts : (was_made n id ≡ true) × (not (list_any (has_id id) earlier) ≡ true) = and_parts (was_made n id) (not (list_any (has_id id) earlier)) is in
    and_from (was_made (n + 1) id) (not (list_any (has_id id) earlier)) (made_more n id parts.0) parts.1

-- ---- frames that were all asked for

-- the first of them was, and the others too
asked_parts : (n : ℕ) (earlier : List (List ℕ)) (body : List ℕ) (bodies : List (List ℕ)) → asked_from n earlier (body ∷ bodies) ≡ body ∷ bodies
    → (is_pending n earlier (id_of body) ≡ true) × (asked_from n (earlier ++ body ∷ []) bodies ≡ bodies)
asked_parts n earlier body bodies all = elim (cases_Bool (is_pending n earlier (id_of body))) [
  | inl is ↦
      let both : body ∷ asked_from n (earlier ++ body ∷ []) bodies ≡ body ∷ bodies =
      sym (cond-true (is_pending n earlier (id_of body)) (body ∷ asked_from n (earlier ++ body ∷ []) bodies) [] is) ∙ all in
      let others : asked_from n (earlier ++ body ∷ []) bodies ≡ bodies = cc in
      (is, others)
  | inr is_not ↦
      let none : [] ≡ body ∷ bodies =
      sym (cond-false (is_pending n earlier (id_of body)) (body ∷ asked_from n (earlier ++ body ∷ []) bodies) [] is_not) ∙ all in
      cc
]

-- they were with one call more
pub asked_more : (n : ℕ) (earlier bodies : List (List ℕ)) → asked_from n earlier bodies ≡ bodies → asked_from (n + 1) earlier bodies ≡ bodies
asked_more n earlier [] all = refl
asked_more n earlier (body ∷ bodies) all =
    let parts = asked_parts n earlier body bodies all in
    cond-true (is_pending (n + 1) earlier (id_of body)) (body ∷ asked_from (n + 1) (earlier ++ body ∷ []) bodies) [] (pending_more n earlier (id_of body) parts.0)
    ∙ ap (λ (l : List (List ℕ)). body ∷ l) (asked_more n (earlier ++ body ∷ []) bodies parts.1)

asked_then : (n : ℕ) (earlier bodies more : List (List ℕ)) → asked_from n earlier bodies ≡ bodies
    → asked_from n earlier (bodies ++ more) ≡ bodies ++ asked_from n (earlier ++ bodies) more
asked_then n earlier [] more all = ap (λ (l : List (List ℕ)). asked_from n l more) (sym (append-nil earlier))
asked_then n earlier (body ∷ bodies) more all =
    let parts = asked_parts n earlier body bodies all in
    cond-true (is_pending n earlier (id_of body)) (body ∷ asked_from n (earlier ++ body ∷ []) (bodies ++ more)) [] parts.0
    ∙ ap (λ (l : List (List ℕ)). body ∷ l) (asked_then n (earlier ++ body ∷ []) bodies more parts.1
    ∙ ap (λ (l : List (List ℕ)). bodies ++ asked_from n l more) (append_assoc earlier (body ∷ []) bodies))

-- with one frame more, whose call is pending
pub asked_one : (n : ℕ) (bodies : List (List ℕ)) (body : List ℕ) → asked n bodies ≡ bodies → is_pending n bodies (id_of body) ≡ true
    → asked n (bodies ++ body ∷ []) ≡ bodies ++ body ∷ []
asked_one n bodies body all is =
    asked_then n [] bodies (body ∷ []) all
    ∙ ap (λ (l : List (List ℕ)). bodies ++ l) (cond-true (is_pending n bodies (id_of body)) (body ∷ []) [] is)

-- and with one whose call isn't
pub asked_stops : (n : ℕ) (bodies : List (List ℕ)) (body : List ℕ) → asked n bodies ≡ bodies → is_pending n bodies (id_of body) ≡ false
    → asked n (bodies ++ body ∷ []) ≡ bodies
asked_stops n bodies body all is_not =
    asked_then n [] bodies (body ∷ []) all
    ∙ ap (λ (l : List (List ℕ)). bodies ++ l) (cond-false (is_pending n bodies (id_of body)) (body ∷ []) [] is_not)
    ∙ append-nil bodies

-- ---- the calls that they reply to

pub has_its_id : (body : List ℕ) → has_id (id_of body) body ≡ true
has_its_id body = (Decides-int_eq (id_of body) (id_of body)).1 refl

pub id_is : (id : ℤ) (body : List ℕ) → has_id id body ≡ true → id_of body ≡ id
id_is id body has = (Decides-int_eq (id_of body) id).0 has

-- a call that a frame replies to was made
pub any_made : (n : ℕ) (earlier bodies : List (List ℕ)) (id : ℤ) → asked_from n earlier bodies ≡ bodies → list_any (has_id id) bodies ≡ true → was_made n id ≡ true
any_made n earlier [] id all any = cc
any_made n earlier (body ∷ bodies) id all any =
    let parts = asked_parts n earlier body bodies all in
    elim (cases_Bool (has_id id body)) [
      | inl has ↦ subst (λ i. was_made n i ≡ true) (id_is id body has) (and_parts (was_made n (id_of body)) (not (list_any (has_id (id_of body)) earlier)) parts.0).0
      | inr has_not ↦ any_made n (earlier ++ body ∷ []) bodies id parts.1 (sym (ap (λ b. b || list_any (has_id id) bodies) has_not) ∙ any)
    ]

pub found_any : {A : Type 0} (p : A → Bool) (xs : List A) (x : A) → find p xs ≡ Some x → list_any p xs ≡ true
found_any p [] x found = cc
found_any p (y ∷ xs) x found = elim (cases_Bool (p y)) [
  | inl is ↦ ap (λ b. b || list_any p xs) is
  | inr is_not ↦ ap (λ b. b || list_any p xs) is_not ∙ found_any p xs x (sym (cond-false (p y) (Some y) (find p xs) is_not) ∙ found)
]

pub none_any : {A : Type 0} (p : A → Bool) (xs : List A) → find p xs ≡ None → list_any p xs ≡ false
none_any p [] none = refl
none_any p (y ∷ xs) none = elim (cases_Bool (p y)) [
  | inl is ↦ let some : Some y ≡ None = sym (cond-true (p y) (Some y) (find p xs) is) ∙ none in cc
  | inr is_not ↦ ap (λ b. b || list_any p xs) is_not ∙ none_any p xs (sym (cond-false (p y) (Some y) (find p xs) is_not) ∙ none)
]

pub any_none : {A : Type 0} (p : A → Bool) (xs : List A) → list_any p xs ≡ false → find p xs ≡ None
any_none {A = A} p xs none = go (find p xs) refl where
  go : (f : Option A) → find p xs ≡ f → f ≡ None
  go None is = refl
  go (Some x) is = absurd (false≢true (sym none ∙ found_any p xs x is))
