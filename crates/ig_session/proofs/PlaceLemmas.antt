-- The order of replies, by the places of their requests.
use Rattle.std.proofs.Common.{◌≡◌, ◌⊎◌, inl, inr, ℕ, zero, suc, ◌<◌, List, [], ◌∷◌, ◌++◌, length, Option, Some, refl, sym, ap, ◌∙◌, subst, arith, append-nil, append_assoc}
use Rattle.std.specs.Prelude.{Contains, slice_get}
use Rattle.std.specs.List.{cons_option}
use Rattle.std.proofs.lemmas.List.Elements.{Contains-append_cases, Contains-append_right, Contains-push_cases, filter_map-append}
use Rattle.ig_deals.specs.Deals.{Deal}
use Rattle.ig_session.specs.StandsAhead.{IsDue, LooksAtCursors, ComesNext, IsOrderAfter, in_order}

-- ---- elements

module _ {X : Type 0} where
  pub at_end : (xs : List X) (x : X) (ys : List X) → slice_get (xs ++ x ∷ ys) (length xs) ≡ Some x
  at_end [] x ys = refl
  at_end (z ∷ xs) x ys = at_end xs x ys

  pub at_other : (xs : List X) (x y : X) (ys : List X) (place : ℕ) → (place ≡ length xs → ⊥) → slice_get (xs ++ x ∷ ys) place ≡ slice_get (xs ++ y ∷ ys) place
  at_other [] x y ys zero never = absurd (never refl)
  at_other [] x y ys (suc n) never = refl
  at_other (z ∷ xs) x y ys zero never = refl
  at_other (z ∷ xs) x y ys (suc n) never = at_other xs x y ys n (λ e. never (omega (arith, e)))

  pub at_first : (xs ys : List X) (place : ℕ) → place < length xs → slice_get (xs ++ ys) place ≡ slice_get xs place
  at_first [] ys place less = absurd (omega (arith, less))
  at_first (z ∷ xs) ys zero less = refl
  at_first (z ∷ xs) ys (suc n) less = at_first xs ys n (omega (arith, less))

-- ---- places

pub contains_none : (place : ℕ) → Contains [] place → ⊥
contains_none place c = omega (arith, c.1)

contains_first : (place : ℕ) (places : List ℕ) → Contains (place ∷ places) place
contains_first place places = (0, omega arith, refl)

contains_cases : (first : ℕ) (places : List ℕ) (place : ℕ) → Contains (first ∷ places) place → (first ≡ place) ⊎ Contains places place
contains_cases first places place c = elim (Contains-append_cases (first ∷ []) places place c) [
  | inl one ↦ elim (Contains-push_cases [] first place one) [
    | inl none ↦ absurd (contains_none place none)
    | inr same ↦ inl same
  ]
  | inr later ↦ inr later
]

-- a request with a reply that is due was read
pub due_within : (deals : List Deal) (place : ℕ) → IsDue (slice_get deals place) → place < length deals
due_within [] place due = absurd due
due_within (deal ∷ deals) zero due = omega arith
due_within (deal ∷ deals) (suc n) due = omega (arith, due_within deals n due)

-- ---- orders

-- each reply in the order is due
pub due_in : (deals : List Deal) (before order : List ℕ) (place : ℕ) → IsOrderAfter deals before order → Contains order place → IsDue (slice_get deals place)
due_in deals before [] place is c = absurd (contains_none place c)
due_in deals before (first ∷ order) place is c = elim (contains_cases first order place c) [
  | inl same ↦ subst (λ (p : ℕ). IsDue (slice_get deals p)) same is.0.due
  | inr later ↦ due_in deals (before ++ first ∷ []) order place is.1 later
]

-- one more comes after the others
pub order_more : (deals : List Deal) (before order : List ℕ) (place : ℕ) → IsOrderAfter deals before order → ComesNext deals (before ++ order) place → IsOrderAfter deals before (order ++ place ∷ [])
order_more deals before [] place is next = (subst (λ (l : List ℕ). ComesNext deals l place) (append-nil before) next, tt)
order_more deals before (first ∷ order) place is next =
    (is.0, order_more deals (before ++ first ∷ []) order place is.1 (subst (λ (l : List ℕ). ComesNext deals l place) (sym (append_assoc before (first ∷ []) order)) next))

-- the replies that are due still are, and their requests are the same
abbrev pub AreStillDue : List Deal → List Deal → Type 0
AreStillDue deals now =
    (place : ℕ) → IsDue (slice_get deals place) → IsDue (slice_get now place) × (LooksAtCursors (slice_get now place) → LooksAtCursors (slice_get deals place))

pub order_for : (deals now : List Deal) (before order : List ℕ) → AreStillDue deals now → IsOrderAfter deals before order → IsOrderAfter now before order
order_for deals now before [] same is = tt
order_for deals now before (first ∷ order) same is =
    let due = same first is.0.due in (
      record { due = due.0; once = is.0.once; behind = λ looks. is.0.behind (due.1 looks) },
      order_for deals now (before ++ first ∷ []) order same is.1,
    )

-- where only a deal that isn't due was changed, or one was added, they are
pub still_due : (deals now : List Deal) → ((place : ℕ) → IsDue (slice_get deals place) → slice_get now place ≡ slice_get deals place) → AreStillDue deals now
still_due deals now same place due = (
  subst IsDue (sym (same place due)) due,
  λ looks. subst LooksAtCursors (same place due) looks,
)

-- ---- frames in an order

pub in_order_same : (xs ys : List (List ℕ)) (order : List ℕ) → ((place : ℕ) → Contains order place → slice_get xs place ≡ slice_get ys place) → in_order xs order ≡ in_order ys order
in_order_same xs ys [] same = refl
in_order_same xs ys (first ∷ order) same =
    ap (λ (o : Option (List ℕ)). cons_option o (in_order xs order)) (same first (contains_first first order))
    ∙ ap (cons_option (slice_get ys first)) (in_order_same xs ys order (λ place c. same place (Contains-append_right (first ∷ []) order place c)))

pub in_order_more : (frames : List (List ℕ)) (order : List ℕ) (place : ℕ) (frame : List ℕ) → slice_get frames place ≡ Some frame
    → in_order frames (order ++ place ∷ []) ≡ in_order frames order ++ frame ∷ []
in_order_more frames order place frame at =
    filter_map-append (slice_get frames) order (place ∷ []) ∙ ap (λ (o : Option (List ℕ)). in_order frames order ++ cons_option o []) at
