-- Which replies are due, and what was given for the call of one request.
use Rattle.std.proofs.Common.{◌≡◌, ◌⊎◌, inl, inr, ℕ, zero, suc, ◌<◌, List, [], ◌∷◌, ◌++◌, length, Option, None, Some, Result, Ok, Err, refl, sym, ap, ◌∙◌, arith}
use Rattle.std.specs.Prelude.{◌&&◌, ◌||◌, Bool, true, false, slice_get}
use Rattle.std.specs.List.{list_any}
use Rattle.std.proofs.lemmas.Bool.{both_ways}
use Rattle.ig_wire.specs.declared.head.Fault.{Fault}
use Rattle.ig_caches.specs.declared.call.Call.{Call}
use Rattle.ig_caches.specs.declared.request.Request.{Request}
use Rattle.ig_caches.specs.declared.request.Request.TheVariants.{Run, Scan, NextPage, Close}
use Rattle.ig_deals.specs.Asks.{Asked}
use Rattle.ig_deals.specs.Deals.{Got, Deal, call_for}
use Rattle.ig_session.specs.declared.awaited.Awaited.{Awaited}
use Rattle.ig_session.specs.Awaiting.{awaits_in, awaited_of, is_scan}
use Rattle.ig_session.specs.StepsAhead.{is_at_cursors, has_out}
use Rattle.ig_session.specs.StandsAhead.{out_next, out_after, out_among, is_due, IsDue}
use Rattle.ig_session.proofs.OutLemmas.{calls_among, out_with}

-- ---- truth values

pub neither : (a b : Bool) → (a || b) ≡ false → (a ≡ false) × (b ≡ false)
neither true b e = absurd cc
neither false b e = (refl, e)

pub first_false : (a b : Bool) → (a && b) ≡ false → b ≡ true → a ≡ false
first_false true b e is = absurd (both_ways b e is)
first_false false b e is = refl

pub none_out : (out : List Awaited) → has_out out ≡ false → out ≡ []
none_out [] e = refl
none_out (a ∷ out) e = absurd cc

-- ---- all replies are due where no call is out

next_due : (n : ℕ) (a : Asked) (c : Call) (got : Option Got) (l : List Awaited) → out_next n a got ++ l ≡ [] → (is_due (Some c) got ≡ true) × (l ≡ [])
next_due n a c None l e = absurd cc
next_due n a c (Some g) l e = (refl, e)

head_due : (n : ℕ) (deal : Deal) (c : Option Call) (later : ℕ → List Awaited) → out_after n deal c later ≡ [] → (is_due c deal.got ≡ true) × ((m : ℕ) × (later m ≡ []))
head_due n deal None later e = (refl, (n, e))
head_due n deal (Some c) later e = let both = next_due n deal.asked c deal.got (later (suc n)) e in (both.0, (suc n, both.1))

pub all_due : (n : ℕ) (deals : List Deal) (place : ℕ) → out_among n deals ≡ [] → place < length deals → IsDue (slice_get deals place)
all_due n [] place e less = absurd (omega (arith, less))
all_due n (deal ∷ deals) zero e less = (head_due n deal (call_for deal.asked.request) (λ k. out_among k deals) e).0
all_due n (deal ∷ deals) (suc p) e less =
    let later = (head_due n deal (call_for deal.asked.request) (λ k. out_among k deals) e).1 in all_due later.0 deals p later.1 (omega (arith, less))

-- a reply that is due among deals and a last one
pub due_push : (deals : List Deal) (deal : Deal) (place : ℕ) → IsDue (slice_get (deals ++ deal ∷ []) place) → IsDue (slice_get deals place) ⊎ ((place ≡ length deals) × IsDue (Some deal))
due_push [] deal zero due = inr (refl, due)
due_push [] deal (suc p) due = absurd due
due_push (first ∷ deals) deal zero due = inl due
due_push (first ∷ deals) deal (suc p) due = elim (due_push deals deal p due) [
  | inl before ↦ inl before
  | inr last ↦ inr (omega (arith, last.0), last.1)
]

-- ---- scans that are out

-- a request whose reply isn't due though it looks at cursors is a scan
is_scan_out : (request : Result Request Fault) (got : Option Got) → is_at_cursors request ≡ true → is_due (call_for request) got ≡ false → (is_scan (awaits_in request) ≡ true) × (got ≡ None)
is_scan_out (Ok (Run call)) got looks due = absurd cc
is_scan_out (Ok (Scan cache page)) None looks due = (refl, refl)
is_scan_out (Ok (Scan cache page)) (Some g) looks due = absurd cc
is_scan_out (Ok (NextPage cursor)) got looks due = absurd cc
is_scan_out (Ok (Close resource)) got looks due = absurd cc
is_scan_out (Err fault) got looks due = absurd cc

-- it has a call
not_due : (c : Option Call) (got : Option Got) → is_due c got ≡ false → (call : Call) × (c ≡ Some call)
not_due None got due = absurd cc
not_due (Some call) got due = (call, refl)

any_among : (test : Awaited → Bool) (first later : List Awaited) (a : Awaited) → test a ≡ true → list_any test (first ++ a ∷ later) ≡ true
any_among test [] later a is = ap (λ (b : Bool). b || list_any test later) is
any_among test (x ∷ first) later a is = ap (λ (b : Bool). test x || b) (any_among test first later a is) ∙ or_true (test x) where
  or_true : (b : Bool) → (b || true) ≡ true
  or_true true = refl
  or_true false = refl

-- where no scan is out, each request that looks at cursors has a reply that is due
pub no_scan_out : (out : List Awaited) (before after : List Deal) (deal : Deal) → list_any (λ (a : Awaited). is_scan a.awaits) out ≡ false → out ≡ out_among 0 (before ++ deal ∷ after)
    → is_at_cursors deal.asked.request ≡ true → is_due (call_for deal.asked.request) deal.got ≡ false → ⊥
no_scan_out out before after deal none is looks due =
    let scan = is_scan_out deal.asked.request deal.got looks due in
    let c = not_due (call_for deal.asked.request) deal.got due in
    let nth : ℕ = calls_among before in
    let held : out ≡ out_among 0 before ++ awaited_of nth deal.asked ∷ out_among (suc nth) after =
    is ∙ out_with before after deal.asked c.0 c.1 deal.got ∙ ap (λ (g : Option Got). out_among 0 before ++ (out_next nth deal.asked g ++ out_among (suc nth) after)) scan.1 in
    both_ways (list_any (λ (a : Awaited). is_scan a.awaits) out) none
    (ap (list_any (λ (a : Awaited). is_scan a.awaits)) held ∙ any_among (λ (a : Awaited). is_scan a.awaits) (out_among 0 before) (out_among (suc nth) after) (awaited_of nth deal.asked) scan.0)

-- ---- lists that end with one more

-- where an element of a list with one more at its end stands
pub at_last : {X : Type 0} (xs : List X) (x : X) (before after : List X) (y : X) → xs ++ x ∷ [] ≡ before ++ y ∷ after
    → ((before ≡ xs) × (y ≡ x) × (after ≡ [])) ⊎ ((between : List X) × (xs ≡ before ++ y ∷ between))
at_last {X} [] x [] after y e = let same : x ≡ y = cc in let none : [] ≡ after = cc in inl (refl, sym same, sym none)
at_last {X} [] x (b ∷ before) after y e = absurd (no_more before (tail_is e)) where
  tail_is : x ∷ [] ≡ b ∷ (before ++ y ∷ after) → [] ≡ before ++ y ∷ after
  tail_is e = cc

  no_more : (l : List X) → [] ≡ l ++ y ∷ after → ⊥
  no_more [] e = cc
  no_more (z ∷ l) e = cc
at_last {X} (z ∷ xs) x [] after y e = let same : z ≡ y = cc in inr (xs, ap (λ (h : X). h ∷ xs) same)
at_last {X} (z ∷ xs) x (b ∷ before) after y e =
    let same : z ≡ b = cc in
    let others : xs ++ x ∷ [] ≡ before ++ y ∷ after = cc in
    elim (at_last xs x before after y others) [
      | inl last ↦ inl (ap (λ (l : List X). b ∷ l) last.0 ∙ ap (λ (h : X). h ∷ xs) (sym same), last.1, last.2)
      | inr inside ↦ inr (inside.0, ap (λ (h : X). h ∷ xs) same ∙ ap (λ (l : List X). b ∷ l) inside.1)
    ]

-- where an element stands beside another one
pub data Beside {X : Type 0} (first later : List X) (x : X) (before after : List X) (y : X) : Type 0 where
  InFirst : (between : List X) → first ≡ before ++ y ∷ between → after ≡ between ++ x ∷ later → Beside first later x before after y
  Itself : y ≡ x → Beside first later x before after y
  InLater : (between : List X) → later ≡ between ++ y ∷ after → before ≡ first ++ x ∷ between → Beside first later x before after y

pub beside : {X : Type 0} (first later : List X) (x : X) (before after : List X) (y : X) → first ++ x ∷ later ≡ before ++ y ∷ after → Beside first later x before after y
beside {X} [] later x [] after y e = let same : x ≡ y = cc in Itself (sym same)
beside {X} [] later x (b ∷ before) after y e =
    let same : x ≡ b = cc in
    let others : later ≡ before ++ y ∷ after = cc in
    InLater before others (ap (λ (h : X). h ∷ before) (sym same))
beside {X} (z ∷ first) later x [] after y e =
    let same : z ≡ y = cc in
    let others : first ++ x ∷ later ≡ after = cc in
    InFirst first (ap (λ (h : X). h ∷ first) same) (sym others)
beside {X} (z ∷ first) later x (b ∷ before) after y e =
    let same : z ≡ b = cc in
    let others : first ++ x ∷ later ≡ before ++ y ∷ after = cc in
    elim (beside first later x before after y others) [
      | InFirst between is rest ↦ InFirst between (ap (λ (h : X). h ∷ first) same ∙ ap (λ (l : List X). b ∷ l) is) rest
      | Itself is ↦ Itself is
      | InLater between is rest ↦ InLater between is (ap (λ (l : List X). b ∷ l) rest ∙ ap (λ (h : X). h ∷ (first ++ x ∷ between)) (sym same))
    ]
