-- The entries of requests without a reply as the finite map that contracts see.
use Rattle.std.proofs.Common.{◌≡◌, ℤ, Bool, true, false, cond, List, [], ◌∷◌, ◌++◌, Option, Some, None, refl, sym, ap, subst, ◌∙◌}
use Rattle.std.specs.Prelude.{unwrap_or}
use Rattle.std.specs.Ordering.{int_cmp, eq_by_cmp}
use Rattle.std.specs.Cmp.{int_cmp_total, eq_by_cmp_equiv}
use Rattle.std.specs.BTreeMap.{is_at}
use Rattle.std.specs.Map.{lookup}
use Rattle.std.specs.FinMap.{FinMap, get, insert, remove, from_entries, get-remove, same_map}
use Rattle.std.proofs.lemmas.Map.Lookups.{exact_signed}
use Rattle.ig_types.proofs.MapLemmas.{inserted, get_entries}
use Rattle.ig_wire.specs.declared.operation.Operation.{Operation}
use Rattle.ig_capture.specs.Operations.{Operations, SplitsFirst}
use Rattle.ig_capture.specs.Requests.{Unanswered, with_request, taken_first, taken, TakesFirst}

abbrev Entries : Type 0
Entries = List (ℤ × Operations)

-- what a look-up finds
abbrev found : Entries → ℤ → Option Operations
found es q = lookup (is_at (int_cmp q)) es

-- these entries have this at the key, and else what the others have
abbrev pub Changes : Entries → Entries → ℤ → Option Operations → Type 0
Changes es fs id w = (q : ℤ) → found fs q ≡ cond (is_at (int_cmp id) q) w (found es q)

pub removed : (es fs : Entries) (id : ℤ) → Changes es fs id None → from_entries {R = int_cmp} fs ≡ remove (from_entries es) id
removed es fs id changes = same_map int_cmp_total exact_signed _ _ (λ q.
    get_entries int_cmp int_cmp_total fs q ∙ changes q
    ∙ ap (λ b. cond b None (found es q)) ((eq_by_cmp_equiv int_cmp_total).symm id q)
    ∙ sym (get-remove int_cmp_total (from_entries es) id q ∙ ap (cond (eq_by_cmp int_cmp q id) None) (get_entries int_cmp int_cmp_total es q)))

pub added : (es fs : Entries) (id : ℤ) (w : Operations) → Changes es fs id (Some w) → from_entries {R = int_cmp} fs ≡ insert (from_entries es) id w
added es fs id w changes = inserted int_cmp int_cmp_total exact_signed es fs id w changes

-- an entry that is changed and then put in again
changes_twice : (b : Bool) (v : Option Operations) (w : Operations) (o : Option Operations) → cond b (Some w) (cond b v o) ≡ cond b (Some w) o
changes_twice true v w o = refl
changes_twice false v w o = refl

pub changed_again : (es ds fs : Entries) (id : ℤ) (v : Option Operations) (w : Operations) → Changes es ds id v → Changes ds fs id (Some w) → Changes es fs id (Some w)
changed_again es ds fs id v w first again q = again q ∙ ap (cond (is_at (int_cmp id) q) (Some w)) (first q) ∙ changes_twice (is_at (int_cmp id) q) v w (found es q)

-- the operations of an identifier are put in
request_put : (us : Unanswered) (es fs : Entries) (id : ℤ) (operation : Option Operation) (w : Operations) → from_entries es ≡ us → Changes es fs id (Some w)
    → w ≡ unwrap_or (found es id) [] ++ operation ∷ [] → from_entries {R = int_cmp} fs ≡ with_request id operation us
request_put us es fs id operation w is put whole =
    added es fs id w put
    ∙ ap (insert (from_entries es) id) (whole ∙ ap (λ (o : Option Operations). unwrap_or o [] ++ operation ∷ []) (sym (get_entries int_cmp int_cmp_total es id)))
    ∙ ap (λ (m : Unanswered). insert m id (unwrap_or (get m id) [] ++ operation ∷ [])) is

-- the first request with its identifier
pub first_added : (us : Unanswered) (es fs : Entries) (id : ℤ) (operation : Option Operation) (only : Operations) → from_entries es ≡ us → None ≡ found es id
    → only ≡ operation ∷ [] → Changes es fs id (Some only) → from_entries {R = int_cmp} fs ≡ with_request id operation us
first_added us es fs id operation only is none one put =
    request_put us es fs id operation only is put (one ∙ ap (λ (o : Option Operations). unwrap_or o [] ++ operation ∷ []) none)

-- a request after those with its identifier
pub request_added : (us : Unanswered) (es ds fs : Entries) (id : ℤ) (operation : Option Operation) (only before w : Operations) → from_entries es ≡ us → Some before ≡ found es id
    → w ≡ before ++ operation ∷ [] → Changes es ds id (Some only) → Changes ds fs id (Some w) → from_entries {R = int_cmp} fs ≡ with_request id operation us
request_added us es ds fs id operation only before w is some more first again =
    request_put us es fs id operation w is (changed_again es ds fs id (Some only) w first again) (more ∙ ap (λ (o : Option Operations). unwrap_or o [] ++ operation ∷ []) some)

-- no request has the identifier
pub none_taken : (us : Unanswered) (es : Entries) (id : ℤ) → from_entries es ≡ us → None ≡ found es id → taken id us ≡ None
none_taken us es id is none =
    ap (taken_first id us) (ap (λ (m : Unanswered). get m id) (sym is) ∙ get_entries int_cmp int_cmp_total es id ∙ sym none)

-- the only one is taken away
pub only_taken : (us : Unanswered) (es ds : Entries) (id : ℤ) (first : Option Operation) (all : Operations) → from_entries es ≡ us → Some all ≡ found es id
    → all ≡ first ∷ [] → Changes es ds id None → taken id us ≡ Some (first, from_entries ds)
only_taken us es ds id first all is some only out =
    let here : get us id ≡ Some (first ∷ []) = ap (λ (m : Unanswered). get m id) (sym is) ∙ get_entries int_cmp int_cmp_total es id ∙ sym some ∙ ap Some only in
    ap (taken_first id us) here ∙ ap (λ (m : Unanswered). Some (first, m)) (ap (λ (m : Unanswered). remove m id) (sym is) ∙ sym (removed es ds id out))

-- the first of several is
pub first_taken : (us : Unanswered) (es ds fs : Entries) (id : ℤ) (first next : Option Operation) (later all others : Operations) → from_entries es ≡ us → Some all ≡ found es id
    → others ≡ next ∷ later → all ≡ first ∷ others → Changes es ds id None → Changes ds fs id (Some others) → taken id us ≡ Some (first, from_entries fs)
first_taken us es ds fs id first next later all others is some rest whole out in_again =
    let here : get us id ≡ Some (first ∷ (next ∷ later)) =
    ap (λ (m : Unanswered). get m id) (sym is) ∙ get_entries int_cmp int_cmp_total es id ∙ sym some ∙ ap Some whole ∙ ap (λ (o : Operations). Some (first ∷ o)) rest in
    ap (taken_first id us) here
    ∙ ap (λ (m : Unanswered). Some (first, m)) (ap (λ (m : Unanswered). insert m id (next ∷ later)) (sym is) ∙ ap (insert (from_entries es) id) (sym rest)
    ∙ sym (added es fs id others (changed_again es ds fs id None others out in_again)))

-- what isn't something is nothing
pub not_some : {A : Type 0} (o : Option A) → ((x : A) → o ≡ Some x → ⊥) → None ≡ o
not_some None never = refl
not_some (Some x) never = absurd (never x refl)
