-- What a call of std's map leaves of the calls that contracts see.
use Rattle.std.proofs.Common.{◌≡◌, cond, ℕ, ℤ, List, Option, None, Some, Result, Ok, Err, OnOk, OnErr, refl, sym, ap, ◌∙◌}
use Rattle.std.proofs.lemmas.Map.Lookups.{exact_signed}
use Rattle.std.specs.BTreeMap.{is_at}
use Rattle.std.specs.Map.{lookup}
use Rattle.std.specs.Ordering.{int_cmp}
use Rattle.std.specs.Cmp.{int_cmp_total, eq_by_cmp_equiv}
use Rattle.std.specs.FinMap.{get, insert, remove, get-remove, same_map}
use Rattle.ig_types.proofs.MapLemmas.{get_entries, inserted}
use Rattle.ig_client.specs.PendingState.{map_of}

-- what the map has at an identifier
pub found : (es : List (ℤ × Option (List ℕ))) (answer : Option (Option (List ℕ))) (key id : ℤ) → key ≡ id
    → answer ≡ lookup (is_at (int_cmp key)) es → answer ≡ get (map_of es) id
found es answer key id is at = at ∙ sym (get_entries int_cmp int_cmp_total es key) ∙ ap (get (map_of es)) is

-- entries with another value at one identifier alone
pub put_at : (es fs : List (ℤ × Option (List ℕ))) (key id : ℤ) (reply : Option (List ℕ)) → key ≡ id
    → ((q : ℤ) → lookup (is_at (int_cmp q)) fs ≡ cond (is_at (int_cmp key) q) (Some reply) (lookup (is_at (int_cmp q)) es))
    → map_of fs ≡ insert (map_of es) id reply
put_at es fs key id reply is updates =
    inserted int_cmp int_cmp_total exact_signed es fs key reply updates ∙ ap (λ k. insert (map_of es) k reply) is

-- entries without one identifier
pub removed_at : (es fs : List (ℤ × Option (List ℕ))) (key id : ℤ) → key ≡ id
    → ((q : ℤ) → lookup (is_at (int_cmp q)) fs ≡ cond (is_at (int_cmp key) q) None (lookup (is_at (int_cmp q)) es))
    → map_of fs ≡ remove (map_of es) id
removed_at es fs key id is updates =
    same_map int_cmp_total exact_signed (map_of fs) (remove (map_of es) key) (λ q.
    get_entries int_cmp int_cmp_total fs q ∙ updates q
    ∙ ap (λ b. cond b None (lookup (is_at (int_cmp q)) es)) ((eq_by_cmp_equiv int_cmp_total).symm key q)
    ∙ sym (get-remove int_cmp_total (map_of es) key q ∙ ap (cond (is_at (int_cmp q) key) None) (get_entries int_cmp int_cmp_total es q)))
    ∙ ap (remove (map_of es)) is

-- a call that waits is there
pub never_absent : (es : List (ℤ × Option (List ℕ))) (key id : ℤ) → key ≡ id → get (map_of es) id ≡ Some None → lookup (is_at (int_cmp key)) es ≡ None → ⊥
never_absent es key id is waits absent =
    let both : Some None ≡ None = sym waits ∙ sym (found es (lookup (is_at (int_cmp key)) es) key id is refl) ∙ absent in cc

-- what holds at each result that may come
pub settled : {X E : Type 0} (r : Result X E) (P Q : Type 0) → OnOk r P → OnErr r Q → (Q → ⊥) → P
settled (Ok x) P Q done refused never = done
settled (Err e) P Q done refused never = absurd (never refused)
