-- What the fields of a request ask, by what reading them gave.
use Rattle.std.proofs.Common.{◌≡◌, ℕ, ◌≤◌, Bool, false, List, [], ◌∷◌, length, Option, None, Some, Result, Ok, Err, refl, ap, subst, ◌∙◌}
use Rattle.std.specs.Prelude.{◌||◌}
use Rattle.std.proofs.Math.Bool.{or_assoc}
use Rattle.std.specs.List.{list_any, flat_map}
use Rattle.std.specs.Option.{option_and_then}
use Rattle.ig_base.specs.Numbers.{AreBytes}
use Rattle.ig_wire.specs.declared.Operation.{Operation}
use Rattle.ig_wire.specs.declared.AskFault.{AskFault}
use Rattle.ig_wire.specs.declared.Profile.{Profile}
use Rattle.ig_caches.specs.declared.call.Pair.{Pair}
use Rattle.ig_caches.specs.declared.call.Call.{Call}
use Rattle.ig_caches.specs.declared.request.Request.{Request}
use Rattle.ig_caches.specs.declared.request.Request.TheVariants.{Run}
use Rattle.ig_fields.specs.Format.{Fields}
use Rattle.ig_fields.specs.ReadingFields.{is_null, message_of}
use Rattle.ig_fields.specs.Ask.{Ask}
use Rattle.ig_fields.specs.AsksRightly.{AsksRightly, fields_after, served, asked_fields, asked}
use Rattle.ig_fields.specs.AskAnswers.{AnswersAs, placed_in}
use Rattle.ig_fields.proofs.AskLemmas.{answer_is_right}
use Rattle.ig_ops.specs.Requests.{null_refused, pair_values, ask_of}

served_as : {A : Type 0} (request : A) (profile : Option Profile) → AnswersAs (served request profile) (served request profile)
served_as request None = refl
served_as request (Some p) = refl

module _ {A : Type 0} (ask : Ask A) (body : List ℕ) where
  asks : (r : Result (Fields ask.format) ℕ) (x : Fields ask.format) → placed_in body r ≡ Ok x → asked_fields ask body r ≡ served (ask.request x) (ask.profile x)
  asks (Ok y) x e =
      let same : y ≡ x = cc in
      ap (λ (z : Fields ask.format). served (ask.request z) (ask.profile z)) same
  asks (Err left) x e = absurd cc

  -- the fields read, and the answer is what they ask
  pub read_served : (x : Fields ask.format) (answer : Result A AskFault) → placed_in body (message_of ask.format (fields_after body)) ≡ Ok x → answer ≡ served (ask.request x) (ask.profile x) → AnswersAs (asked (Some ask) body) answer
  read_served x answer e is =
      rw (asks (message_of ask.format (fields_after body)) x e, is) (served_as (ask.request x) (ask.profile x))

-- the call that was made is run, unless one of its values is null
pub run_is : (answer : Result Request AskFault) (made call : Call) (null expected : Bool) → answer ≡ served (Run made) (null_refused null) → made ≡ call → null ≡ expected → answer ≡ served (Run call) (null_refused expected)
run_is answer made call null expected is same nulls = is ∙ ap (λ (k : Call). served (Run k) (null_refused null)) same ∙ ap (λ (b : Bool). served (Run call) (null_refused b)) nulls

-- ---- keys with their values

abbrev pub is_null_pair : Pair → Bool
is_null_pair pair = list_any is_null (pair_values pair)

pub any_pair : (pairs : List Pair) → list_any is_null_pair pairs ≡ list_any is_null (flat_map pair_values pairs)
any_pair [] = refl
any_pair (p ∷ ps) =
    ap (λ (b : Bool). is_null_pair p || b) (any_pair ps)
    ∙ or_assoc (is_null p.key) (is_null p.value || false) (list_any is_null (flat_map pair_values ps))
    ∙ ap (λ (b : Bool). is_null p.key || b) (or_assoc (is_null p.value) false (list_any is_null (flat_map pair_values ps)))

-- ---- the row of an operation

-- what reading by the operation gives is right
pub read_right : (o : Option Operation) (operation : Operation) (body : List ℕ) (answer : Result Request AskFault) → Some operation ≡ o → AreBytes body → 10 ≤ length body → AnswersAs (asked (ask_of operation) body) answer → AsksRightly (option_and_then ask_of o) body answer
read_right o operation body answer e bytes le h = subst (λ (p : Option Operation). AsksRightly (option_and_then ask_of p) body answer) e (answer_is_right (ask_of operation) body answer bytes le h)
