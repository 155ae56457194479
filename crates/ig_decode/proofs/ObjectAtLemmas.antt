-- An object's header and footer: what the checks say of reading the object.
use Rattle.std.proofs.Common.{◌≡◌, ℕ, suc, ◌+◌, ◌-◌, ◌*◌, ◌/◌, ◌%◌, ◌<◌, ◌≤◌, ℤ, pos, Bool, true, false, cond, List, [], ◌∷◌, ◌++◌, length, take, drop, Option, Some, None, Ok, Err, refl, sym, ap, subst, ◌∙◌, append_assoc, arith, length-drop}
use Rattle.std.specs.Int.{Width, byte_len, w32, cast_signed, from_le_bytes}
use Rattle.std.proofs.lemmas.List.{append-nil, drop-drop}
use Rattle.ig_base.specs.Headers.{header_of}
use Rattle.ig_base.specs.declared.header.Header.{Header}
use Rattle.ig_base.specs.declared.header.Footer.{Footer}
use Rattle.ig_value.specs.declared.Cause.{Cause}
use Rattle.ig_value.specs.declared.Cause.TheVariants as cause
use Rattle.ig_value.specs.declared.Value.{Value}
use Rattle.ig_value.specs.Objects.{Check, checks, first_wrong, object_ids, ids_of, refusal}
use Rattle.ig_value.specs.Reading.{Fault, Read, headed_at, checked_at, object_at}
use Rattle.ig_value.proofs.LaidLemmas.{more_entries}
use Rattle.ig_decode.specs.FooterForms.{entry_bytes}
use Rattle.ig_decode.specs.ObjectAnswers.{StopsBeforeFields, head_checks, footer_checks, footer_ids}

-- ---- the checks in their order

first_by : (b : Bool) (f : Fault) (r : Option Fault) → cond b (Some f) r ≡ None → (b ≡ false) × (r ≡ None)
first_by true f r e = absurd cc
first_by false f r e = (refl, e)

pass_all : (a b : List Check) → first_wrong a ≡ None → first_wrong (a ++ b) ≡ first_wrong b
pass_all [] b e = refl
pass_all (c ∷ a) b e =
    let first = first_by c.holds (c.at, c.why) (first_wrong a) e in
    ap (λ (h : Bool). cond h (Some (c.at, c.why)) (first_wrong (a ++ b))) first.0 ∙ pass_all a b first.1

stop_by : (b : Bool) (f g : Fault) (r t : Option Fault) → (r ≡ Some g → t ≡ Some g) → cond b (Some f) r ≡ Some g → cond b (Some f) t ≡ Some g
stop_by true f g r t later e = e
stop_by false f g r t later e = later e

stop_one : (a b : List Check) (g : Fault) → first_wrong a ≡ Some g → first_wrong (a ++ b) ≡ Some g
stop_one [] b g e = absurd cc
stop_one (c ∷ a) b g e = stop_by c.holds (c.at, c.why) g (first_wrong a) (first_wrong (a ++ b)) (λ h. stop_one a b g h) e

-- the check of the schema's identifier
abbrev pub schema_check : Header → ℕ → List ℤ → List Check
schema_check header n ids = drop 8 (checks header n ids)

in_parts : (header : Header) (n : ℕ) (ids : List ℤ) → checks header n ids ≡ head_checks header n ++ (footer_checks header n ++ schema_check header n ids)
in_parts header n ids = refl

pub head_wrong : (header : Header) (n : ℕ) (at : ℕ) (c : Cause) → first_wrong (head_checks header n) ≡ Some (at, c) → (ids : List ℤ) → first_wrong (checks header n ids) ≡ Some (at, c)
head_wrong header n at c e ids = ap first_wrong (in_parts header n ids) ∙ stop_one (head_checks header n) (footer_checks header n ++ schema_check header n ids) (at, c) e

pub foot_wrong : (header : Header) (n : ℕ) (at : ℕ) (c : Cause) → first_wrong (head_checks header n) ≡ None → first_wrong (footer_checks header n) ≡ Some (at, c) → (ids : List ℤ) → first_wrong (checks header n ids) ≡ Some (at, c)
foot_wrong header n at c right e ids =
    ap first_wrong (in_parts header n ids) ∙ pass_all (head_checks header n) (footer_checks header n ++ schema_check header n ids) right
    ∙ stop_one (footer_checks header n) (schema_check header n ids) (at, c) e

pub schema_left : (header : Header) (n : ℕ) (ids : List ℤ) → first_wrong (head_checks header n) ≡ None → first_wrong (footer_checks header n) ≡ None → first_wrong (checks header n ids) ≡ first_wrong (schema_check header n ids)
schema_left header n ids head foot =
    ap first_wrong (in_parts header n ids) ∙ pass_all (head_checks header n) (footer_checks header n ++ schema_check header n ids) head
    ∙ pass_all (footer_checks header n) (schema_check header n ids) foot

-- ---- where an object stops before its fields

pub no_header : (s : List ℕ) → header_of s ≡ None → (inner : List ℕ → Read Value) → object_at inner s ≡ Err (length s, cause.Short)
unfolding object_at
no_header s e inner = ap (headed_at inner s) e

pub checks_wrong : (s : List ℕ) (header : Header) (at : ℕ) (c : Cause) → header_of s ≡ Some header → first_wrong (checks header (length s) (object_ids header s)) ≡ Some (at, c) → (inner : List ℕ → Read Value) → object_at inner s ≡ Err (length s - at, c)
unfolding object_at refusal
checks_wrong s header at c e wrong inner = ap (headed_at inner s) e ∙ ap (checked_at inner header s) wrong

-- ---- the identifiers in a footer

pub one_id : (ids : List ℤ) (entry left left' : ℕ) (entries more : List ℕ) (id : ℤ) (total : List ℤ) → left ≡ suc left' → id ≡ cast_signed w32 (from_le_bytes w32 (take 4 entries)) → more ≡ drop entry entries → ids ++ ids_of entry left entries ≡ total →
    (ids ++ id ∷ []) ++ ids_of entry left' more ≡ total
one_id ids entry left left' entries more id total k is after so_far =
    append_assoc ids (id ∷ []) (ids_of entry left' more) ∙ (rw (is, after) (rw k at so_far))

pub rest_of_parts : (bytes : List ℕ) (a b : ℕ) → 24 ≤ a → a ≤ b → drop (b - a) (drop (a - 24) (drop 24 bytes)) ≡ drop b bytes
rest_of_parts bytes a b le more =
    ap (drop (b - a)) (drop-drop (a - 24) 24 bytes) ∙ drop-drop (b - a) (24 + (a - 24)) bytes ∙ ap (λ (n : ℕ). drop n bytes) (let n : 24 + (a - 24) + (b - a) ≡ b = omega (arith, le, more) in n)

-- there is room for the entries that are left after one
pub room_left : (entry left left' : ℕ) (entries more : List ℕ) → left ≡ suc left' → more ≡ drop entry entries → left * entry ≤ length entries → left' * entry ≤ length more
room_left entry left left' entries more k is there =
    let all : left' * entry + entry ≤ length entries = omega (arith, rw k at there, more_entries left' entry) in
    omega (arith, all, ap length is, length-drop entry entries)

pub room_for_one : (entry left left' : ℕ) (entries : List ℕ) → left ≡ suc left' → left * entry ≤ length entries → entry ≤ length entries
room_for_one entry left left' entries k there = omega (arith, rw k at there, more_entries left' entry)
