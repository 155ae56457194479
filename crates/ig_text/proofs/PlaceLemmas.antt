-- No reader goes back: what is left after a part, or where a part is wrong, is at most what was there.
use Rattle.std.proofs.Common.{◌≡◌, ℕ, zero, suc, ◌+◌, ◌-◌, ◌*◌, ◌/◌, ◌%◌, ◌^◌, ◌≤◌, Bool, true, false, cond, ◌&&◌, not, List, [], ◌∷◌, length, take, drop, Option, Some, None, Result, Ok, Err, eqb, ltb, leb, ℤ, pos, negsuc, codes, arith, length-drop}
use Rattle.std.specs.Char.{is_ascii_digit}
use Rattle.std.specs.Int.{w16, w32, w64, from_be_bytes}
use Rattle.std.specs.List.{prefix_len}
use Rattle.std.specs.Str.Parse.{digits_value}
use Rattle.ig_value.specs.declared.code.Code.TheVariants as code
use Rattle.ig_value.specs.declared.value.Value.{Value}
use Rattle.ig_value.specs.Part.{Scalar, i8, i16, i32, i64, u16, u32, u64, truth, Part, nothing, scalar, text, octets, uuid, stamp, decimal, value, object, both, counted, optional}
use Rattle.ig_value.specs.Table.{content, value_with}
use Rattle.ig_text.specs.declared.row.Row.{Row}
use Rattle.ig_text.specs.declared.row.Row.TheVariants.{Kind, CompactObject}
use Rattle.ig_text.specs.Tokens.{colon, comma, equals, minus, quote, backslash, letter_x, open_bracket, close_bracket, open_brace, close_brace, is_bare}
use Rattle.ig_text.specs.TextOf.{mark}
use Rattle.ig_text.specs.Words.{word, row_at}
use Rattle.ig_text.specs.ReadText.{Read, ◌>>=◌, mapped_read, checked_read, mark_at, begins_with, joined_at, is_plain, natural_of, natural_at, signed_at, is_hex, hex_value, pair_at, run_at, is_countable, octets_of, octets_at, truth_at, scalar_at, stamp_at, decimal_at, uuid_at, until_at, next_at, some_at, any_at, items_at, escape_at, char_at, is_text, quoted_at, bits_at, type_at, is_type, head_at, entry_at, named_object, named_at, compact_object, fields_at, compact_at, optional_at, swapped, alone, part_at, content_at, known_at, value_at, text_at}
use Rattle.ig_value.specs.Objects.{kept_flags}
use Rattle.ig_text.proofs.ReadsLemmas.{done}

-- at most n bytes are left
abbrev pub IsWithin : {A : Type 0} → ℕ → Read A → Type 0
IsWithin n (Ok z) = length z.1 ≤ n
IsWithin n (Err left) = left ≤ n

abbrev pub Advances : {A : Type 0} → (List ℕ → Read A) → Type 0
Advances R = (s : List ℕ) → IsWithin (length s) (R s)

abbrev wrong : {A : Type 0} → ℕ → Read A
wrong left = Err left

-- ---- tools

pub drop_within : (n : ℕ) (s : List ℕ) → length (drop n s) ≤ length s
drop_within n s = omega (arith, length-drop n s)

pub more_within : {A : Type 0} (m n : ℕ) (r : Read A) → m ≤ n → IsWithin m r → IsWithin n r
more_within m n (Ok z) le w = let v : length z.1 ≤ m = w in omega (arith, le, v)
more_within m n (Err left) le w = let v : left ≤ m = w in omega (arith, le, v)

pub then_within : {A B : Type 0} (n : ℕ) (r : Read A) (f : A × List ℕ → Read B) → IsWithin n r → ((z : A × List ℕ) → IsWithin (length z.1) (f z)) → IsWithin n (r >>= f)
then_within n (Ok z) f w next = more_within (length z.1) n (f z) w (next z)
then_within n (Err left) f w next = w

pub chosen_within : {A : Type 0} (b : Bool) (n : ℕ) (r q : Read A) → IsWithin n r → IsWithin n q → IsWithin n (cond b r q)
chosen_within true n r q one other = one
chosen_within false n r q one other = other

pub mapped_within : {A B : Type 0} (f : A → B) (n : ℕ) (r : Read A) → IsWithin n r → IsWithin n (mapped_read f r)
mapped_within f n (Ok z) w = w
mapped_within f n (Err left) w = w

checked_within : {A : Type 0} (test : A → Bool) (left n : ℕ) (r : Read A) → left ≤ n → IsWithin n r → IsWithin n (checked_read test left r)
checked_within test left n (Ok z) le w = chosen_within (test z.0) n (done z) (wrong left) w le
checked_within test left n (Err other) le w = w

pub here : (n : ℕ) → n ≤ n
here n = omega arith

pub below : (n : ℕ) → n ≤ suc n
below n = omega arith

far_below : (n : ℕ) → n ≤ suc (suc n)
far_below n = omega arith

pub checked_advances : {A : Type 0} (test : A → Bool) (R : List ℕ → Read A) → Advances R → Advances (λ s. checked_read test (length s) (R s))
checked_advances test R p s = checked_within test (length s) (length s) (R s) (here (length s)) (p s)

pub mark_advances : (b : ℕ) → Advances (mark_at b)
mark_advances b [] = here 0
mark_advances b (c ∷ s) = chosen_within {A = Unit {0}} (eqb c b) (suc (length s)) (done (tt, s)) (wrong (suc (length s))) (below (length s)) (here (suc (length s)))

-- a mark, and then something else
pub marked_advances : {A : Type 0} (b : ℕ) (R : List ℕ → Read A) → Advances R → Advances (λ s. mark_at b s >>= λ m. R m.1)
marked_advances b R p s = then_within (length s) (mark_at b s) (λ m. R m.1) (mark_advances b s) (λ m. p m.1)

pub joined_advances : {A B : Type 0} (R : List ℕ → Read A) (b : ℕ) (Q : List ℕ → Read B) → Advances R → Advances Q → Advances (joined_at R b Q)
joined_advances R b Q p q s =
    then_within (length s) (R s) (λ x. mark_at b x.1 >>= λ m. Q m.1 >>= λ y. done ((x.0, y.0), y.1)) (p s)
    (λ x. then_within (length x.1) (mark_at b x.1) (λ m. Q m.1 >>= λ y. done ((x.0, y.0), y.1)) (mark_advances b x.1)
    (λ m. then_within (length m.1) (Q m.1) (λ y. done ((x.0, y.0), y.1)) (q m.1) (λ y. here (length y.1))))

-- ---- numbers

pub natural_advances : Advances natural_at
natural_advances s =
    let n : ℕ = prefix_len is_ascii_digit s in
    chosen_within {A = ℕ} (is_plain (take n s)) (length s) (done (digits_value 10 (take n s), drop n s)) (wrong (length s)) (drop_within n s) (here (length s))

signed_advances : (limit : ℕ) → Advances (signed_at limit)
signed_advances limit [] = here 0
signed_advances limit (b ∷ s) =
    let n : ℕ = suc (length s) in
    let below : IsWithin n (natural_at s) = more_within (length s) n (natural_at s) (below (length s)) (natural_advances s) in
    let low = checked_within (λ m. ltb 0 m && leb m limit) n n (natural_at s) (here n) below in
    let high = checked_within (λ m. ltb m limit) n n (natural_at (b ∷ s)) (here n) (natural_advances (b ∷ s)) in
    chosen_within {A = ℤ} (eqb b minus) n (mapped_read (λ m. negsuc (m - 1)) (checked_read (λ m. ltb 0 m && leb m limit) n (natural_at s))) (mapped_read pos (checked_read (λ m. ltb m limit) n (natural_at (b ∷ s))))
    (mapped_within (λ m. negsuc (m - 1)) n (checked_read (λ m. ltb 0 m && leb m limit) n (natural_at s)) low) (mapped_within pos n (checked_read (λ m. ltb m limit) n (natural_at (b ∷ s))) high)

-- ---- bytes in hex

pair_advances : (upper : Bool) → Advances (pair_at upper)
pair_advances upper [] = here 0
pair_advances upper (a ∷ []) = here 1
pair_advances upper (a ∷ b ∷ s) =
    let n : ℕ = suc (suc (length s)) in
    chosen_within {A = ℕ} (is_hex upper a && is_hex upper b) n (done (hex_value upper a * 16 + hex_value upper b, s)) (wrong n) (far_below (length s)) (here n)

run_advances : (upper : Bool) (n : ℕ) → Advances (run_at upper n)
run_advances upper zero s = here (length s)
run_advances upper (suc n) s =
    then_within (length s) (pair_at upper s) (λ x. run_at upper n x.1 >>= λ xs. done (x.0 ∷ xs.0, xs.1)) (pair_advances upper s)
    (λ x. then_within (length x.1) (run_at upper n x.1) (λ xs. done (x.0 ∷ xs.0, xs.1)) (run_advances upper n x.1) (λ xs. here (length xs.1)))

octets_advances : Advances octets_at
octets_advances s =
    let n : ℕ = prefix_len (is_hex true) s in
    let read : Read (List ℕ) = run_at true (n / 2) s in
    chosen_within {A = List ℕ} (eqb (n % 2) 0) (length s) (checked_read is_countable (length s) read) (wrong (length s)) (checked_within is_countable (length s) (length s) read (here (length s)) (run_advances true (n / 2) s)) (here (length s))

-- ---- numbers and truth values

truth_advances : Advances truth_at
truth_advances s =
    chosen_within {A = Bool} (begins_with (codes "true") s) (length s) (done (true, drop 4 s)) (cond (begins_with (codes "false") s) (done (false, drop 5 s)) (wrong (length s))) (drop_within 4 s)
    (chosen_within {A = Bool} (begins_with (codes "false") s) (length s) (done (false, drop 5 s)) (wrong (length s)) (drop_within 5 s) (here (length s)))

pub scalar_advances : (k : Scalar) → Advances (scalar_at k)
scalar_advances i8 s = signed_advances (2 ^ 7) s
scalar_advances i16 s = signed_advances (2 ^ 15) s
scalar_advances i32 s = signed_advances (2 ^ 31) s
scalar_advances i64 s = signed_advances (2 ^ 63) s
scalar_advances u16 s = mapped_within (from_be_bytes w16) (length s) (run_at true 2 s) (run_advances true 2 s)
scalar_advances u32 s = mapped_within (from_be_bytes w32) (length s) (run_at true 4 s) (run_advances true 4 s)
scalar_advances u64 s = mapped_within (from_be_bytes w64) (length s) (run_at true 8 s) (run_advances true 8 s)
scalar_advances truth s = truth_advances s

stamp_advances : Advances stamp_at
stamp_advances s = mapped_within _ (length s) (joined_at (scalar_at i64) colon (scalar_at i32) s) (joined_advances (scalar_at i64) colon (scalar_at i32) (scalar_advances i64) (scalar_advances i32) s)

decimal_advances : Advances decimal_at
decimal_advances s = mapped_within _ (length s) (joined_at (scalar_at i32) colon octets_at s) (joined_advances (scalar_at i32) colon octets_at (scalar_advances i32) octets_advances s)

uuid_advances : Advances uuid_at
uuid_advances s =
    let last = joined_advances (run_at false 2) minus (run_at false 6) (run_advances false 2) (run_advances false 6) in
    let three = joined_advances (run_at false 2) minus (joined_at (run_at false 2) minus (run_at false 6)) (run_advances false 2) last in
    let four = joined_advances (run_at false 2) minus (joined_at (run_at false 2) minus (joined_at (run_at false 2) minus (run_at false 6))) (run_advances false 2) three in
    mapped_within _ (length s) (joined_at (run_at false 4) minus (joined_at (run_at false 2) minus (joined_at (run_at false 2) minus (joined_at (run_at false 2) minus (run_at false 6)))) s)
    (joined_advances (run_at false 4) minus (joined_at (run_at false 2) minus (joined_at (run_at false 2) minus (joined_at (run_at false 2) minus (run_at false 6)))) (run_advances false 4) four s)

-- ---- lists

until_advances : {A : Type 0} (R : List ℕ → Read A) (close n : ℕ) → Advances R → Advances (until_at R close n)
until_advances R close zero p s = here (length s)
until_advances R close (suc n) p [] = here 0
until_advances {A} R close (suc n) p (b ∷ s) =
    chosen_within {A = List A} (eqb b close) (suc (length s)) (done ([], s)) (R (b ∷ s) >>= λ x. until_at R close n x.1 >>= λ xs. done (x.0 ∷ xs.0, xs.1)) (below (length s))
    (then_within (suc (length s)) (R (b ∷ s)) (λ x. until_at R close n x.1 >>= λ xs. done (x.0 ∷ xs.0, xs.1)) (p (b ∷ s))
    (λ x. then_within (length x.1) (until_at R close n x.1) (λ xs. done (x.0 ∷ xs.0, xs.1)) (until_advances R close n p x.1) (λ xs. here (length xs.1))))

some_advances : {A : Type 0} (R : List ℕ → Read A) (close : ℕ) → Advances R → Advances (some_at R close)
some_advances R close p s =
    then_within (length s) (R s) (λ x. until_at (next_at R) close (length x.1) x.1 >>= λ xs. done (x.0 ∷ xs.0, xs.1)) (p s)
    (λ x. then_within (length x.1) (until_at (next_at R) close (length x.1) x.1) (λ xs. done (x.0 ∷ xs.0, xs.1)) (until_advances (next_at R) close (length x.1) (marked_advances comma R p) x.1) (λ xs. here (length xs.1)))

any_advances : {A : Type 0} (R : List ℕ → Read A) (close : ℕ) → Advances R → Advances (any_at R close)
any_advances R close p [] = some_advances R close p []
any_advances {A} R close p (b ∷ s) = chosen_within {A = List A} (eqb b close) (suc (length s)) (done ([], s)) (some_at R close (b ∷ s)) (below (length s)) (some_advances R close p (b ∷ s))

pub items_advances : {A : Type 0} (R : List ℕ → Read A) (close : ℕ) → Advances R → Advances (items_at R close)
items_advances R close p = checked_advances is_countable (any_at R close) (any_advances R close p)

-- ---- quoted texts

escape_advances : Advances escape_at
escape_advances = checked_advances (λ b. not (is_bare b)) (λ s. mark_at letter_x s >>= λ m. pair_at true m.1) (marked_advances letter_x (pair_at true) (pair_advances true))

char_advances : Advances char_at
char_advances [] = here 0
char_advances (b ∷ s) =
    let n : ℕ = suc (length s) in
    chosen_within {A = ℕ} (is_bare b) n (done (b, s)) (cond (eqb b backslash) (escape_at s) (wrong n)) (below (length s))
    (chosen_within {A = ℕ} (eqb b backslash) n (escape_at s) (wrong n) (more_within (length s) n (escape_at s) (below (length s)) (escape_advances s)) (here n))

pub quoted_advances : Advances quoted_at
quoted_advances =
    checked_advances is_text (λ s. mark_at quote s >>= λ m. until_at char_at quote (length m.1) m.1)
    (marked_advances quote (λ s. until_at char_at quote (length s) s) (λ s. until_advances char_at quote (length s) char_advances s))

-- ---- objects

head_advances : Advances head_at
head_advances =
    joined_advances bits_at colon type_at (checked_advances (λ n. ltb n (2 ^ 16) && eqb (kept_flags n) n) natural_at natural_advances) (checked_advances is_type (scalar_at i32) (scalar_advances i32))

entry_advances : {X : Type 0} (R : List ℕ → Read X) → Advances R → Advances (entry_at R)
entry_advances R p = joined_advances (scalar_at i32) equals R (scalar_advances i32) p

named_advances : {X : Type 0} (R : List ℕ → Read X) → Advances R → Advances (named_at R)
named_advances R p s =
    mapped_within named_object (length s) (joined_at head_at open_brace (items_at (entry_at R) close_brace) s)
    (joined_advances head_at open_brace (items_at (entry_at R) close_brace) head_advances (items_advances (entry_at R) close_brace (entry_advances R p)) s)

compact_advances : {X : Type 0} (R : List ℕ → Read X) → Advances R → Advances (compact_at R)
compact_advances {X} R p s =
    let fields = checked_advances {A = List X} (λ xs. ltb 0 (length xs)) (items_at R close_brace) (items_advances R close_brace p) in
    let rest = joined_advances (scalar_at i32) open_brace (fields_at R) (scalar_advances i32) fields in
    mapped_within compact_object (length s) (joined_at head_at colon (joined_at (scalar_at i32) open_brace (fields_at R)) s) (joined_advances head_at colon (joined_at (scalar_at i32) open_brace (fields_at R)) head_advances rest s)

-- ---- parts

pub optional_advances : {A : Type 0} (R : List ℕ → Read A) → Advances R → Advances (optional_at R)
optional_advances {A} R p s =
    chosen_within {A = Option A} (begins_with (codes "null") s) (length s) (done (None, drop 4 s)) (mapped_read Some (R s)) (drop_within 4 s) (mapped_within Some (length s) (R s) (p s))

part_advances : {X : Type 0} (R : List ℕ → Read X) → Advances R → (p : Part) → Advances (part_at R p)
part_advances R i nothing s = here (length s)
part_advances R i (scalar k) s = scalar_advances k s
part_advances R i text s = quoted_advances s
part_advances R i octets s = octets_advances s
part_advances R i uuid s = uuid_advances s
part_advances R i stamp s = stamp_advances s
part_advances R i decimal s = decimal_advances s
part_advances R i value s = i s
part_advances R i object s = named_advances R i s
part_advances R i (both octets q) s = mapped_within swapped (length s) (joined_at (part_at R q) colon octets_at s) (joined_advances (part_at R q) colon octets_at (part_advances R i q) octets_advances s)
part_advances R i (both p q) s = joined_advances (part_at R p) (mark q) (part_at R q) (part_advances R i p) (part_advances R i q) s
part_advances R i (counted nothing q) s = mapped_within alone (length s) (items_at (part_at R q) close_bracket s) (items_advances (part_at R q) close_bracket (part_advances R i q) s)
part_advances R i (counted p q) s = joined_advances (part_at R p) open_bracket (items_at (part_at R q) close_bracket) (part_advances R i p) (items_advances (part_at R q) close_bracket (part_advances R i q)) s
part_advances R i (optional c p) s = optional_advances (part_at R p) (part_advances R i p) s

-- ---- values

content_advances : (R : List ℕ → Read Value) → Advances R → (r : Row) → Advances (content_at R r)
content_advances R i (Kind c) s = mapped_within (value_with c) (length s) (part_at R (content c) s) (part_advances R i (content c) s)
content_advances R i CompactObject s = mapped_within (value_with code.Object) (length s) (compact_at R s) (compact_advances R i s)

known_within : (R : List ℕ → Read Value) → Advances R → (s : List ℕ) (o : Option Row) → IsWithin (length s) (known_at R s o)
known_within R i s None = here (length s)
known_within R i s (Some r) =
    let t : List ℕ = drop (length (word r)) s in
    more_within (length t) (length s) (content_at R r t) (drop_within (length (word r)) s) (content_advances R i r t)

pub value_advances : (levels : ℕ) → Advances (value_at levels)
value_advances zero s = here (length s)
value_advances (suc levels) s = known_within (value_at levels) (value_advances levels) s (row_at s)

pub text_advances : Advances text_at
unfolding text_at
text_advances s = value_advances 32 s
