-- Reading the fields of an object, one after the other, as a loop does.
use Rattle.std.proofs.Common.{◌≡◌, ◌≢◌, ℕ, zero, suc, ◌+◌, ◌-◌, ◌*◌, ◌≤◌, List, [], ◌∷◌, ◌++◌, length, take, drop, Result, Ok, Err, refl, sym, ap, subst, ◌∙◌, append_assoc, arith, eq-eqb, length-drop}
use Rattle.std.specs.Int.{Width, byte_len, from_le_bytes}
use Rattle.std.proofs.lemmas.Bool.{ne_eqb}
use Rattle.std.proofs.lemmas.List.{append-nil}
use Rattle.ig_value.specs.declared.Cause.{Cause}
use Rattle.ig_value.specs.declared.Cause.TheVariants as cause
use Rattle.ig_value.specs.declared.Value.{Value}
use Rattle.ig_value.specs.Objects.{offsets_of, last_of}
use Rattle.ig_value.specs.Reading.{Fault, Read, ◌>>=◌, turned, laid_at}
use Rattle.ig_decode.specs.declared.fault.ReadError.{ReadError}
use Rattle.ig_decode.specs.declared.fault.ReadError.TheVariants as error
use Rattle.ig_decode.specs.ReaderAnswers.{Fails, followed}

-- the fields that were read before, and those that are still read
abbrev pub with_fields : List Value → Result (List Value) Fault → Result (List Value) Fault
with_fields front read = read >>= λ xs. Ok (front ++ xs)

regroup : (front : List Value) (x : Value) (read : Result (List Value) Fault) → with_fields front (read >>= λ xs. Ok (x ∷ xs)) ≡ with_fields (front ++ x ∷ []) read
regroup front x (Ok xs) = ap (λ (l : List Value). Ok l) (simp append_assoc)
regroup front x (Err f) = refl

same_fields : (read : Result (List Value) Fault) → with_fields [] read ≡ read
same_fields (Ok xs) = refl
same_fields (Err f) = refl

-- ---- the last offset

pub next_last : (w : Width) (key n n' : ℕ) (entries more : List ℕ) (last offset total : ℕ) → n ≡ suc n' → offset ≡ from_le_bytes w (take (byte_len w) (drop key entries)) → more ≡ drop (key + byte_len w) entries →
    last_of (last ∷ offsets_of w key n entries) ≡ total → last_of (offset ∷ offsets_of w key n' more) ≡ total
next_last w key n n' entries more last offset total k is after so_far = rw (is, after) (rw k at so_far)

pub all_last : (w : Width) (key n : ℕ) (entries : List ℕ) (last total : ℕ) → n ≡ 0 → last_of (last ∷ offsets_of w key n entries) ≡ total → last ≡ total
all_last w key n entries last total k so_far = rw k at so_far

pub first_last : (offsets : List ℕ) → last_of (0 ∷ offsets) ≡ last_of offsets
first_last [] = refl
first_last (offset ∷ offsets) = refl

-- ---- the fields

module _ (inner : List ℕ → Read Value) (w : Width) (key : ℕ) (fields footer : List ℕ) where
  -- the place of the first offset in these entries at the footer's end
  abbrev pub place_in : List ℕ → ℕ
  place_in entries = 24 + length fields + key + (length footer - length entries)

  -- reading what is left of the fields
  abbrev pub fields_left : ℕ → List ℕ → List ℕ → Result (List Value) Fault
  fields_left n entries rest = laid_at inner (key + byte_len w) (place_in entries) (24 + length fields) (offsets_of w key n entries) rest

  here : (offset : ℕ) (d o end : ℕ) (offsets s : List ℕ) → offset ≡ end - length s → laid_at inner d o end (offset ∷ offsets) s ≡ (turned end (inner s) >>= λ x. laid_at inner d (o + d) end offsets x.1 >>= λ xs. Ok (x.0 ∷ xs))
  here offset d o end offsets s is = rw (eq-eqb offset (end - length s) is) refl

  elsewhere : (offset : ℕ) (d o end : ℕ) (offsets s : List ℕ) → offset ≢ end - length s → laid_at inner d o end (offset ∷ offsets) s ≡ Err (o, cause.Offset)
  elsewhere offset d o end offsets s other = rw (ne_eqb offset (end - length s) other) refl

  -- the first of the offsets that are left
  taken : (n n' : ℕ) (entries more rest : List ℕ) (offset : ℕ) → n ≡ suc n' → offset ≡ from_le_bytes w (take (byte_len w) (drop key entries)) → more ≡ drop (key + byte_len w) entries →
      fields_left n entries rest ≡ laid_at inner (key + byte_len w) (place_in entries) (24 + length fields) (offset ∷ offsets_of w key n' more) rest
  taken n n' entries more rest offset k is after = rw (k, is, after) refl

  pub one_field : (front : List Value) (n n' : ℕ) (entries more rest : List ℕ) (offset : ℕ) (x : Value) (after : List ℕ) (total : Result (List Value) Fault) → n ≡ suc n' → offset ≡ from_le_bytes w (take (byte_len w) (drop key entries)) →
      more ≡ drop (key + byte_len w) entries → key + byte_len w ≤ length entries → length entries ≤ length footer → offset ≡ 24 + length fields - length rest → inner rest ≡ Ok (x, after) →
      with_fields front (fields_left n entries rest) ≡ total → with_fields (front ++ x ∷ []) (fields_left n' more after) ≡ total
  one_field front n n' entries more rest offset x after total k is later room within right read so_far =
      let d : ℕ = key + byte_len w in
      let place : place_in entries + d ≡ place_in more = omega (arith, ap length later, length-drop (key + byte_len w) entries, room, within) in
      let one : fields_left n entries rest ≡ (laid_at inner d (place_in entries + d) (24 + length fields) (offsets_of w key n' more) after >>= λ xs. Ok (x ∷ xs)) =
      taken n n' entries more rest offset k is later ∙ here offset d (place_in entries) (24 + length fields) (offsets_of w key n' more) rest right ∙ rw read refl in
      let moved : (laid_at inner d (place_in entries + d) (24 + length fields) (offsets_of w key n' more) after >>= λ xs. Ok (x ∷ xs)) ≡ (fields_left n' more after >>= λ xs. Ok (x ∷ xs)) =
      ap (λ (o : ℕ). laid_at inner d o (24 + length fields) (offsets_of w key n' more) after >>= λ xs. Ok (x ∷ xs)) place in
      sym (ap (with_fields front) (one ∙ moved) ∙ regroup front x (fields_left n' more after)) ∙ so_far

  pub misplaced : (front : List Value) (n n' : ℕ) (entries more rest : List ℕ) (offset : ℕ) (total : Result (List Value) Fault) → n ≡ suc n' → offset ≡ from_le_bytes w (take (byte_len w) (drop key entries)) → more ≡ drop (key + byte_len w) entries →
      offset ≢ 24 + length fields - length rest → with_fields front (fields_left n entries rest) ≡ total → total ≡ Err (place_in entries, cause.Offset)
  misplaced front n n' entries more rest offset total k is later other so_far =
      sym so_far ∙ ap (with_fields front) (taken n n' entries more rest offset k is later ∙ elsewhere offset (key + byte_len w) (place_in entries) (24 + length fields) (offsets_of w key n' more) rest other)

  pub field_stops : (front : List Value) (n n' : ℕ) (entries more rest : List ℕ) (offset : ℕ) (left : ℕ) (c : Cause) (total : Result (List Value) Fault) → n ≡ suc n' → offset ≡ from_le_bytes w (take (byte_len w) (drop key entries)) →
      more ≡ drop (key + byte_len w) entries → offset ≡ 24 + length fields - length rest → inner rest ≡ Err (left, c) → with_fields front (fields_left n entries rest) ≡ total → total ≡ Err (24 + length fields - left, c)
  field_stops front n n' entries more rest offset left c total k is later right read so_far =
      let stops : (turned (24 + length fields) (inner rest) >>= λ x. laid_at inner (key + byte_len w) (place_in entries + (key + byte_len w)) (24 + length fields) (offsets_of w key n' more) x.1 >>= λ xs. Ok (x.0 ∷ xs)) ≡ Err (24 + length fields - left, c) = rw read refl in
      sym so_far ∙ ap (with_fields front) (taken n n' entries more rest offset k is later ∙ here offset (key + byte_len w) (place_in entries) (24 + length fields) (offsets_of w key n' more) rest right ∙ stops)

  pub field_fails : (e : ReadError) (front : List Value) (n n' : ℕ) (entries more rest : List ℕ) (offset after : ℕ) (total : Result (List Value) Fault) → n ≡ suc n' → offset ≡ from_le_bytes w (take (byte_len w) (drop key entries)) →
      more ≡ drop (key + byte_len w) entries → offset ≡ 24 + length fields - length rest → Fails e (inner rest) → ((left : ℕ) (c : Cause) → inner rest ≡ Err (left, c) → left ≤ length fields) → with_fields front (fields_left n entries rest) ≡ total →
      Fails (followed (length footer + after) e) (turned (24 + length fields + length footer + after) total)
  field_fails error.NoMemory front n n' entries more rest offset after total k is later right read bound so_far = tt
  field_fails (error.Fault left c) front n n' entries more rest offset after total k is later right read bound so_far =
      let stops = field_stops front n n' entries more rest offset left c total k is later right read so_far in
      let place : 24 + length fields + length footer + after - (24 + length fields - left) ≡ left + (length footer + after) = omega (arith, bound left c read) in
      ap (turned (24 + length fields + length footer + after)) stops ∙ ap (λ (m : ℕ). Err (m, c)) place

  pub misplaced_at : (front : List Value) (n n' : ℕ) (entries more rest : List ℕ) (offset after : ℕ) (total : Result (List Value) Fault) → n ≡ suc n' → offset ≡ from_le_bytes w (take (byte_len w) (drop key entries)) → more ≡ drop (key + byte_len w) entries →
      key + byte_len w ≤ length entries → length entries ≤ length footer → offset ≢ 24 + length fields - length rest → with_fields front (fields_left n entries rest) ≡ total →
      turned (24 + length fields + length footer + after) total ≡ Err (length entries - key + after, cause.Offset)
  misplaced_at front n n' entries more rest offset after total k is later room within other so_far =
      let stops = misplaced front n n' entries more rest offset total k is later other so_far in
      let place : 24 + length fields + length footer + after - place_in entries ≡ length entries - key + after = omega (arith, room, within) in
      ap (turned (24 + length fields + length footer + after)) stops ∙ ap (λ (m : ℕ). Err (m, cause.Offset)) place

  pub left_over : (front : List Value) (n : ℕ) (entries rest : List ℕ) (after : ℕ) (total : Result (List Value) Fault) → n ≡ 0 → rest ≢ [] → with_fields front (fields_left n entries rest) ≡ total →
      turned (24 + length fields + length footer + after) total ≡ Err (4 + length fields + length footer + after, cause.Offset)
  left_over front n entries [] after total k more so_far = absurd (more refl)
  left_over front n entries (b ∷ rest) after total k more so_far =
      let stops : total ≡ Err (20, cause.Offset) = sym so_far ∙ rw k refl in
      let place : 24 + length fields + length footer + after - 20 ≡ 4 + length fields + length footer + after = omega arith in
      ap (turned (24 + length fields + length footer + after)) stops ∙ ap (λ (m : ℕ). Err (m, cause.Offset)) place

  pub all_fields : (front : List Value) (n : ℕ) (entries rest : List ℕ) (m : ℕ) (total : Result (List Value) Fault) → n ≡ 0 → rest ≡ [] → with_fields front (fields_left n entries rest) ≡ total → turned m total ≡ Ok front
  all_fields front n entries rest m total k nil so_far =
      let all : with_fields front (fields_left n entries rest) ≡ Ok front = rw (k, nil) (ap (λ (l : List Value). Ok l) (append-nil front)) in
      ap (turned m) (sym so_far ∙ all)

  -- before the first
  pub no_field : (n : ℕ) → with_fields [] (fields_left n footer fields) ≡ laid_at inner (key + byte_len w) (24 + length fields + key) (24 + length fields) (offsets_of w key n footer) fields
  no_field n =
      let place : place_in footer ≡ 24 + length fields + key = omega arith in
      same_fields (fields_left n footer fields) ∙ ap (λ (o : ℕ). laid_at inner (key + byte_len w) o (24 + length fields) (offsets_of w key n footer) fields) place
