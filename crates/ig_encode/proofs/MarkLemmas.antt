-- Paths of marks.
use Rattle.std.proofs.Common.{◌≡◌, ℕ, ℤ, suc, zero, ◌+◌, ◌-◌, ◌*◌, ◌≤◌, ◌<◌, List, [], ◌∷◌, ◌++◌, pos, length, map, take, drop, refl, sym, ap, subst, ◌∙◌, arith, append_assoc, length-append, length-take, length-take-le, drop_of_length-le, get_or, set, ◌/◌, ◌%◌, Option, Some, None, IfSome}
use Rattle.std.specs.Prelude.{slice_get, MatchOption}
use Rattle.std.specs.Int.{w8, w32, byte_len}
use Rattle.std.specs.List.{flat_map}
use Rattle.std.proofs.lemmas.List.{take-append-drop, append-nil, take_all, take-take, length-drop}
use Rattle.std.proofs.Math.Nat.{mul-le-mul_right}
use Rattle.std.proofs.lemmas.Slice.{take-put_mid}
use borrow.Rule.Slice.PartMut.{put_mid}
use Rattle.ig_encode.specs.declared.window.Window.{Window}
use Rattle.ig_encode.specs.WindowOutput.{window_after, filled_longer, filled_before, beside}
use Rattle.ig_encode.proofs.OutputLemmas.{two}
use Rattle.std.proofs.lemmas.Grind.{flat_map-append}
use Rattle.ig_base.specs.Numbers.{LE}
use Rattle.ig_base.specs.Headers.{header_bytes}
use Rattle.ig_value.specs.declared.value.Value.{Value, out-Value}
use Rattle.ig_value.specs.declared.object.Record.{Record}
use Rattle.ig_value.specs.declared.object.Shape.{Shape}
use Rattle.ig_value.specs.Objects.{last_of}
use Rattle.ig_encode.specs.declared.span.OffsetWidth.{OffsetWidth}
use Rattle.ig_encode.specs.declared.span.OffsetWidth.TheVariants.{One, Two, Four}
use Rattle.ig_value.specs.declared.code.Code.TheVariants as code
use Rattle.ig_value.specs.declared.value.Value.TheVariants as value
use Rattle.ig_value.specs.declared.value.Value.TheOpen.{Value-F}
use Rattle.ig_value.specs.declared.code.Code.{Code}
use Rattle.ig_value.specs.Part.{Part, nothing, object, counted, optional, array, Content}
use Rattle.ig_value.specs.Table.{byte_of, content, parts, value_with}
use Rattle.ig_value.specs.Canon.{part_bytes, layer_bytes, Canon}
use Rattle.ig_value.specs.Limits.{children}
use Rattle.ig_value.proofs.FoldLemmas.{Canon_out}
use Rattle.ig_value.proofs.RowLemmas.{Row, built}
use Rattle.ig_encode.specs.declared.mark.Step.{Step}
use Rattle.ig_encode.specs.declared.items.Reached.{Reached}
use Rattle.ig_encode.specs.ListBytes.{array_bytes, pair_bytes}
use Rattle.ig_encode.specs.Spans.{type_of, least_width, field_offsets, key_size, entry_size, canonical_header, field_footer, least_footer, least_entries}
use Rattle.ig_encode.specs.Marks.{head_size, head_len, inner_values, inner_end, IsStepTo, IsStep, IsStepIn, IsItemStep, entries_in, IsEntryStep, IsTailStep, IsTailPath, IsPath, first_of, tail_with, tail_bytes, paired_values}
use Rattle.ig_encode.proofs.CanonLemmas.{Canon_row}
use Rattle.ig_encode.proofs.SpanLemmas.{object_split, header_len, no_footer}
use Rattle.ig_encode.proofs.ExtentLemmas.{footer_size}

-- ---- the canonical form, cut between two values inside

-- a prefix of this length, the values inside from the index on, and what stands after them
pub record IsCutAt (whole : List ℕ) (head : ℕ) (inside : List Value) (tail : List ℕ) (i : ℕ) : Type 0 where
  pub prefix : List ℕ
  pub size : length prefix ≡ head + length (flat_map Canon (take i inside))
  pub is : whole ≡ prefix ++ (flat_map Canon (drop i inside) ++ tail)

flat_cut : {A : Type 0} (bytes : A → List ℕ) (xs : List A) (i : ℕ) → flat_map bytes xs ≡ flat_map bytes (take i xs) ++ flat_map bytes (drop i xs)
flat_cut bytes xs i = ap (flat_map bytes) (sym (take-append-drop i xs)) ∙ flat_map-append bytes (take i xs) (drop i xs)

-- values that stand after a head
cut_list : (head : List ℕ) (n : ℕ) (xs : List Value) (tail : List ℕ) (whole : List ℕ) (i : ℕ) → length head ≡ n → whole ≡ head ++ (flat_map Canon xs ++ tail) → IsCutAt whole n xs tail i
cut_list head n xs tail whole i len is =
    let front = flat_map Canon (take i xs) in
    let back = flat_map Canon (drop i xs) in
    record {
      prefix = head ++ front;
      size = length-append head front ∙ ap (λ (m : ℕ). m + length front) len;
      is = is ∙ ap (λ (l : List ℕ). head ++ (l ++ tail)) (flat_cut Canon xs i) ∙ ap (λ (l : List ℕ). head ++ l) (append_assoc front back tail) ∙ sym (append_assoc head front (back ++ tail));
    }

paired_flat : (ps : List (Value × Value)) → flat_map pair_bytes ps ≡ flat_map Canon (paired_values ps)
paired_flat [] = refl
paired_flat (p ∷ ps) = ap (λ (l : List ℕ). (Canon p.0 ++ Canon p.1) ++ l) (paired_flat ps) ∙ append_assoc (Canon p.0) (Canon p.1) (flat_map Canon (paired_values ps))

six : (byte : ℕ) (n : ℕ) (kind : ℤ) → length (byte ∷ (LE w32 (pos n) ++ LE w8 kind)) ≡ 6
unfolding LE
six byte n kind = refl

nine : (byte : ℕ) (type : ℤ) (n : ℕ) → length (byte ∷ (LE w32 type ++ (LE w32 (pos n) ++ []))) ≡ 9
unfolding LE
nine byte type n = refl

leaf_cut : (whole : List ℕ) (i : ℕ) → i ≤ 0 → IsCutAt whole 0 [] whole i
leaf_cut whole zero le = record { prefix = []; size = refl; is = refl }
leaf_cut whole (suc i) le = absurd (omega (arith, le))

cut_open : (whole : List ℕ) (x : Value-F Value) (i : ℕ) → whole ≡ layer_bytes Canon x → i ≤ length (children x) → IsCutAt whole (head_size (parts x).0) (children x) (tail_with whole x) i
cut_open whole (Value-F.Objects type xs) i is le =
    let head : List ℕ = 23 ∷ (LE w32 type ++ (LE w32 (pos (length xs)) ++ [])) in
    cut_list head 9 xs [] whole i (nine 23 type (length xs)) (is ∙ ap (λ (l : List ℕ). 23 ∷ l) (sym (append_assoc (LE w32 type) (LE w32 (pos (length xs)) ++ []) (flat_map Canon xs ++ []) ∙ ap (λ (l : List ℕ). LE w32 type ++ l) (append_assoc (LE w32 (pos (length xs))) [] (flat_map Canon xs ++ []) ∙ ap (λ (l : List ℕ). LE w32 (pos (length xs)) ++ l) (append-nil (flat_map Canon xs))))))
cut_open whole (Value-F.Enums type xs) i is le =
    let head : List ℕ = 29 ∷ (LE w32 type ++ (LE w32 (pos (length xs)) ++ [])) in
    cut_list head 9 xs [] whole i (nine 29 type (length xs)) (is ∙ ap (λ (l : List ℕ). 29 ∷ l) (sym (append_assoc (LE w32 type) (LE w32 (pos (length xs)) ++ []) (flat_map Canon xs ++ []) ∙ ap (λ (l : List ℕ). LE w32 type ++ l) (append_assoc (LE w32 (pos (length xs))) [] (flat_map Canon xs ++ []) ∙ ap (λ (l : List ℕ). LE w32 (pos (length xs)) ++ l) (append-nil (flat_map Canon xs))))))
cut_open whole (Value-F.Collection kind xs) i is le =
    let head : List ℕ = 24 ∷ (LE w32 (pos (length xs)) ++ LE w8 kind) in
    cut_list head 6 xs [] whole i (six 24 (length xs) kind) (is ∙ ap (λ (l : List ℕ). 24 ∷ l) (sym (append_assoc (LE w32 (pos (length xs))) (LE w8 kind) (flat_map Canon xs ++ []) ∙ ap (λ (l : List ℕ). LE w32 (pos (length xs)) ++ (LE w8 kind ++ l)) (append-nil (flat_map Canon xs)))))
cut_open whole (Value-F.Map kind ps) i is le =
    let head : List ℕ = 25 ∷ (LE w32 (pos (length ps)) ++ LE w8 kind) in
    let xs = paired_values ps in
    cut_list head 6 xs [] whole i (six 25 (length ps) kind)
    (is ∙ ap (λ (l : List ℕ). 25 ∷ (LE w32 (pos (length ps)) ++ (LE w8 kind ++ l))) (paired_flat ps) ∙ ap (λ (l : List ℕ). 25 ∷ l) (sym (append_assoc (LE w32 (pos (length ps))) (LE w8 kind) (flat_map Canon xs ++ []) ∙ ap (λ (l : List ℕ). LE w32 (pos (length ps)) ++ (LE w8 kind ++ l)) (append-nil (flat_map Canon xs)))))
cut_open whole (Value-F.Object o) i is le =
    let h = canonical_header o.bits o.type_id o.shape (map Canon o.fields) in
    let head : List ℕ = 103 ∷ header_bytes h in
    cut_list head 24 o.fields (least_footer o.shape o.fields) whole i (ap suc (header_len h)) (is ∙ ap (λ (l : List ℕ). 103 ∷ l) (object_split o.bits o.type_id o.shape o.fields))
cut_open whole _ i is le = leaf_cut whole i le

pub cut_at : (v : Value) (i : ℕ) → i ≤ length (inner_values v) → IsCutAt (Canon v) (head_len v) (inner_values v) (tail_bytes v) i
cut_at v i le = cut_open (Canon v) (out-Value v) i (Canon_out v) le

-- ---- the code and the content of a value

row_at : (P : Row → Type 0) (v : Value) (c : Code) (x : Content Value (content c)) → v ≡ value_with c x → P (parts (out-Value v)) → P (c, x)
row_at P v c x e h = subst P (ap (λ (w : Value). parts (out-Value w)) e ∙ built c x) h

row_of : (P : Row → Type 0) (v : Value) (c : Code) (x : Content Value (content c)) → v ≡ value_with c x → P (c, x) → P (parts (out-Value v))
row_of P v c x e h = subst P (sym (ap (λ (w : Value). parts (out-Value w)) e ∙ built c x)) h

-- ---- paths

later_match : (P Q : Value → Type 0) (A B : Type 0) → (A → B) → ((child : Value) → P child → Q child) → (o : Option Value) → MatchOption o A P → MatchOption o B Q
later_match P Q A B f g None h = f h
later_match P Q A B f g (Some child) h = g child h

later_step : {A : Type 0} (bytes : A → List ℕ) (head : ℕ) (items : List A) (m n : ℕ) (s : Step) → m ≤ n → IsStepTo bytes head items m s → IsStepTo bytes head items n s
later_step bytes head items m n s le h = record { within = h.within; there = h.there; reached = omega (arith, h.reached, le) }

later_in : (p : Part) (x : Content Value p) (m n : ℕ) (s : Step) → m ≤ n → IsStepIn p x m s → IsStepIn p x n s
later_in (counted nothing (optional c p)) x m n s le h = later_step (part_bytes Canon (optional c p)) 5 x.1 m n s le h
later_in _ x m n s le h = absurd h

later_tail_step : (v : Value) (p : Part) (x : Content Value p) (end m n : ℕ) (s : Step) → m ≤ n → IsTailStep v p x end m s → IsTailStep v p x end n s
later_tail_step v object x end m n s le h = record { field = later_step Canon (head_len v) (inner_values v) m n s le h.field; reached = omega (arith, h.reached, le) }
later_tail_step v p x end m n s le h = later_in p x m n s le h

later_tail : (v : Value) (end m n : ℕ) (steps : List Step) → m ≤ n → IsTailPath v end m steps → IsTailPath v end n steps
later_tail v end m n [] le h = tt
later_tail v end m n (s ∷ steps) le h = later_tail_step v (content (parts (out-Value v)).0) (parts (out-Value v)).1 end m n s le h

-- a path goes towards each offset after
pub path_later : (v : Value) (m n : ℕ) (steps : List Step) → m ≤ n → IsPath v m steps → IsPath v n steps
path_later v m n [] le h = tt
path_later v m n (s ∷ steps) le h = (
  later_step Canon (head_len v) (inner_values v) m n s le h.0,
  later_match (λ child. IsPath child (m - s.before) steps) (λ child. IsPath child (n - s.before) steps) (IsTailPath v s.before m steps) (IsTailPath v s.before n steps) (later_tail v s.before m n steps le) (λ child is. path_later child (m - s.before) (n - s.before) steps (omega (arith, le)) is) (slice_get (inner_values v) s.index) h.1,
)

-- ---- the values inside, by the kind of value

pub inner_objects : (v : Value) (type : ℤ) (xs : List Value) → v ≡ value.Objects type xs → (inner_values v ≡ xs) × (tail_bytes v ≡ [])
inner_objects v type xs e = (ap (λ (w : Value). children (out-Value w)) e ∙ ap children (value.outs-Objects type xs), ap (λ (w : Value). tail_with (Canon v) (out-Value w)) e ∙ ap (tail_with (Canon v)) (value.outs-Objects type xs))

pub inner_enums : (v : Value) (type : ℤ) (xs : List Value) → v ≡ value.Enums type xs → (inner_values v ≡ xs) × (tail_bytes v ≡ [])
inner_enums v type xs e = (ap (λ (w : Value). children (out-Value w)) e ∙ ap children (value.outs-Enums type xs), ap (λ (w : Value). tail_with (Canon v) (out-Value w)) e ∙ ap (tail_with (Canon v)) (value.outs-Enums type xs))

pub inner_collection : (v : Value) (kind : ℤ) (xs : List Value) → v ≡ value.Collection kind xs → (inner_values v ≡ xs) × (tail_bytes v ≡ [])
inner_collection v kind xs e = (ap (λ (w : Value). children (out-Value w)) e ∙ ap children (value.outs-Collection kind xs), ap (λ (w : Value). tail_with (Canon v) (out-Value w)) e ∙ ap (tail_with (Canon v)) (value.outs-Collection kind xs))

pub inner_map : (v : Value) (kind : ℤ) (ps : List (Value × Value)) → v ≡ value.Map kind ps → (inner_values v ≡ paired_values ps) × (tail_bytes v ≡ [])
inner_map v kind ps e = (ap (λ (w : Value). children (out-Value w)) e ∙ ap children (value.outs-Map kind ps), ap (λ (w : Value). tail_with (Canon v) (out-Value w)) e ∙ ap (tail_with (Canon v)) (value.outs-Map kind ps))

pub inner_object : (v : Value) (o : Record Value) → v ≡ value.Object o → (inner_values v ≡ o.fields) × (tail_bytes v ≡ least_footer o.shape o.fields)
inner_object v o e = (ap (λ (w : Value). children (out-Value w)) e ∙ ap children (value.outs-Object o), ap (λ (w : Value). tail_with (Canon v) (out-Value w)) e ∙ ap (tail_with (Canon v)) (value.outs-Object o))

-- ---- pairs

pub get_within : {A : Type 0} (xs : List A) (i : ℕ) (d : A) → i < length xs → d ≡ get_or xs i d → slice_get xs i ≡ Some d
get_within [] i d lt e = absurd (omega (arith, lt))
get_within (x ∷ xs) zero d lt e = ap Some (sym e)
get_within (x ∷ xs) (suc i) d lt e = get_within xs i d (omega (arith, lt)) e

pub get_past : {A : Type 0} (xs : List A) (i : ℕ) → length xs ≤ i → slice_get xs i ≡ None
get_past [] zero le = refl
get_past [] (suc i) le = refl
get_past (x ∷ xs) zero le = absurd (omega (arith, le))
get_past (x ∷ xs) (suc i) le = get_past xs i (omega (arith, le))

pub paired_len : (ps : List (Value × Value)) → length (paired_values ps) ≡ length ps + length ps
paired_len [] = refl
paired_len (p ∷ ps) = ap (λ (n : ℕ). suc (suc n)) (paired_len ps) ∙ (let e : suc (suc (length ps + length ps)) ≡ suc (length ps) + suc (length ps) = omega arith in e)

get_even : (ps : List (Value × Value)) (k : ℕ) (p : Value × Value) → slice_get ps k ≡ Some p → (slice_get (paired_values ps) (k + k) ≡ Some p.0) × (slice_get (paired_values ps) (suc (k + k)) ≡ Some p.1)
get_even [] zero p e = absurd cc
get_even [] (suc k) p e = absurd cc
get_even (q ∷ ps) zero p e = (ap (first_half q) e, ap (second_half q) e) where
  first_half : Value × Value → Option (Value × Value) → Option Value
  first_half q None = None
  first_half q (Some p) = Some p.0

  second_half : Value × Value → Option (Value × Value) → Option Value
  second_half q None = None
  second_half q (Some p) = Some p.1
get_even (q ∷ ps) (suc k) p e =
    let twice : suc k + suc k ≡ suc (suc (k + k)) = omega arith in
    let more = get_even ps k p e in
    (ap (slice_get (paired_values (q ∷ ps))) twice ∙ more.0, ap (λ (n : ℕ). slice_get (paired_values (q ∷ ps)) (suc n)) twice ∙ more.1)

pub get_key : (ps : List (Value × Value)) (i : ℕ) (p : Value × Value) → i / 2 < length ps → p ≡ get_or ps (i / 2) p → i % 2 ≡ 0 → slice_get (paired_values ps) i ≡ Some p.0
get_key ps i p lt item even =
    let is : i ≡ i / 2 + i / 2 = omega (arith, even) in
    ap (slice_get (paired_values ps)) is ∙ (get_even ps (i / 2) p (get_within ps (i / 2) p lt item)).0

pub get_value : (ps : List (Value × Value)) (i : ℕ) (p : Value × Value) → i / 2 < length ps → p ≡ get_or ps (i / 2) p → (i % 2 ≡ 0 → ⊥) → slice_get (paired_values ps) i ≡ Some p.1
get_value ps i p lt item odd =
    let is : i ≡ suc (i / 2 + i / 2) = omega (arith, odd) in
    ap (slice_get (paired_values ps)) is ∙ (get_even ps (i / 2) p (get_within ps (i / 2) p lt item)).1

pub get_no_pair : (ps : List (Value × Value)) (i : ℕ) → length ps ≤ i / 2 → slice_get (paired_values ps) i ≡ None
get_no_pair ps i le = get_past (paired_values ps) i (omega (arith, paired_len ps, le))

drop_even : (ps : List (Value × Value)) (k : ℕ) → drop (k + k) (paired_values ps) ≡ paired_values (drop k ps)
drop_even ps zero = refl
drop_even [] (suc k) = let twice : suc k + suc k ≡ suc (suc (k + k)) = omega arith in ap (λ (n : ℕ). drop n (paired_values [])) twice
drop_even (p ∷ ps) (suc k) = let twice : suc k + suc k ≡ suc (suc (k + k)) = omega arith in ap (λ (n : ℕ). drop n (paired_values (p ∷ ps))) twice ∙ drop_even ps k

pub drop_keys : (ps : List (Value × Value)) (i : ℕ) → i % 2 ≡ 0 → flat_map Canon (drop i (paired_values ps)) ≡ flat_map pair_bytes (drop (i / 2) ps)
drop_keys ps i even =
    let is : i ≡ i / 2 + i / 2 = omega (arith, even) in
    ap (λ (n : ℕ). flat_map Canon (drop n (paired_values ps))) is ∙ ap (flat_map Canon) (drop_even ps (i / 2)) ∙ sym (paired_flat (drop (i / 2) ps))

drop_odd : (ps : List (Value × Value)) (k : ℕ) (p : Value × Value) → k < length ps → p ≡ get_or ps k p → drop (suc (k + k)) (paired_values ps) ≡ p.1 ∷ paired_values (drop (suc k) ps)
drop_odd [] k p lt item = absurd (omega (arith, lt))
drop_odd (q ∷ ps) zero p lt item = ap (λ (r : Value × Value). r.1 ∷ paired_values ps) (sym item)
drop_odd (q ∷ ps) (suc k) p lt item = let twice : suc (suc k + suc k) ≡ suc (suc (suc (k + k))) = omega arith in ap (λ (n : ℕ). drop n (paired_values (q ∷ ps))) twice ∙ drop_odd ps k p (omega (arith, lt)) item

pub drop_values : (ps : List (Value × Value)) (i : ℕ) (p : Value × Value) → i / 2 < length ps → p ≡ get_or ps (i / 2) p → (i % 2 ≡ 0 → ⊥) → flat_map Canon (drop i (paired_values ps)) ≡ Canon p.1 ++ flat_map pair_bytes (drop (i / 2 + 1) ps)
drop_values ps i p lt item odd =
    let is : i ≡ suc (i / 2 + i / 2) = omega (arith, odd) in
    ap (λ (n : ℕ). flat_map Canon (drop n (paired_values ps))) is ∙ ap (flat_map Canon) (drop_odd ps (i / 2) p lt item)
    ∙ ap (λ (l : List ℕ). Canon p.1 ++ l) (sym (paired_flat (drop (suc (i / 2)) ps)) ∙ ap (λ (n : ℕ). flat_map pair_bytes (drop n ps)) (let e : suc (i / 2) ≡ i / 2 + 1 = omega arith in e))

pub drop_no_pair : (ps : List (Value × Value)) (i : ℕ) → length ps ≤ i / 2 → flat_map Canon (drop i (paired_values ps)) ≡ []
drop_no_pair ps i le = ap (flat_map Canon) (drop_of_length-le (paired_values ps) (omega (arith, paired_len ps, le)))

-- what stands from an index on, where nothing stands after the values inside
pub after_index : (v : Value) (xs : List Value) (i : ℕ) → (inner_values v ≡ xs) × (tail_bytes v ≡ []) → flat_map Canon (drop i xs) ≡ flat_map Canon (drop i (inner_values v)) ++ tail_bytes v
after_index v xs i e =
    sym (append-nil (flat_map Canon (drop i xs))) ∙ ap (λ (l : List Value). flat_map Canon (drop i l) ++ []) (sym e.0) ∙ ap (λ (l : List ℕ). flat_map Canon (drop i (inner_values v)) ++ l) (sym e.1)

-- the rest of a slice
pub rest_all : {A : Type 0} (xs : List A) (i : ℕ) → take (length xs - i) (drop i xs) ≡ drop i xs
rest_all xs i = take_all (length xs - i) (drop i xs) (omega (arith, length-drop i xs))

pub object_after : (v : Value) (o : Record Value) (xs : List Value) (i : ℕ) → xs ≡ o.fields → v ≡ value.Object o → flat_map Canon (drop i xs) ++ least_footer o.shape xs ≡ flat_map Canon (drop i (inner_values v)) ++ tail_bytes v
object_after v o xs i same is =
    let inner = inner_object v o is in
    ap (λ (l : List Value). flat_map Canon (drop i l) ++ least_footer o.shape l) same ∙ ap (λ (l : List Value). flat_map Canon (drop i l) ++ least_footer o.shape o.fields) (sym inner.0) ∙ ap (λ (l : List ℕ). flat_map Canon (drop i (inner_values v)) ++ l) (sym inner.1)

-- ---- items of lists

inside : {A : Type 0} (y x : A) → Some y ≡ Some x → y ≡ x
inside {A} y x e = ap (unwrapped y) e where
  unwrapped : A → Option A → A
  unwrapped d None = d
  unwrapped d (Some z) = z

get_lt : {A : Type 0} (xs : List A) (i : ℕ) (x : A) → slice_get xs i ≡ Some x → i < length xs
get_lt [] zero x e = absurd cc
get_lt [] (suc i) x e = absurd cc
get_lt (y ∷ xs) zero x e = omega arith
get_lt (y ∷ xs) (suc i) x e = omega (arith, get_lt xs i x e)

get_none : {A : Type 0} (xs : List A) (i : ℕ) → slice_get xs i ≡ None → length xs ≤ i
get_none [] i e = omega arith
get_none (x ∷ xs) zero e = absurd cc
get_none (x ∷ xs) (suc i) e = omega (arith, get_none xs i e)

drop_get : {A : Type 0} (xs : List A) (i : ℕ) (x : A) → slice_get xs i ≡ Some x → drop i xs ≡ x ∷ drop (suc i) xs
drop_get [] zero x e = absurd cc
drop_get [] (suc i) x e = absurd cc
drop_get (y ∷ xs) zero x e = ap (λ (z : _). z ∷ xs) (inside y x e)
drop_get (y ∷ xs) (suc i) x e = drop_get xs i x e

take_get : {A : Type 0} (xs : List A) (i : ℕ) (x : A) → slice_get xs i ≡ Some x → take (suc i) xs ≡ take i xs ++ x ∷ []
take_get [] zero x e = absurd cc
take_get [] (suc i) x e = absurd cc
take_get (y ∷ xs) zero x e = ap (λ (z : _). z ∷ []) (inside y x e)
take_get (y ∷ xs) (suc i) x e = ap (λ (l : List _). y ∷ l) (take_get xs i x e)

-- ---- steps

-- the step after an item that ends at or before the offset
pub step_more : {A : Type 0} (bytes : A → List ℕ) (head : ℕ) (xs : List A) (n : ℕ) (s : Step) (x : A) (end : ℕ) → IsStepTo bytes head xs n s → slice_get xs s.index ≡ Some x → end ≡ s.before + length (bytes x) → end ≤ n → IsStepTo bytes head xs n (record { index = s.index + 1; before = end })
step_more bytes head xs n s x end h e is le =
    let more : flat_map bytes (take (s.index + 1) xs) ≡ flat_map bytes (take s.index xs) ++ bytes x =
    ap (λ (i : ℕ). flat_map bytes (take i xs)) (let one : s.index + 1 ≡ suc s.index = omega arith in one) ∙ ap (flat_map bytes) (take_get xs s.index x e) ∙ flat_map-append bytes (take s.index xs) (x ∷ []) ∙ ap (λ (l : List ℕ). flat_map bytes (take s.index xs) ++ l) (append-nil (bytes x)) in
    let lt = get_lt xs s.index x e in
    record { within = omega (arith, lt); there = omega (arith, is, h.there, ap length more, length-append (flat_map bytes (take s.index xs)) (bytes x)); reached = le }

pub first_inside : {A : Type 0} (xs : List A) (i : ℕ) (x : A) → slice_get xs i ≡ Some x → length xs - (i + 1) < length xs - i
first_inside xs i x e = let lt = get_lt xs i x e in omega (arith, lt)

-- the first step of a path
pub path_head : (v : Value) (n : ℕ) (path : List Step) (d : Step) → 0 < length path → IsPath v n path →
    IsStep (head_len v) (inner_values v) n (get_or path 0 d) × MatchOption (slice_get (inner_values v) (get_or path 0 d).index) (IsTailPath v (get_or path 0 d).before n (drop 1 path)) (λ child. IsPath child (n - (get_or path 0 d).before) (drop 1 path))
path_head v n [] d some h = absurd (omega (arith, some))
path_head v n (s ∷ path) d some h = h

-- the window from which all before the step was skipped
abbrev pub skipped_to : Step → Window → Window
skipped_to s w = record { skip = w.skip - s.before; filled = w.filled }

-- the bytes from a step on, put to such a window
resumed : (v : Value) (s : Step) (w : Window) (into rest : List ℕ) (u : Window × List ℕ) → IsStep (head_len v) (inner_values v) w.skip s → flat_map Canon (drop s.index (inner_values v)) ++ tail_bytes v ≡ rest → u ≡ window_after (skipped_to s w) into rest → u ≡ window_after w into (Canon v)
resumed v s w into rest u h is put =
    let cut = cut_at v s.index h.within in
    let size : length cut.prefix ≡ s.before = cut.size ∙ sym h.there in
    let le : length cut.prefix ≤ w.skip = omega (arith, size, h.reached) in
    let passed : (skipped_to s w, into) ≡ window_after w into cut.prefix = ap (λ (n : ℕ). beside (w.skip - n) w.filled into) (sym size) ∙ sym (filled_before w into cut.prefix le) in
    two window_after filled_longer w into cut.prefix rest (skipped_to s w, into) u passed put ∙ ap (window_after w into) (ap (λ (l : List ℕ). cut.prefix ++ l) (sym is) ∙ sym cut.is)

pub resumed_some : (v : Value) (s : Step) (w : Window) (into : List ℕ) (child : Value) (t u : Window × List ℕ) → IsStep (head_len v) (inner_values v) w.skip s → slice_get (inner_values v) s.index ≡ Some child → t ≡ window_after (skipped_to s w) into (Canon child) →
    u ≡ window_after t.0 t.1 (flat_map Canon (drop (s.index + 1) (inner_values v)) ++ tail_bytes v) → u ≡ window_after w into (Canon v)
resumed_some v s w into child t u h e first second =
    let back = flat_map Canon (drop (s.index + 1) (inner_values v)) in
    let rest : List ℕ = back ++ tail_bytes v in
    let is : flat_map Canon (drop s.index (inner_values v)) ++ tail_bytes v ≡ Canon child ++ rest = ap (λ (l : List Value). flat_map Canon l ++ tail_bytes v) (drop_get (inner_values v) s.index child e ∙ ap (λ (i : ℕ). child ∷ drop i (inner_values v)) (let one : suc s.index ≡ s.index + 1 = omega arith in one)) ∙ append_assoc (Canon child) back (tail_bytes v) in
    resumed v s w into (Canon child ++ rest) u h is (two window_after filled_longer (skipped_to s w) into (Canon child) rest t u first second)

pub resumed_tail : (v : Value) (s : Step) (w : Window) (into : List ℕ) (u : Window × List ℕ) → IsStep (head_len v) (inner_values v) w.skip s → slice_get (inner_values v) s.index ≡ None → u ≡ window_after (skipped_to s w) into (tail_bytes v) → u ≡ window_after w into (Canon v)
resumed_tail v s w into u h e put =
    let none : flat_map Canon (drop s.index (inner_values v)) ++ tail_bytes v ≡ tail_bytes v = ap (λ (l : List Value). flat_map Canon l ++ tail_bytes v) (drop_of_length-le (inner_values v) (get_none (inner_values v) s.index e)) in
    resumed v s w into (tail_bytes v) u h none put

-- such a tail's path, where the window was moved to the tail
pub tail_here : (v : Value) (n : ℕ) (path : List Step) (d : Step) → 0 < length path → IsPath v n path → slice_get (inner_values v) (get_or path 0 d).index ≡ None → IsTailPath v (get_or path 0 d).before ((get_or path 0 d).before + (n - (get_or path 0 d).before)) (take (length path - 1) (drop 1 path))
tail_here v n path d some h e =
    let s = get_or path 0 d in
    let head = path_head v n path d some h in
    let tail : IsTailPath v s.before n (drop 1 path) = subst (λ (o : Option Value). MatchOption o (IsTailPath v s.before n (drop 1 path)) (λ c. IsPath c (n - s.before) (drop 1 path))) e head.1 in
    let there : n ≡ s.before + (n - s.before) = omega (arith, head.0.reached) in
    subst (IsTailPath v s.before (s.before + (n - s.before))) (sym (rest_all path 1)) (subst (λ (m : ℕ). IsTailPath v s.before m (drop 1 path)) there tail)

-- the step after one past the last value inside
pub tail_first : (v : Value) (end skip : ℕ) (path : List Step) (d : Step) → 1 ≤ length path → end ≡ inner_end v → IsTailPath v end (end + skip) path → IsTailPath v (inner_end v) (inner_end v + skip) (get_or path 0 d ∷ [])
tail_first v end skip [] d some is h = absurd (omega (arith, some))
tail_first v end skip (s ∷ path) d some is h = subst (λ (e : ℕ). IsTailPath v e (e + skip) (s ∷ [])) is h

-- the step to the first value inside, where it is at or before the offset
pub first_is : (v : Value) (n : ℕ) (s : Step) → s.index ≡ 0 → s.before ≡ head_len v → s.before ≤ n → IsStep (head_len v) (inner_values v) n s
first_is v n s index before le = record {
  within = omega (arith, index);
  there = let none : flat_map Canon (take s.index (inner_values v)) ≡ [] = ap (λ (i : ℕ). flat_map Canon (take i (inner_values v))) index in omega (arith, before, ap length none);
  reached = le;
}

-- where all values inside end, by the step past the last of them
pub inside_end : (v : Value) (n : ℕ) (s : Step) → IsStep (head_len v) (inner_values v) n s → slice_get (inner_values v) s.index ≡ None → s.before ≡ head_len v + length (flat_map Canon (inner_values v))
inside_end v n s h e =
    h.there ∙ ap (λ (l : List Value). head_len v + length (flat_map Canon l)) (take_all s.index (inner_values v) (get_none (inner_values v) s.index e))

-- the length of a value, by where its values inside end
pub whole_length : (v : Value) (before : ℕ) → before ≡ head_len v + length (flat_map Canon (inner_values v)) → length (Canon v) ≡ before + length (tail_bytes v)
whole_length v before is =
    let n = length (inner_values v) in
    let cut = cut_at v n (omega arith) in
    let back : flat_map Canon (drop n (inner_values v)) ≡ [] = ap (flat_map Canon) (drop_of_length-le (inner_values v) (omega arith)) in
    let front : flat_map Canon (take n (inner_values v)) ≡ flat_map Canon (inner_values v) = ap (flat_map Canon) (take_all n (inner_values v) (omega arith)) in
    let rest : flat_map Canon (drop n (inner_values v)) ++ tail_bytes v ≡ tail_bytes v = ap (λ (l : List ℕ). l ++ tail_bytes v) back in
    omega (arith, is, cut.size, ap length front, ap length rest, ap length cut.is, length-append cut.prefix (flat_map Canon (drop n (inner_values v)) ++ tail_bytes v))

-- the length of a value without a tail
pub tailless_length : (v : Value) (before : ℕ) → before ≡ head_len v + length (flat_map Canon (inner_values v)) → tail_bytes v ≡ [] → before ≡ length (Canon v)
tailless_length v before is none = omega (arith, whole_length v before is, ap length none)

-- the fields of an object end at this offset
pub fields_end : (v : Value) (o : Record Value) (xs : List Value) (before : ℕ) → xs ≡ o.fields → v ≡ value.Object o → before ≡ head_len v + length (flat_map Canon (inner_values v)) → before ≡ 24 + length (flat_map Canon xs)
fields_end v o xs before same is end =
    end ∙ ap (λ (w : Value). head_len w + length (flat_map Canon (inner_values v))) is ∙ ap (λ (x : Value-F Value). head_size (parts x).0 + length (flat_map Canon (inner_values v))) (value.outs-Object o) ∙ ap (λ (l : List Value). 24 + length (flat_map Canon l)) ((inner_object v o is).0 ∙ sym same)

-- the length of an object, by that of its footer
pub object_length : (v : Value) (o : Record Value) (xs : List Value) (before footer : ℕ) → xs ≡ o.fields → v ≡ value.Object o → before ≡ head_len v + length (flat_map Canon (inner_values v)) → footer ≡ length (least_footer o.shape xs) → before + footer ≡ length (Canon v)
object_length v o xs before footer same is end size =
    let tail : length (tail_bytes v) ≡ footer = ap length ((inner_object v o is).1) ∙ ap (λ (l : List Value). length (least_footer o.shape l)) (sym same) ∙ sym size in
    omega (arith, whole_length v before end, tail)

-- ---- the slice of steps

pub set_len : (steps : List Step) (s : Step) → length (set steps 0 s) ≡ length steps
set_len [] s = refl
set_len (a ∷ steps) s = refl

take_set : (steps : List Step) (s : Step) → 0 < length steps → take 1 (set steps 0 s) ≡ s ∷ []
take_set [] s lt = absurd (omega (arith, lt))
take_set (a ∷ steps) s lt = refl

-- the steps below, where the first one is known
pub below_len : (steps : List Step) → length (take (length steps - 1) (drop 1 steps)) ≡ length steps - 1
below_len steps = ap length (rest_all steps 1) ∙ length-drop 1 steps

pub known_step : (v : Value) (n : ℕ) (steps : List Step) (known : ℕ) (d : Step) → (known ≡ 0 → ⊥) → known ≤ length steps → IsPath v n (take known steps) → IsStep (head_len v) (inner_values v) n (get_or steps 0 d)
known_step v n steps zero d some le h = absurd (some refl)
known_step v n [] (suc k) d some le h = absurd (omega (arith, le))
known_step v n (s ∷ steps) (suc k) d some le h = h.0

pub known_below : (v : Value) (n : ℕ) (steps : List Step) (known : ℕ) (d : Step) (child : Value) → (known ≡ 0 → ⊥) → known ≤ length steps → IsPath v n (take known steps) → slice_get (inner_values v) (get_or steps 0 d).index ≡ Some child →
    IsPath child (n - (get_or steps 0 d).before) (take (known - 1) (take (length steps - 1) (drop 1 steps)))
known_below v n steps zero d child some le h e = absurd (some refl)
known_below v n [] (suc k) d child some le h e = absurd (omega (arith, le))
known_below v n (s ∷ steps) (suc k) d child some le h e =
    let path : IsPath child (n - s.before) (take k steps) = subst (λ (o : Option Value). MatchOption o (IsTailPath v s.before n (take k steps)) (λ c. IsPath c (n - s.before) (take k steps))) e h.1 in
    let one : k ≡ suc k - 1 = omega arith in
    let all : steps ≡ take (length (s ∷ steps) - 1) steps = sym (rest_all (s ∷ steps) 1) in
    subst (λ (l : List Step). IsPath child (n - s.before) (take (suc k - 1) l)) all (subst (λ (j : ℕ). IsPath child (n - s.before) (take j steps)) one path)

put_path : (steps : List Step) (s : Step) (ys : List Step) (k r : ℕ) → take 1 steps ≡ s ∷ [] → r ≤ length ys → take (1 + r) (put_mid 1 k steps ys) ≡ s ∷ take r ys
put_path steps s ys k r first le =
    let whole = put_mid 1 k steps ys in
    let one : 1 ≤ length steps = omega (arith, ap length first, length-take 1 steps) in
    let front : take (1 + length ys) whole ≡ s ∷ ys = take-put_mid 1 k steps ys (1 + length ys) refl one ∙ ap (λ (l : List Step). l ++ ys) first in
    let next : 1 + r ≡ suc r = omega arith in
    sym (take-take (1 + r) (1 + length ys) whole (omega (arith, le))) ∙ ap (take (1 + r)) front ∙ ap (λ (n : ℕ). take n (s ∷ ys)) next

-- a path through a value inside
through : (v : Value) (n : ℕ) (steps : List Step) (t : Step) (child : Value) (ys : List Step) (k r : ℕ) → take 1 steps ≡ t ∷ [] → r ≤ length ys → IsStep (head_len v) (inner_values v) n t → slice_get (inner_values v) t.index ≡ Some child → IsPath child (n - t.before) (take r ys) →
    IsPath v n (take (1 + r) (put_mid 1 k steps ys))
through v n steps t child ys k r first le is e path =
    let below : MatchOption (slice_get (inner_values v) t.index) (IsTailPath v t.before n (take r ys)) (λ c. IsPath c (n - t.before) (take r ys)) = subst (λ (o : Option Value). MatchOption o (IsTailPath v t.before n (take r ys)) (λ c. IsPath c (n - t.before) (take r ys))) (sym e) path in
    let all : IsPath v n (t ∷ take r ys) = (is, below) in
    subst (IsPath v n) (sym (put_path steps t ys k r first le)) all

take_first : (steps : List Step) (d : Step) → 0 < length steps → take 1 steps ≡ get_or steps 0 d ∷ []
take_first [] d lt = absurd (omega (arith, lt))
take_first (s ∷ steps) d lt = refl

-- such a path by the first step as it was, and by another one that was set
pub path_kept : (v : Value) (n : ℕ) (steps : List Step) (d : Step) (child : Value) (ys : List Step) (k r : ℕ) → 0 < length steps → r ≤ length ys → IsStep (head_len v) (inner_values v) n (get_or steps 0 d) → slice_get (inner_values v) (get_or steps 0 d).index ≡ Some child → IsPath child (n - (get_or steps 0 d).before) (take r ys) →
    IsPath v n (take (1 + r) (put_mid 1 k steps ys))
path_kept v n steps d child ys k r some le is e path = through v n steps (get_or steps 0 d) child ys k r (take_first steps d some) le is e path

pub path_through : (v : Value) (n : ℕ) (steps : List Step) (t : Step) (child : Value) (ys : List Step) (k r : ℕ) → 0 < length steps → r ≤ length ys → IsStep (head_len v) (inner_values v) n t → slice_get (inner_values v) t.index ≡ Some child → IsPath child (n - t.before) (take r ys) →
    IsPath v n (take (1 + r) (put_mid 1 k (set steps 0 t) ys))
path_through v n steps t child ys k r some le is e path = through v n (set steps 0 t) t child ys k r (take_set steps t some) le is e path

-- a path past the last value inside, and on to what stands there
past : (v : Value) (n : ℕ) (t : Step) (below : List Step) → IsStep (head_len v) (inner_values v) n t → slice_get (inner_values v) t.index ≡ None → IsTailPath v t.before n below → IsPath v n (t ∷ below)
past v n t below is e tail = (is, subst (λ (o : Option Value). MatchOption o (IsTailPath v t.before n below) (λ c. IsPath c (n - t.before) below)) (sym e) tail)

pub path_past : (v : Value) (n : ℕ) (steps : List Step) (t : Step) → 0 < length steps → IsStep (head_len v) (inner_values v) n t → slice_get (inner_values v) t.index ≡ None → IsPath v n (take 1 (set steps 0 t))
path_past v n steps t some is e = subst (IsPath v n) (sym (take_set steps t some)) (past v n t [] is e tt)

pub path_ended : (v : Value) (n : ℕ) (steps : List Step) (d : Step) → 0 < length steps → IsStep (head_len v) (inner_values v) n (get_or steps 0 d) → slice_get (inner_values v) (get_or steps 0 d).index ≡ None → IsPath v n (take 1 steps)
path_ended v n steps d some is e = subst (IsPath v n) (sym (take_first steps d some)) (past v n (get_or steps 0 d) [] is e tt)

take_two : (steps : List Step) (d t : Step) → 1 < length steps → take 2 (set steps 1 t) ≡ get_or steps 0 d ∷ t ∷ []
take_two [] d t lt = absurd (omega (arith, lt))
take_two (a ∷ []) d t lt = absurd (omega (arith, lt))
take_two (a ∷ b ∷ steps) d t lt = refl

pub path_to_two : (v : Value) (n : ℕ) (steps : List Step) (d t : Step) → 1 < length steps → IsStep (head_len v) (inner_values v) n (get_or steps 0 d) → slice_get (inner_values v) (get_or steps 0 d).index ≡ None → IsTailStep v (content (parts (out-Value v)).0) (parts (out-Value v)).1 (get_or steps 0 d).before n t → IsPath v n (take 2 (set steps 1 t))
path_to_two v n steps d t some is e entry = subst (IsPath v n) (sym (take_two steps d t some)) (past v n (get_or steps 0 d) (t ∷ []) is e entry)

-- the step past the last value inside
pub tail_step : (v : Value) (n : ℕ) (steps : List Step) (known : ℕ) (d : Step) → 0 < known → known ≤ length steps → IsPath v n (take known steps) → IsStep (head_len v) (inner_values v) n (get_or steps 0 d)
tail_step v n steps zero d some le h = absurd (omega (arith, some))
tail_step v n [] (suc k) d some le h = absurd (omega (arith, le))
tail_step v n (s ∷ steps) (suc k) d some le h = h.0

-- the steps after one past the last value inside
pub known_tail : (v : Value) (n : ℕ) (steps : List Step) (known : ℕ) (d : Step) → 0 < known → known ≤ length steps → IsPath v n (take known steps) → slice_get (inner_values v) (get_or steps 0 d).index ≡ None →
    IsTailPath v (get_or steps 0 d).before n (take (known - 1) (drop 1 steps))
known_tail v n steps zero d some le h e = absurd (omega (arith, some))
known_tail v n [] (suc k) d some le h e = absurd (omega (arith, le))
known_tail v n (s ∷ steps) (suc k) d some le h e =
    let tail : IsTailPath v s.before n (take k steps) = subst (λ (o : Option Value). MatchOption o (IsTailPath v s.before n (take k steps)) (λ c. IsPath c (n - s.before) (take k steps))) e h.1 in
    let one : k ≡ suc k - 1 = omega arith in
    subst (λ (j : ℕ). IsTailPath v s.before n (take j steps)) one tail

-- the entry that such steps go to, or the first one
pub first_entry_is : (v : Value) (o : Record Value) (end n : ℕ) (path : List Step) → v ≡ value.Object o → 24 ≤ end → end ≤ n → IsTailPath v end n path → IsEntryStep v end n (first_of 24 path)
first_entry_is v o end n (s ∷ path) is some le h = row_at (λ r. IsTailStep v (content r.0) r.1 end n s) v code.Object o is h
first_entry_is v o end n [] is some le h =
    let head : head_len v ≡ 24 = ap head_len is ∙ ap (λ (x : Value-F Value). head_size (parts x).0) (value.outs-Object o) in
    let none : entries_in 0 (out-Value v) ≡ [] = ap (λ (w : Value). entries_in 0 (out-Value w)) is ∙ ap (entries_in 0) (value.outs-Object o) ∙ no_footer (type_of (least_width (last_of (field_offsets o.fields)))) o.shape in
    record { field = record { within = omega arith; there = omega (arith, head); reached = omega (arith, some, le) }; reached = omega (arith, ap length none, le) }

-- what an object has inside, and the first entries of its footer
object_inside : (v : Value) (o : Record Value) (xs : List Value) → xs ≡ o.fields → v ≡ value.Object o → (head_len v ≡ 24) × (inner_values v ≡ xs) × ((k : ℕ) → entries_in k (out-Value v) ≡ least_entries o.shape xs k)
object_inside v o xs same is = (
  ap head_len is ∙ ap (λ (x : Value-F Value). head_size (parts x).0) (value.outs-Object o),
  (inner_object v o is).0 ∙ sym same,
  λ k. ap (λ (w : Value). entries_in k (out-Value w)) is ∙ ap (entries_in k) (value.outs-Object o) ∙ ap (λ (l : List Value). least_entries o.shape l k) (sym same),
)

-- a step to an entry, said of the fields
pub entry_fields : (v : Value) (o : Record Value) (xs : List Value) (end n : ℕ) (s : Step) → xs ≡ o.fields → v ≡ value.Object o → IsEntryStep v end n s → IsStep 24 xs n s × (end + length (least_entries o.shape xs s.index) ≤ n)
entry_fields v o xs end n s same is h =
    let inside = object_inside v o xs same is in (
      subst (λ (l : List Value). IsStep 24 l n s) inside.1 (subst (λ (k : ℕ). IsStep k (inner_values v) n s) inside.0 h.field),
      omega (arith, h.reached, ap length (inside.2 s.index)),
    )

pub fields_entry : (v : Value) (o : Record Value) (xs : List Value) (end n : ℕ) (s : Step) → xs ≡ o.fields → v ≡ value.Object o → IsStep 24 xs n s → end + length (least_entries o.shape xs s.index) ≤ n → IsTailStep v (content (parts (out-Value v)).0) (parts (out-Value v)).1 end n s
fields_entry v o xs end n s same is field reached =
    let inside = object_inside v o xs same is in
    let entry : IsEntryStep v end n s = record {
      field = subst (λ (k : ℕ). IsStep k (inner_values v) n s) (sym inside.0) (subst (λ (l : List Value). IsStep 24 l n s) (sym inside.1) field);
      reached = omega (arith, reached, ap length (inside.2 s.index));
    } in
    row_of (λ r. IsTailStep v (content r.0) r.1 end n s) v code.Object o is entry

-- ---- arrays whose items may be null

-- a value with such items holds no value
no_inside : (x : Value-F Value) (n : ℕ) (s : Step) → IsStepIn (content (parts x).0) (parts x).1 n s → (head_size (parts x).0 ≡ 0) × (children x ≡ [])
no_inside (Value-F.Objects type xs) n s h = absurd h
no_inside (Value-F.Collection kind xs) n s h = absurd h
no_inside (Value-F.Map kind ps) n s h = absurd h
no_inside (Value-F.Enums type xs) n s h = absurd h
no_inside (Value-F.Object o) n s h = absurd h
no_inside _ n s h = (refl, refl)

pub tail_row : (v : Value) (c : Code) (x : Content Value (content c)) (end n : ℕ) (s : Step) → v ≡ value_with c x → IsTailPath v end n (s ∷ []) → IsTailStep v (content c) x end n s
tail_row v c x end n s e h = row_at (λ r. IsTailStep v (content r.0) r.1 end n s) v c x e h

pub items_here : (v : Value) (c : Code) (x : Content Value (content c)) (n : ℕ) (s : Step) → v ≡ value_with c x → IsStepIn (content c) x (inner_end v + n) s → IsStepIn (content c) x n s
items_here v c x n s e h =
    let none = no_inside (out-Value v) (inner_end v + n) s (row_of (λ r. IsStepIn (content r.0) r.1 (inner_end v + n) s) v c x e h) in
    let empty : length (flat_map Canon (inner_values v)) ≡ 0 = ap (λ (l : List Value). length (flat_map Canon l)) none.1 in
    let same : inner_end v + n ≡ n = omega (arith, none.0, empty) in
    subst (λ (m : ℕ). IsStepIn (content c) x m s) same h

pub item_tail : (v : Value) (p : Part) (x : Content Value p) (end n : ℕ) (s : Step) → IsStepIn p x n s → IsTailStep v p x end n s
item_tail v object x end n s h = absurd h
item_tail v p x end n s h = h

-- a path to an item, by the content of the array
abbrev pub IsContentPath : Value → (p : Part) → Content Value p → ℕ → ℕ → List Step → Type 0
IsContentPath v p x end n [] = Unit {0}
IsContentPath v p x end n (s ∷ steps) = IsTailStep v p x end n s

pub path_row : (v : Value) (c : Code) (x : Content Value (content c)) (end n : ℕ) (path : List Step) → v ≡ value_with c x → IsTailPath v end n path → IsContentPath v (content c) x end n path
path_row v c x end n [] e h = tt
path_row v c x end n (s ∷ path) e h = row_at (λ r. IsTailStep v (content r.0) r.1 end n s) v c x e h

pub items_start : (v : Value) (c : Code) (p : Part) (xs : List (Option (Content Value p))) (end n : ℕ) (path : List Step) → IsContentPath v (array (optional c p)) (tt, xs) end n path → (first_of 5 path).before ≤ n → IsStepTo (part_bytes Canon (optional c p)) 5 xs n (first_of 5 path)
items_start v c p xs end n [] h le = record { within = omega arith; there = refl; reached = le }
items_start v c p xs end n (s ∷ path) h le = h

pub reached_step : (v : Value) (c : Code) (x : Content Value (content c)) (n : ℕ) (found : Option Reached) → v ≡ value_with c x → IfSome found (λ r. IsStepIn (content c) x n r.step) → IfSome found (λ r. IsItemStep v n r.step)
reached_step v c x n found e h = row_of (λ row. IfSome found (λ r. IsStepIn (content row.0) row.1 n r.step)) v c x e h

pub reached_end : (v : Value) (c : Code) (x : Content Value (content c)) (n : ℕ) (found : Option Reached) → v ≡ value_with c x → IfSome found (λ r. IfSome r.end (λ end. (end ≡ length (byte_of c ∷ part_bytes Canon (content c) x)) × (end ≤ n))) →
    IfSome found (λ r. IfSome r.end (λ end. (end ≡ length (Canon v)) × (end ≤ n)))
reached_end v c x n found e h = subst (λ (l : List ℕ). IfSome found (λ r. IfSome r.end (λ end. (end ≡ length l) × (end ≤ n)))) (sym (Canon_row v c x e)) h

five : (byte n : ℕ) (rest : List ℕ) → length (byte ∷ (LE w32 (pos n) ++ rest)) ≡ 5 + length rest
unfolding LE
five byte n rest = let e : suc (suc (suc (suc (suc (length rest))))) ≡ 5 + length rest = omega arith in e

-- where the items end, by the step past the last of them
pub items_end : {A : Type 0} (bytes : A → List ℕ) (byte : ℕ) (xs : List A) (n : ℕ) (s : Step) → IsStepTo bytes 5 xs n s → length xs ≤ s.index → s.before ≡ length (byte ∷ array_bytes bytes xs)
items_end bytes byte xs n s h past =
    h.there ∙ ap (λ (l : List _). 5 + length (flat_map bytes l)) (take_all s.index xs past) ∙ sym (five byte (length xs) (flat_map bytes xs))

-- the items from a step on, put to a window from which all before the step was skipped
pub items_resumed : {A : Type 0} (bytes : A → List ℕ) (byte : ℕ) (xs : List A) (s : Step) (w : Window) (into : List ℕ) (u : Window × List ℕ) → IsStepTo bytes 5 xs w.skip s → u ≡ window_after (skipped_to s w) into (flat_map bytes (take (length xs - s.index) (drop s.index xs))) →
    u ≡ window_after w into (byte ∷ array_bytes bytes xs)
items_resumed bytes byte xs s w into u h put =
    let count = LE w32 (pos (length xs)) in
    let front = flat_map bytes (take s.index xs) in
    let back = flat_map bytes (drop s.index xs) in
    let prefix : List ℕ = byte ∷ (count ++ front) in
    let size : length prefix ≡ s.before = five byte (length xs) front ∙ sym h.there in
    let le : length prefix ≤ w.skip = omega (arith, size, h.reached) in
    let passed : (skipped_to s w, into) ≡ window_after w into prefix = ap (λ (n : ℕ). beside (w.skip - n) w.filled into) (sym size) ∙ sym (filled_before w into prefix le) in
    let whole : prefix ++ back ≡ byte ∷ array_bytes bytes xs = ap (λ (l : List ℕ). byte ∷ l) (append_assoc count front back ∙ ap (λ (l : List ℕ). count ++ l) (sym (flat_cut bytes xs s.index))) in
    let rest : u ≡ window_after (skipped_to s w) into back = put ∙ ap (λ (l : List _). window_after (skipped_to s w) into (flat_map bytes l)) (rest_all xs s.index) in
    two window_after filled_longer w into prefix back (skipped_to s w, into) u passed rest ∙ ap (window_after w into) whole

-- the length of the first entries
pub entries_size : (shape : Shape) (fields : List Value) (k : ℕ) → k ≤ length fields → length (least_entries shape fields k) ≡ k * entry_size (least_width (last_of (field_offsets fields))) shape
entries_size shape fields k le =
    let w = least_width (last_of (field_offsets fields)) in
    footer_size w shape (take k fields) ∙ ap (λ (n : ℕ). n * entry_size w shape) (length-take-le k fields le)

key_some : (n : ℕ) (w : OffsetWidth) → 0 < n + byte_len (type_of w)
key_some n One = omega arith
key_some n Two = omega arith
key_some n Four = omega arith

pub entry_some : (w : OffsetWidth) (shape : Shape) → 0 < entry_size w shape
entry_some w shape = key_some (key_size shape) w

-- the footer that is put from an entry on, to a window that skips those before it
pub footer_after : (w : Window) (into : List ℕ) (shape : Shape) (fields : List Value) (k passed : ℕ) (width : OffsetWidth) (u : Window × List ℕ) → width ≡ least_width (last_of (field_offsets fields)) → passed ≡ length (least_entries shape fields k) → passed ≤ w.skip →
    ((start : Window) (from : List ℕ) → beside (w.skip - passed) w.filled into ≡ window_after start from (field_footer (type_of width) shape (take k fields)) → u ≡ window_after start from (field_footer (type_of width) shape fields)) → u ≡ window_after w into (least_footer shape fields)
footer_after w into shape fields k passed width u is size le put =
    let front : field_footer (type_of width) shape (take k fields) ≡ least_entries shape fields k = ap (λ (d : OffsetWidth). field_footer (type_of d) shape (take k fields)) is in
    let skipped : beside (w.skip - passed) w.filled into ≡ window_after w into (field_footer (type_of width) shape (take k fields)) =
    ap (λ (n : ℕ). beside (w.skip - n) w.filled into) size ∙ sym (filled_before w into (least_entries shape fields k) (omega (arith, size, le))) ∙ ap (window_after w into) (sym front) in
    put w into skipped ∙ ap (λ (d : OffsetWidth). window_after w into (field_footer (type_of d) shape fields)) is

-- one more entry before the offset
pub entry_reached : (shape : Shape) (fields : List Value) (end offset i last entry : ℕ) → entry ≡ entry_size (least_width (last_of (field_offsets fields))) shape → end ≤ offset → i < last → last ≤ length fields → last * entry ≤ offset - end → end + length (least_entries shape fields (i + 1)) ≤ offset
entry_reached shape fields end offset i last entry is le lt most fits =
    let next : i + 1 ≤ last = omega (arith, lt) in
    let size : length (least_entries shape fields (i + 1)) ≡ (i + 1) * entry = entries_size shape fields (i + 1) (omega (arith, next, most)) ∙ ap (λ (n : ℕ). (i + 1) * n) (sym is) in
    let few : (i + 1) * entry ≤ last * entry = mul-le-mul_right entry next in
    omega (arith, size, few, fits, le)

-- a sum within a bound, said of another number
pub sum_is : (found : Option ℕ) (a b bound : ℕ) → IfSome found (λ end. (end ≡ a) × (end ≤ bound)) → a ≡ b → IfSome found (λ end. (end ≡ b) × (end ≤ bound))
sum_is None a b bound h e = tt
sum_is (Some end) a b bound h e = (h.0 ∙ e, h.1)

pub end_is : (found : Option ℕ) (end a bound : ℕ) → found ≡ Some end → IfSome found (λ end. (end ≡ a) × (end ≤ bound)) → (end ≡ a) × (end ≤ bound)
end_is found end a bound is h = subst (λ (o : Option ℕ). IfSome o (λ end. (end ≡ a) × (end ≤ bound))) is h
