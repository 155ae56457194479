-- The bytes of pages, from a row on.
use Rattle.std.proofs.Common.{◌≡◌, ℕ, zero, suc, ◌+◌, ◌-◌, ◌≤◌, ◌<◌, ℤ, pos, Bool, List, [], ◌∷◌, ◌++◌, map, length, take, drop, Option, None, Some, refl, sym, ap, subst, ◌∙◌, arith, append_assoc, length-append, length-drop}
use Rattle.std.specs.Int.{w32}
use Rattle.std.specs.List.{flat_map}
use Rattle.std.proofs.lemmas.List.{take-append-drop, drop_at}
use Rattle.std.proofs.lemmas.Grind.{flat_map-append}
use Rattle.ig_base.specs.Numbers.{LE}
use Rattle.ig_value.specs.Part.{truth}
use Rattle.ig_value.specs.Spells.{scalar_bytes}
use Rattle.ig_caches.specs.declared.call.Pair.{Pair}
use Rattle.ig_fields.specs.FieldBytes.{listed_bytes, fields_bytes}
use Rattle.ig_ops.specs.Requests.{rows_fields, pair_fields}
use Rattle.ig_ops.specs.Views.{pair_bytes, rows_written, page_bytes, cursor_bytes, page_head, row_bytes}
use Rattle.ig_ops.specs.declared.page_mark.PageMark.{PageMark}
use Rattle.ig_ops.specs.PageMarks.{row_offset, IsPageMark, IsReached}

-- whether more rows are left
abbrev more_bytes : Bool → List ℕ
more_bytes more = scalar_bytes truth more

-- the cursor, the rows with their count, and whether more are left
pub page_is : (cursor : Option ℤ) (rows : List Pair) (more : Bool) → page_bytes cursor rows more ≡ cursor_bytes cursor ++ (listed_bytes pair_bytes rows ++ more_bytes more)
page_is None rows more = ap (λ (l : List ℕ). l ++ more_bytes more) (sym (rows_written rows))
page_is (Some cursor) rows more = ap (λ (l : List ℕ). cursor_bytes (Some cursor) ++ (l ++ more_bytes more)) (sym (rows_written rows))

-- the head, the first rows, the others, and whether more are left
pub page_split : (cursor : Option ℤ) (rows : List Pair) (more : Bool) (row : ℕ) → page_bytes cursor rows more ≡ (page_head cursor rows ++ row_bytes (take row rows)) ++ (row_bytes (drop row rows) ++ more_bytes more)
page_split cursor rows more row =
    let first = row_bytes (take row rows) in
    let others = row_bytes (drop row rows) in
    let count = LE w32 (pos (length rows)) in
    let all : row_bytes rows ≡ first ++ others = ap row_bytes (sym (take-append-drop row rows)) ∙ flat_map-append pair_bytes (take row rows) (drop row rows) in
    page_is cursor rows more
    ∙ ap (λ (l : List ℕ). cursor_bytes cursor ++ ((count ++ l) ++ more_bytes more)) all
    ∙ regroup (cursor_bytes cursor) count first others (more_bytes more) where
      regroup : (a b c d e : List ℕ) → a ++ ((b ++ (c ++ d)) ++ e) ≡ ((a ++ b) ++ c) ++ (d ++ e)
      regroup a b c d e = simp append_assoc

-- what stands at an offset past a prefix
drop_past : (p s : List ℕ) (from before : ℕ) → before ≡ length p → before ≤ from → drop from (p ++ s) ≡ drop (from - before) s
drop_past [] s from before e le = let same : from ≡ from - before = omega (arith, e) in ap (λ (n : ℕ). drop n s) same
drop_past (x ∷ p) s zero before e le = absurd (omega (arith, e, le))
drop_past (x ∷ p) s (suc from) zero e le = absurd (omega (arith, e))
drop_past (x ∷ p) s (suc from) (suc before) e le =
    let same : from - before ≡ suc from - suc before = omega arith in
    drop_past p s from before (omega (arith, e)) (omega (arith, le)) ∙ ap (λ (n : ℕ). drop n s) same

-- all of the items
take_all : (xs : List Pair) (n : ℕ) → n ≡ length xs → take n xs ≡ xs
take_all [] n e = rw e refl
take_all (x ∷ xs) zero e = absurd (omega (arith, e))
take_all (x ∷ xs) (suc n) e = ap (λ (l : List Pair). x ∷ l) (take_all xs n (omega (arith, e)))

-- the rows from one on
pub rows_from : (rows : List Pair) (row : ℕ) → take (length rows - row) (drop row rows) ≡ drop row rows
rows_from rows row = take_all (drop row rows) (length rows - row) (omega (arith, length-drop row rows))

module _ (cursor : Option ℤ) (rows : List Pair) (more : Bool) (mark : PageMark) where
  -- from the mark on
  pub page_end : IsPageMark cursor rows mark → (from : ℕ) → mark.before ≤ from → drop from (page_bytes cursor rows more) ≡ drop (from - mark.before) (row_bytes (drop mark.row rows) ++ more_bytes more)
  page_end at from le =
      let len : mark.before ≡ length (page_head cursor rows ++ row_bytes (take mark.row rows)) = at.there ∙ sym (length-append (page_head cursor rows) (row_bytes (take mark.row rows))) in
      ap (drop from) (page_split cursor rows more mark.row)
      ∙ drop_past (page_head cursor rows ++ row_bytes (take mark.row rows)) (row_bytes (drop mark.row rows) ++ more_bytes more) from mark.before len le

  pub page_left : IsPageMark cursor rows mark → (from : ℕ) → mark.before ≤ from → length (page_bytes cursor rows more) - from ≡ length (row_bytes (drop mark.row rows) ++ more_bytes more) - (from - mark.before)
  page_left at from le =
      let len : length (page_bytes cursor rows more) ≡ row_offset cursor rows mark.row + length (row_bytes (drop mark.row rows) ++ more_bytes more) =
      ap length (page_split cursor rows more mark.row)
      ∙ length-append (page_head cursor rows ++ row_bytes (take mark.row rows)) (row_bytes (drop mark.row rows) ++ more_bytes more)
      ∙ ap (λ (n : ℕ). n + length (row_bytes (drop mark.row rows) ++ more_bytes more)) (length-append (page_head cursor rows) (row_bytes (take mark.row rows))) in
      omega (arith, len, at.there, le)

-- the mark of the first row
first_mark : (cursor : Option ℤ) (rows : List Pair) (before : ℕ) → before ≡ length (cursor_bytes cursor) + 4 → before ≡ row_offset cursor rows 0
unfolding LE
first_mark cursor rows before e = omega (arith, e, length-append (cursor_bytes cursor) (LE w32 (pos (length rows))))

pub mark_after_cursor : (cursor : ℤ) (rows : List Pair) → IsPageMark (Some cursor) rows (record { row = 0; before = 12 })
unfolding LE
mark_after_cursor cursor rows = record { within = omega arith; there = first_mark (Some cursor) rows 12 refl }

pub mark_after_count : (rows : List Pair) → IsPageMark None rows (record { row = 0; before = 4 })
mark_after_count rows = record { within = omega arith; there = first_mark None rows 4 refl }
