-- What a mark in a page stands for.
use Rattle.std.specs.Prelude.{◌≡◌, ℕ, ℤ, ◌+◌, ◌<◌, ◌≤◌, ◌⊎◌, List, length, take, drop, Option}
use Rattle.ig_caches.specs.declared.call.Pair.{Pair}
use Rattle.ig_ops.specs.declared.page_mark.PageMark.{PageMark}
use Rattle.ig_ops.specs.Views.{page_head, row_bytes}

-- the offset of the row in the bytes of the page: the length of what stands before it
abbrev pub row_offset : Option ℤ → List Pair → ℕ → ℕ
row_offset cursor rows row = length (page_head cursor rows) + length (row_bytes (take row rows))

-- the mark is at a row of the page, or after the last one, and knows its offset
pub record IsPageMark (cursor : Option ℤ) (rows : List Pair) (mark : PageMark) : Type 0 where
  pub within : mark.row ≤ length rows
  pub there : mark.before ≡ row_offset cursor rows mark.row

-- the mark is after the last row, or its row ends after the offset
abbrev pub IsReached : List Pair → PageMark → ℕ → Type 0
IsReached rows mark to = (length rows ≤ mark.row) ⊎ (to < mark.before + length (row_bytes (take 1 (drop mark.row rows))))
