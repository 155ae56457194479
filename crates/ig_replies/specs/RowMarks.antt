-- Marks in the rows that replies show.
use Rattle.std.specs.Prelude.{ℤ, List, [], Option, None}
use Rattle.ig_caches.specs.declared.call.Pair.{Pair}
use Rattle.ig_caches.specs.declared.request.Shown.{Shown}
use Rattle.ig_caches.specs.declared.request.Shown.TheVariants.{Out, Page}
use Rattle.ig_ops.specs.declared.page_mark.PageMark.{PageMark}
use Rattle.ig_ops.specs.PageMarks.{IsPageMark}
use Rattle.ig_replies.specs.declared.reply.Content.{Content}
use Rattle.ig_replies.specs.declared.reply.Content.TheVariants.{Shows}

-- the rows of a page
abbrev pub rows_in : Shown → List Pair
rows_in (Out o) = []
rows_in (Page page) = page.rows

abbrev pub rows_shown : Content → List Pair
rows_shown (Shows shown) = rows_in shown
rows_shown content = []

-- the cursor of a first page
abbrev pub cursor_in : Shown → Option ℤ
cursor_in (Out o) = None
cursor_in (Page page) = page.cursor

abbrev pub cursor_shown : Content → Option ℤ
cursor_shown (Shows shown) = cursor_in shown
cursor_shown content = None

abbrev pub IsMarkIn : Shown → PageMark → Type 0
IsMarkIn shown mark = IsPageMark (cursor_in shown) (rows_in shown) mark

-- the mark is at a row that the content shows, or after the last one, and knows its offset in the result
abbrev pub IsRowMark : Content → PageMark → Type 0
IsRowMark content mark = IsPageMark (cursor_shown content) (rows_shown content) mark
