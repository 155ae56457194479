-- What a session remembers between its requests: open cursors, the next cursor's number, and the
-- topology that it told last.
use Rattle.std.specs.Prelude.{◌≡◌, ℕ, ℤ, pos, Bool, List, [], ◌∷◌, length, take, drop, find, Option, None, nat_lt, if◌then◌else◌}
use Rattle.std.specs.List.{position}
use Rattle.std.specs.Ordering.{int_eq}
use Rattle.ig_caches.specs.declared.call.Pair.{Pair}
use Rattle.ig_caches.specs.declared.request.Page.{Page}

-- an open cursor: its number, how many rows a page of it has, and the rows that weren't shown yet
pub record Cursor : Type 0 where
  pub number : ℕ
  pub page : ℕ
  pub rows : List Pair

-- the open cursors, the number of the next one, and the minor version of the topology that was told
-- last, where telling depends on it
pub record Desk : Type 0 where
  pub cursors : List Cursor
  pub next : ℕ
  pub told : Option ℤ

-- no cursor is open, the first gets the number 1, and nothing was told
abbrev pub fresh_desk : Desk
fresh_desk = record { cursors = []; next = 1; told = None }

-- ---- pages

-- the next page
abbrev pub page_of : Cursor → List Pair
page_of cursor = take cursor.page cursor.rows

-- tests whether rows are left after the next page
abbrev pub has_more : Cursor → Bool
has_more cursor = nat_lt cursor.page (length cursor.rows)

-- the next page as it is shown; the first one has the cursor's number
abbrev pub page_shown : Option ℤ → Cursor → Page
page_shown number cursor = record { cursor = number; rows = page_of cursor; more = has_more cursor }

-- the cursor after its next page
abbrev pub after_page : Cursor → Cursor
after_page cursor = record cursor { rows = drop cursor.page cursor.rows }

-- a page after the first one, and the cursor after it
abbrev pub paged : Cursor → Page × Cursor
paged cursor = (page_shown None cursor, after_page cursor)

-- ---- open cursors

abbrev pub has_number : ℤ → Cursor → Bool
has_number number cursor = int_eq (pos cursor.number) number

-- the open cursor with a number
abbrev pub cursor_at : List Cursor → ℤ → Option Cursor
cursor_at cursors number = find (has_number number) cursors

-- the open cursors without the one with a number
abbrev pub without : List Cursor → ℤ → List Cursor
without [] number = []
without (cursor ∷ cursors) number =
    if has_number number cursor then without cursors number else cursor ∷ without cursors number

-- no two cursors have one number
abbrev pub AreApart : List Cursor → Type 0
AreApart [] = Unit {0}
AreApart (cursor ∷ cursors) = (cursor_at cursors (pos cursor.number) ≡ None) × AreApart cursors

-- the place of the first open cursor with a number
unfoldable pub place_of_number : List Cursor → ℤ → Option ℕ
place_of_number cursors number = position (has_number number) cursors
