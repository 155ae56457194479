-- The fields that requests and results are written with are fields of the rows of their operations.
use Rattle.std.proofs.Common.{◌≡◌, Option, Some, refl, subst}
use Rattle.ig_wire.specs.declared.Operation.{Operation}
use Rattle.ig_wire.specs.declared.Profile.{Profile}
use Rattle.ig_fields.specs.Format.{Fields}
use Rattle.ig_fields.specs.Ask.{Ask, AskForm, ResultForm, Filled}
use Rattle.ig_fields.specs.TableLaws.{IsRowOf, IsShownBy}

abbrev pub present : {A : Type 0} → A → Option A
present x = Some x

pub present_is : {A : Type 0} (a b : A) → present a ≡ present b → a ≡ b
present_is a b e = cc

module _ {A : Type 0} (ask_of : Operation → Option (Ask A)) (profile_of : A → Option Profile) (r : A) (o : Operation) (ask : Ask A) (x : Fields ask.format) where
  abbrev pub row_form : AskForm
  row_form = record { operation = o; filled = record { format = ask.format; fields = x } }

  -- the row of the operation, whose fields ask for the request
  pub is_row : ask_of o ≡ Some ask → ask.request x ≡ r → ask.profile x ≡ profile_of r → (form : AskForm) → present row_form ≡ present form → IsRowOf ask_of profile_of r form
  is_row known asks profile form e =
      let all : IsRowOf ask_of profile_of r row_form = record { ask = ask; known = known; fields = x; same = refl; asks = asks; profile = profile } in
      subst (IsRowOf ask_of profile_of r) (present_is row_form form e) all

module _ {A : Type 0} (row : ResultForm A) (x y : Fields row.format) where
  abbrev pub row_filled : Filled
  row_filled = record { format = row.format; fields = y }

  -- fields that show the same
  pub row_shows : row.shown y ≡ row.shown x → (filled : Filled) → present row_filled ≡ present filled → IsShownBy row (row.shown x) filled
  row_shows shows filled e =
      let all : IsShownBy row (row.shown x) row_filled = record { fields = y; same = refl; shows = shows } in
      subst (IsShownBy row (row.shown x)) (present_is row_filled filled e) all

-- what the row shows is written with fields of the row, which show it
abbrev pub RowShows : {A : Type 0} → (A → Option Filled) → ResultForm A → Type 0
RowShows shown_form row = (x : Fields row.format) (filled : Filled) → shown_form (row.shown x) ≡ Some filled → IsShownBy row (row.shown x) filled

pub by_form : {A : Type 0} (shown_form : A → Option Filled) (row form : ResultForm A) → RowShows shown_form row → present row ≡ present form → RowShows shown_form form
by_form shown_form row form shows e = subst (RowShows shown_form) (present_is row form e) shows
