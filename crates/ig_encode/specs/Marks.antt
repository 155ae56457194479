-- Marks: an offset in the canonical form of a value, and the path to it through the values inside.
use Rattle.std.specs.Prelude.{◌≡◌, ℕ, ◌+◌, ◌-◌, ◌≤◌, List, [], ◌∷◌, length, take, slice_get, MatchOption}
use Rattle.std.specs.List.{flat_map}
use Rattle.ig_value.specs.declared.code.Code.{Code}
use Rattle.ig_value.specs.declared.code.Code.TheVariants as code
use Rattle.ig_value.specs.declared.value.Value.{Value, out-Value}
use Rattle.ig_value.specs.declared.value.Value.TheOpen.{Value-F}
use Rattle.ig_value.specs.Part.{Part, nothing, object, counted, optional, Content}
use Rattle.ig_value.specs.Table.{content, parts}
use Rattle.ig_value.specs.Canon.{part_bytes, Canon}
use Rattle.ig_value.specs.Limits.{children}
use Rattle.ig_encode.specs.Spans.{least_footer, least_entries}
use Rattle.ig_encode.specs.declared.mark.Step.{Step}
use Rattle.ig_encode.specs.declared.mark.Mark.{Mark}

-- the values directly inside a value
abbrev pub inner_values : Value → List Value
inner_values v = children (out-Value v)

-- how many bytes stand before the first value inside a value with this code
abbrev pub head_size : Code → ℕ
head_size code.Objects = 9
head_size code.Collection = 6
head_size code.Map = 6
head_size code.Enums = 9
head_size code.Object = 24
head_size _ = 0

abbrev pub head_len : Value → ℕ
head_len v = head_size (parts (out-Value v)).0

-- the step goes to one of these items, or past the last of them, at or before this offset; the head
-- is what stands before the first
pub record IsStepTo {A : Type 0} (bytes : A → List ℕ) (head : ℕ) (items : List A) (offset : ℕ) (step : Step) : Type 0 where
  pub within : step.index ≤ length items
  pub there : step.before ≡ head + length (flat_map bytes (take step.index items))
  pub reached : step.before ≤ offset

-- the same for values
abbrev pub IsStep : ℕ → List Value → ℕ → Step → Type 0
IsStep head inside offset step = IsStepTo Canon head inside offset step

-- where the values inside a value end
abbrev pub inner_end : Value → ℕ
inner_end v = head_len v + length (flat_map Canon (inner_values v))

-- the entries of the first fields in the footer of an object
abbrev pub entries_in : ℕ → Value-F Value → List ℕ
entries_in count (Value-F.Object o) = least_entries o.shape o.fields count
entries_in count _ = []

-- the step goes to a field of an object whose entry is at or before this offset; the fields end, and
-- the footer begins, at `end`
pub record IsEntryStep (v : Value) (end : ℕ) (offset : ℕ) (step : Step) : Type 0 where
  pub field : IsStep (head_len v) (inner_values v) offset step
  pub reached : end + length (entries_in step.index (out-Value v)) ≤ offset

-- the step goes to an item of an array whose items may be null; a code and a count stand before the
-- first
abbrev pub IsStepIn : (p : Part) → Content Value p → ℕ → Step → Type 0
IsStepIn (counted nothing (optional c p)) x offset step = IsStepTo (part_bytes Canon (optional c p)) 5 x.1 offset step
IsStepIn _ x offset step = ⊥

-- the same by the value
abbrev pub IsItemStep : Value → ℕ → Step → Type 0
IsItemStep v offset step = IsStepIn (content (parts (out-Value v)).0) (parts (out-Value v)).1 offset step

-- the step goes to an entry of the footer of an object, or to an item of such an array
abbrev pub IsTailStep : Value → (p : Part) → Content Value p → ℕ → ℕ → Step → Type 0
IsTailStep v object x end offset step = IsEntryStep v end offset step
IsTailStep v p x end offset step = IsStepIn p x offset step

-- after a step past the last value inside there may be one more
abbrev pub IsTailPath : Value → ℕ → ℕ → List Step → Type 0
IsTailPath v end offset [] = Unit {0}
IsTailPath v end offset (step ∷ steps) = IsTailStep v (content (parts (out-Value v)).0) (parts (out-Value v)).1 end offset step

-- the steps go towards this offset of the canonical form, each from a value to one inside it
abbrev pub IsPath : Value → ℕ → List Step → Type 0
IsPath v offset [] = Unit {0}
IsPath v offset (step ∷ steps) = IsStep (head_len v) (inner_values v) offset step × MatchOption (slice_get (inner_values v) step.index) (IsTailPath v step.before offset steps) (λ child. IsPath child (offset - step.before) steps)

-- the mark stands for its offset of the value's canonical form
pub record IsMarkOf (v : Value) (mark : Mark) : Type 0 where
  pub within : mark.offset ≤ length (Canon v)
  pub deep : mark.depth ≤ 32
  pub path : IsPath v mark.offset (take mark.depth mark.steps)

-- the keys and values of pairs, by turns
abbrev pub paired_values : List (Value × Value) → List Value
paired_values ps = flat_map (λ p. p.0 ∷ p.1 ∷ []) ps

-- what stands after the values inside: the footer of an object, all of a value that holds none
abbrev pub tail_with : List ℕ → Value-F Value → List ℕ
tail_with whole (Value-F.Objects type xs) = []
tail_with whole (Value-F.Collection kind xs) = []
tail_with whole (Value-F.Map kind ps) = []
tail_with whole (Value-F.Enums type xs) = []
tail_with whole (Value-F.Object o) = least_footer o.shape o.fields
tail_with whole _ = whole

abbrev pub tail_bytes : Value → List ℕ
tail_bytes v = tail_with (Canon v) (out-Value v)

-- the first of these steps, or else one to the first of what stands from this offset on
abbrev pub first_of : ℕ → List Step → Step
first_of before [] = record { index = 0; before = before }
first_of before (step ∷ steps) = step
