-- The texts of results, faults and partition maps.
use Rattle.std.specs.Prelude.{ℕ, ℤ, Bool, true, false, List, [], ◌∷◌, ◌++◌, length, codes, Option, None, Some}
use Rattle.std.specs.Fmt.{decimal}
use Rattle.std.specs.List.{flat_map}
use Rattle.ig_value.specs.Part.{i32, i64}
use Rattle.ig_types.specs.declared.meta.TypeMeta.{TypeMeta}
use Rattle.ig_wire.specs.declared.head.Fault.{Fault}
use Rattle.ig_caches.specs.declared.answer.Outcome.{Outcome}
use Rattle.ig_caches.specs.declared.answer.Outcome.TheVariants as outcome
use Rattle.ig_caches.specs.declared.request.Page.{Page}
use Rattle.ig_caches.specs.declared.request.Shown.{Shown}
use Rattle.ig_caches.specs.declared.request.Shown.TheVariants as shown
use Rattle.ig_parts.specs.declared.map.PartMap.{PartMap}
use Rattle.ig_text.specs.TextOf.{TextOf}
use Rattle.ig_text.specs.Tokens.{quoted, scalar_text, truth_text}
use Rattle.ig_lines.specs.Arguments.{space, pair_text}
use Rattle.ig_text.specs.DescriptionText.{description_text}

abbrev pub full_stop : ℕ
full_stop = 46

-- each after a space
abbrev pub spaced : {A : Type 0} → (A → List ℕ) → List A → List ℕ
spaced text xs = flat_map (λ x. space ∷ text x) xs

-- the number of items, and each of them after a space
abbrev pub counted_text : {A : Type 0} → (A → List ℕ) → List A → List ℕ
counted_text text xs = decimal (length xs) ++ spaced text xs

-- a description, or none
abbrev pub found_text : Option TypeMeta → List ℕ
found_text None = codes "none"
found_text (Some m) = description_text m

abbrev pub outcome_text : Outcome → List ℕ
outcome_text outcome.Done = codes "done"
outcome_text (outcome.Found v) = TextOf v
outcome_text (outcome.Yes b) = truth_text b
outcome_text (outcome.Pairs pairs) = codes "pairs " ++ counted_text pair_text pairs
outcome_text (outcome.Count n) = codes "count " ++ scalar_text i64 n
outcome_text (outcome.Names names) = codes "names " ++ counted_text quoted names
outcome_text (outcome.Name name) = codes "name " ++ quoted name
outcome_text (outcome.Meta found) = found_text found
outcome_text (outcome.Keys pairs) = []
outcome_text (outcome.Refused why) = []

-- a next page has no cursor
abbrev pub cursor_text : Option ℤ → List ℕ
cursor_text None = codes "-"
cursor_text (Some cursor) = scalar_text i64 cursor

abbrev pub more_text : Bool → List ℕ
more_text true = codes " more"
more_text false = codes " end"

abbrev pub page_text : Page → List ℕ
page_text p = codes "page " ++ (cursor_text p.cursor ++ space ∷ (counted_text pair_text p.rows ++ more_text p.more))

-- the text of a result
unfoldable pub ShownText : Shown → List ℕ
ShownText (shown.Out o) = outcome_text o
ShownText (shown.Page p) = page_text p

-- a status and a text
unfoldable pub FaultText : Fault → List ℕ
FaultText f = codes "error " ++ (scalar_text i32 f.status ++ space ∷ quoted f.text)

-- the version of the topology, and the number of groups
unfoldable pub MapText : PartMap → List ℕ
MapText m =
    codes "parts " ++ (scalar_text i64 m.told.version ++ full_stop ∷ (scalar_text i32 m.told.minor ++ space ∷ decimal (length m.groups)))

-- results that are shown: all but a refusal, which is a fault, and keys of types, which a map shows
abbrev pub IsShownOutcome : Outcome → Type 0
IsShownOutcome (outcome.Refused why) = ⊥
IsShownOutcome (outcome.Keys pairs) = ⊥
IsShownOutcome _ = Unit {0}

abbrev pub IsPrinted : Shown → Type 0
IsPrinted (shown.Out o) = IsShownOutcome o
IsPrinted (shown.Page p) = Unit {0}
