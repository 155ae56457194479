-- Laws of the message that asks for partition maps and of its result, over lists alone.
use Rattle.std.specs.Prelude.{◌≡◌, ◌≢◌, ℕ, ℤ, ◌<◌, ◌≤◌, ◌^◌, List, ◌++◌, length, Some, Result, Ok, Err, FitsSigned}
use Rattle.std.specs.Int.{w32, w64}
use Rattle.ig_base.specs.Numbers.{AreBytes}
use Rattle.ig_base.specs.declared.Topology.{Topology}
use Rattle.ig_value.specs.Part.{i32}
use Rattle.ig_value.specs.Spells.{IsInRange}
use Rattle.ig_wire.specs.declared.ReadFault.{ReadFault}
use Rattle.ig_wire.specs.declared.ReadFault.TheVariants as read_fault
use Rattle.ig_fields.specs.Format.{Fields}
use Rattle.ig_fields.specs.SpellsFields.{SpellsFields}
use Rattle.ig_fields.specs.FieldBytes.{FitsBoth, FitsListed, FitsFields}
use Rattle.ig_fields.specs.AsksRightly.{asked}
use Rattle.ig_fields.specs.ShowsRightly.{ShowsRightly, shown_by}
use Rattle.ig_parts.specs.declared.map.PartMap.{PartMap}
use Rattle.ig_parts.specs.ServedMap.{served_map}
use Rattle.ig_parts.specs.PartsMessages.{parts_ask, parts_row, ask_body, parts_result, map_of, map_form, map_bytes, FitsMap}

-- ---- requests

-- the caches are Int32, and less than 2^31
abbrev pub FitsAsk : List ℤ → Type 0
FitsAsk caches = FitsFields parts_ask caches

-- a request that is written is read as it is
abbrev pub WrittenAskIsRead : Type 0
WrittenAskIsRead =
    (id : ℤ) (caches : List ℤ) → FitsAsk caches
    → asked (Some parts_row) (ask_body id caches) ≡ Ok caches

-- no two requests have the same bytes
abbrev pub AsksTellApart : Type 0
AsksTellApart =
    (a b : ℤ) (p q : List ℤ) → FitsSigned w64 a → FitsSigned w64 b → FitsAsk p → FitsAsk q
    → ask_body a p ≡ ask_body b q → (a ≡ b) × (p ≡ q)

-- ---- results

-- the answer that reading a result gives is right
abbrev pub ReadMapIsRight : Type 0
ReadMapIsRight =
    (body : List ℕ) (at : ℕ) → AreBytes body → at ≤ length body
    → ShowsRightly map_form body at (shown_by map_form body at)

-- and it is the only right one but out of memory
abbrev pub OneRightMap : Type 0
OneRightMap =
    (body : List ℕ) (at : ℕ) (answer : Result PartMap ReadFault) → at ≤ length body
    → ShowsRightly map_form body at answer → answer ≢ Err read_fault.NoMemory
    → shown_by map_form body at ≡ answer

-- a map that is written is read as it is, after whatever head
abbrev pub WrittenMapIsRead : Type 0
WrittenMapIsRead =
    (m : PartMap) (head : List ℕ) → FitsMap m
    → shown_by map_form (head ++ map_bytes m) (length head) ≡ Ok m

-- no two maps have the same bytes
abbrev pub MapsTellApart : Type 0
MapsTellApart = (m n : PartMap) → FitsMap m → FitsMap n → map_bytes m ≡ map_bytes n → m ≡ n

-- what bytes spell that an Int32 counts can be written
abbrev pub SpelledMapFits : Type 0
SpelledMapFits =
    (s : List ℕ) (x : Fields parts_result) → length s < 2 ^ 31
    → SpellsFields parts_result s x → FitsMap (map_of x)

-- pairs of Int32, less than 2^31
abbrev pub FitPairs : List (ℤ × ℤ) → Type 0
FitPairs pairs = FitsListed (FitsBoth (IsInRange i32) (IsInRange i32)) pairs

-- the map that a server answers is read as it is
abbrev pub ServedMapFits : Type 0
ServedMapFits =
    (told : Topology) (nodes parts : ℕ) (caches : List ℤ) (pairs : List (ℤ × ℤ))
    → nodes ≤ 65536 → parts ≤ 65536
    → FitsSigned w64 told.version → FitsSigned w32 told.minor → FitsAsk caches → FitPairs pairs
    → FitsMap (served_map told nodes parts caches pairs)
