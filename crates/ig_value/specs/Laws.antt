-- Laws of the grammar, over lists and trees alone.
use Rattle.std.specs.Prelude.{◌≡◌, ℕ, suc, ◌+◌, ◌≤◌, ◌⊎◌, ◌++◌, List, length, sum_by, Ok, Err}
use Rattle.ig_base.specs.Numbers.{AreBytes}
use Rattle.ig_value.specs.declared.cause.Cause.{Cause}
use Rattle.ig_value.specs.declared.value.Value.{Value, out-Value}
use Rattle.ig_value.specs.Spells.{Spells}
use Rattle.ig_value.specs.Stops.{Stops}
use Rattle.ig_value.specs.Canon.{Canon, IsSendable}
use Rattle.ig_value.specs.Limits.{Fits, FitsTo, Depth, Nodes, children}
use Rattle.ig_value.specs.Reading.{reading}

-- some prefix of the bytes encodes a value
pub record BeginsWithValue (s : List ℕ) : Type 0 where
  pub prefix : List ℕ
  pub rest : List ℕ
  pub value : Value
  pub whole : s ≡ prefix ++ rest
  pub right : Spells prefix value

-- the bytes stop being a value
pub record HasStop (s : List ℕ) : Type 0 where
  pub at : ℕ
  pub cause : Cause
  pub wrong : Stops s at cause

-- any bytes begin with a value, or stop being one
abbrev pub EveryInputIsDecided : Type 0
EveryInputIsDecided = (s : List ℕ) → AreBytes s → BeginsWithValue s ⊎ HasStop s

-- only one prefix is an encoding, of only one value
abbrev pub OnePrefixSpells : Type 0
OnePrefixSpells = (a b x y : List ℕ) (v w : Value) → Spells a v → Spells b w → a ++ x ≡ b ++ y → (a ≡ b) × (v ≡ w)

-- they stop at only one offset, for only one cause
abbrev pub OneStop : Type 0
OneStop = (s : List ℕ) (p q : ℕ) (c d : Cause) → Stops s p c → Stops s q d → (p ≡ q) × (c ≡ d)

-- bytes that begin with a value never stop being one
abbrev pub NoStopAfterValue : Type 0
NoStopAfterValue = (a x : List ℕ) (v : Value) (p : ℕ) (c : Cause) → Spells a v → Stops (a ++ x) p c → ⊥

-- ---- reading as a function of the bytes

-- what is read was encoded by a prefix
abbrev pub ReadIsSpelled : Type 0
ReadIsSpelled = (s rest : List ℕ) (v : Value) → AreBytes s → reading s ≡ Ok (v, rest) → (prefix : List ℕ) × (s ≡ prefix ++ rest) × Spells prefix v

-- what is encoded is read, whatever follows it
abbrev pub SpelledIsRead : Type 0
SpelledIsRead = (prefix rest : List ℕ) (v : Value) → Spells prefix v → reading (prefix ++ rest) ≡ Ok (v, rest)

-- where reading stops, the bytes stop being a value: `left` bytes from their end, for the same
-- cause
abbrev pub ReadingStopsRightly : Type 0
ReadingStopsRightly = (s : List ℕ) (left : ℕ) (c : Cause) → AreBytes s → reading s ≡ Err (left, c) → (at : ℕ) × (left + at ≡ length s) × Stops s at c

-- where the bytes stop being a value, reading stops
abbrev pub StopIsRead : Type 0
StopIsRead = (s : List ℕ) (at : ℕ) (c : Cause) → Stops s at c → (left : ℕ) × (left + at ≡ length s) × (reading s ≡ Err (left, c))

-- ---- the canonical form, and limits

-- a value with an encoding keeps to the limits
abbrev pub SpelledFits : Type 0
SpelledFits = (s : List ℕ) (v : Value) → Spells s v → Fits v

-- the canonical form of a sendable value spells it
abbrev pub CanonSpells : Type 0
CanonSpells = (v : Value) → Fits v → IsSendable v → Spells (Canon v) v

-- no encoding of the value is shorter
abbrev pub CanonIsShortest : Type 0
CanonIsShortest = (s : List ℕ) (v : Value) → Spells s v → length (Canon v) ≤ length s

-- two sendable values have the same canonical form only if they are equal
abbrev pub CanonTellsApart : Type 0
CanonTellsApart = (v w : Value) → Fits v → Fits w → IsSendable v → Canon v ≡ Canon w → v ≡ w

-- an encoding has at least a byte for each node of the value
abbrev pub ByteForEachNode : Type 0
ByteForEachNode = (s : List ℕ) (v : Value) → Spells s v → Nodes v ≤ length s

-- a value is a node, and so is every node of a value inside it
abbrev pub NodesInsideCount : Type 0
NodesInsideCount = (v : Value) → suc (sum_by Nodes (children (out-Value v))) ≤ Nodes v

-- a value within the limits at some depth is no deeper than that
abbrev pub FitsIsShallow : Type 0
FitsIsShallow = (levels : ℕ) (v : Value) → FitsTo levels v → Depth v ≤ levels

-- a value within the limits at some depth keeps to them at every depth that it has room in
abbrev pub FitsAtItsDepth : Type 0
FitsAtItsDepth = (m n : ℕ) (v : Value) → FitsTo m v → Depth v ≤ n → FitsTo n v
