-- The heads of replies.
use Rattle.std.specs.Prelude.{◌≡◌, ◌≢◌, ℕ, ◌<◌, ◌^◌, ◌⊎◌, ℤ, pos, Bool, true, false, List, [], ◌++◌, length, Option, None, Some, is_some, Ok, Err, if◌then◌else◌, FitsSigned}
use Rattle.std.specs.Ordering.{int_eq}
use Rattle.std.specs.Int.{w16, w32, w64}
use Rattle.ig_base.specs.Numbers.{LE}
use Rattle.ig_base.specs.declared.Topology.{Topology}
use Rattle.ig_wire.specs.Versions.{has_flags}
use Rattle.ig_wire.specs.Fields.{string, IsText, IsNumber, IsShort, StopsString, StopsThen, Field, ◌>>=◌, number_of, string_of}
use Rattle.ig_wire.specs.declared.version.Version.{Version}
use Rattle.ig_wire.specs.declared.head.Fault.{Fault}
use Rattle.ig_wire.specs.declared.head.ReplyHead.{ReplyHead}

-- ---- which bytes are a head

-- 1 for a fault, and 2 for the topology
abbrev pub flag_number : Bool → Bool → ℤ
flag_number false false = pos 0
flag_number false true = pos 1
flag_number true false = pos 2
flag_number true true = pos 3

-- an Int64 version and an Int32 minor version
abbrev pub topology_bytes : Option Topology → List ℕ
topology_bytes None = []
topology_bytes (Some t) = LE w64 t.version ++ LE w32 t.minor

-- an Int32 status, and a String
abbrev pub fault_bytes : Option Fault → List ℕ
fault_bytes None = []
fault_bytes (Some fault) = LE w32 fault.status ++ string fault.text

-- below 1.4.0 a status of 0 stands for no fault
abbrev pub status_bytes : Option Fault → List ℕ
status_bytes None = LE w32 (pos 0)
status_bytes (Some fault) = fault_bytes (Some fault)

-- what follows the identifier: from 1.4.0 on the flags, the topology and the fault, where they are
-- there, else the status
abbrev pub told_bytes : Bool → Option Topology → Option Fault → List ℕ
told_bytes true told fault =
    LE w16 (flag_number (is_some told) (is_some fault)) ++ topology_bytes told ++ fault_bytes fault
told_bytes false told fault = status_bytes fault

-- the identifier of the request, and what follows it
abbrev pub head_bytes : Version → ReplyHead → List ℕ
head_bytes v head = LE w64 head.id ++ told_bytes (has_flags v) head.told head.fault

abbrev pub IsTopology : Option Topology → Type 0
IsTopology None = Unit {0}
IsTopology (Some t) = FitsSigned w64 t.version × FitsSigned w32 t.minor

abbrev pub IsFault : Option Fault → Type 0
IsFault None = Unit {0}
IsFault (Some fault) = FitsSigned w32 fault.status × IsText fault.text

-- below 1.4.0 no topology is told, and no fault has status 0
abbrev pub MayTell : Bool → Option Topology → Option Fault → Type 0
MayTell true told fault = Unit {0}
MayTell false (Some t) fault = ⊥
MayTell false None None = Unit {0}
MayTell false None (Some fault) = fault.status ≢ pos 0

-- an Int32 counts the bytes of the fault's text
abbrev pub HasShortText : Option Fault → Type 0
HasShortText None = Unit {0}
HasShortText (Some fault) = length fault.text < 2 ^ 31

-- the head is one of this version
pub record IsHead (v : Version) (head : ReplyHead) : Type 0 where
  pub id : FitsSigned w64 head.id
  pub told : IsTopology head.told
  pub fault : IsFault head.fault
  pub may : MayTell (has_flags v) head.told head.fault

-- ---- where bytes stop being one

-- the bytes are the flags for these parts
abbrev pub IsFlags : List ℕ → Bool × Bool → Type 0
IsFlags s parts = s ≡ LE w16 (flag_number parts.0 parts.1)

-- other flags are set
pub record IsOtherFlags (s : List ℕ) (at : ℕ) : Type 0 where
  pub flags : ℤ
  pub rest : List ℕ
  pub fits : FitsSigned w16 flags
  pub whole : s ≡ LE w16 flags ++ rest
  pub other : (told fault : Bool) → flags ≢ flag_number told fault
  pub here : at ≡ 0

abbrev pub StopsFlags : List ℕ → ℕ → Type 0
StopsFlags s at = IsShort 2 s at ⊎ IsOtherFlags s at

-- the bytes are the topology, where it is told
abbrev pub IsTopologyField : Bool → List ℕ → Option Topology → Type 0
IsTopologyField is_told s t = (is_some t ≡ is_told) × IsTopology t × (s ≡ topology_bytes t)

abbrev pub StopsTopology : Bool → List ℕ → ℕ → Type 0
StopsTopology false s at = ⊥
StopsTopology true s at = StopsThen (IsNumber w64) (IsShort 8) (λ version. IsShort 4) s at

-- the bytes are the fault, where one is told
abbrev pub IsFaultField : Bool → List ℕ → Option Fault → Type 0
IsFaultField is_told s fault = (is_some fault ≡ is_told) × IsFault fault × (s ≡ fault_bytes fault)

abbrev pub StopsFault : Bool → List ℕ → ℕ → Type 0
StopsFault false s at = ⊥
StopsFault true s at = StopsThen (IsNumber w32) (IsShort 4) (λ status. StopsString) s at

-- below 1.4.0 a text follows a status that isn't 0
abbrev pub StopsStatus : ℤ → List ℕ → ℕ → Type 0
StopsStatus status s at = (status ≢ pos 0) × StopsString s at

abbrev pub StopsTold : Bool → List ℕ → ℕ → Type 0
StopsTold true s at =
    StopsThen IsFlags StopsFlags
    (λ parts. StopsThen (IsTopologyField parts.0) (StopsTopology parts.0) (λ t. StopsFault parts.1)) s at
StopsTold false s at = StopsThen (IsNumber w32) (IsShort 4) StopsStatus s at

-- the bytes begin with no head
abbrev pub StopsHead : Version → List ℕ → ℕ → Type 0
StopsHead v = StopsThen (IsNumber w64) (IsShort 8) (λ id. StopsTold (has_flags v))

-- ---- reading it from left to right

abbrev pub Told : Type 0
Told = Option Topology × Option Fault

-- the fault with this status
abbrev pub fault_after : ℤ → List ℕ → Field Fault
fault_after status s = string_of s >>= λ text. Ok (record { status = status; text = text.0 }, text.1)

abbrev pub fault_of : Bool → List ℕ → Field (Option Fault)
fault_of false s = Ok (None, s)
fault_of true s = do
  status ← number_of w32 s
  fault ← fault_after status.0 status.1
  Ok (Some fault.0, fault.1)

abbrev pub topology_of : Bool → List ℕ → Field (Option Topology)
topology_of false s = Ok (None, s)
topology_of true s = do
  version ← number_of w64 s
  minor ← number_of w32 version.1
  Ok (Some (record { version = version.0; minor = minor.0 }), minor.1)

-- whether the topology is told, and whether a fault is; other flags don't read
abbrev pub parts_of : ℤ → Option (Bool × Bool)
parts_of flags =
    if int_eq flags (pos 0) then Some (false, false)
    else (if int_eq flags (pos 1) then Some (false, true)
    else (if int_eq flags (pos 2) then Some (true, false)
    else (if int_eq flags (pos 3) then Some (true, true) else None)))

abbrev pub known_flags : ℕ → List ℕ → Option (Bool × Bool) → Field (Bool × Bool)
known_flags left rest None = Err left
known_flags left rest (Some parts) = Ok (parts, rest)

abbrev pub flags_of : List ℕ → Field (Bool × Bool)
flags_of s = number_of w16 s >>= λ flags. known_flags (length s) flags.1 (parts_of flags.0)

abbrev pub status_of : ℤ → List ℕ → Field Told
status_of status s =
    if int_eq status (pos 0) then Ok ((None, None), s)
    else (fault_after status s >>= λ fault. Ok ((None, Some fault.0), fault.1))

abbrev pub told_of : Bool → List ℕ → Field Told
told_of true s = do
  flags ← flags_of s
  topology ← topology_of flags.0.0 flags.1
  fault ← fault_of flags.0.1 topology.1
  Ok ((topology.0, fault.0), fault.1)
told_of false s = number_of w32 s >>= λ status. status_of status.0 status.1

abbrev pub head_of : Version → List ℕ → Field ReplyHead
head_of v s = do
  id ← number_of w64 s
  told ← told_of (has_flags v) id.1
  Ok (record { id = id.0; told = told.0.0; fault = told.0.1 }, told.1)
