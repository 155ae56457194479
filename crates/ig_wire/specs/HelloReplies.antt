-- The reply to a hello.
use Rattle.std.specs.Prelude.{◌≡◌, ◌≢◌, ℕ, suc, ◌<◌, ℤ, Bool, true, false, List, [], ◌∷◌, ◌++◌, length, Option, None, Some, Result, Ok, Err, ◌==◌, if◌then◌else◌, FitsSigned}
use Rattle.std.specs.Int.{w16, w32}
use Rattle.ig_base.specs.declared.NodeId.{NodeId}
use Rattle.ig_base.specs.Numbers.{LE}
use Rattle.ig_value.specs.declared.Code.TheVariants as code
use Rattle.ig_value.specs.Table.{byte_of}
use Rattle.ig_value.specs.Canon.{uuid_bytes}
use Rattle.ig_wire.specs.Versions.{version_bytes, IsVersion, has_flags}
use Rattle.ig_wire.specs.Fields.{string, IsText, IsNode, IsString, IsNumber, IsNodeObject, StopsNode, StopsString, StopsByte, IsShort, IsLeftOver, StopsThen, Field, ◌>>=◌, number_of, string_of, node_of, whole}
use Rattle.ig_wire.specs.declared.version.Version.{Version}
use Rattle.ig_wire.specs.declared.hello_reply.HelloReply.{HelloReply}
use Rattle.ig_wire.specs.declared.hello_reply.HelloReply.TheVariants.{Accepted, Refused}

-- ---- which bytes are a reply to a hello

-- the data object of a UUID
abbrev pub node_bytes : Option NodeId → List ℕ
node_bytes None = []
node_bytes (Some node) = byte_of code.Uuid ∷ uuid_bytes node

abbrev pub code_bytes : Option ℤ → List ℕ
code_bytes None = []
code_bytes (Some n) = LE w32 n

-- byte 1 and the node's identifier, or byte 0, the highest version, the text, and maybe a code
abbrev pub hello_reply_bytes : HelloReply → List ℕ
hello_reply_bytes (Accepted node) = 1 ∷ node_bytes node
hello_reply_bytes (Refused v text n) = 0 ∷ version_bytes v ++ string text ++ code_bytes n

-- the identifier is told from 1.4.0 on
abbrev pub TellsNode : Version → Option NodeId → Type 0
TellsNode v None = has_flags v ≡ false
TellsNode v (Some node) = (has_flags v ≡ true) × IsNode node

abbrev pub IsCode : Option ℤ → Type 0
IsCode None = Unit {0}
IsCode (Some n) = FitsSigned w32 n

-- the reply is one of this version
abbrev pub IsHelloReply : Version → HelloReply → Type 0
IsHelloReply v (Accepted node) = TellsNode v node
IsHelloReply v (Refused highest text n) = IsVersion highest × IsText text × IsCode n

-- the identifier is there exactly from 1.4.0 on
abbrev pub HasNodeAt : Version → Option NodeId → Type 0
HasNodeAt v None = has_flags v ≡ false
HasNodeAt v (Some node) = has_flags v ≡ true

abbrev pub HasNoCode : HelloReply → Type 0
HasNoCode (Accepted _) = Unit {0}
HasNoCode (Refused highest text None) = Unit {0}
HasNoCode (Refused highest text (Some n)) = ⊥

-- a server of this version writes it: without a code
abbrev pub MayWrite : Version → HelloReply → Type 0
MayWrite v (Accepted node) = HasNodeAt v node
MayWrite v (Refused highest text n) = HasNoCode (Refused highest text n)

-- ---- where bytes stop being one

-- a first byte
abbrev pub IsVerdict : List ℕ → Bool → Type 0
IsVerdict s false = s ≡ 0 ∷ []
IsVerdict s true = s ≡ 1 ∷ []

-- the first byte is neither 0 nor 1, or isn't there
abbrev pub StopsVerdict : List ℕ → ℕ → Type 0
StopsVerdict = StopsByte (λ b. b < 2)

-- the bytes are a version
abbrev pub IsVersionField : List ℕ → Version → Type 0
IsVersionField s v = IsVersion v × (s ≡ version_bytes v)

-- one of the three numbers isn't whole
abbrev pub StopsVersion : List ℕ → ℕ → Type 0
StopsVersion =
    StopsThen (IsNumber w16) (IsShort 2)
    (λ major. StopsThen (IsNumber w16) (IsShort 2) (λ minor. IsShort 2))

-- one to three bytes are left, or more than four
abbrev pub StopsCode : List ℕ → ℕ → Type 0
StopsCode s at = (s ≢ []) × StopsThen (IsNumber w32) (IsShort 4) (λ n. IsLeftOver) s at

abbrev pub StopsRefusal : List ℕ → ℕ → Type 0
StopsRefusal =
    StopsThen IsVersionField StopsVersion
    (λ version. StopsThen IsString StopsString (λ text. StopsCode))

abbrev pub StopsAcceptance : Bool → List ℕ → ℕ → Type 0
StopsAcceptance false = IsLeftOver
StopsAcceptance true = StopsThen IsNodeObject StopsNode (λ node. IsLeftOver)

abbrev pub StopsAfterVerdict : Version → Bool → List ℕ → ℕ → Type 0
StopsAfterVerdict v false = StopsRefusal
StopsAfterVerdict v true = StopsAcceptance (has_flags v)

-- the bytes are no reply to a hello: one of its parts is wrong, or bytes follow it
abbrev pub StopsHelloReply : Version → List ℕ → ℕ → Type 0
StopsHelloReply v = StopsThen IsVerdict StopsVerdict (StopsAfterVerdict v)

-- ---- reading it from left to right

abbrev pub version_of : List ℕ → Field Version
version_of s = do
  major ← number_of w16 s
  minor ← number_of w16 major.1
  patch ← number_of w16 minor.1
  Ok (record { major = major.0; minor = minor.0; patch = patch.0 }, patch.1)

-- a code, where bytes are left
abbrev pub code_of : List ℕ → Result (Option ℤ) ℕ
code_of [] = Ok None
code_of (b ∷ s) = whole (number_of w32 (b ∷ s)) >>= λ n. Ok (Some n)

abbrev pub refusal_of : List ℕ → Result HelloReply ℕ
refusal_of s = do
  version ← version_of s
  text ← string_of version.1
  n ← code_of text.1
  Ok (Refused version.0 text.0 n)

-- a first byte: 0 refuses the hello, and 1 accepts it
abbrev pub verdict_of : List ℕ → Field Bool
verdict_of [] = Err 0
verdict_of (b ∷ s) =
    if b == 0 then Ok (false, s) else (if b == 1 then Ok (true, s) else Err (suc (length s)))

abbrev pub acceptance_of : Bool → List ℕ → Result HelloReply ℕ
acceptance_of false s = whole (Ok (Accepted None, s))
acceptance_of true s = whole (node_of s) >>= λ node. Ok (Accepted (Some node))

abbrev pub reply_after : Version → Bool → List ℕ → Result HelloReply ℕ
reply_after v false s = refusal_of s
reply_after v true s = acceptance_of (has_flags v) s

-- the reply that the bytes are, all of them
abbrev pub hello_reply_of : Version → List ℕ → Result HelloReply ℕ
hello_reply_of v s = verdict_of s >>= λ accepts. reply_after v accepts.0 accepts.1
