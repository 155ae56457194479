-- The hello that opens a session, and how it is answered.
use Rattle.std.specs.Prelude.{◌≡◌, ◌≢◌, ℕ, suc, ◌+◌, ◌⊎◌, ℤ, pos, Bool, true, false, List, [], ◌∷◌, ◌++◌, length, drop, slice_index, unwrap_or, Option, None, Some, Result, Ok, Err, ◌==◌, if◌then◌else◌}
use Rattle.std.specs.Int.{w16}
use Rattle.ig_base.specs.Numbers.{number_at}
use Rattle.ig_wire.specs.Versions.{version_bytes, IsVersion, is_accepted, has_login}
use Rattle.ig_wire.specs.Fields.{string, nullable_string, IsText, IsNullableText, IsNullableString, StopsNullableString, IsLeftOver, StopsThen, Field, ◌>>=◌, nullable_string_of, whole, frame_place}
use Rattle.ig_wire.specs.declared.version.Version.{Version}
use Rattle.ig_wire.specs.declared.hello.Hello.{Hello}
use Rattle.ig_wire.specs.declared.hello.Login.{Login}
use Rattle.ig_wire.specs.declared.hello.HelloFault.{HelloFault}
use Rattle.ig_wire.specs.declared.hello.HelloFault.TheVariants as fault

-- ---- which bytes are a hello

-- byte 1, the version, and the client code
abbrev pub hello_start : Version → ℕ → List ℕ
hello_start v client = 1 ∷ version_bytes v ++ client ∷ []

-- the client code of a thin client
abbrev pub thin_client : ℕ
thin_client = 2

-- nothing, or two Strings
abbrev pub login_bytes : Option Login → List ℕ
login_bytes None = []
login_bytes (Some login) = string login.name ++ string login.password

-- the hello that a client writes
abbrev pub hello_bytes : Version → Option Login → List ℕ
hello_bytes v login = hello_start v thin_client ++ login_bytes login

-- a login is for 1.1.0 and above
abbrev pub MayLogin : Version → Option Login → Type 0
MayLogin v None = Unit {0}
MayLogin v (Some login) = has_login v ≡ true

-- both are what a String can hold
abbrev pub IsLoginOfTexts : Option Login → Type 0
IsLoginOfTexts None = Unit {0}
IsLoginOfTexts (Some login) = IsText login.name × IsText login.password

-- a name and a password, of which each may be null
abbrev pub Credentials : Type 0
Credentials = Option (List ℕ) × Option (List ℕ)

abbrev pub IsLogin : List ℕ → Credentials → Type 0
IsLogin s x =
    IsNullableText x.0 × IsNullableText x.1 × (s ≡ nullable_string x.0 ++ nullable_string x.1)

-- what follows the client code: nothing, or from 1.1.0 on a login
abbrev pub IsTail : Version → List ℕ → Bool → Type 0
IsTail v s false = s ≡ []
IsTail v s true = (has_login v ≡ true) × ((x : Credentials) × IsLogin s x)

-- the name stops, or the password after it does, or bytes follow both
abbrev pub StopsLogin : List ℕ → ℕ → Type 0
StopsLogin =
    StopsThen IsLogin (StopsThen IsNullableString StopsNullableString (λ name. StopsNullableString))
    (λ x. IsLeftOver)

-- what follows the client code is neither nothing nor a login
abbrev pub StopsTail : Version → List ℕ → ℕ → Type 0
StopsTail v s at =
    (s ≢ []) × (((has_login v ≡ false) × (at ≡ 0)) ⊎ ((has_login v ≡ true) × StopsLogin s at))

-- the body begins with byte 1, this version and this client code
pub record BeginsHello (body : List ℕ) (v : Version) (client : ℕ) (tail : List ℕ) : Type 0 where
  pub whole : body ≡ hello_start v client ++ tail
  pub numbers : IsVersion v

-- How a server whose highest version is this one answers a hello: it is accepted, or refused for the
-- first reason of these. The first byte isn't 1; the version isn't accepted; the client code isn't
-- that of a thin client; what follows isn't a login, from a place on that counts from the frame's
-- first byte.
abbrev pub Greets : Version → List ℕ → Result Hello HelloFault → Type 0
Greets highest body (Ok hello) =
    (tail : List ℕ) × BeginsHello body hello.version thin_client tail
    × (is_accepted highest hello.version ≡ true) × IsTail hello.version tail hello.credentials
Greets highest body (Err (fault.NotHello byte)) = (rest : List ℕ) × (body ≡ byte ∷ rest) × (byte ≢ 1)
Greets highest body (Err (fault.Version v)) =
    (client : ℕ) × (tail : List ℕ) × BeginsHello body v client tail × (is_accepted highest v ≡ false)
Greets highest body (Err (fault.ClientCode client)) =
    (v : Version) × (tail : List ℕ) × BeginsHello body v client tail
    × (is_accepted highest v ≡ true) × (client ≢ thin_client)
Greets highest body (Err (fault.Credentials place)) =
    (v : Version) × (tail : List ℕ) × (at : ℕ) × BeginsHello body v thin_client tail
    × (is_accepted highest v ≡ true) × StopsTail v tail at × (place ≡ 4 + 8 + at)

-- ---- the same, read from left to right

-- the number of two bytes at an offset, 0 where the body is too short
abbrev short_at : List ℕ → ℕ → ℤ
short_at body at = unwrap_or (number_at w16 body at) (pos 0)

-- the version whose numbers stand there
abbrev pub version_at : List ℕ → ℕ → Version
version_at body at =
    record { major = short_at body at; minor = short_at body (at + 2); patch = short_at body (at + 4) }

abbrev pub login_of : List ℕ → Field Credentials
login_of s = do
  name ← nullable_string_of s
  password ← nullable_string_of name.1
  Ok ((name.0, password.0), password.1)

-- whether a login follows, or how many bytes are left where the first wrong item begins
abbrev pub tail_of : Version → List ℕ → Result Bool ℕ
tail_of v [] = Ok false
tail_of v (b ∷ s) =
    if has_login v then (whole (login_of (b ∷ s)) >>= λ login. Ok true) else Err (suc (length s))

abbrev pub greeting_after : List ℕ → Version → Result Bool ℕ → Result Hello HelloFault
greeting_after body v (Ok credentials) = Ok (record { version = v; credentials = credentials })
greeting_after body v (Err left) = Err (fault.Credentials (frame_place body left))

abbrev pub greeting_at : Version → List ℕ → Version → Result Hello HelloFault
greeting_at highest body v =
    if is_accepted highest v then (if slice_index body 7 == thin_client
    then greeting_after body v (tail_of v (drop 8 body))
    else Err (fault.ClientCode (slice_index body 7)))
    else Err (fault.Version v)

-- the answer to a hello of at least eight bytes
abbrev pub greeting : Version → List ℕ → Result Hello HelloFault
greeting highest body =
    if slice_index body 0 == 1 then greeting_at highest body (version_at body 1)
    else Err (fault.NotHello (slice_index body 0))
