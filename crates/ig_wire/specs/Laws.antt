-- Laws of hellos, their replies, and heads, over lists alone.
use Rattle.std.specs.Prelude.{◌≡◌, ◌≤◌, ◌+◌, ◌++◌, ℕ, List, length, Option, is_some, true, Result, Ok, Err}
use Rattle.ig_base.specs.Numbers.{AreBytes}
use Rattle.ig_wire.specs.declared.version.Version.{Version}
use Rattle.ig_wire.specs.declared.hello.Hello.{Hello}
use Rattle.ig_wire.specs.declared.hello.Login.{Login}
use Rattle.ig_wire.specs.declared.hello.HelloFault.{HelloFault}
use Rattle.ig_wire.specs.declared.hello_reply.HelloReply.{HelloReply}
use Rattle.ig_wire.specs.declared.head.ReplyHead.{ReplyHead}
use Rattle.ig_wire.specs.Versions.{IsVersion, is_accepted}
use Rattle.ig_wire.specs.Greets.{Greets, greeting, hello_bytes, MayLogin, IsLoginOfTexts}
use Rattle.ig_wire.specs.HelloReplies.{IsHelloReply, hello_reply_bytes, hello_reply_of, StopsHelloReply}
use Rattle.ig_wire.specs.Heads.{IsHead, head_bytes, head_of, StopsHead}

-- ---- hellos

-- a body of at least eight bytes is answered as its bytes say
abbrev pub GreetingIsRight : Type 0
GreetingIsRight =
    (highest : Version) (body : List ℕ) → AreBytes body → 8 ≤ length body
    → Greets highest body (greeting highest body)

-- no other answer is right
abbrev pub OneGreeting : Type 0
OneGreeting =
    (highest : Version) (body : List ℕ) (answer : Result Hello HelloFault)
    → Greets highest body answer → greeting highest body ≡ answer

-- a hello that was written is accepted where its version is, and says whether a login was given
abbrev pub WrittenHelloIsRead : Type 0
WrittenHelloIsRead =
    (highest v : Version) (login : Option Login) → IsVersion v → is_accepted highest v ≡ true
    → MayLogin v login → IsLoginOfTexts login
    → greeting highest (hello_bytes v login) ≡ Ok (record { version = v; credentials = is_some login })

-- no two hellos have the same bytes
abbrev pub HelloTellsApart : Type 0
HelloTellsApart =
    (v w : Version) (a b : Option Login) → IsVersion v → IsVersion w → IsLoginOfTexts a
    → IsLoginOfTexts b → hello_bytes v a ≡ hello_bytes w b → (v ≡ w) × (a ≡ b)

-- ---- replies to hellos

-- a reply that was written is read
abbrev pub WrittenReplyIsRead : Type 0
WrittenReplyIsRead =
    (v : Version) (reply : HelloReply) → IsHelloReply v reply
    → hello_reply_of v (hello_reply_bytes reply) ≡ Ok reply

-- what is read is a reply of the version, and these are its bytes
abbrev pub ReadReplyIsSpelled : Type 0
ReadReplyIsSpelled =
    (v : Version) (body : List ℕ) (reply : HelloReply) → AreBytes body
    → hello_reply_of v body ≡ Ok reply → IsHelloReply v reply × (body ≡ hello_reply_bytes reply)

-- no two replies have the same bytes
abbrev pub ReplyTellsApart : Type 0
ReplyTellsApart =
    (v : Version) (a b : HelloReply) → IsHelloReply v a → IsHelloReply v b
    → hello_reply_bytes a ≡ hello_reply_bytes b → a ≡ b

-- where reading stops, the bytes stop being a reply, and the other way round
abbrev pub ReplyStopsRightly : Type 0
ReplyStopsRightly =
    (v : Version) (body : List ℕ) (left : ℕ) → AreBytes body → hello_reply_of v body ≡ Err left
    → (at : ℕ) × (left + at ≡ length body) × StopsHelloReply v body at

abbrev pub ReplyStopIsRead : Type 0
ReplyStopIsRead =
    (v : Version) (body : List ℕ) (at : ℕ) → StopsHelloReply v body at
    → (left : ℕ) × (left + at ≡ length body) × (hello_reply_of v body ≡ Err left)

-- ---- heads of replies to requests

-- a head that was written is read, whatever follows it
abbrev pub WrittenHeadIsRead : Type 0
WrittenHeadIsRead =
    (v : Version) (head : ReplyHead) (rest : List ℕ) → IsHead v head
    → head_of v (head_bytes v head ++ rest) ≡ Ok (head, rest)

-- what is read is a head of the version, and a prefix of the body is its bytes
abbrev pub ReadHeadIsSpelled : Type 0
ReadHeadIsSpelled =
    (v : Version) (body rest : List ℕ) (head : ReplyHead) → AreBytes body
    → head_of v body ≡ Ok (head, rest) → IsHead v head × (body ≡ head_bytes v head ++ rest)

-- no two heads have the same bytes, and none's are a prefix of another's
abbrev pub HeadTellsApart : Type 0
HeadTellsApart =
    (v : Version) (a b : ReplyHead) (x y : List ℕ) → IsHead v a → IsHead v b
    → head_bytes v a ++ x ≡ head_bytes v b ++ y → (a ≡ b) × (x ≡ y)

-- where reading stops, the bytes stop being a head, and the other way round
abbrev pub HeadStopsRightly : Type 0
HeadStopsRightly =
    (v : Version) (body : List ℕ) (left : ℕ) → AreBytes body → head_of v body ≡ Err left
    → (at : ℕ) × (left + at ≡ length body) × StopsHead v body at

abbrev pub HeadStopIsRead : Type 0
HeadStopIsRead =
    (v : Version) (body : List ℕ) (at : ℕ) → StopsHead v body at
    → (left : ℕ) × (left + at ≡ length body) × (head_of v body ≡ Err left)
