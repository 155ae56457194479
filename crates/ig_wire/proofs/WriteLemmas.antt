-- Lemmas on writing messages.
use Rattle.std.proofs.Common.{◌≡◌, ℕ, ◌+◌, ℤ, pos, List, [], ◌∷◌, ◌++◌, length, drop, Option, Some, None, Result, Ok, Err, refl, sym, ap, ◌∙◌, arith, append_assoc, append-nil, length-append}
use Rattle.std.specs.Prelude.{OnOk, FitsSigned}
use Rattle.std.specs.Int.{w16, w32, w64}
use Rattle.ig_base.specs.declared.NodeId.{NodeId}
use Rattle.ig_base.specs.Numbers.{LE, number_at}
use Rattle.ig_base.specs.Frames.{Frame}
use Rattle.ig_base.proofs.NumberLemmas.{reads_16, reads_64}
use Rattle.ig_wire.specs.Versions.{version_bytes}
use Rattle.ig_wire.specs.Fields.{string}
use Rattle.ig_wire.specs.Greets.{hello_start, thin_client, hello_bytes}
use Rattle.ig_wire.specs.HelloReplies.{node_bytes, code_bytes, hello_reply_bytes, HasNoCode}
use Rattle.ig_wire.specs.declared.version.Version.{Version}
use Rattle.ig_wire.specs.declared.hello.Login.{Login}
use Rattle.ig_wire.specs.declared.hello_reply.HelloReply.TheVariants.{Accepted, Refused}

-- a fact that follows from that of an Ok
pub on_ok : {T E P Q : Type 0} (r : Result T E) → OnOk r P → (P → Q) → OnOk r Q
on_ok (Ok x) h f = f h
on_ok (Err e) h f = h

-- a length and a body of this length are a frame
pub framed : (out body : List ℕ) (n : ℕ) → length body ≡ n → out ++ LE w32 (pos n) ++ body ≡ out ++ Frame body
unfolding Frame
framed out body n e = append_assoc out (LE w32 (pos n)) body ∙ ap (λ k. out ++ (LE w32 (pos k) ++ body)) (sym e)

pub length-version : (v : Version) → length (version_bytes v) ≡ 6
unfolding LE
length-version v = refl

pub length-start : (v : Version) (client : ℕ) → length (hello_start v client) ≡ 8
unfolding LE
length-start v client = refl

-- the parts of a request's head
pub ask_parts : (operation id : ℤ) (fields : List ℕ) → FitsSigned w16 operation → FitsSigned w64 id
    → (number_at w16 (LE w16 operation ++ LE w64 id ++ fields) 0 ≡ Some operation) × (number_at w64 (LE w16 operation ++ LE w64 id ++ fields) 2 ≡ Some id)
    × (drop 10 (LE w16 operation ++ LE w64 id ++ fields) ≡ fields)
unfolding LE
ask_parts operation id fields a b =
    let body : List ℕ = LE w16 operation ++ LE w64 id ++ fields in
    (reads_16 operation body 0 a refl, reads_64 id body 2 b refl, refl)

-- ---- the lengths of bodies

pub length-hello-none : (v : Version) → length (hello_bytes v None) ≡ 8
length-hello-none v = omega (arith, length-append (hello_start v thin_client) [], length-start v thin_client)

pub length-hello-some : (v : Version) (login : Login) → length (hello_bytes v (Some login)) ≡ 8 + length (string login.name) + length (string login.password)
length-hello-some v login =
    let name : List ℕ = string login.name in
    let password : List ℕ = string login.password in
    omega (arith, length-append (hello_start v thin_client) (name ++ password), length-append name password, length-start v thin_client)

pub length-refused : (v : Version) (text : List ℕ) (n : Option ℤ) → length (hello_reply_bytes (Refused v text n)) ≡ 7 + length (string text) + length (code_bytes n)
length-refused v text n = omega (arith, length-append (version_bytes v ++ string text) (code_bytes n), length-append (version_bytes v) (string text), length-version v)

-- ---- messages, from the parts that were written one after another

pub hello_framed : (out a d : List ℕ) (v : Version) → a ≡ out ++ LE w32 (pos 8) → d ≡ a ++ hello_start v thin_client → d ≡ out ++ Frame (hello_bytes v None)
hello_framed out a d v is then =
    let start : List ℕ = hello_start v thin_client in
    then ∙ ap (λ (l : List ℕ). l ++ start) is ∙ ap (λ (l : List ℕ). out ++ LE w32 (pos 8) ++ l) (sym (append-nil start))
    ∙ framed out (start ++ []) 8 (omega (arith, length-append start [], length-start v thin_client))

pub login_framed : (out a b c d : List ℕ) (v : Version) (login : Login) (n : ℕ) → n ≡ 8 + length (string login.name) + length (string login.password) → a ≡ out ++ LE w32 (pos n) → b ≡ a ++ hello_start v thin_client
    → c ≡ b ++ string login.name → d ≡ c ++ string login.password → d ≡ out ++ Frame (hello_bytes v (Some login))
login_framed out a b c d v login n size is second third fourth =
    let start : List ℕ = hello_start v thin_client in
    let name : List ℕ = string login.name in
    let password : List ℕ = string login.password in
    fourth ∙ ap (λ (l : List ℕ). l ++ password) (third ∙ ap (λ (l : List ℕ). l ++ name) (second ∙ ap (λ (l : List ℕ). l ++ start) is))
    ∙ append_assoc (out ++ LE w32 (pos n) ++ start) name password ∙ append_assoc (out ++ LE w32 (pos n)) start (name ++ password)
    ∙ framed out (start ++ (name ++ password)) n (omega (arith, size, length-append start (name ++ password), length-append name password, length-start v thin_client))

pub accepted_framed : (out a d : List ℕ) → a ≡ out ++ LE w32 (pos 1) → d ≡ a ++ 1 ∷ [] → d ≡ out ++ Frame (hello_reply_bytes (Accepted None))
accepted_framed out a d is then = then ∙ ap (λ (l : List ℕ). l ++ 1 ∷ []) is ∙ framed out (1 ∷ []) 1 refl

length-node : (node : NodeId) → length (node_bytes (Some node)) ≡ 17
unfolding LE
length-node node = refl

pub node_framed : (out a b d : List ℕ) (node : NodeId) → a ≡ out ++ LE w32 (pos 18) → b ≡ a ++ 1 ∷ [] → d ≡ b ++ node_bytes (Some node) → d ≡ out ++ Frame (hello_reply_bytes (Accepted (Some node)))
node_framed out a b d node is second third =
    third ∙ ap (λ (l : List ℕ). l ++ node_bytes (Some node)) (second ∙ ap (λ (l : List ℕ). l ++ 1 ∷ []) is) ∙ append_assoc (out ++ LE w32 (pos 18)) (1 ∷ []) (node_bytes (Some node))
    ∙ framed out (1 ∷ node_bytes (Some node)) 18 (omega (arith, length-node node))

pub refused_framed : (out a b c d : List ℕ) (v : Version) (text : List ℕ) (n : ℕ) → n ≡ 7 + length (string text) → a ≡ out ++ LE w32 (pos n) → b ≡ a ++ 0 ∷ [] → c ≡ b ++ version_bytes v → d ≡ c ++ string text
    → d ≡ out ++ Frame (hello_reply_bytes (Refused v text None))
refused_framed out a b c d v text n size is second third fourth =
    let body : List ℕ = 0 ∷ (version_bytes v ++ string text) in
    fourth ∙ ap (λ (l : List ℕ). l ++ string text) (third ∙ ap (λ (l : List ℕ). l ++ version_bytes v) (second ∙ ap (λ (l : List ℕ). l ++ 0 ∷ []) is))
    ∙ append_assoc (out ++ LE w32 (pos n) ++ 0 ∷ []) (version_bytes v) (string text) ∙ append_assoc (out ++ LE w32 (pos n)) (0 ∷ []) (version_bytes v ++ string text)
    ∙ framed out body n (omega (arith, size, length-append (version_bytes v) (string text), length-version v))
    ∙ ap (λ (l : List ℕ). out ++ Frame (0 ∷ l)) (sym (append-nil (version_bytes v ++ string text)))

pub no_code : (v : Version) (text : List ℕ) (n : Option ℤ) → HasNoCode (Refused v text n) → n ≡ None
no_code v text None h = refl
no_code v text (Some n) h = absurd h

-- the data object of a UUID, from its parts
pub node_put : (out a b d most least : List ℕ) (node : NodeId) (byte : ℕ) → byte ≡ 10 → a ≡ out ++ byte ∷ [] → most ≡ LE w64 (pos node.most) → b ≡ a ++ most → least ≡ LE w64 (pos node.least) → d ≡ b ++ least
    → d ≡ out ++ node_bytes (Some node)
node_put out a b d most least node byte is first high second low third =
    third ∙ ap (λ (l : List ℕ). l ++ least) (second ∙ ap (λ (l : List ℕ). l ++ most) (first ∙ ap (λ (n : ℕ). out ++ n ∷ []) is))
    ∙ append_assoc (out ++ 10 ∷ []) most least ∙ append_assoc out (10 ∷ []) (most ++ least)
    ∙ ap (λ (l : List ℕ). out ++ 10 ∷ (l ++ least)) high ∙ ap (λ (l : List ℕ). out ++ 10 ∷ (LE w64 (pos node.most) ++ l)) low
