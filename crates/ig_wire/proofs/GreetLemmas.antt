-- Hellos are answered as their bytes say.
use Rattle.std.proofs.Common.{◌≡◌, ◌≢◌, ℕ, zero, suc, ◌+◌, ◌<◌, ◌≤◌, ℤ, Bool, true, false, List, [], ◌∷◌, ◌++◌, length, length-append, take, drop, Option, None, Some, Result, Ok, Err, refl, sym, ap, subst, ◌∙◌, arith, inl, inr, append-nil, append_assoc}
use Rattle.std.specs.Prelude.{FitsSigned, ◌==◌, slice_index, pos, unwrap_or, is_some, if◌then◌else◌}
use Rattle.std.specs.Int.{w16, cast_signed, from_le_bytes}
use Rattle.std.proofs.lemmas.Bool.{ne_eqb, eq-eqb, eqb-true, le-ltb, cond-false}
use Rattle.ig_base.specs.Numbers.{LE, AreBytes, number_at}
use Rattle.ig_base.proofs.NumberLemmas.{reads_16}
use Rattle.ig_value.proofs.ScalarLemmas.{signed_number, wide16}
use Rattle.ig_value.proofs.AgreesLemmas.{AreBytes-drop}
use Rattle.ig_wire.specs.Versions.{IsVersion, is_accepted, has_login}
use Rattle.ig_wire.specs.Fields.{nullable_string, IsNullableString, StopsNullableString, StopsThen, Field, ◌>>=◌, nullable_string_of, whole, frame_place}
use Rattle.ig_wire.specs.Greets.{hello_bytes, login_bytes, MayLogin, IsLoginOfTexts, hello_start, thin_client, Credentials, IsLogin, IsTail, StopsLogin, StopsTail, BeginsHello, Greets, version_at, login_of, tail_of, greeting_after, greeting_at, greeting}
use Rattle.ig_wire.specs.declared.version.Version.{Version}
use Rattle.ig_wire.specs.declared.hello.Hello.{Hello}
use Rattle.ig_wire.specs.declared.hello.Login.{Login}
use Rattle.ig_wire.specs.declared.hello.HelloFault.{HelloFault}
use Rattle.ig_wire.specs.declared.hello.HelloFault.TheVariants as fault
use Rattle.ig_wire.proofs.AgreeLemmas.{Halts, IsRead, IsThen, IsMade, then_read, made_read, same_read, IsMessage, whole_read, made_message, ok_is, err_is}
use Rattle.ig_wire.proofs.LeafLemmas.{nullable_read}
use Rattle.ig_wire.proofs.WriteLemmas.{length-start}

-- ---- a login

abbrev credentials_with : Option (List ℕ) → Option (List ℕ) → Credentials
credentials_with name password = (name, password)

abbrev MadeLogin : List ℕ → Credentials → Type 0
MadeLogin = IsThen IsNullableString (λ name. IsMade IsNullableString (credentials_with name))

login_forth : (s : List ℕ) (x : Credentials) → MadeLogin s x → IsLogin s x
login_forth s x h = rw h.next.is (h.right.0, h.next.right.0, h.whole ∙ rw (h.right.1, h.next.right.1) refl)

login_back : (s : List ℕ) (x : Credentials) → IsLogin s x → MadeLogin s x
login_back s x h = record {
  first = x.0;
  prefix = nullable_string x.0;
  suffix = nullable_string x.1;
  whole = h.2;
  right = (h.0, refl);
  next = record { part = x.1; right = (h.1, refl); is = refl };
}

login_read : IsRead IsLogin (StopsThen IsNullableString StopsNullableString (λ name. StopsNullableString)) login_of
login_read =
    same_read MadeLogin IsLogin (StopsThen IsNullableString StopsNullableString (λ name. StopsNullableString)) login_of login_forth login_back
    (then_read IsNullableString StopsNullableString nullable_string_of (λ name. IsMade IsNullableString (credentials_with name)) (λ name. StopsNullableString)
    (λ name s. nullable_string_of s >>= λ password. Ok (credentials_with name password.0, password.1)) nullable_read
    (λ name. made_read IsNullableString StopsNullableString nullable_string_of (credentials_with name) nullable_read))

abbrev given : Credentials → Bool
given x = true

abbrev login_given : List ℕ → Result Bool ℕ
login_given s = whole (login_of s) >>= λ x. Ok (given x)

login_message : IsMessage (IsMade IsLogin given) StopsLogin login_given
login_message =
    made_message IsLogin StopsLogin (λ s. whole (login_of s)) given (whole_read IsLogin (StopsThen IsNullableString StopsNullableString (λ name. StopsNullableString)) login_of login_read)

-- ---- what follows the client code

some_bytes : (b : ℕ) (s : List ℕ) → (b ∷ s) ≢ []
some_bytes b s e = cc

tail_login : (v : Version) (b : ℕ) (s : List ℕ) → has_login v ≡ true → tail_of v (b ∷ s) ≡ login_given (b ∷ s)
tail_login v b s e = rw e refl

tail_none : (v : Version) (b : ℕ) (s : List ℕ) → has_login v ≡ false → tail_of v (b ∷ s) ≡ Err (suc (length s))
tail_none v b s e = rw e refl

abbrev said : Bool → Result Bool ℕ
said c = Ok c

tail_right : (v : Version) (s : List ℕ) (c may : Bool) → has_login v ≡ may → AreBytes s → tail_of v s ≡ Ok c → IsTail v s c
tail_right v [] false may m bytes e = refl
tail_right v [] true may m bytes e = absurd cc
tail_right v (b ∷ s) c false m bytes e = absurd (let no = sym (tail_none v b s m) ∙ e in cc)
tail_right v (b ∷ s) false true m bytes e = absurd (let h = login_message.right (b ∷ s) false bytes (sym (tail_login v b s m) ∙ e) in let no = h.is in cc)
tail_right v (b ∷ s) true true m bytes e = let h = login_message.right (b ∷ s) true bytes (sym (tail_login v b s m) ∙ e) in (m, (h.part, h.right))

no_login : (x : Credentials) → IsLogin [] x → ⊥
no_login (None, password) h = let no = h.2 in cc
no_login ((Some name), password) h = let no = h.2 in cc

tail_again : (v : Version) (s : List ℕ) (c : Bool) → IsTail v s c → tail_of v s ≡ Ok c
tail_again v s false h = rw h refl
tail_again v [] true h = absurd (no_login h.1.0 h.1.1)
tail_again v (b ∷ s) true h = tail_login v b s h.0 ∙ login_message.again (b ∷ s) true (record { part = h.1.0; right = h.1.1; is = refl })

tail_halts : (v : Version) (s : List ℕ) (left : ℕ) (may : Bool) → has_login v ≡ may → AreBytes s → tail_of v s ≡ Err left → Halts (StopsTail v) s left
tail_halts v [] left may m bytes e = absurd cc
tail_halts v (b ∷ s) left false m bytes e =
    let f : suc (length s) ≡ left = err_is {A = Bool} (suc (length s)) left (sym (tail_none v b s m) ∙ e) in
    record { at = 0; there = omega (arith, f); wrong = (some_bytes b s, inl (m, refl)) }
tail_halts v (b ∷ s) left true m bytes e =
    let h = login_message.halts (b ∷ s) left bytes (sym (tail_login v b s m) ∙ e) in
    record { at = h.at; there = h.there; wrong = (some_bytes b s, inr (m, h.wrong)) }

tail_halted : (v : Version) (s : List ℕ) (at : ℕ) → StopsTail v s at → (left : ℕ) × (left + at ≡ length s) × (tail_of v s ≡ Err left)
tail_halted v [] at w = absurd (w.0 refl)
tail_halted v (b ∷ s) at w =
    elim w.1 [
      | inl none ↦ (suc (length s), omega (arith, none.1), tail_none v b s none.0)
      | inr stops ↦ let h = login_message.halted (b ∷ s) at stops.1 in (h.0, h.1, tail_login v b s stops.0 ∙ h.2)
    ]

pub tail_read : (v : Version) → IsMessage (IsTail v) (StopsTail v) (tail_of v)
tail_read v = record {
  right = λ s c bytes e. tail_right v s c (has_login v) refl bytes e;
  again = tail_again v;
  halts = λ s left bytes e. tail_halts v s left (has_login v) refl bytes e;
  halted = tail_halted v;
}

-- ---- the version and the client code

abbrev short_of : List ℕ → ℤ
short_of s = cast_signed w16 (from_le_bytes w16 s)

number_at-some : (bytes : List ℕ) (at : ℕ) → at + 2 ≤ length bytes → number_at w16 bytes at ≡ Some (short_of (take 2 (drop at bytes)))
number_at-some bytes at h = cond-false _ _ _ (le-ltb (length bytes) (at + 2) h)

abbrev version_with : ℤ → ℤ → ℤ → Version
version_with major minor patch = record { major = major; minor = minor; patch = patch }

abbrev or_zero : Option ℤ → ℤ
or_zero x = unwrap_or x (pos 0)

-- the version that stands in these bytes
read_version : (body : List ℕ) → 8 ≤ length body → version_at body 1 ≡ version_with (short_of (take 2 (drop 1 body))) (short_of (take 2 (drop 3 body))) (short_of (take 2 (drop 5 body)))
read_version body long =
    rw (number_at-some body 1 (omega (arith, long)), number_at-some body 3 (omega (arith, long)), number_at-some body 5 (omega (arith, long))) refl

-- two bytes are a number
two_bytes : (s : List ℕ) → length s ≡ 2 → AreBytes s → FitsSigned w16 (short_of s) × (s ≡ LE w16 (short_of s))
two_bytes s len bytes = (signed_number w16 wide16).right s len bytes

pair_bytes : (b c : ℕ) → b < 256 → c < 256 → AreBytes (b ∷ c ∷ [])
pair_bytes b c lt lt' zero = lt
pair_bytes b c lt lt' (suc zero) = lt'
pair_bytes b c lt lt' (suc (suc i)) = omega arith

regrouped : (x y z : List ℕ) (h : ℕ) (tail : List ℕ) → x ++ (y ++ (z ++ (h ∷ tail))) ≡ ((x ++ y) ++ z ++ h ∷ []) ++ tail
regrouped x y z h tail = sym (simp append_assoc)

begins_hello : (body : List ℕ) → AreBytes body → 8 ≤ length body → slice_index body 0 ≡ 1 → BeginsHello body (version_at body 1) (slice_index body 7) (drop 8 body)
begins_hello [] bytes long first = absurd (omega (arith, long))
begins_hello (a ∷ []) bytes long first = absurd (omega (arith, long))
begins_hello (a ∷ b ∷ []) bytes long first = absurd (omega (arith, long))
begins_hello (a ∷ b ∷ c ∷ []) bytes long first = absurd (omega (arith, long))
begins_hello (a ∷ b ∷ c ∷ d ∷ []) bytes long first = absurd (omega (arith, long))
begins_hello (a ∷ b ∷ c ∷ d ∷ e ∷ []) bytes long first = absurd (omega (arith, long))
begins_hello (a ∷ b ∷ c ∷ d ∷ e ∷ f ∷ []) bytes long first = absurd (omega (arith, long))
begins_hello (a ∷ b ∷ c ∷ d ∷ e ∷ f ∷ g ∷ []) bytes long first = absurd (omega (arith, long))
begins_hello (a ∷ b ∷ c ∷ d ∷ e ∷ f ∷ g ∷ h ∷ tail) bytes long first =
    let body : List ℕ = a ∷ b ∷ c ∷ d ∷ e ∷ f ∷ g ∷ h ∷ tail in
    let major = two_bytes (b ∷ c ∷ []) refl (pair_bytes b c (bytes 1) (bytes 2)) in
    let minor = two_bytes (d ∷ e ∷ []) refl (pair_bytes d e (bytes 3) (bytes 4)) in
    let patch = two_bytes (f ∷ g ∷ []) refl (pair_bytes f g (bytes 5) (bytes 6)) in
    let version : Version = version_with (short_of (b ∷ c ∷ [])) (short_of (d ∷ e ∷ [])) (short_of (f ∷ g ∷ [])) in
    let begins : BeginsHello body version h tail = record {
      whole = ap (λ (n : ℕ). n ∷ b ∷ c ∷ d ∷ e ∷ f ∷ g ∷ h ∷ tail) first ∙ ap (λ (l : List ℕ). 1 ∷ l) (
          ap (λ (l : List ℕ). l ++ (d ∷ e ∷ f ∷ g ∷ h ∷ tail)) major.1
          ∙ ap (λ (l : List ℕ). LE w16 version.major ++ (l ++ (f ∷ g ∷ h ∷ tail))) minor.1
          ∙ ap (λ (l : List ℕ). LE w16 version.major ++ (LE w16 version.minor ++ (l ++ (h ∷ tail)))) patch.1
          ∙ regrouped (LE w16 version.major) (LE w16 version.minor) (LE w16 version.patch) h tail);
      numbers = record { major = major.0; minor = minor.0; patch = patch.0 };
    } in
    subst (λ (v : Version). BeginsHello body v h tail) (sym (read_version body long)) begins

-- what stands in a hello
hello_parts : (v : Version) (client : ℕ) (tail : List ℕ) → IsVersion v → (version_at (hello_start v client ++ tail) 1 ≡ v)
    × (slice_index (hello_start v client ++ tail) 7 ≡ client) × (drop 8 (hello_start v client ++ tail) ≡ tail) × (slice_index (hello_start v client ++ tail) 0 ≡ 1)
unfolding LE
hello_parts v client tail is =
    let body : List ℕ = hello_start v client ++ tail in
    (rw (reads_16 v.major body 1 is.major refl, reads_16 v.minor body 3 is.minor refl, reads_16 v.patch body 5 is.patch refl) refl, refl, refl, refl)

-- ---- the answer

-- the answer by the tests that it is made by
after_tail : (highest : Version) (body : List ℕ) (v : Version) (tail : List ℕ) → AreBytes tail → BeginsHello body v thin_client tail → is_accepted highest v ≡ true
    → (read : Result Bool ℕ) → tail_of v tail ≡ read → Greets highest body (greeting_after body v read)
after_tail highest body v tail bytes begins accepts (Ok c) e = (tail, begins, accepts, (tail_read v).right tail c bytes e)
after_tail highest body v tail bytes begins accepts (Err left) e =
    let h = (tail_read v).halts tail left bytes e in
    let size : length body ≡ 8 + length tail = ap length begins.whole ∙ length-append (hello_start v thin_client) tail ∙ ap (λ (n : ℕ). n + length tail) (length-start v thin_client) in
    (v, tail, h.at, begins, accepts, h.wrong, omega (arith, h.there, size))

by_client : (highest : Version) (body : List ℕ) (v : Version) → AreBytes (drop 8 body) → BeginsHello body v (slice_index body 7) (drop 8 body) → is_accepted highest v ≡ true → (b : Bool) → (slice_index body 7 == thin_client) ≡ b
    → Greets highest body (if b then greeting_after body v (tail_of v (drop 8 body)) else Err (fault.ClientCode (slice_index body 7)))
by_client highest body v bytes begins accepts true e =
    let begins' = subst (λ (n : ℕ). BeginsHello body v n (drop 8 body)) (eqb-true (slice_index body 7) thin_client e) begins in
    after_tail highest body v (drop 8 body) bytes begins' accepts (tail_of v (drop 8 body)) refl
by_client highest body v bytes begins accepts false e = (v, drop 8 body, begins, accepts, λ is. let yes = eq-eqb (slice_index body 7) thin_client is in let no = sym e ∙ yes in cc)

by_version : (highest : Version) (body : List ℕ) (v : Version) → AreBytes (drop 8 body) → BeginsHello body v (slice_index body 7) (drop 8 body) → (b : Bool) → is_accepted highest v ≡ b
    → Greets highest body (if b then (if slice_index body 7 == thin_client then greeting_after body v (tail_of v (drop 8 body)) else Err (fault.ClientCode (slice_index body 7))) else Err (fault.Version v))
by_version highest body v bytes begins true e = by_client highest body v bytes begins e (slice_index body 7 == thin_client) refl
by_version highest body v bytes begins false e = (slice_index body 7, drop 8 body, begins, e)

first_byte : (body : List ℕ) → 8 ≤ length body → (rest : List ℕ) × (body ≡ slice_index body 0 ∷ rest)
first_byte [] long = absurd (omega (arith, long))
first_byte (b ∷ rest) long = (rest, refl)

by_first : (highest : Version) (body : List ℕ) → AreBytes body → 8 ≤ length body → (b : Bool) → (slice_index body 0 == 1) ≡ b
    → Greets highest body (if b then greeting_at highest body (version_at body 1) else Err (fault.NotHello (slice_index body 0)))
by_first highest body bytes long true e =
    by_version highest body (version_at body 1) (AreBytes-drop 8 body bytes) (begins_hello body bytes long (eqb-true (slice_index body 0) 1 e)) (is_accepted highest (version_at body 1)) refl
by_first highest body bytes long false e =
    let first = first_byte body long in
    (first.0, first.1, λ is. let yes = eq-eqb (slice_index body 0) 1 is in let no = sym e ∙ yes in cc)

pub greets : (highest : Version) (body : List ℕ) → AreBytes body → 8 ≤ length body → Greets highest body (greeting highest body)
greets highest body bytes long = by_first highest body bytes long (slice_index body 0 == 1) refl

-- ---- no other answer

-- a hello that begins so is answered by its version, its client code and what follows
abbrev answer_by : Version → List ℕ → ℕ → Version → ℕ → List ℕ → Result Hello HelloFault
answer_by highest body first v client tail =
    if first == 1 then (if is_accepted highest v then (if client == thin_client then greeting_after body v (tail_of v tail) else Err (fault.ClientCode client)) else Err (fault.Version v)) else Err (fault.NotHello first)

answered : (highest : Version) (body : List ℕ) (v : Version) (client : ℕ) (tail : List ℕ) (first : ℕ) (v' : Version) (client' : ℕ) (tail' : List ℕ) → first ≡ 1 → v' ≡ v → client' ≡ client → tail' ≡ tail
    → answer_by highest body first v' client' tail' ≡ answer_by highest body 1 v client tail
answered highest body v client tail first v' client' tail' a b c d =
    ap (λ (n : ℕ). answer_by highest body n v' client' tail') a ∙ ap (λ (w : Version). answer_by highest body 1 w client' tail') b
    ∙ ap (λ (n : ℕ). answer_by highest body 1 v n tail') c ∙ ap (λ (l : List ℕ). answer_by highest body 1 v client l) d

abbrev refused : HelloFault → Result Hello HelloFault
refused f = Err f

begun : (highest : Version) (body : List ℕ) (v : Version) (client : ℕ) (tail : List ℕ) → BeginsHello body v client tail
    → greeting highest body ≡ (if is_accepted highest v then (if client == thin_client then greeting_after body v (tail_of v tail) else Err (fault.ClientCode client)) else Err (fault.Version v))
begun highest body v client tail begins =
    let p = hello_parts v client tail begins.numbers in
    let first : slice_index body 0 ≡ 1 = ap (λ (l : List ℕ). slice_index l 0) begins.whole ∙ p.3 in
    let version : version_at body 1 ≡ v = ap (λ (l : List ℕ). version_at l 1) begins.whole ∙ p.0 in
    let code : slice_index body 7 ≡ client = ap (λ (l : List ℕ). slice_index l 7) begins.whole ∙ p.1 in
    let after : drop 8 body ≡ tail = ap (λ (l : List ℕ). drop 8 l) begins.whole ∙ p.2 in
    answered highest body v client tail (slice_index body 0) (version_at body 1) (slice_index body 7) (drop 8 body) first version code after

pub greets_only : (highest : Version) (body : List ℕ) (answer : Result Hello HelloFault) → Greets highest body answer → greeting highest body ≡ answer
greets_only highest body (Ok hello) h =
    begun highest body hello.version thin_client h.0 h.1 ∙ rw (h.2, (tail_read hello.version).again h.0 hello.credentials h.3) refl
greets_only highest body (Err (fault.NotHello byte)) h = ap (greeting highest) h.1 ∙ rw (ne_eqb byte 1 h.2) refl
greets_only highest body (Err (fault.Version v)) h = begun highest body v h.0 h.1 h.2 ∙ rw h.3 refl
greets_only highest body (Err (fault.ClientCode client)) h = begun highest body h.0 client h.1 h.2 ∙ rw (h.3, ne_eqb client thin_client h.4) refl
greets_only highest body (Err (fault.Credentials place)) h =
    let stop = (tail_read h.0).halted h.1 h.2 h.5 in
    let size : length body ≡ 8 + length h.1 = ap length h.3.whole ∙ length-append (hello_start h.0 thin_client) h.1 ∙ ap (λ (n : ℕ). n + length h.1) (length-start h.0 thin_client) in
    let place' : frame_place body stop.0 ≡ place = omega (arith, stop.1, size, h.6) in
    begun highest body h.0 thin_client h.1 h.3 ∙ rw (h.4, stop.2) (ap (λ (n : ℕ). refused (fault.Credentials n)) place')

-- ---- hellos that were written

tail_written : (v : Version) (login : Option Login) → MayLogin v login → IsLoginOfTexts login → IsTail v (login_bytes login) (is_some login)
tail_written v None may texts = refl
tail_written v (Some login) may texts = (may, (credentials_with (Some login.name) (Some login.password), (texts.0, texts.1, refl)))

pub greets_written : (highest v : Version) (login : Option Login) → IsVersion v → is_accepted highest v ≡ true → MayLogin v login → IsLoginOfTexts login
    → greeting highest (hello_bytes v login) ≡ Ok (record { version = v; credentials = is_some login })
greets_written highest v login is accepts may texts =
    greets_only highest (hello_bytes v login) (Ok (record { version = v; credentials = is_some login }))
    (login_bytes login, record { whole = refl; numbers = is }, accepts, tail_written v login may texts)

abbrev credentials_of : Login → Credentials
credentials_of login = credentials_with (Some login.name) (Some login.password)

abbrev read_of : Credentials → Field Credentials
read_of x = Ok (x, [])

abbrev text_in : Option (List ℕ) → List ℕ
text_in None = []
text_in (Some text) = text

abbrev some_login : List ℕ → List ℕ → Option Login
some_login name password = Some (record { name = name; password = password })

login_written : (login : Login) → IsLoginOfTexts (Some login) → login_of (login_bytes (Some login)) ≡ read_of (credentials_of login)
login_written login texts =
    ap login_of (sym (append-nil (login_bytes (Some login)))) ∙ login_read.again (login_bytes (Some login)) (credentials_of login) [] (texts.0, texts.1, refl)

login_apart : (a b : Option Login) → IsLoginOfTexts a → IsLoginOfTexts b → login_bytes a ≡ login_bytes b → a ≡ b
login_apart None None x y e = refl
login_apart None (Some b) x y e = absurd cc
login_apart (Some a) None x y e = absurd cc
login_apart (Some a) (Some b) x y e =
    let same : read_of (credentials_of a) ≡ read_of (credentials_of b) = sym (login_written a x) ∙ ap login_of e ∙ login_written b y in
    let parts : credentials_of a ≡ credentials_of b = ap (λ (z : Credentials × List ℕ). z.0) (ok_is (credentials_of a, []) (credentials_of b, []) same) in
    let names : a.name ≡ b.name = ap (λ (x : Credentials). text_in x.0) parts in
    let passwords : a.password ≡ b.password = ap (λ (x : Credentials). text_in x.1) parts in
    ap (λ (l : List ℕ). some_login l a.password) names ∙ ap (λ (l : List ℕ). some_login b.name l) passwords

pub hello_apart : (v w : Version) (a b : Option Login) → IsVersion v → IsVersion w → IsLoginOfTexts a → IsLoginOfTexts b → hello_bytes v a ≡ hello_bytes w b → (v ≡ w) × (a ≡ b)
hello_apart v w a b is_v is_w x y e =
    let p = hello_parts v thin_client (login_bytes a) is_v in
    let q = hello_parts w thin_client (login_bytes b) is_w in
    (sym p.0 ∙ ap (λ (l : List ℕ). version_at l 1) e ∙ q.0, login_apart a b x y (sym p.2 ∙ ap (λ (l : List ℕ). drop 8 l) e ∙ q.2))
