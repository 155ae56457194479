-- The replies to hellos are read as they are spelled.
use Rattle.std.proofs.Common.{◌≡◌, ◌≢◌, ℕ, zero, suc, ◌+◌, ◌<◌, ℤ, Bool, true, false, List, [], ◌∷◌, ◌++◌, length, Option, None, Some, Result, Ok, Err, refl, sym, ap, subst, ◌∙◌, arith, inl, inr, append_assoc}
use Rattle.std.specs.Int.{w16, w32}
use Rattle.std.proofs.lemmas.Bool.{ne_eqb}
use Rattle.std.proofs.lemmas.List.{nil_from_length}
use Rattle.ig_base.specs.Numbers.{LE, AreBytes}
use Rattle.ig_base.specs.declared.NodeId.{NodeId}
use Rattle.ig_base.proofs.NumberLemmas.{length-LE_32}
use Rattle.ig_value.proofs.AgreesLemmas.{Takes}
use Rattle.ig_wire.specs.Versions.{version_bytes, has_flags}
use Rattle.ig_wire.specs.Fields.{string, IsNumber, IsString, IsNodeObject, IsShort, IsLeftOver, StopsString, StopsNode, StopsThen, ◌>>=◌, number_of, string_of, node_of, whole}
use Rattle.ig_wire.specs.HelloReplies.{node_bytes, code_bytes, hello_reply_bytes, TellsNode, IsCode, IsHelloReply, IsVerdict, StopsVerdict, IsVersionField, StopsVersion, StopsCode, StopsRefusal, StopsAcceptance, StopsAfterVerdict, StopsHelloReply, version_of, code_of, refusal_of, verdict_of, acceptance_of, reply_after, hello_reply_of}
use Rattle.ig_wire.specs.declared.version.Version.{Version}
use Rattle.ig_wire.specs.declared.hello_reply.HelloReply.{HelloReply}
use Rattle.ig_wire.specs.declared.hello_reply.HelloReply.TheVariants.{Accepted, Refused}
use Rattle.ig_wire.proofs.AgreeLemmas.{Halts, Halted, IsRead, IsThen, IsMade, then_read, made_read, same_read, nothing_read, IsMessage, whole_read, last_read, made_message, same_message, ok_is, err_is}
use Rattle.ig_wire.proofs.LeafLemmas.{i16_read, i32_read, string_read, node_read}

-- ---- a version

abbrev version_with : ℤ → ℤ → ℤ → Version
version_with major minor patch = record { major = major; minor = minor; patch = patch }

abbrev MadeVersion : List ℕ → Version → Type 0
MadeVersion = IsThen (IsNumber w16) (λ major. IsThen (IsNumber w16) (λ minor. IsMade (IsNumber w16) (version_with major minor)))

version_forth : (s : List ℕ) (v : Version) → MadeVersion s v → IsVersionField s v
version_forth s v h =
    let m = h.next in
    rw m.next.is (
      record { major = h.right.0; minor = m.right.0; patch = m.next.right.0 },
      h.whole ∙ rw (h.right.1, m.whole, m.right.1, m.next.right.1) (sym (append_assoc (LE w16 h.first) (LE w16 m.first) (LE w16 m.next.part))),
    )

version_back : (s : List ℕ) (v : Version) → IsVersionField s v → MadeVersion s v
version_back s v h = record {
  first = v.major;
  prefix = LE w16 v.major;
  suffix = LE w16 v.minor ++ LE w16 v.patch;
  whole = h.1 ∙ append_assoc (LE w16 v.major) (LE w16 v.minor) (LE w16 v.patch);
  right = (h.0.major, refl);
  next = record {
    first = v.minor;
    prefix = LE w16 v.minor;
    suffix = LE w16 v.patch;
    whole = refl;
    right = (h.0.minor, refl);
    next = record { part = v.patch; right = (h.0.patch, refl); is = refl };
  };
}

pub version_read : IsRead IsVersionField StopsVersion version_of
version_read =
    same_read MadeVersion IsVersionField StopsVersion version_of version_forth version_back
    (then_read (IsNumber w16) (IsShort 2) (number_of w16) (λ major. IsThen (IsNumber w16) (λ minor. IsMade (IsNumber w16) (version_with major minor))) (λ major. StopsThen (IsNumber w16) (IsShort 2) (λ minor. IsShort 2))
    (λ major s. number_of w16 s >>= λ minor. (number_of w16 minor.1 >>= λ patch. Ok (version_with major minor.0 patch.0, patch.1))) i16_read
    (λ major. then_read (IsNumber w16) (IsShort 2) (number_of w16) (λ minor. IsMade (IsNumber w16) (version_with major minor)) (λ minor. IsShort 2)
    (λ minor s. number_of w16 s >>= λ patch. Ok (version_with major minor patch.0, patch.1)) i16_read
    (λ minor. made_read (IsNumber w16) (IsShort 2) (number_of w16) (version_with major minor) i16_read)))

-- ---- the first byte

abbrev verdict_with : Bool → List ℕ → Bool × List ℕ
verdict_with accepts s = (accepts, s)

verdict_other : (b : ℕ) (s : List ℕ) → ¬ (b < 2) → verdict_of (b ∷ s) ≡ Err (suc (length s))
verdict_other b s other = rw (ne_eqb b 0 (λ is. other (omega (arith, is))), ne_eqb b 1 (λ is. other (omega (arith, is)))) refl

verdict_takes : (s : List ℕ) (x : Bool) (rest : List ℕ) → AreBytes s → verdict_of s ≡ Ok (x, rest) → Takes IsVerdict s x rest
verdict_takes [] x rest bytes e = absurd cc
verdict_takes (zero ∷ s) x rest bytes e =
    let all : Takes IsVerdict (0 ∷ s) false s = record { prefix = 0 ∷ []; whole = refl; right = refl } in
    subst (λ (z : Bool × List ℕ). Takes IsVerdict (0 ∷ s) z.0 z.1) (ok_is (verdict_with false s) (x, rest) e) all
verdict_takes ((suc zero) ∷ s) x rest bytes e =
    let all : Takes IsVerdict (1 ∷ s) true s = record { prefix = 1 ∷ []; whole = refl; right = refl } in
    subst (λ (z : Bool × List ℕ). Takes IsVerdict (1 ∷ s) z.0 z.1) (ok_is (verdict_with true s) (x, rest) e) all
verdict_takes ((suc (suc b)) ∷ s) x rest bytes e = absurd (let no = sym (verdict_other (suc (suc b)) s (λ lt. omega arith)) ∙ e in cc)

verdict_again : (s : List ℕ) (x : Bool) (rest : List ℕ) → IsVerdict s x → verdict_of (s ++ rest) ≡ Ok (x, rest)
verdict_again s false rest h = rw h refl
verdict_again s true rest h = rw h refl

verdict_halts : (s : List ℕ) (left : ℕ) → AreBytes s → verdict_of s ≡ Err left → Halts StopsVerdict s left
verdict_halts [] left bytes e =
    let f : 0 ≡ left = err_is {A = Bool × List ℕ} 0 left e in
    record { at = 0; there = omega (arith, f); wrong = inl (record { short = omega arith; here = refl }) }
verdict_halts (zero ∷ s) left bytes e = absurd cc
verdict_halts ((suc zero) ∷ s) left bytes e = absurd cc
verdict_halts ((suc (suc b)) ∷ s) left bytes e =
    let f : suc (length s) ≡ left = err_is {A = Bool × List ℕ} (suc (length s)) left (sym (verdict_other (suc (suc b)) s (λ lt. omega arith)) ∙ e) in
    record { at = 0; there = omega (arith, f); wrong = inr (record { byte = suc (suc b); rest = s; whole = refl; other = λ lt. omega arith; here = refl }) }

verdict_halted : (s : List ℕ) (at : ℕ) → StopsVerdict s at → Halted verdict_of s at
verdict_halted s at (inl cut) =
    let nil : s ≡ [] = nil_from_length s (omega (arith, cut.short)) in
    record { left = 0; there = rw nil (omega (arith, cut.here)); is = rw nil refl }
verdict_halted s at (inr w) =
    record { left = suc (length w.rest); there = rw w.whole (omega (arith, w.here)); is = ap verdict_of w.whole ∙ verdict_other w.byte w.rest w.other }

pub verdict_read : IsRead IsVerdict StopsVerdict verdict_of
verdict_read = record { takes = verdict_takes; again = verdict_again; halts = verdict_halts; halted = verdict_halted }

-- ---- a code, where bytes are left

abbrev code_with : ℤ → Option ℤ
code_with n = Some n

-- the bytes are the code, if there is one
abbrev pub IsCodeField : List ℕ → Option ℤ → Type 0
IsCodeField s x = IsCode x × (s ≡ code_bytes x)

abbrev coded : List ℕ → Result (Option ℤ) ℕ
coded s = whole (number_of w32 s) >>= λ n. Ok (code_with n)

number_message : IsMessage (IsMade (IsNumber w32) code_with) (StopsThen (IsNumber w32) (IsShort 4) (λ n. IsLeftOver)) coded
number_message =
    made_message (IsNumber w32) (StopsThen (IsNumber w32) (IsShort 4) (λ n. IsLeftOver)) (λ s. whole (number_of w32 s)) code_with
    (whole_read (IsNumber w32) (IsShort 4) (number_of w32) i32_read)

some_bytes : (b : ℕ) (s : List ℕ) → (b ∷ s) ≢ []
some_bytes b s e = cc

long : (s : List ℕ) → 0 < length s → code_of s ≡ coded s
long [] some = absurd (omega (arith, some))
long (b ∷ s) some = refl

code_right : (s : List ℕ) (x : Option ℤ) → AreBytes s → code_of s ≡ Ok x → IsCodeField s x
code_right [] None bytes e = (tt, refl)
code_right [] (Some n) bytes e = absurd cc
code_right (b ∷ s) x bytes e = let m = number_message.right (b ∷ s) x bytes e in rw m.is (m.right.0, m.right.1)

code_again : (s : List ℕ) (x : Option ℤ) → IsCodeField s x → code_of s ≡ Ok x
code_again s None h = rw h.1 refl
code_again s (Some n) h = long s (omega (arith, ap length h.1, length-LE_32 n)) ∙ number_message.again s (Some n) (record { part = n; right = h; is = refl })

code_halts : (s : List ℕ) (left : ℕ) → AreBytes s → code_of s ≡ Err left → Halts StopsCode s left
code_halts [] left bytes e = absurd cc
code_halts (b ∷ s) left bytes e = let h = number_message.halts (b ∷ s) left bytes e in record { at = h.at; there = h.there; wrong = (some_bytes b s, h.wrong) }

code_halted : (s : List ℕ) (at : ℕ) → StopsCode s at → (left : ℕ) × (left + at ≡ length s) × (code_of s ≡ Err left)
code_halted [] at w = absurd (w.0 refl)
code_halted (b ∷ s) at w = number_message.halted (b ∷ s) at w.1

pub code_read : IsMessage IsCodeField StopsCode code_of
code_read = record { right = code_right; again = code_again; halts = code_halts; halted = code_halted }

-- ---- the reply

-- the bytes are the reply
abbrev pub IsReplyField : Version → List ℕ → HelloReply → Type 0
IsReplyField v s reply = IsHelloReply v reply × (s ≡ hello_reply_bytes reply)

abbrev refused_with : Version → List ℕ → Option ℤ → HelloReply
refused_with v text n = Refused v text n

abbrev MadeRefusal : List ℕ → HelloReply → Type 0
MadeRefusal = IsThen IsVersionField (λ v. IsThen IsString (λ text. IsMade IsCodeField (refused_with v text)))

refusal_read : IsMessage MadeRefusal StopsRefusal refusal_of
refusal_read =
    last_read IsVersionField StopsVersion version_of (λ v. IsThen IsString (λ text. IsMade IsCodeField (refused_with v text))) (λ v. StopsThen IsString StopsString (λ text. StopsCode))
    (λ v s. string_of s >>= λ text. (code_of text.1 >>= λ n. Ok (refused_with v text.0 n))) version_read
    (λ v. last_read IsString StopsString string_of (λ text. IsMade IsCodeField (refused_with v text)) (λ text. StopsCode)
    (λ text s. code_of s >>= λ n. Ok (refused_with v text n)) string_read (λ text. made_message IsCodeField StopsCode code_of (refused_with v text) code_read))

abbrev accepted_with : NodeId → HelloReply
accepted_with node = Accepted (Some node)

abbrev accepted_alone : HelloReply
accepted_alone = Accepted None

-- the bytes follow byte 1
abbrev MadeAcceptance : Bool → List ℕ → HelloReply → Type 0
MadeAcceptance false s reply = (s ≡ []) × (reply ≡ accepted_alone)
MadeAcceptance true s reply = IsMade IsNodeObject accepted_with s reply

acceptance_read : (tells : Bool) → IsMessage (MadeAcceptance tells) (StopsAcceptance tells) (acceptance_of tells)
acceptance_read false = record {
  right = (whole_read (λ s (y : HelloReply). (s ≡ []) × (y ≡ accepted_alone)) (λ s at. ⊥) (λ s. Ok (accepted_alone, s)) (nothing_read accepted_alone)).right;
  again = (whole_read (λ s (y : HelloReply). (s ≡ []) × (y ≡ accepted_alone)) (λ s at. ⊥) (λ s. Ok (accepted_alone, s)) (nothing_read accepted_alone)).again;
  halts = alone_halts;
  halted = alone_halted;
} where
  alone_halts : (s : List ℕ) (left : ℕ) → AreBytes s → acceptance_of false s ≡ Err left → Halts IsLeftOver s left
  alone_halts [] left bytes e = absurd cc
  alone_halts (b ∷ s) left bytes e = let f : suc (length s) ≡ left = err_is {A = HelloReply} (suc (length s)) left e in record { at = 0; there = omega (arith, f); wrong = record { some = some_bytes b s; here = refl } }

  alone_halted : (s : List ℕ) (at : ℕ) → IsLeftOver s at → (left : ℕ) × (left + at ≡ length s) × (acceptance_of false s ≡ Err left)
  alone_halted [] at w = absurd (w.some refl)
  alone_halted (b ∷ s) at w = (suc (length s), omega (arith, w.here), refl)
acceptance_read true =
    made_message IsNodeObject (StopsThen IsNodeObject StopsNode (λ node. IsLeftOver)) (λ s. whole (node_of s)) accepted_with (whole_read IsNodeObject StopsNode node_of node_read)

abbrev MadeAfter : Version → Bool → List ℕ → HelloReply → Type 0
MadeAfter v false = MadeRefusal
MadeAfter v true = MadeAcceptance (has_flags v)

after_read : (v : Version) (accepts : Bool) → IsMessage (MadeAfter v accepts) (StopsAfterVerdict v accepts) (reply_after v accepts)
after_read v false = refusal_read
after_read v true = acceptance_read (has_flags v)

acceptance_forth : (v : Version) (tells : Bool) (s : List ℕ) (reply : HelloReply) → has_flags v ≡ tells → MadeAcceptance tells s reply → IsReplyField v (1 ∷ s) reply
acceptance_forth v false s reply e h = rw (h.1, h.0) (e, refl)
acceptance_forth v true s reply e h = rw h.is ((e, h.right.0), ap (λ (l : List ℕ). 1 ∷ l) h.right.1)

refusal_forth : (v : Version) (s : List ℕ) (reply : HelloReply) → MadeRefusal s reply → IsReplyField v (0 ∷ s) reply
refusal_forth v s reply h =
    let t = h.next in
    let n = t.next in
    rw n.is (
      (h.right.0, t.right.0, n.right.0),
      ap (λ (l : List ℕ). 0 ∷ l) (h.whole ∙ rw (h.right.1, t.whole, t.right.1, n.right.1) (sym (append_assoc (version_bytes h.first) (string t.first) (code_bytes n.part)))),
    )

reply_forth : (v : Version) (s : List ℕ) (reply : HelloReply) → IsThen IsVerdict (MadeAfter v) s reply → IsReplyField v s reply
reply_forth v s reply h = by_verdict h.first h.right h.next where
  by_verdict : (accepts : Bool) → IsVerdict h.prefix accepts → MadeAfter v accepts h.suffix reply → IsReplyField v s reply
  by_verdict false is next = subst (λ (l : List ℕ). IsReplyField v l reply) (sym (h.whole ∙ ap (λ (l : List ℕ). l ++ h.suffix) is)) (refusal_forth v h.suffix reply next)
  by_verdict true is next = subst (λ (l : List ℕ). IsReplyField v l reply) (sym (h.whole ∙ ap (λ (l : List ℕ). l ++ h.suffix) is)) (acceptance_forth v (has_flags v) h.suffix reply refl next)

told_back : (v : Version) (tells : Bool) (node : Option NodeId) → has_flags v ≡ tells → TellsNode v node → MadeAcceptance tells (node_bytes node) (Accepted node)
told_back v false None e h = (refl, refl)
told_back v true None e h = absurd (let no = sym e ∙ h in cc)
told_back v false (Some node) e h = absurd (let no = sym e ∙ h.0 in cc)
told_back v true (Some node) e h = record { part = node; right = (h.1, refl); is = refl }

reply_back : (v : Version) (s : List ℕ) (reply : HelloReply) → IsReplyField v s reply → IsThen IsVerdict (MadeAfter v) s reply
reply_back v s (Accepted node) h = record { first = true; prefix = 1 ∷ []; suffix = node_bytes node; whole = h.1; right = refl; next = told_back v (has_flags v) node refl h.0 }
reply_back v s (Refused highest text n) h = record {
  first = false;
  prefix = 0 ∷ [];
  suffix = version_bytes highest ++ (string text ++ code_bytes n);
  whole = h.1 ∙ ap (λ (l : List ℕ). 0 ∷ l) (append_assoc (version_bytes highest) (string text) (code_bytes n));
  right = refl;
  next = record {
    first = highest;
    prefix = version_bytes highest;
    suffix = string text ++ code_bytes n;
    whole = refl;
    right = (h.0.0, refl);
    next = record { first = text; prefix = string text; suffix = code_bytes n; whole = refl; right = (h.0.1, refl); next = record { part = n; right = (h.0.2, refl); is = refl } };
  };
}

pub hello_reply_read : (v : Version) → IsMessage (IsReplyField v) (StopsHelloReply v) (hello_reply_of v)
hello_reply_read v =
    same_message (IsThen IsVerdict (MadeAfter v)) (IsReplyField v) (StopsHelloReply v) (hello_reply_of v) (reply_forth v) (reply_back v)
    (last_read IsVerdict StopsVerdict verdict_of (MadeAfter v) (StopsAfterVerdict v) (reply_after v) verdict_read (after_read v))
