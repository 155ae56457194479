-- The heads of replies are read as they are spelled.
use Rattle.std.proofs.Common.{◌≡◌, ◌≢◌, ℕ, ℤ, pos, Bool, true, false, List, [], ◌++◌, length, Option, None, Some, Ok, Err, refl, sym, ap, subst, ◌∙◌, arith, inl, inr, append-nil, append_assoc}
use Rattle.std.specs.Prelude.{FitsSigned, is_some}
use Rattle.std.specs.Ordering.{int_eq}
use Rattle.std.specs.Int.{w16, w32, w64}
use Rattle.std.proofs.Common.{rules}
use Rattle.std.proofs.lemmas.Bool.Decides.{Decides-int_eq}
use Rattle.ig_base.specs.Numbers.{LE, AreBytes}
use Rattle.ig_base.specs.declared.Topology.{Topology}
use Rattle.ig_value.proofs.AgreesLemmas.{Takes}
use Rattle.ig_wire.specs.Versions.{has_flags}
use Rattle.ig_wire.specs.Fields.{string, IsNumber, IsString, IsShort, StopsString, StopsThen, Field, ◌>>=◌, number_of, string_of}
use Rattle.ig_wire.specs.Heads.{flag_number, topology_bytes, fault_bytes, told_bytes, head_bytes, IsTopology, IsFault, MayTell, IsHead, IsFlags, StopsFlags, IsTopologyField, StopsTopology, IsFaultField, StopsFault, StopsStatus, StopsTold, StopsHead, Told, fault_after, fault_of, topology_of, parts_of, known_flags, flags_of, status_of, told_of, head_of}
use Rattle.ig_wire.specs.declared.version.Version.{Version}
use Rattle.ig_wire.specs.declared.head.Fault.{Fault}
use Rattle.ig_wire.specs.declared.head.ReplyHead.{ReplyHead}
use Rattle.ig_wire.proofs.AgreeLemmas.{Halts, Halted, IsRead, IsThen, IsMade, then_read, made_read, same_read, nothing_read, bind_ok, bind_err, ok_is, err_is}
use Rattle.ig_wire.proofs.LeafLemmas.{i16_read, i32_read, i64_read, string_read}

-- ---- flags

abbrev pair : Bool → Bool → Bool × Bool
pair told fault = (told, fault)

number_is : (n : ℤ) (a b told fault : Bool) → Some (pair a b) ≡ Some (pair told fault) → n ≡ flag_number a b → n ≡ flag_number told fault
number_is n a b told fault e is = let p : pair a b ≡ pair told fault = cc in is ∙ ap (λ (q : Bool × Bool). flag_number q.0 q.1) p

int_is : (x y : ℤ) → int_eq x y ≡ true → x ≡ y
int_is x y e = (Decides-int_eq x y).0 e

not_zero : (x : ℤ) → int_eq x (pos 0) ≡ false → x ≢ pos 0
not_zero x e is = let yes = (Decides-int_eq x (pos 0)).1 is in let no = sym yes ∙ e in cc

zero_test : (x : ℤ) → x ≡ pos 0 → int_eq x (pos 0) ≡ true
zero_test x is = (Decides-int_eq x (pos 0)).1 is

other_by : (x : ℤ) (b : Bool) → int_eq x (pos 0) ≡ b → x ≢ pos 0 → b ≡ false
other_by x true e other = absurd (other (int_is x (pos 0) e))
other_by x false e other = refl

other_test : (x : ℤ) → x ≢ pos 0 → int_eq x (pos 0) ≡ false
other_test x other = other_by x (int_eq x (pos 0)) refl other

parts_by : (n : ℤ) (told fault a b c d : Bool) → int_eq n (pos 0) ≡ a → int_eq n (pos 1) ≡ b → int_eq n (pos 2) ≡ c → int_eq n (pos 3) ≡ d
    → parts_of n ≡ Some (pair told fault) → n ≡ flag_number told fault
parts_by n told fault true b c d ea eb ec ed e =
    let is : parts_of n ≡ Some (pair false false) = rw ea refl in number_is n false false told fault (sym is ∙ e) (int_is n (pos 0) ea)
parts_by n told fault false true c d ea eb ec ed e =
    let is : parts_of n ≡ Some (pair false true) = rw (ea, eb) refl in number_is n false true told fault (sym is ∙ e) (int_is n (pos 1) eb)
parts_by n told fault false false true d ea eb ec ed e =
    let is : parts_of n ≡ Some (pair true false) = rw (ea, eb, ec) refl in number_is n true false told fault (sym is ∙ e) (int_is n (pos 2) ec)
parts_by n told fault false false false true ea eb ec ed e =
    let is : parts_of n ≡ Some (pair true true) = rw (ea, eb, ec, ed) refl in number_is n true true told fault (sym is ∙ e) (int_is n (pos 3) ed)
parts_by n told fault false false false false ea eb ec ed e =
    absurd (let is : parts_of n ≡ None = rw (ea, eb, ec, ed) refl in let no = sym is ∙ e in cc)

parts_some : (n : ℤ) (told fault : Bool) → parts_of n ≡ Some (pair told fault) → n ≡ flag_number told fault
parts_some n told fault e = parts_by n told fault (int_eq n (pos 0)) (int_eq n (pos 1)) (int_eq n (pos 2)) (int_eq n (pos 3)) refl refl refl refl e

parts_of-flag_number : (told fault : Bool) → parts_of (flag_number told fault) ≡ Some (pair told fault)
parts_of-flag_number false false = refl
parts_of-flag_number false true = refl
parts_of-flag_number true false = refl
parts_of-flag_number true true = refl

flag_number-fits : (told fault : Bool) → FitsSigned w16 (flag_number told fault)
flag_number-fits false false = search rules
flag_number-fits false true = search rules
flag_number-fits true false = search rules
flag_number-fits true true = search rules

known_some : (left : ℕ) (rest : List ℕ) (parts : Option (Bool × Bool)) (x : Bool × Bool) (rest' : List ℕ) → known_flags left rest parts ≡ Ok (x, rest') → (parts ≡ Some x) × (rest ≡ rest')
known_some left rest None x rest' e = absurd cc
known_some left rest (Some p) x rest' e =
    let q = ok_is (p, rest) (x, rest') e in (ap (λ (z : (Bool × Bool) × List ℕ). Some z.0) q, ap (λ (z : (Bool × Bool) × List ℕ). z.1) q)

known_none : (left : ℕ) (rest : List ℕ) (parts : Option (Bool × Bool)) (left' : ℕ) → known_flags left rest parts ≡ Err left' → (parts ≡ None) × (left ≡ left')
known_none left rest None left' e = (refl, err_is {A = (Bool × Bool) × List ℕ} left left' e)
known_none left rest (Some p) left' e = absurd cc

flags_takes : (s : List ℕ) (x : Bool × Bool) (rest : List ℕ) → AreBytes s → flags_of s ≡ Ok (x, rest) → Takes IsFlags s x rest
flags_takes s x rest bytes e =
    let a = bind_ok (number_of w16 s) (λ flags. known_flags (length s) flags.1 (parts_of flags.0)) (x, rest) e in
    let k = known_some (length s) a.0.1 (parts_of a.0.0) x rest a.2 in
    let t = i16_read.takes s a.0.0 a.0.1 bytes a.1 in
    record {
      prefix = t.prefix;
      whole = t.whole ∙ ap (λ (l : List ℕ). t.prefix ++ l) k.1;
      right = t.right.1 ∙ ap (LE w16) (parts_some a.0.0 x.0 x.1 k.0);
    }

flags_again : (s : List ℕ) (x : Bool × Bool) (rest : List ℕ) → IsFlags s x → flags_of (s ++ rest) ≡ Ok (x, rest)
flags_again s x rest h = rw (i16_read.again s (flag_number x.0 x.1) rest (flag_number-fits x.0 x.1, h), parts_of-flag_number x.0 x.1) refl

flags_halts : (s : List ℕ) (left : ℕ) → AreBytes s → flags_of s ≡ Err left → Halts StopsFlags s left
flags_halts s left bytes e =
    elim (bind_err (number_of w16 s) (λ flags. known_flags (length s) flags.1 (parts_of flags.0)) left e) [
      | inl first ↦ let h = i16_read.halts s left bytes first in record { at = h.at; there = h.there; wrong = inl h.wrong }
      | inr a ↦
          let k = known_none (length s) a.0.1 (parts_of a.0.0) left a.2 in
          let t = i16_read.takes s a.0.0 a.0.1 bytes a.1 in
          record {
            at = 0;
            there = omega (arith, k.1);
            wrong = inr (record {
              flags = a.0.0;
              rest = a.0.1;
              fits = t.right.0;
              whole = t.whole ∙ ap (λ (l : List ℕ). l ++ a.0.1) t.right.1;
              other = λ told fault is. let no = sym k.0 ∙ ap parts_of is ∙ parts_of-flag_number told fault in cc;
              here = refl;
            });
          }
    ]

no_parts : (n : ℤ) (parts : Option (Bool × Bool)) → parts_of n ≡ parts → ((told fault : Bool) → n ≢ flag_number told fault) → parts ≡ None
no_parts n None e other = refl
no_parts n (Some p) e other = absurd (other p.0 p.1 (parts_some n p.0 p.1 e))

flags_halted : (s : List ℕ) (at : ℕ) → StopsFlags s at → Halted flags_of s at
flags_halted s at (inl w) = let h = i16_read.halted s at w in record { left = h.left; there = h.there; is = rw h.is refl }
flags_halted s at (inr w) = record {
  left = length s;
  there = omega (arith, w.here);
  is =
      ap (λ r. r >>= λ (flags : ℤ × List ℕ). known_flags (length s) flags.1 (parts_of flags.0)) (ap (number_of w16) w.whole ∙ i16_read.again (LE w16 w.flags) w.flags w.rest (w.fits, refl))
      ∙ ap (known_flags (length s) w.rest) (no_parts w.flags (parts_of w.flags) refl w.other);
}

pub flags_read : IsRead IsFlags StopsFlags flags_of
flags_read = record { takes = flags_takes; again = flags_again; halts = flags_halts; halted = flags_halted }

-- ---- the topology

abbrev topology_with : ℤ → ℤ → Option Topology
topology_with version minor = Some (record { version = version; minor = minor })

abbrev MadeTopology : List ℕ → Option Topology → Type 0
MadeTopology = IsThen (IsNumber w64) (λ version. IsMade (IsNumber w32) (topology_with version))

topology_forth : (s : List ℕ) (t : Option Topology) → MadeTopology s t → IsTopologyField true s t
topology_forth s t h = rw h.next.is (refl, (h.right.0, h.next.right.0), h.whole ∙ rw (h.right.1, h.next.right.1) refl)

topology_back : (s : List ℕ) (t : Option Topology) → IsTopologyField true s t → MadeTopology s t
topology_back s None h = absurd (let no = h.0 in cc)
topology_back s (Some t) h = record {
  first = t.version;
  prefix = LE w64 t.version;
  suffix = LE w32 t.minor;
  whole = h.2;
  right = (h.1.0, refl);
  next = record { part = t.minor; right = (h.1.1, refl); is = refl };
}

pub topology_read : (is_told : Bool) → IsRead (IsTopologyField is_told) (StopsTopology is_told) (topology_of is_told)
topology_read false =
    same_read (λ s (t : Option Topology). (s ≡ []) × (t ≡ None)) (IsTopologyField false) (λ s at. ⊥) (λ s. Ok (None, s)) (λ s t h. rw (h.1, h.0) (refl, tt, refl)) untold (nothing_read None) where
      untold : (s : List ℕ) (t : Option Topology) → IsTopologyField false s t → (s ≡ []) × (t ≡ None)
      untold s None h = (h.2, refl)
      untold s (Some t) h = absurd (let no = h.0 in cc)
topology_read true =
    same_read MadeTopology (IsTopologyField true) (StopsThen (IsNumber w64) (IsShort 8) (λ version. IsShort 4)) (topology_of true) topology_forth topology_back
    (then_read (IsNumber w64) (IsShort 8) (number_of w64) (λ version. IsMade (IsNumber w32) (topology_with version)) (λ version. IsShort 4)
    (λ version s. number_of w32 s >>= λ minor. Ok (topology_with version minor.0, minor.1)) i64_read (λ version. made_read (IsNumber w32) (IsShort 4) (number_of w32) (topology_with version) i32_read))

-- ---- a fault

abbrev fault_with : ℤ → List ℕ → Fault
fault_with status text = record { status = status; text = text }

pub fault_after_read : (status : ℤ) → IsRead (IsMade IsString (fault_with status)) StopsString (fault_after status)
fault_after_read status = made_read IsString StopsString string_of (fault_with status) string_read

abbrev some_fault : Fault → Option Fault
some_fault fault = Some fault

abbrev MadeFault : List ℕ → Option Fault → Type 0
MadeFault = IsThen (IsNumber w32) (λ status. IsMade (IsMade IsString (fault_with status)) some_fault)

fault_forth : (s : List ℕ) (fault : Option Fault) → MadeFault s fault → IsFaultField true s fault
fault_forth s fault h = rw (h.next.is, h.next.right.is) (refl, (h.right.0, h.next.right.right.0), h.whole ∙ rw (h.right.1, h.next.right.right.1) refl)

fault_back : (s : List ℕ) (fault : Option Fault) → IsFaultField true s fault → MadeFault s fault
fault_back s None h = absurd (let no = h.0 in cc)
fault_back s (Some fault) h = record {
  first = fault.status;
  prefix = LE w32 fault.status;
  suffix = string fault.text;
  whole = h.2;
  right = (h.1.0, refl);
  next = record { part = fault; right = record { part = fault.text; right = (h.1.1, refl); is = refl }; is = refl };
}

pub fault_read : (is_told : Bool) → IsRead (IsFaultField is_told) (StopsFault is_told) (fault_of is_told)
fault_read false =
    same_read (λ s (fault : Option Fault). (s ≡ []) × (fault ≡ None)) (IsFaultField false) (λ s at. ⊥) (λ s. Ok (None, s)) (λ s fault h. rw (h.1, h.0) (refl, tt, refl)) untold (nothing_read None) where
      untold : (s : List ℕ) (fault : Option Fault) → IsFaultField false s fault → (s ≡ []) × (fault ≡ None)
      untold s None h = (h.2, refl)
      untold s (Some fault) h = absurd (let no = h.0 in cc)
fault_read true =
    same_read MadeFault (IsFaultField true) (StopsThen (IsNumber w32) (IsShort 4) (λ status. StopsString)) (fault_of true) fault_forth fault_back
    (then_read (IsNumber w32) (IsShort 4) (number_of w32) (λ status. IsMade (IsMade IsString (fault_with status)) some_fault) (λ status. StopsString)
    (λ status s. fault_after status s >>= λ fault. Ok (some_fault fault.0, fault.1)) i32_read
    (λ status. made_read (IsMade IsString (fault_with status)) StopsString (fault_after status) some_fault (fault_after_read status)))

-- ---- what follows the identifier

abbrev told_with : Option Topology → Option Fault → Told
told_with t fault = (t, fault)

-- the bytes are what is told
abbrev pub IsTold : Bool → List ℕ → Told → Type 0
IsTold flagged s x = IsTopology x.0 × IsFault x.1 × MayTell flagged x.0 x.1 × (s ≡ told_bytes flagged x.0 x.1)

abbrev MadeFlagged : List ℕ → Told → Type 0
MadeFlagged = IsThen IsFlags (λ parts. IsThen (IsTopologyField parts.0) (λ t. IsMade (IsFaultField parts.1) (told_with t)))

flagged_forth : (s : List ℕ) (x : Told) → MadeFlagged s x → IsTold true s x
flagged_forth s x h =
    let t = h.next in
    let f = t.next in
    rw f.is (t.right.1, f.right.1, tt, h.whole ∙ rw (h.right, t.whole, t.right.2, f.right.2, t.right.0, f.right.0) (sym (append_assoc (LE w16 (flag_number h.first.0 h.first.1)) (topology_bytes t.first) (fault_bytes f.part))))

flagged_back : (s : List ℕ) (x : Told) → IsTold true s x → MadeFlagged s x
flagged_back s x h = record {
  first = (is_some x.0, is_some x.1);
  prefix = LE w16 (flag_number (is_some x.0) (is_some x.1));
  suffix = topology_bytes x.0 ++ fault_bytes x.1;
  whole = h.3 ∙ append_assoc (LE w16 (flag_number (is_some x.0) (is_some x.1))) (topology_bytes x.0) (fault_bytes x.1);
  right = refl;
  next = record {
    first = x.0;
    prefix = topology_bytes x.0;
    suffix = fault_bytes x.1;
    whole = refl;
    right = (refl, h.0, refl);
    next = record { part = x.1; right = (refl, h.1, refl); is = refl };
  };
}

-- the bytes are what follows this status
abbrev IsAfterStatus : ℤ → List ℕ → Told → Type 0
IsAfterStatus status s (None, None) = (status ≡ pos 0) × (s ≡ [])
IsAfterStatus status s (None, (Some fault)) = (status ≢ pos 0) × (fault.status ≡ status) × IsString s fault.text
IsAfterStatus status s ((Some t), fault) = ⊥

pub flagged_read : IsRead (IsTold true) (StopsTold true) (told_of true)
flagged_read =
    same_read MadeFlagged (IsTold true) (StopsTold true) (told_of true) flagged_forth flagged_back
    (then_read IsFlags StopsFlags flags_of (λ parts. IsThen (IsTopologyField parts.0) (λ t. IsMade (IsFaultField parts.1) (told_with t))) (λ parts. StopsThen (IsTopologyField parts.0) (StopsTopology parts.0) (λ t. StopsFault parts.1))
    (λ parts s. topology_of parts.0 s >>= λ t. (fault_of parts.1 t.1 >>= λ fault. Ok (told_with t.0 fault.0, fault.1))) flags_read
    (λ parts. then_read (IsTopologyField parts.0) (StopsTopology parts.0) (topology_of parts.0) (λ t. IsMade (IsFaultField parts.1) (told_with t)) (λ t. StopsFault parts.1)
    (λ t s. fault_of parts.1 s >>= λ fault. Ok (told_with t fault.0, fault.1)) (topology_read parts.0)
    (λ t. made_read (IsFaultField parts.1) (StopsFault parts.1) (fault_of parts.1) (told_with t) (fault_read parts.1))))

-- ---- a status

abbrev after_status : ℤ → List ℕ → Field Told
after_status status s = fault_after status s >>= λ fault. Ok (told_with None (some_fault fault.0), fault.1)

after_made : (status : ℤ) (s : List ℕ) (fault : Fault) → status ≢ pos 0 → IsMade IsString (fault_with status) s fault → IsAfterStatus status s (told_with None (some_fault fault))
after_made status s fault other h = (other, ap (λ (f : Fault). f.status) h.is, subst (λ (text : List ℕ). IsString s text) (ap (λ (f : Fault). f.text) (sym h.is)) h.right)

status_takes : (status : ℤ) (s : List ℕ) (x : Told) (rest : List ℕ) (zero' : Bool) → int_eq status (pos 0) ≡ zero' → AreBytes s → status_of status s ≡ Ok (x, rest) → Takes (IsAfterStatus status) s x rest
status_takes status s x rest true is bytes e =
    let here : status_of status s ≡ Ok (told_with None None, s) = rw is refl in
    let all : Takes (IsAfterStatus status) s (told_with None None) s = record { prefix = []; whole = refl; right = (int_is status (pos 0) is, refl) } in
    subst (λ (z : Told × List ℕ). Takes (IsAfterStatus status) s z.0 z.1) (ok_is (told_with None None, s) (x, rest) (sym here ∙ e)) all
status_takes status s x rest false is bytes e =
    let here : status_of status s ≡ after_status status s = rw is refl in
    let a = bind_ok (fault_after status s) (λ fault. Ok (told_with None (some_fault fault.0), fault.1)) (x, rest) (sym here ∙ e) in
    let t = (fault_after_read status).takes s a.0.0 a.0.1 bytes a.1 in
    let made : Told × List ℕ = (told_with None (some_fault a.0.0), a.0.1) in
    let all : Takes (IsAfterStatus status) s made.0 made.1 = record {
      prefix = t.prefix;
      whole = t.whole;
      right = after_made status t.prefix a.0.0 (not_zero status is) t.right;
    } in
    subst (λ (z : Told × List ℕ). Takes (IsAfterStatus status) s z.0 z.1) (ok_is made (x, rest) a.2) all

status_again : (status : ℤ) (s : List ℕ) (x : Told) (rest : List ℕ) → IsAfterStatus status s x → status_of status (s ++ rest) ≡ Ok (x, rest)
status_again status s (None, None) rest h = rw (zero_test status h.0, h.1) refl
status_again status s (None, (Some fault)) rest h =
    let read : fault_after status (s ++ rest) ≡ Ok (fault_with status fault.text, rest) = (fault_after_read status).again s (fault_with status fault.text) rest (record { part = fault.text; right = h.2; is = refl }) in
    let same : fault_with status fault.text ≡ fault = ap (λ (n : ℤ). fault_with n fault.text) (sym h.1) in
    rw (other_test status h.0, read) (ap (λ (f : Fault). Ok (told_with None (some_fault f), rest)) same)
status_again status s ((Some t), fault) rest h = absurd h

status_halts : (status : ℤ) (s : List ℕ) (left : ℕ) (zero' : Bool) → int_eq status (pos 0) ≡ zero' → AreBytes s → status_of status s ≡ Err left → Halts (StopsStatus status) s left
status_halts status s left true is bytes e = absurd (let here : status_of status s ≡ Ok (told_with None None, s) = rw is refl in let no = sym here ∙ e in cc)
status_halts status s left false is bytes e =
    let here : status_of status s ≡ after_status status s = rw is refl in
    elim (bind_err (fault_after status s) (λ fault. Ok (told_with None (some_fault fault.0), fault.1)) left (sym here ∙ e)) [
      | inl first ↦ let h = (fault_after_read status).halts s left bytes first in record { at = h.at; there = h.there; wrong = (not_zero status is, h.wrong) }
      | inr a ↦ absurd (let no = a.2 in cc)
    ]

status_halted : (status : ℤ) (s : List ℕ) (at : ℕ) → StopsStatus status s at → Halted (status_of status) s at
status_halted status s at w =
    let h = (fault_after_read status).halted s at w.1 in
    record { left = h.left; there = h.there; is = rw (other_test status w.0, h.is) refl }

pub status_read : (status : ℤ) → IsRead (IsAfterStatus status) (StopsStatus status) (status_of status)
status_read status = record {
  takes = λ s x rest bytes e. status_takes status s x rest (int_eq status (pos 0)) refl bytes e;
  again = status_again status;
  halts = λ s left bytes e. status_halts status s left (int_eq status (pos 0)) refl bytes e;
  halted = status_halted status;
}

abbrev MadeStatus : List ℕ → Told → Type 0
MadeStatus = IsThen (IsNumber w32) IsAfterStatus

unflagged_forth : (s : List ℕ) (x : Told) → MadeStatus s x → IsTold false s x
unflagged_forth s (None, None) h = (tt, tt, tt, h.whole ∙ rw (h.next.1, h.right.1, h.next.0) (append-nil (LE w32 (pos 0))))
unflagged_forth s (None, (Some fault)) h =
    let n = h.next in
    (tt, (subst (λ (n : ℤ). FitsSigned w32 n) (sym n.1) h.right.0, n.2.0), (λ is. n.0 (sym n.1 ∙ is)), h.whole ∙ rw (h.right.1, n.2.1, n.1) refl)
unflagged_forth s ((Some t), fault) h = absurd h.next

unflagged_back : (s : List ℕ) (x : Told) → IsTold false s x → MadeStatus s x
unflagged_back s (None, None) h = record { first = pos 0; prefix = LE w32 (pos 0); suffix = []; whole = h.3 ∙ sym (append-nil (LE w32 (pos 0))); right = (search rules, refl); next = (refl, refl) }
unflagged_back s (None, (Some fault)) h = record {
  first = fault.status;
  prefix = LE w32 fault.status;
  suffix = string fault.text;
  whole = h.3;
  right = (h.1.0, refl);
  next = (h.2, refl, (h.1.1, refl));
}
unflagged_back s ((Some t), fault) h = absurd h.2

pub told_read : (flagged : Bool) → IsRead (IsTold flagged) (StopsTold flagged) (told_of flagged)
told_read true = flagged_read
told_read false =
    same_read MadeStatus (IsTold false) (StopsTold false) (told_of false) unflagged_forth unflagged_back
    (then_read (IsNumber w32) (IsShort 4) (number_of w32) IsAfterStatus StopsStatus status_of i32_read status_read)

-- ---- heads

abbrev head_with : ℤ → Told → ReplyHead
head_with id told = record { id = id; told = told.0; fault = told.1 }

abbrev MadeHead : Version → List ℕ → ReplyHead → Type 0
MadeHead v = IsThen (IsNumber w64) (λ id. IsMade (IsTold (has_flags v)) (head_with id))

-- the bytes are the head
abbrev pub IsHeadField : Version → List ℕ → ReplyHead → Type 0
IsHeadField v s head = IsHead v head × (s ≡ head_bytes v head)

head_forth : (v : Version) (s : List ℕ) (head : ReplyHead) → MadeHead v s head → IsHeadField v s head
head_forth v s head h =
    let t = h.next.right in
    rw h.next.is (record { id = h.right.0; told = t.0; fault = t.1; may = t.2 }, h.whole ∙ rw (h.right.1, t.3) refl)

head_back : (v : Version) (s : List ℕ) (head : ReplyHead) → IsHeadField v s head → MadeHead v s head
head_back v s head h = record {
  first = head.id;
  prefix = LE w64 head.id;
  suffix = told_bytes (has_flags v) head.told head.fault;
  whole = h.1;
  right = (h.0.id, refl);
  next = record { part = told_with head.told head.fault; right = (h.0.told, h.0.fault, h.0.may, refl); is = refl };
}

pub head_read : (v : Version) → IsRead (IsHeadField v) (StopsHead v) (head_of v)
head_read v =
    same_read (MadeHead v) (IsHeadField v) (StopsHead v) (head_of v) (head_forth v) (head_back v)
    (then_read (IsNumber w64) (IsShort 8) (number_of w64) (λ id. IsMade (IsTold (has_flags v)) (head_with id)) (λ id. StopsTold (has_flags v))
    (λ id s. told_of (has_flags v) s >>= λ told. Ok (head_with id told.0, told.1)) i64_read
    (λ id. made_read (IsTold (has_flags v)) (StopsTold (has_flags v)) (told_of (has_flags v)) (head_with id) (told_read (has_flags v))))
