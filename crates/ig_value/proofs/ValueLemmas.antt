-- Values are read as they are spelled, and stop where they stop, at every depth.
use Rattle.std.proofs.Common.{◌≡◌, ℕ, zero, suc, ◌<◌, List, [], ◌∷◌, ◌++◌, length, drop, get_or, Option, Some, None, Ok, Err, refl, sym, ap, subst, ◌∙◌, arith, inl, inr}
use Rattle.std.proofs.lemmas.List.{nil_from_length}
use Rattle.ig_base.specs.Numbers.{AreBytes}
use Rattle.ig_value.specs.declared.cause.Cause.{Cause}
use Rattle.ig_value.specs.declared.cause.Cause.TheVariants as cause
use Rattle.ig_value.specs.declared.code.Code.{Code}
use Rattle.ig_value.specs.declared.code.Code.TheVariants as code
use Rattle.ig_value.specs.declared.object.Record.{Record}
use Rattle.ig_value.specs.declared.value.Value.{Value, out-Value}
use Rattle.ig_base.specs.Headers.{header_of}
use Rattle.ig_value.specs.Objects.{IsObject, StopsHeaded}
use Rattle.ig_value.specs.Part.{Content}
use Rattle.ig_value.specs.Table.{byte_of, content, parts, value_with, code_at}
use Rattle.ig_value.specs.Spells.{IsCoded, SpellsPart, SpellsTo}
use Rattle.ig_value.specs.Stops.{IsTruncated, StopsPart, StopsTo}
use Rattle.ig_value.specs.Reading.{Fault, Read, mapped_read, object_at, part_at, content_at, known_at, value_at}
use Rattle.ig_value.proofs.AgreesLemmas.{Agrees, Takes, Halts, Halted, bind_ok, bind_err, ok_is, err_is}
use Rattle.ig_value.proofs.ItemLemmas.{coded_takes, coded_halts}
use Rattle.ig_value.proofs.HeaderLemmas.{header_there}
use Rattle.ig_value.proofs.ObjectLemmas.{object_agrees}
use Rattle.ig_value.proofs.PartLemmas.{IsPlain, part_agrees, content_proper}
use Rattle.ig_value.proofs.RowLemmas.{Row, built, rebuilt, code_of_byte, code_again, no_code, code_unknown}

-- the content of a code but an object's, at this many levels below
abbrev content_agrees : (levels : ℕ) → Agrees (SpellsTo levels) (StopsTo levels) (value_at levels) → (c : Code) → IsPlain c →
    Agrees (SpellsPart (SpellsTo levels) (content c)) (StopsPart (SpellsTo levels) (StopsTo levels) (content c)) (part_at (value_at levels) (content c))
content_agrees levels p c plain = part_agrees (SpellsTo levels) (StopsTo levels) (value_at levels) p (content c) (content_proper c plain)

-- a value has its code at least
spells_some : (levels : ℕ) (s : List ℕ) (v : Value) → SpellsTo levels s v → 0 < length s
spells_some zero s v h = absurd h
spells_some (suc levels) s v h = omega (arith, ap length h.whole)

-- objects, from their code on, with fields at this many levels below
abbrev objects_agree : (levels : ℕ) → Agrees (SpellsTo levels) (StopsTo levels) (value_at levels) → Agrees (IsObject (SpellsTo levels)) (λ s at c. StopsHeaded (SpellsTo levels) (StopsTo levels) (header_of s) s at c) (object_at (value_at levels))
objects_agree levels p = object_agrees (SpellsTo levels) (StopsTo levels) (value_at levels) p (spells_some levels)

content_again : (levels : ℕ) → Agrees (SpellsTo levels) (StopsTo levels) (value_at levels) → (c : Code) (s : List ℕ) (x : Content Value (content c)) (rest : List ℕ) → SpellsPart (SpellsTo levels) (content c) s x →
    part_at (value_at levels) (content c) (s ++ rest) ≡ Ok (x, rest)
content_again levels p code.Object s x rest h = (objects_agree levels p).again (byte_of code.Object ∷ s) x rest h
content_again levels p c s x rest h = (content_agrees levels p c tt).again s x rest h

content_halted : (levels : ℕ) → Agrees (SpellsTo levels) (StopsTo levels) (value_at levels) → (c : Code) (s : List ℕ) (at : ℕ) (why : Cause) → StopsPart (SpellsTo levels) (StopsTo levels) (content c) s at why →
    Halted (part_at (value_at levels) (content c)) s at why
content_halted levels p code.Object s at why w = absurd w
content_halted levels p c s at why w = (content_agrees levels p c tt).halted s at why w

-- an object's bytes begin with its code
object_front : (levels : ℕ) (b : ℕ) (s prefix rest : List ℕ) (o : Record Value) → b ∷ s ≡ prefix ++ rest → IsObject (SpellsTo levels) prefix o → prefix ≡ b ∷ drop 1 prefix
object_front levels b s [] rest o e h = absurd (omega (arith, header_there [] h.header h.begins))
object_front levels b s (c ∷ prefix) rest o e h = let same : b ≡ c = ap (λ (l : List ℕ). get_or l 0 0) e in ap (λ (n : ℕ). n ∷ prefix) (sym same)

-- one level: the row of a value
abbrev SpellsRow : ℕ → List ℕ → Row → Type 0
SpellsRow levels s r = IsCoded r.0 (SpellsPart (SpellsTo levels) (content r.0)) s r.1

-- the row that is read of the content of a code
row_takes : (levels : ℕ) → Agrees (SpellsTo levels) (StopsTo levels) (value_at levels) → (c : Code) (s : List ℕ) (x : Content Value (content c)) (rest : List ℕ) → AreBytes (byte_of c ∷ s) →
    part_at (value_at levels) (content c) s ≡ Ok (x, rest) → Takes (IsCoded c (SpellsPart (SpellsTo levels) (content c))) (byte_of c ∷ s) x rest
row_takes levels p code.Object s x rest bytes e =
    let t = (objects_agree levels p).takes (byte_of code.Object ∷ s) x rest bytes e in
    let front = object_front levels (byte_of code.Object) s t.prefix rest x t.whole t.right in
    record {
      prefix = t.prefix;
      whole = t.whole;
      right = record { suffix = drop 1 t.prefix; whole = front; after = subst (λ (l : List ℕ). IsObject (SpellsTo levels) l x) front t.right };
    }
row_takes levels p c s x rest bytes e =
    coded_takes c (SpellsPart (SpellsTo levels) (content c)) (StopsPart (SpellsTo levels) (StopsTo levels) (content c)) (part_at (value_at levels) (content c)) (content_agrees levels p c tt) s x rest bytes e

row_halts : (levels : ℕ) → Agrees (SpellsTo levels) (StopsTo levels) (value_at levels) → (c : Code) (s : List ℕ) (left : ℕ) (why : Cause) → AreBytes (byte_of c ∷ s) →
    part_at (value_at levels) (content c) s ≡ Err (left, why) → Halts (StopsTo (suc levels)) (byte_of c ∷ s) left why
row_halts levels p code.Object s left why bytes e =
    let h = (objects_agree levels p).halts (byte_of code.Object ∷ s) left why bytes e in
    record { at = h.at; there = h.there; wrong = inr (inr (inr (record { suffix = s; whole = refl; wrong = h.wrong }))) }
row_halts levels p c s left why bytes e =
    let h = coded_halts c (SpellsPart (SpellsTo levels) (content c)) (StopsPart (SpellsTo levels) (StopsTo levels) (content c)) (part_at (value_at levels) (content c)) (content_agrees levels p c tt) s left why bytes e in
    record { at = h.at; there = h.there; wrong = inr (inr (inl (record { code = c; inside = h.wrong }))) }

-- the bytes behind a code byte
level_known : (levels : ℕ) → Agrees (SpellsTo levels) (StopsTo levels) (value_at levels) → (c : Code) (s : List ℕ) (v : Value) (rest : List ℕ) →
    AreBytes (byte_of c ∷ s) → content_at (value_at levels) c s ≡ Ok (v, rest) → Takes (SpellsTo (suc levels)) (byte_of c ∷ s) v rest
level_known levels p c s v rest bytes e =
    let a = bind_ok (part_at (value_at levels) (content c) s) (λ x. Ok (value_with c x.0, x.1)) (v, rest) e in
    let t = row_takes levels p c s a.0.0 a.0.1 bytes a.1 in
    let made : Value × List ℕ = (value_with c a.0.0, a.0.1) in
    let all : Takes (SpellsTo (suc levels)) (byte_of c ∷ s) made.0 made.1 =
    record { prefix = t.prefix; whole = t.whole; right = subst (λ (r : Row). SpellsRow levels t.prefix r) (sym (built c a.0.0)) t.right } in
    subst (λ (z : Value × List ℕ). Takes (SpellsTo (suc levels)) (byte_of c ∷ s) z.0 z.1) (ok_is made (v, rest) a.2) all

level_takes : (levels : ℕ) → Agrees (SpellsTo levels) (StopsTo levels) (value_at levels) → (b : ℕ) (s : List ℕ) (v : Value) (rest : List ℕ) → AreBytes (b ∷ s) → (o : Option Code) → code_at b ≡ o →
    known_at (value_at levels) b s o ≡ Ok (v, rest) → Takes (SpellsTo (suc levels)) (b ∷ s) v rest
level_takes levels p b s v rest bytes None is e = absurd cc
level_takes levels p b s v rest bytes (Some c) is e =
    let same = code_of_byte b c is in
    let t = level_known levels p c s v rest (subst (λ (n : ℕ). AreBytes (n ∷ s)) (sym same) bytes) e in
    subst (λ (n : ℕ). Takes (SpellsTo (suc levels)) (n ∷ s) v rest) same t

level_halts : (levels : ℕ) → Agrees (SpellsTo levels) (StopsTo levels) (value_at levels) → (b : ℕ) (s : List ℕ) (left : ℕ) (why : Cause) → AreBytes (b ∷ s) → (o : Option Code) → code_at b ≡ o →
    known_at (value_at levels) b s o ≡ Err (left, why) → Halts (StopsTo (suc levels)) (b ∷ s) left why
level_halts levels p b s left why bytes None is e =
    let f = err_is {A = Value × List ℕ} (suc (length s), cause.Code b) (left, why) e in
    record {
      at = 0;
      there = omega (arith, ap (λ (z : Fault). z.0) f);
      wrong = inr (inl (record { byte = b; rest = s; whole = refl; unknown = λ c. no_code b c is; here = refl; cause = sym (ap (λ (z : Fault). z.1) f) }));
    }
level_halts levels p b s left why bytes (Some c) is e =
    let same = code_of_byte b c is in
    elim (bind_err (part_at (value_at levels) (content c) s) (λ x. Ok (value_with c x.0, x.1)) (left, why) e) [
      | inl inner ↦
          let h = row_halts levels p c s left why (subst (λ (n : ℕ). AreBytes (n ∷ s)) (sym same) bytes) inner in
          subst (λ (n : ℕ). Halts (StopsTo (suc levels)) (n ∷ s) left why) same h
      | inr a ↦ absurd (let other = a.2 in cc)
    ]

-- a value as its own row
level_again : (levels : ℕ) → Agrees (SpellsTo levels) (StopsTo levels) (value_at levels) → (s : List ℕ) (v : Value) (rest : List ℕ) → SpellsTo (suc levels) s v → value_at (suc levels) (s ++ rest) ≡ Ok (v, rest)
level_again levels p s v rest h =
    let r = parts (out-Value v) in
    let inner : part_at (value_at levels) (content r.0) (h.suffix ++ rest) ≡ Ok (r.1, rest) = content_again levels p r.0 h.suffix r.1 rest h.after in
    let e : s ++ rest ≡ byte_of r.0 ∷ (h.suffix ++ rest) = ap (λ (l : List ℕ). l ++ rest) h.whole in
    let is : value_at (suc levels) (s ++ rest) ≡ content_at (value_at levels) r.0 (h.suffix ++ rest) = rw (e, code_again r.0) refl in
    is ∙ rw inner (ap (λ (w : Value). Ok (w, rest)) (rebuilt v))

level_halted : (levels : ℕ) → Agrees (SpellsTo levels) (StopsTo levels) (value_at levels) → (s : List ℕ) (at : ℕ) (why : Cause) → StopsTo (suc levels) s at why → Halted (value_at (suc levels)) s at why
level_halted levels p s at why (inl cut) =
    let nil : s ≡ [] = nil_from_length s (omega (arith, cut.short)) in
    record { left = 0; there = rw nil (omega (arith, cut.here)); is = rw (nil, cut.cause) refl }
level_halted levels p s at why (inr (inl w)) =
    let is : value_at (suc levels) (w.byte ∷ w.rest) ≡ Err (suc (length w.rest), cause.Code w.byte) = rw (code_unknown w.byte w.unknown) refl in
    record { left = suc (length w.rest); there = rw w.whole (omega (arith, w.here)); is = rw (w.whole, w.cause) is }
level_halted levels p s at why (inr (inr (inl w))) =
    let i = w.inside in
    let h = content_halted levels p w.code i.suffix i.further why i.wrong in
    record { left = h.left; there = rw i.whole (omega (arith, h.there, i.there)); is = rw (i.whole, code_again w.code, h.is) refl }
level_halted levels p s at why (inr (inr (inr w))) =
    let h = (objects_agree levels p).halted s at why w.wrong in
    let is : object_at (value_at levels) (byte_of code.Object ∷ w.suffix) ≡ Err (h.left, why) = subst (λ (l : List ℕ). object_at (value_at levels) l ≡ Err (h.left, why)) w.whole h.is in
    record { left = h.left; there = h.there; is = ap (value_at (suc levels)) w.whole ∙ ap (λ (r : Read (Record Value)). mapped_read (value_with code.Object) r) is }

-- ---- all levels

short_halts : (levels : ℕ) (W : List ℕ → ℕ → Cause → Type 0) → ((at : ℕ) (c : Cause) → IsTruncated 1 [] at c → W [] at c) → (left : ℕ) (c : Cause) → value_at levels [] ≡ Err (left, c) → Halts W [] left c
short_halts levels W cut left c e =
    let f = err_is {A = Value × List ℕ} (0, cause.Short) (left, c) e in
    record { at = 0; there = omega (arith, ap (λ (z : Fault). z.0) f); wrong = cut 0 c (record { short = omega arith; here = refl; cause = sym (ap (λ (z : Fault). z.1) f) }) }

value_takes : (levels : ℕ) → Agrees (SpellsTo levels) (StopsTo levels) (value_at levels) → (s : List ℕ) (v : Value) (rest : List ℕ) → AreBytes s → value_at (suc levels) s ≡ Ok (v, rest) → Takes (SpellsTo (suc levels)) s v rest
value_takes levels p [] v rest bytes e = absurd cc
value_takes levels p (b ∷ s) v rest bytes e = level_takes levels p b s v rest bytes (code_at b) refl e

value_halts : (levels : ℕ) → Agrees (SpellsTo levels) (StopsTo levels) (value_at levels) → (s : List ℕ) (left : ℕ) (c : Cause) → AreBytes s → value_at (suc levels) s ≡ Err (left, c) → Halts (StopsTo (suc levels)) s left c
value_halts levels p [] left c bytes e = short_halts (suc levels) (StopsTo (suc levels)) (λ at d cut. inl cut) left c e
value_halts levels p (b ∷ s) left c bytes e = level_halts levels p b s left c bytes (code_at b) refl e

deep_takes : (s : List ℕ) (v : Value) (rest : List ℕ) → value_at 0 s ≡ Ok (v, rest) → ⊥
deep_takes [] v rest e = cc
deep_takes (b ∷ s) v rest e = cc

deep_halts : (s : List ℕ) (left : ℕ) (c : Cause) → value_at 0 s ≡ Err (left, c) → Halts (StopsTo 0) s left c
deep_halts [] left c e = short_halts 0 (StopsTo 0) (λ at d cut. inl cut) left c e
deep_halts (b ∷ s) left c e =
    let f = err_is {A = Value × List ℕ} (suc (length s), cause.Depth) (left, c) e in
    record { at = 0; there = omega (arith, ap (λ (z : Fault). z.0) f); wrong = inr (record { byte = b; rest = s; whole = refl; here = refl; cause = sym (ap (λ (z : Fault). z.1) f) }) }

deep_halted : (s : List ℕ) (at : ℕ) (c : Cause) → StopsTo 0 s at c → Halted (value_at 0) s at c
deep_halted s at c (inl cut) =
    let nil : s ≡ [] = nil_from_length s (omega (arith, cut.short)) in
    record { left = 0; there = rw nil (omega (arith, cut.here)); is = rw (nil, cut.cause) refl }
deep_halted s at c (inr w) = record { left = suc (length w.rest); there = rw w.whole (omega (arith, w.here)); is = rw (w.whole, w.cause) refl }

pub value_agrees : (levels : ℕ) → Agrees (SpellsTo levels) (StopsTo levels) (value_at levels)
value_agrees zero = record {
  takes = λ s v rest bytes e. absurd (deep_takes s v rest e);
  again = λ s v rest h. absurd h;
  halts = λ s left c bytes e. deep_halts s left c e;
  halted = deep_halted;
}
value_agrees (suc levels) =
    let p = value_agrees levels in
    record {
      takes = value_takes levels p;
      again = level_again levels p;
      halts = value_halts levels p;
      halted = level_halted levels p;
    }
