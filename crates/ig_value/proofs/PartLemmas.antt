-- Every part is read as it is spelled, where a value inside is.
use Rattle.std.proofs.Common.{◌≢◌, ℕ, List, refl, arith}
use Rattle.ig_base.specs.declared.NodeId.{NodeId}
use Rattle.ig_value.specs.declared.cause.Cause.{Cause}
use Rattle.ig_value.specs.declared.code.Code.{Code}
use Rattle.ig_value.specs.declared.code.Code.TheVariants as code
use Rattle.ig_value.specs.declared.value.Dec.{Dec}
use Rattle.ig_value.specs.declared.value.Stamp.{Stamp}
use Rattle.ig_value.specs.Part.{i32, i64, u64, Part, nothing, scalar, text, octets, uuid, stamp, decimal, value, object, both, counted, optional}
use Rattle.ig_value.specs.Table.{byte_of, content}
use Rattle.ig_value.specs.Spells.{IsScalar, IsBoth, IsMany, IsRun, IsTextRun, IsCounted, SpellsPart}
use Rattle.ig_value.specs.Stops.{StopsScalar, StopsBoth, StopsMany, StopsRun, StopsTextRun, StopsCounted, StopsPart}
use Rattle.ig_value.specs.Reading.{Read, scalar_at, run_at, text_run_at, counted_at, both_at, many_at, part_at}
use Rattle.ig_value.proofs.AgreesLemmas.{Agrees, both_agrees, many_agrees, seen_agrees, nothing_agrees}
use Rattle.ig_value.proofs.ItemLemmas.{optional_agrees}
use Rattle.ig_value.proofs.ScalarLemmas.{scalar_agrees}
use Rattle.ig_value.proofs.CountLemmas.{counted_agrees, run_agrees, text_run_agrees}

-- no code but null's own stands for null, and no part is an object
abbrev pub IsProper : Part → Type 0
IsProper (both p q) = IsProper p × IsProper q
IsProper (counted p q) = IsProper p × IsProper q
IsProper (optional c p) = (byte_of c ≢ byte_of code.Null) × IsProper p
IsProper object = ⊥
IsProper _ = Unit {0}

-- the codes but an object's
abbrev pub IsPlain : Code → Type 0
IsPlain code.Object = ⊥
IsPlain _ = Unit {0}

octets_agrees : Agrees (IsCounted IsRun) (StopsCounted StopsRun) (counted_at run_at)
octets_agrees = counted_agrees IsRun StopsRun run_at run_agrees

pub part_agrees : {X : Type 0} (P : List ℕ → X → Type 0) (W : List ℕ → ℕ → Cause → Type 0) (R : List ℕ → Read X) → Agrees P W R →
    (p : Part) → IsProper p → Agrees (SpellsPart P p) (StopsPart P W p) (part_at R p)
part_agrees P W R a nothing proper = nothing_agrees
part_agrees P W R a (scalar k) proper = scalar_agrees k
part_agrees P W R a text proper = counted_agrees IsTextRun StopsTextRun text_run_at text_run_agrees
part_agrees P W R a octets proper = octets_agrees
part_agrees P W R a uuid proper =
    seen_agrees {A = ℕ × ℕ} {B = NodeId} (λ x. record { most = x.0; least = x.1 }) (λ x. (x.most, x.least)) (IsBoth (IsScalar u64) (IsScalar u64)) (StopsBoth (IsScalar u64) (StopsScalar u64) (StopsScalar u64)) (both_at (scalar_at u64) (scalar_at u64)) (λ x. refl) (λ y. refl)
    (both_agrees (IsScalar u64) (StopsScalar u64) (scalar_at u64) (IsScalar u64) (StopsScalar u64) (scalar_at u64) (scalar_agrees u64) (scalar_agrees u64))
part_agrees P W R a stamp proper =
    seen_agrees {B = Stamp} (λ x. record { millis = x.0; nanos = x.1 }) (λ x. (x.millis, x.nanos)) (IsBoth (IsScalar i64) (IsScalar i32)) (StopsBoth (IsScalar i64) (StopsScalar i64) (StopsScalar i32)) (both_at (scalar_at i64) (scalar_at i32)) (λ x. refl) (λ y. refl)
    (both_agrees (IsScalar i64) (StopsScalar i64) (scalar_at i64) (IsScalar i32) (StopsScalar i32) (scalar_at i32) (scalar_agrees i64) (scalar_agrees i32))
part_agrees P W R a decimal proper =
    seen_agrees {B = Dec} (λ x. record { scale = x.0; bytes = x.1 }) (λ x. (x.scale, x.bytes)) (IsBoth (IsScalar i32) (IsCounted IsRun)) (StopsBoth (IsScalar i32) (StopsScalar i32) (StopsCounted StopsRun)) (both_at (scalar_at i32) (counted_at run_at)) (λ x. refl) (λ y. refl)
    (both_agrees (IsScalar i32) (StopsScalar i32) (scalar_at i32) (IsCounted IsRun) (StopsCounted StopsRun) (counted_at run_at) (scalar_agrees i32) octets_agrees)
part_agrees P W R a value proper = a
part_agrees P W R a object proper = absurd proper
part_agrees P W R a (both p q) proper =
    both_agrees (SpellsPart P p) (StopsPart P W p) (part_at R p) (SpellsPart P q) (StopsPart P W q) (part_at R q) (part_agrees P W R a p proper.0) (part_agrees P W R a q proper.1)
part_agrees P W R a (counted p q) proper =
    let one = part_agrees P W R a q proper.1 in
    counted_agrees (λ n. IsBoth (SpellsPart P p) (IsMany (SpellsPart P q) n)) (λ n. StopsBoth (SpellsPart P p) (StopsPart P W p) (StopsMany (SpellsPart P q) (StopsPart P W q) n)) (λ n. both_at (part_at R p) (many_at (part_at R q) n))
    (λ n. both_agrees (SpellsPart P p) (StopsPart P W p) (part_at R p) (IsMany (SpellsPart P q) n) (StopsMany (SpellsPart P q) (StopsPart P W q) n) (many_at (part_at R q) n)
    (part_agrees P W R a p proper.0) (many_agrees (SpellsPart P q) (StopsPart P W q) (part_at R q) one n))
part_agrees P W R a (optional c p) proper =
    optional_agrees c (SpellsPart P p) (StopsPart P W p) (part_at R p) (part_agrees P W R a p proper.1) proper.0

pub content_proper : (c : Code) → IsPlain c → IsProper (content c)
content_proper code.Object plain = absurd plain
content_proper code.Strs plain = (tt, (λ e. absurd (omega (arith, e)), tt))
content_proper code.Uuids plain = (tt, (λ e. absurd (omega (arith, e)), tt))
content_proper code.Dates plain = (tt, (λ e. absurd (omega (arith, e)), tt))
content_proper code.Decimals plain = (tt, (λ e. absurd (omega (arith, e)), tt))
content_proper code.Timestamps plain = (tt, (λ e. absurd (omega (arith, e)), tt))
content_proper code.Times plain = (tt, (λ e. absurd (omega (arith, e)), tt))
content_proper code.Map plain = (tt, (tt, tt))
content_proper code.Objects plain = (tt, (tt, tt))
content_proper code.Enums plain = (tt, (tt, tt))
content_proper code.Collection plain = (tt, tt)
content_proper code.Wrapped plain = (tt, tt)
content_proper code.Enum plain = (tt, tt)
content_proper code.BinaryEnum plain = (tt, tt)
content_proper code.Bytes plain = (tt, tt)
content_proper code.Shorts plain = (tt, tt)
content_proper code.Ints plain = (tt, tt)
content_proper code.Longs plain = (tt, tt)
content_proper code.Floats plain = (tt, tt)
content_proper code.Doubles plain = (tt, tt)
content_proper code.Chars plain = (tt, tt)
content_proper code.Bools plain = (tt, tt)
content_proper _ plain = tt
