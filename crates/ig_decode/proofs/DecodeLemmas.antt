-- What reading the list gives, said of the grammar.
use Rattle.std.proofs.Common.{◌≡◌, ℕ, ◌+◌, ◌-◌, ◌≤◌, Bool, true, false, List, [], ◌++◌, length, take, drop, Ok, Err, refl, sym, ap, subst, ◌∙◌, arith, length-append, length-drop, rules, eq-eqb, ◌&&◌}
use Rattle.std.specs.Prelude.{IsTrue, nat_eq}
use Rattle.std.proofs.lemmas.List.{take_at, drop_at, drop-drop, append-nil, take_all}
use Rattle.std.proofs.lemmas.Bool.{eqb-true}
use Rattle.ig_base.specs.Numbers.{AreBytes}
use Rattle.ig_value.specs.declared.Cause.{Cause}
use Rattle.ig_value.specs.declared.Value.{Value}
use Rattle.ig_value.specs.Spells.{Spells, SpellsTo}
use Rattle.ig_value.specs.Stops.{Stops, StopsTo}
use Rattle.ig_value.specs.Canon.{Canon}
use Rattle.ig_value.specs.Limits.{Fits, Nodes}
use Rattle.ig_value.specs.Reading.{Fault, value_at, reading}
use Rattle.ig_value.proofs.AgreesLemmas.{Takes, Halts, AreBytes-drop, ok_is, err_is}
use Rattle.ig_value.proofs.ValueLemmas.{value_agrees}
use Rattle.ig_value.proofs.SpelledLemmas.{spelled_fits, spelled_nodes}
use Rattle.ig_decode.specs.declared.answer.Decoded.{Decoded}
use Rattle.ig_decode.specs.Exactness.{KeepsExact}
use Rattle.ig_decode.specs.DecodeAnswers.{IsFound, IsRefused, IsCanonical}

-- ---- a value was read

pub taken : (bytes : List ℕ) (at : ℕ) (v : Value) (rest : List ℕ) → AreBytes bytes → value_at 32 (drop at bytes) ≡ Ok (v, rest) → Takes (SpellsTo 32) (drop at bytes) v rest
taken bytes at v rest b e = (value_agrees 32).takes (drop at bytes) v rest (AreBytes-drop at bytes b) e

pub rest_within : (bytes : List ℕ) (at : ℕ) (v : Value) (rest : List ℕ) → AreBytes bytes → value_at 32 (drop at bytes) ≡ Ok (v, rest) → length rest ≤ length bytes - at
rest_within bytes at v rest b e =
    let t = taken bytes at v rest b e in
    omega (arith, ap length t.whole, length-append t.prefix rest, length-drop at bytes)

used_is : (bytes : List ℕ) (at : ℕ) (v : Value) (rest : List ℕ) (b : AreBytes bytes) (e : value_at 32 (drop at bytes) ≡ Ok (v, rest)) (used : ℕ) → used ≡ length bytes - at - length rest → length (taken bytes at v rest b e).prefix ≡ used
used_is bytes at v rest b e used is =
    let t = taken bytes at v rest b e in
    omega (arith, ap length t.whole, length-append t.prefix rest, length-drop at bytes)

front_is : (bytes : List ℕ) (at : ℕ) (v : Value) (rest : List ℕ) (b : AreBytes bytes) (e : value_at 32 (drop at bytes) ≡ Ok (v, rest)) (used : ℕ) → used ≡ length bytes - at - length rest → take used (drop at bytes) ≡ (taken bytes at v rest b e).prefix
front_is bytes at v rest b e used is =
    let t = taken bytes at v rest b e in
    ap (take used) t.whole ∙ take_at t.prefix rest used (used_is bytes at v rest b e used is)

pub spelled_at : (bytes : List ℕ) (at : ℕ) (v : Value) (rest : List ℕ) → AreBytes bytes → value_at 32 (drop at bytes) ≡ Ok (v, rest) → (used : ℕ) → used ≡ length bytes - at - length rest → SpellsTo 32 (take used (drop at bytes)) v
spelled_at bytes at v rest b e used is = subst (λ (l : List ℕ). SpellsTo 32 l v) (sym (front_is bytes at v rest b e used is)) (taken bytes at v rest b e).right

pub is_found : (bytes : List ℕ) (at : ℕ) (v : Value) (rest : List ℕ) → at ≤ length bytes → AreBytes bytes → value_at 32 (drop at bytes) ≡ Ok (v, rest) → (used : ℕ) → used ≡ length bytes - at - length rest →
    (exact : Bool) → KeepsExact true exact (drop at bytes) (Canon v) rest → IsFound bytes at (record { value = v; used = used; canonical = exact })
unfolding Spells Fits
is_found bytes at v rest le b e used is exact k =
    let spelled = spelled_at bytes at v rest b e used is in
    let front : take used (drop at bytes) ≡ k.prefix =
    ap (take used) k.whole ∙ take_at k.prefix rest used (omega (arith, is, rest_within bytes at v rest b e, ap length k.whole, length-append k.prefix rest, length-drop at bytes)) in
    record {
      within = omega (arith, rest_within bytes at v rest b e);
      spelled = spelled;
      fits = spelled_fits 32 _ v spelled;
      canonical = (λ h. front ∙ (k.exact.0 h).1, λ h. k.exact.1 (search rules, sym front ∙ h));
    }

pub byte_for_node : (bytes : List ℕ) (at : ℕ) (v : Value) (rest : List ℕ) → AreBytes bytes → value_at 32 (drop at bytes) ≡ Ok (v, rest) → Nodes v ≤ length bytes - at - length rest
byte_for_node bytes at v rest b e =
    let t = taken bytes at v rest b e in
    omega (arith, spelled_nodes 32 t.prefix v t.right, used_is bytes at v rest b e (length bytes - at - length rest) refl)

pub rest_is : (bytes : List ℕ) (at : ℕ) (v : Value) (rest : List ℕ) → AreBytes bytes → value_at 32 (drop at bytes) ≡ Ok (v, rest) → (used : ℕ) → used ≡ length bytes - at - length rest → drop (at + used) bytes ≡ rest
rest_is bytes at v rest b e used is =
    let t = taken bytes at v rest b e in
    sym (drop-drop used at bytes) ∙ ap (drop used) t.whole ∙ drop_at t.prefix rest used (used_is bytes at v rest b e used is)

pub reads_ok : (bytes : List ℕ) (at : ℕ) (v : Value) (rest : List ℕ) → AreBytes bytes → value_at 32 (drop at bytes) ≡ Ok (v, rest) → (used : ℕ) → used ≡ length bytes - at - length rest → reading (drop at bytes) ≡ Ok (v, drop (at + used) bytes)
unfolding reading
reads_ok bytes at v rest b e used is =
    let after = rest_is bytes at v rest b e used is in
    rw after e

pub one_found : (bytes : List ℕ) (at : ℕ) (v : Value) (rest : List ℕ) → AreBytes bytes → value_at 32 (drop at bytes) ≡ Ok (v, rest) → (s r : List ℕ) (w : Value) → drop at bytes ≡ s ++ r → Spells s w → (v ≡ w) × (length bytes - at - length rest ≡ length s)
unfolding Spells
one_found bytes at v rest b e s r w whole h =
    let again = (value_agrees 32).again s w r h in
    let same = ok_is (v, rest) (w, r) (sym e ∙ ap (value_at 32) whole ∙ again) in
    let same_rest : rest ≡ r = ap (λ (z : Value × List ℕ). z.1) same in
    (ap (λ (z : Value × List ℕ). z.0) same, omega (arith, ap length same_rest, ap length whole, length-append s r, length-drop at bytes))

pub none_refused : (s : List ℕ) (v : Value) (rest : List ℕ) → value_at 32 s ≡ Ok (v, rest) → (p : ℕ) (c : Cause) → Stops s p c → ⊥
unfolding Stops
none_refused s v rest e p c h = let w = (value_agrees 32).halted s p c h in let both = sym e ∙ w.is in cc

-- ---- a fault was read

pub stopped : (bytes : List ℕ) (at left : ℕ) (c : Cause) → AreBytes bytes → value_at 32 (drop at bytes) ≡ Err (left, c) → Halts (StopsTo 32) (drop at bytes) left c
stopped bytes at left c b e = (value_agrees 32).halts (drop at bytes) left c (AreBytes-drop at bytes b) e

pub left_within : (bytes : List ℕ) (at left : ℕ) (c : Cause) → AreBytes bytes → value_at 32 (drop at bytes) ≡ Err (left, c) → left ≤ length bytes - at
left_within bytes at left c b e = let h = stopped bytes at left c b e in omega (arith, h.there, length-drop at bytes)

pub is_refused : (bytes : List ℕ) (at left : ℕ) (c : Cause) → at ≤ length bytes → AreBytes bytes → value_at 32 (drop at bytes) ≡ Err (left, c) → IsRefused bytes at (record { place = length bytes - left; cause = c })
unfolding Stops
is_refused bytes at left c le b e =
    let h = stopped bytes at left c b e in
    record { further = h.at; place = omega (arith, h.there, length-drop at bytes); stops = h.wrong }

pub none_found : (s r : List ℕ) (left : ℕ) (c : Cause) (l : List ℕ) (w : Value) → value_at 32 l ≡ Err (left, c) → l ≡ s ++ r → Spells s w → ⊥
unfolding Spells
none_found s r left c l w e whole h = let again = (value_agrees 32).again s w r h in let both = sym e ∙ ap (value_at 32) whole ∙ again in cc

pub one_refused : (bytes : List ℕ) (at left : ℕ) (c : Cause) → at ≤ length bytes → AreBytes bytes → value_at 32 (drop at bytes) ≡ Err (left, c) → (p : ℕ) (d : Cause) → Stops (drop at bytes) p d → (length bytes - left ≡ at + p) × (c ≡ d)
unfolding Stops
one_refused bytes at left c le b e p d h =
    let w = (value_agrees 32).halted (drop at bytes) p d h in
    let same = err_is {A = Value × List ℕ} (left, c) (w.left, d) (sym e ∙ w.is) in
    (omega (arith, ap (λ (z : Fault). z.0) same, w.there, length-drop at bytes), ap (λ (z : Fault). z.1) same)

pub reads_err : (bytes : List ℕ) (at left : ℕ) (c : Cause) → AreBytes bytes → value_at 32 (drop at bytes) ≡ Err (left, c) → reading (drop at bytes) ≡ Err (length bytes - (length bytes - left), c)
unfolding reading
reads_err bytes at left c b e =
    let back : length bytes - (length bytes - left) ≡ left = omega (arith, left_within bytes at left c b e) in
    rw back e

-- ---- the whole of the bytes

whole_front : (bytes : List ℕ) (used : ℕ) → used ≡ length bytes → take used (drop 0 bytes) ≡ bytes
whole_front bytes used is = take_all used bytes (omega (arith, is))

pub canonical_when : (bytes : List ℕ) (d : Decoded) → IsFound bytes 0 d → IsTrue d.canonical → d.used ≡ length bytes → IsCanonical bytes
canonical_when bytes d f right is =
    let whole = whole_front bytes d.used is in
    record { value = d.value; spelled = subst (λ (l : List ℕ). Spells l d.value) whole f.spelled; canonical = sym whole ∙ f.canonical.0 right }

pub canonical_only : (bytes : List ℕ) (d : Decoded) → IsFound bytes 0 d → ((s rest : List ℕ) (v : Value) → drop 0 bytes ≡ s ++ rest → Spells s v → (d.value ≡ v) × (d.used ≡ length s)) → IsCanonical bytes → IsTrue d.canonical × (d.used ≡ length bytes)
canonical_only bytes d f only k =
    let o = only bytes [] k.value (sym (append-nil bytes)) k.spelled in
    (f.canonical.1 (whole_front bytes d.used o.1 ∙ k.canonical ∙ ap Canon (sym o.0)), o.1)

pub verdict : (bytes : List ℕ) (d : Decoded) → IsFound bytes 0 d → ((s rest : List ℕ) (v : Value) → drop 0 bytes ≡ s ++ rest → Spells s v → (d.value ≡ v) × (d.used ≡ length s)) → (r b : Bool) →
    d.canonical ≡ b → r ≡ (b && nat_eq d.used (length bytes)) → (IsTrue r → IsCanonical bytes) × (IsCanonical bytes → IsTrue r)
verdict bytes d f only r true is e =
    (λ h. canonical_when bytes d f (search rules) (eqb-true _ _ (sym e ∙ h)), λ k. e ∙ eq-eqb _ _ (canonical_only bytes d f only k).1)
verdict bytes d f only r false is e =
    (λ h. absurd (let both = sym e ∙ h in cc), λ k. absurd (let right = (canonical_only bytes d f only k).0 in let both = sym is ∙ right in cc))
