-- How the cut of a stream grows, by a byte and by a piece that doesn't go beyond the end of the frame that it
-- is in.
use Rattle.std.proofs.Common.{◌≡◌, cond, ℕ, ◌+◌, ◌-◌, ◌<◌, ◌≤◌, ℤ, pos, negsuc, Bool, true, false, ◌&&◌, List, [], ◌∷◌, ◌++◌, length, take, drop, Option, None, Some, inl, inr, refl, sym, ap, subst, ◌∙◌, arith, append-nil, append_assoc}
use Rattle.std.proofs.lemmas.Bool.{cond-true, cond-false, cases_Bool, cases_lt, lt-ltb, le-ltb}
use Rattle.std.proofs.lemmas.List.{length-append, length-drop, nil_from_length, take-append-le}
use Rattle.std.proofs.lemmas.List.Sums.{fold-append}
use Rattle.std.specs.Prelude.{nat_lt, nat_le}
use Rattle.std.specs.Int.{w32, cast_signed, from_le_bytes}
use Rattle.std.specs.List.{fold, flat_map}
use Rattle.ig_base.specs.Numbers.{AreBytes, number_at}
use Rattle.ig_base.specs.Frames.{Frame, Front, Body, Bad, Incomplete, front, front_from, front_sized, max_body, HasNoFrame, Side, least_after, Begins, Cut}
use Rattle.ig_base.proofs.NumberLemmas.{number_at-within, number_at-enough, number_at-short}
use Rattle.ig_base.proofs.FrameLemmas.{front-fewer, front-within, front-short, front-some-missing, front-completed, Begins-start, Begins-more, Begins-next}
use Rattle.ig_client.proofs.BytesLemmas.{are_first, are_last}
use Rattle.ig_client.specs.Cutting.{Cutting, cut, uncut, with_byte, with_rest, replies_side, CutsRightly}

grown : (least : ℕ) (bodies : List (List ℕ)) (part : List ℕ) (missing b : ℕ) (piece : List ℕ)
    → front least max_body part ≡ Incomplete missing → length (b ∷ piece) ≤ missing
    → fold (with_byte least) (record { bodies = bodies; rest = part }) (b ∷ piece)
    ≡ with_rest bodies (part ++ b ∷ piece) (front least max_body (part ++ b ∷ piece))
grown least bodies part missing b [] is fits = refl
grown least bodies part missing b (c ∷ piece) is fits =
    let next : front least max_body (part ++ b ∷ []) ≡ Incomplete (missing - 1) = front-fewer least max_body part (b ∷ []) missing is (omega (arith, fits)) in
    ap (λ f. fold (with_byte least) (with_rest bodies (part ++ b ∷ []) f) (c ∷ piece)) next
    ∙ grown least bodies (part ++ b ∷ []) (missing - 1) c piece next (omega (arith, fits))
    ∙ ap (λ (l : List ℕ). with_rest bodies l (front least max_body l)) (append_assoc part (b ∷ []) (c ∷ piece))

-- the bytes after the last frame, and a piece of what is missing to the end of the length or of the frame
pub cut_more : (least : ℕ) (bytes : List ℕ) (missing : ℕ) (piece : List ℕ)
    → front least max_body (cut least bytes).rest ≡ Incomplete missing → 0 < length piece → length piece ≤ missing
    → cut least (bytes ++ piece)
    ≡ with_rest (cut least bytes).bodies ((cut least bytes).rest ++ piece) (front least max_body ((cut least bytes).rest ++ piece))
cut_more least bytes missing [] is some fits = absurd (omega (arith, some))
cut_more least bytes missing (b ∷ piece) is some fits =
    fold-append (with_byte least) uncut bytes (b ∷ piece)
    ∙ grown least (cut least bytes).bodies (cut least bytes).rest missing b piece is fits

-- where such a piece makes a frame whole, nothing follows it
pub ends_whole : (least : ℕ) (part piece body rest : List ℕ) (missing : ℕ) → front least max_body part ≡ Incomplete missing → length piece ≤ missing
    → front least max_body (part ++ piece) ≡ Body body rest → rest ≡ []
ends_whole least part piece body rest missing is fits whole = elim (cases_lt (length piece) missing) [
  | inl fewer ↦ let still : front least max_body (part ++ piece) ≡ Incomplete (missing - length piece) = front-fewer least max_body part piece missing is fewer in
      cc
  | inr enough ↦ elim (cases_lt (length part) 4) [
    | inl short ↦
        let lacks : front least max_body part ≡ Incomplete (4 - length part) = front-short least max_body part short in
        let same : missing ≡ 4 - length part = cc in
        let within : (4 + length body ≤ length (part ++ piece)) × (body ≡ take (length body) (drop 4 (part ++ piece))) × (rest ≡ drop (4 + length body) (part ++ piece)) =
        front-within least max_body (part ++ piece) body rest whole in
        let none : length rest ≡ 0 =
        ap length within.2 ∙ omega (arith, length-drop (4 + length body) (part ++ piece), within.0, length-append part piece, same, fits) in
        nil_from_length rest none
    | inr long ↦
        let done : front least max_body (part ++ piece) ≡ Body (drop 4 part ++ piece) [] = front-completed least max_body part piece missing long is (omega (arith, fits, enough)) in
        cc
  ]
]

-- ---- a length out of range stays so

sized_never_bad : (k : ℕ) (bytes : List ℕ) (n : ℤ) → front_sized k bytes ≡ Bad n → ⊥
sized_never_bad k bytes n h = elim (cases_lt (length bytes) k) [
  | inl short ↦ let part : front_sized k bytes ≡ Incomplete (k - length bytes) = cond-true (nat_lt (length bytes) k) (Incomplete (k - length bytes)) (Body (take k bytes) (drop k bytes)) (lt-ltb _ _ short) in cc
  | inr long ↦ let whole : front_sized k bytes ≡ Body (take k bytes) (drop k bytes) = cond-false (nat_lt (length bytes) k) (Incomplete (k - length bytes)) (Body (take k bytes) (drop k bytes)) (le-ltb _ _ long) in cc
]

bad_whatever : (least limit : ℕ) (bytes others : List ℕ) (n : ℤ) (read : Option ℤ) → front_from least limit bytes read ≡ Bad n
    → (front_from least limit others read ≡ Bad n) × ((z : ℤ) × (read ≡ Some z))
bad_whatever least limit bytes others n None h = cc
bad_whatever least limit bytes others n (Some (negsuc k)) h = (h, (negsuc k, refl))
bad_whatever least limit bytes others n (Some (pos k)) h = elim (cases_Bool (nat_le least k && nat_le k limit)) [
  | inl fits ↦ absurd (sized_never_bad k (drop 4 bytes) n (sym (cond-true (nat_le least k && nat_le k limit) (front_sized k (drop 4 bytes)) (Bad (pos k)) fits) ∙ h))
  | inr out ↦ (
    cond-false (nat_le least k && nat_le k limit) (front_sized k (drop 4 others)) (Bad (pos k)) out
        ∙ sym (cond-false (nat_le least k && nat_le k limit) (front_sized k (drop 4 bytes)) (Bad (pos k)) out) ∙ h,
    (pos k, refl),
  )
]

bad_stays : (least limit : ℕ) (bytes more : List ℕ) (n : ℤ) → front least limit bytes ≡ Bad n → front least limit (bytes ++ more) ≡ Bad n
unfolding front
bad_stays least limit bytes more n bad =
    let both = bad_whatever least limit bytes (bytes ++ more) n (number_at w32 bytes 0) bad in
    let long : 4 ≤ length bytes = number_at-within both.1.0 bytes both.1.1 in
    let read : number_at w32 (bytes ++ more) 0 ≡ number_at w32 bytes 0 =
    number_at-enough (bytes ++ more) (omega (arith, length-append bytes more, long))
    ∙ ap (λ (l : List ℕ). Some (cast_signed w32 (from_le_bytes w32 l))) (take-append-le 4 bytes more long) ∙ sym (number_at-enough bytes long) in
    ap (front_from least limit (bytes ++ more)) read ∙ both.0

-- ---- the cut is the one cut into frames

-- these are the first frames of the stream, and no whole frame follows them
record IsCutSoFar (least : ℕ) (input : List ℕ) (c : Cutting) : Type 0 where
  begins : Begins (replies_side least) input c.bodies c.rest
  ends : HasNoFrame (front least max_body c.rest)

least_is : (least : ℕ) (bodies : List (List ℕ)) → least_after (replies_side least) bodies ≡ least
least_is least [] = refl
least_is least (body ∷ bodies) = refl

-- a byte more
one_more : (least b : ℕ) (input rest : List ℕ) (bodies : List (List ℕ)) → AreBytes (rest ++ b ∷ []) → IsCutSoFar least input (record { bodies = bodies; rest = rest })
    → IsCutSoFar least (input ++ b ∷ []) (with_byte least (record { bodies = bodies; rest = rest }) b)
one_more least b input rest bodies are is = go (front least max_body (rest ++ b ∷ [])) refl where
  longer : Begins (replies_side least) (input ++ b ∷ []) bodies (rest ++ b ∷ [])
  longer = Begins-more is.begins (b ∷ [])

  nothing_after : (body after : List ℕ) (was : Front) → front least max_body rest ≡ was → HasNoFrame was → front least max_body (rest ++ b ∷ []) ≡ Body body after → after ≡ []
  nothing_after body after (Body other more) at none whole = absurd none
  nothing_after body after (Bad n) at none whole = let still : front least max_body (rest ++ b ∷ []) ≡ Bad n = bad_stays least max_body rest (b ∷ []) n at in cc
  nothing_after body after (Incomplete missing) at none whole =
      ends_whole least rest (b ∷ []) body after missing at (omega (arith, front-some-missing least max_body rest missing at)) whole

  go : (f : Front) → front least max_body (rest ++ b ∷ []) ≡ f → IsCutSoFar least (input ++ b ∷ []) (with_rest bodies (rest ++ b ∷ []) f)
  go (Incomplete missing) at = record { begins = longer; ends = subst HasNoFrame (sym at) tt }
  go (Bad n) at = record { begins = longer; ends = subst HasNoFrame (sym at) tt }
  go (Body body after) at =
      let none : after ≡ [] = nothing_after body after (front least max_body rest) refl is.ends at in
      let here : front (least_after (replies_side least) bodies) max_body (rest ++ b ∷ []) ≡ Body body after = ap (λ n. front n max_body (rest ++ b ∷ [])) (least_is least bodies) ∙ at in
      let empty : front least max_body after ≡ Incomplete 4 = ap (front least max_body) none ∙ front-short least max_body [] (omega arith) in
      record {
        begins = Begins-next (replies_side least) (input ++ b ∷ []) (rest ++ b ∷ []) body after bodies are longer here;
        ends = subst HasNoFrame (sym empty) tt;
      }

cut_from : (least : ℕ) (input later : List ℕ) (c : Cutting) → AreBytes (input ++ later) → IsCutSoFar least input c
    → IsCutSoFar least (input ++ later) (fold (with_byte least) c later)
cut_from least input [] c are is = subst (λ (l : List ℕ). IsCutSoFar least l c) (sym (append-nil input)) is
cut_from least input (b ∷ later) c are is =
    let whole : (input ++ b ∷ []) ++ later ≡ input ++ b ∷ later = append_assoc input (b ∷ []) later in
    let all : AreBytes ((input ++ b ∷ []) ++ later) = subst AreBytes (sym whole) are in
    let front_are : AreBytes (input ++ b ∷ []) = are_first (input ++ b ∷ []) later all in
    let last_are : AreBytes (c.rest ++ b ∷ []) =
    are_last (flat_map Frame c.bodies) (c.rest ++ b ∷ []) (subst AreBytes (ap (λ (l : List ℕ). l ++ b ∷ []) is.begins.whole ∙ append_assoc (flat_map Frame c.bodies) c.rest (b ∷ [])) front_are) in
    subst (λ (l : List ℕ). IsCutSoFar least l (fold (with_byte least) (with_byte least c b) later)) whole
    (cut_from least (input ++ b ∷ []) later (with_byte least c b) all (one_more least b input c.rest c.bodies last_are is))

pub cuts_rightly : CutsRightly
cuts_rightly least bytes are =
    let nothing : front least max_body [] ≡ Incomplete 4 = front-short least max_body [] (omega arith) in
    let it : IsCutSoFar least bytes (cut least bytes) =
    cut_from least [] bytes uncut are (record { begins = Begins-start (replies_side least) []; ends = subst HasNoFrame (sym nothing) tt }) in
    record {
      begins = it.begins;
      ends = subst (λ n. HasNoFrame (front n max_body (cut least bytes).rest)) (sym (least_is least (cut least bytes).bodies)) it.ends;
    }
