-- Lemmas on frames and on how a stream is cut into them.
use Rattle.std.proofs.Common.{◌≡◌, ℕ, zero, suc, ◌+◌, ◌-◌, ◌<◌, ◌≤◌, ◌^◌, lit<, ℤ, pos, negsuc, ◌&&◌, List, [], ◌∷◌, ◌++◌, length, length-take-le, take, drop, Option, None, Some, refl, sym, ap, ◌∙◌, arith, subst, append_assoc, append-nil, inl, inr}
use Rattle.std.proofs.lemmas.Bool.{le-ltb, lt-ltb, le-leb, leb-true, cond-true, cond-false, cases_Bool, cases_lt, and_from, and_parts}
use Rattle.std.proofs.lemmas.Grind.{flat_map-append}
use Rattle.std.proofs.lemmas.Int.{ints}
use Rattle.std.proofs.lemmas.List.{get_or-append-add, length-append, length-drop, drop-drop, take_all, take_at, drop_at, take-append-drop, take-append-le, drop-append-le}
use Rattle.std.specs.Prelude.{nat_lt, nat_le}
use Rattle.std.specs.Int.{w32, cast_signed, from_le_bytes}
use Rattle.std.specs.Int.RustNames.{FitsSigned}
use Rattle.std.specs.List.{flat_map, AllByRecursion}
use Rattle.ig_base.specs.Numbers.{LE, number_at, AreBytes}
use Rattle.ig_base.specs.Frames.{max_body, Frame, Side, least_after, IsBodyWithin, IsBody, AreBodies, Begins, Front, Body, Bad, Incomplete, front, front_from, front_sized, IsOutOfRange, HasNoFrame, Cut}
use Rattle.ig_base.proofs.NumberLemmas.{length-LE_32, number_at-LE_32, LE-number_at_32, number_at-within, number_at-enough, number_at-short, number_at-fits}

pub length-Frame : (body : List ℕ) → length (Frame body) ≡ 4 + length body
unfolding Frame
length-Frame body = length-append (LE w32 (pos (length body))) body ∙ ap (λ n. n + length body) (length-LE_32 (pos (length body)))

-- after the length of a whole frame come its body and what follows
sized_whole : (body rest : List ℕ) → front_sized (length body) (body ++ rest) ≡ Body body rest
sized_whole body rest =
    let long : length body ≤ length (body ++ rest) = omega (arith, length-append body rest) in
    cond-false (nat_lt (length (body ++ rest)) (length body)) _ _ (le-ltb _ _ long)
    ∙ ap (λ b. Body b (drop (length body) (body ++ rest))) (take_at body rest (length body) refl)
    ∙ ap (Body body) (drop_at body rest (length body) refl)

in_range : (least limit n : ℕ) (bytes : List ℕ) → least ≤ n → n ≤ limit → front_from least limit bytes (Some (pos n)) ≡ front_sized n (drop 4 bytes)
in_range least limit n bytes low high = cond-true (nat_le least n && nat_le n limit) _ _ (and_from _ _ (le-leb least n low) (le-leb n limit high))

-- a frame is found, whatever follows it
pub front-Frame : (least limit : ℕ) (body rest : List ℕ) → limit < 2 ^ 31 → IsBodyWithin least limit body → front least limit (Frame body ++ rest) ≡ Body body rest
unfolding front Frame
front-Frame least limit body rest small is =
    let n = length body in
    let regrouped = append_assoc (LE w32 (pos n)) body rest in
    let fits : FitsSigned w32 (pos n) = record { sfits = omega (arith, small, is.greatest_length) } in
    ap (front least limit) regrouped
    ∙ ap (front_from least limit (LE w32 (pos n) ++ (body ++ rest))) (number_at-LE_32 (pos n) (body ++ rest) fits)
    ∙ in_range least limit n (LE w32 (pos n) ++ (body ++ rest)) is.least_length is.greatest_length
    ∙ ap (front_sized n) (drop_at (LE w32 (pos n)) (body ++ rest) 4 (length-LE_32 (pos n)))
    ∙ sized_whole body rest

-- what is found as a frame is one
sized_reads : (n : ℕ) (bytes body rest : List ℕ) → front_sized n bytes ≡ Body body rest → (length body ≡ n) × (bytes ≡ body ++ rest)
sized_reads n bytes body rest h = elim (cases_lt (length bytes) n) [
  | inl short ↦ let part = cond-true (nat_lt (length bytes) n) (Incomplete (n - length bytes)) (Body (take n bytes) (drop n bytes)) (lt-ltb _ _ short) in cc
  | inr long ↦
      let whole = cond-false (nat_lt (length bytes) n) (Incomplete (n - length bytes)) (Body (take n bytes) (drop n bytes)) (le-ltb _ _ long) in
      let same : body ≡ take n bytes = cc in
      let after : rest ≡ drop n bytes = cc in
      (ap length same ∙ length-take-le n bytes long, sym (ap (λ b. b ++ rest) same ∙ ap (λ r. take n bytes ++ r) after ∙ take-append-drop n bytes))
]

-- the length that a frame that is found begins with
number_found : (least limit : ℕ) (bytes body rest : List ℕ) (read : Option ℤ) → front_from least limit bytes read ≡ Body body rest
    → (n : ℕ) × (read ≡ Some (pos n)) × (least ≤ n) × (n ≤ limit) × (front_sized n (drop 4 bytes) ≡ Body body rest)
number_found least limit bytes body rest None h = cc
number_found least limit bytes body rest (Some (negsuc n)) h = cc
number_found least limit bytes body rest (Some (pos n)) h =
    let inside = front_sized n (drop 4 bytes) in
    elim (cases_Bool (nat_le least n && nat_le n limit)) [
      | inl fits ↦
          let both = and_parts _ _ fits in
          (n, refl, leb-true _ _ both.0, leb-true _ _ both.1, sym (cond-true (nat_le least n && nat_le n limit) inside (Bad (pos n)) fits) ∙ h)
      | inr out ↦ let bad = cond-false (nat_le least n && nat_le n limit) inside (Bad (pos n)) out in cc
    ]

-- where a whole frame that is found lies
pub front-inside : (least limit : ℕ) (bytes body rest : List ℕ) → front least limit bytes ≡ Body body rest → (4 + length body ≤ length bytes) × (drop (4 + length body) bytes ≡ rest)
unfolding front
front-inside least limit bytes body rest h =
    let found = number_found least limit bytes body rest (number_at w32 bytes 0) h in
    let within = number_at-within (pos found.0) bytes found.1 in
    let parts = sized_reads found.0 (drop 4 bytes) body rest found.4 in (
      omega (arith, within, ap length parts.1, length-append body rest, length-drop 4 bytes),
      sym (drop-drop (length body) 4 bytes) ∙ ap (drop (length body)) parts.1 ∙ drop_at body rest (length body) refl,
    )

pub front-within : (least limit : ℕ) (bytes body rest : List ℕ) → front least limit bytes ≡ Body body rest
    → (4 + length body ≤ length bytes) × (body ≡ take (length body) (drop 4 bytes)) × (rest ≡ drop (4 + length body) bytes)
unfolding front
front-within least limit bytes body rest h =
    let inside = front-inside least limit bytes body rest h in
    let found = number_found least limit bytes body rest (number_at w32 bytes 0) h in
    let parts = sized_reads found.0 (drop 4 bytes) body rest found.4 in
    (inside.0, sym (ap (take (length body)) parts.1 ∙ take_at body rest (length body) refl), sym inside.1)

-- what is found is a frame, and its body's length is in range
pub front-reads : (least limit : ℕ) (bytes body rest : List ℕ) → AreBytes bytes → front least limit bytes ≡ Body body rest → IsBodyWithin least limit body × (bytes ≡ Frame body ++ rest)
unfolding front Frame
front-reads least limit bytes body rest are h =
    let found = number_found least limit bytes body rest (number_at w32 bytes 0) h in
    let n = found.0 in
    let parts = sized_reads n (drop 4 bytes) body rest found.4 in
    let spelled = LE-number_at_32 (pos n) bytes are found.1 in
    let len : length body ≡ n = parts.0 in (
      record { least_length = omega (arith, found.2); greatest_length = omega (arith, found.3) },
      sym (ap (λ k. LE w32 (pos k) ++ body ++ rest) len ∙ append_assoc (LE w32 (pos n)) body rest
          ∙ ap (λ b. LE w32 (pos n) ++ b) (sym parts.1) ∙ ap (λ b. b ++ drop 4 bytes) spelled ∙ take-append-drop 4 bytes),
    )

sized_never_bad : (k : ℕ) (bytes : List ℕ) (n : ℤ) → front_sized k bytes ≡ Bad n → ⊥
sized_never_bad k bytes n h = elim (cases_lt (length bytes) k) [
  | inl short ↦ let part = cond-true (nat_lt (length bytes) k) (Incomplete (k - length bytes)) (Body (take k bytes) (drop k bytes)) (lt-ltb _ _ short) in cc
  | inr long ↦ let whole = cond-false (nat_lt (length bytes) k) (Incomplete (k - length bytes)) (Body (take k bytes) (drop k bytes)) (le-ltb _ _ long) in cc
]

-- a length that is refused is out of range
bad_number : (least limit : ℕ) (bytes : List ℕ) (n : ℤ) (read : Option ℤ) → front_from least limit bytes read ≡ Bad n → (read ≡ Some n) × IsOutOfRange least limit n
bad_number least limit bytes n None h = cc
bad_number least limit bytes n (Some (negsuc k)) h =
    let same : negsuc k ≡ n = cc in
    (ap Some same, subst (IsOutOfRange least limit) same (λ low high. absurd (omega (arith, ints, low))))
bad_number least limit bytes n (Some (pos k)) h = elim (cases_Bool (nat_le least k && nat_le k limit)) [
  | inl fits ↦
      let whole = cond-true (nat_le least k && nat_le k limit) (front_sized k (drop 4 bytes)) (Bad (pos k)) fits in
      absurd (sized_never_bad k (drop 4 bytes) n (sym whole ∙ h))
  | inr out ↦
      let bad = cond-false (nat_le least k && nat_le k limit) (front_sized k (drop 4 bytes)) (Bad (pos k)) out in
      let same : pos k ≡ n = cc in (
        ap Some same,
        subst (IsOutOfRange least limit) same (λ low high.
            let yes = and_from _ _ (le-leb least k (omega (arith, ints, low))) (le-leb k limit (omega (arith, ints, high))) in cc),
      )
]

pub front-bad : (least limit : ℕ) (bytes : List ℕ) (n : ℤ) → AreBytes bytes → front least limit bytes ≡ Bad n → (4 ≤ length bytes) × (LE w32 n ≡ take 4 bytes) × IsOutOfRange least limit n
unfolding front
front-bad least limit bytes n are h =
    let found = bad_number least limit bytes n (number_at w32 bytes 0) h in
    (number_at-within n bytes found.0, LE-number_at_32 n bytes are found.0, found.1)

-- ---- incomplete frames

-- less than the four bytes of a length
pub front-short : (least limit : ℕ) (bytes : List ℕ) → length bytes < 4 → front least limit bytes ≡ Incomplete (4 - length bytes)
unfolding front
front-short least limit bytes short = ap (front_from least limit bytes) (number_at-short bytes short)

sized_incomplete : (n missing : ℕ) (bytes : List ℕ) → front_sized n bytes ≡ Incomplete missing → (length bytes < n) × (missing ≡ n - length bytes)
sized_incomplete n missing bytes h = elim (cases_lt (length bytes) n) [
  | inl short ↦
      let part = cond-true (nat_lt (length bytes) n) (Incomplete (n - length bytes)) (Body (take n bytes) (drop n bytes)) (lt-ltb _ _ short) in
      let same : missing ≡ n - length bytes = cc in
      (short, same)
  | inr long ↦ let whole = cond-false (nat_lt (length bytes) n) (Incomplete (n - length bytes)) (Body (take n bytes) (drop n bytes)) (le-ltb _ _ long) in cc
]

-- the length that an incomplete frame begins with, if all its four bytes are there
record BeginsIncomplete (least limit missing : ℕ) (bytes : List ℕ) (n : ℕ) : Type 0 where
  read : number_at w32 bytes 0 ≡ Some (pos n)
  low : least ≤ n
  high : n ≤ limit
  short : length (drop 4 bytes) < n
  missing_is : missing ≡ n - length (drop 4 bytes)

number_incomplete : (least limit missing : ℕ) (bytes : List ℕ) (read : Option ℤ) → 4 ≤ length bytes → number_at w32 bytes 0 ≡ read
    → front_from least limit bytes read ≡ Incomplete missing → (n : ℕ) × BeginsIncomplete least limit missing bytes n
number_incomplete least limit missing bytes None long e h = let some = number_at-enough bytes long in cc
number_incomplete least limit missing bytes (Some (negsuc n)) long e h = cc
number_incomplete least limit missing bytes (Some (pos n)) long e h =
    let inside = front_sized n (drop 4 bytes) in
    elim (cases_Bool (nat_le least n && nat_le n limit)) [
      | inl fits ↦
          let both = and_parts _ _ fits in
          let part = sized_incomplete n missing (drop 4 bytes) (sym (cond-true (nat_le least n && nat_le n limit) inside (Bad (pos n)) fits) ∙ h) in
          (n, record { read = e; low = leb-true _ _ both.0; high = leb-true _ _ both.1; short = part.0; missing_is = part.1 })
      | inr out ↦ let bad = cond-false (nat_le least n && nat_le n limit) inside (Bad (pos n)) out in cc
    ]

-- more bytes after a length leave the length
front-more : (least limit n : ℕ) (bytes more : List ℕ) → 4 ≤ length bytes → number_at w32 bytes 0 ≡ Some (pos n) → least ≤ n → n ≤ limit
    → front least limit (bytes ++ more) ≡ front_sized n (drop 4 bytes ++ more)
unfolding front
front-more least limit n bytes more long read low high =
    let whole : number_at w32 (bytes ++ more) 0 ≡ Some (pos n) =
    number_at-enough (bytes ++ more) (omega (arith, length-append bytes more))
    ∙ ap (λ l. Some (cast_signed w32 (from_le_bytes w32 l))) (take-append-le 4 bytes more long) ∙ sym (number_at-enough bytes long) ∙ read in
    ap (front_from least limit (bytes ++ more)) whole ∙ in_range least limit n (bytes ++ more) low high ∙ ap (front_sized n) (drop-append-le 4 bytes more long)

-- an incomplete frame with fewer bytes than are missing is incomplete
pub front-fewer : (least limit : ℕ) (bytes more : List ℕ) (missing : ℕ) → front least limit bytes ≡ Incomplete missing → length more < missing
    → front least limit (bytes ++ more) ≡ Incomplete (missing - length more)
unfolding front
front-fewer least limit bytes more missing h fewer = elim (cases_lt (length bytes) 4) [
  | inl short ↦
      let now = front-short least limit bytes short in
      let same : missing ≡ 4 - length bytes = cc in
      let all = length-append bytes more in
      front-short least limit (bytes ++ more) (omega (arith, all, same))
      ∙ ap Incomplete (omega (arith, all, same))
  | inr long ↦
      let found = number_incomplete least limit missing bytes (number_at w32 bytes 0) long refl h in
      let n = found.0 in
      let all = length-append (drop 4 bytes) more in
      front-more least limit n bytes more long found.1.read found.1.low found.1.high
      ∙ cond-true (nat_lt (length (drop 4 bytes ++ more)) n) _ _ (lt-ltb _ _ (omega (arith, all, found.1.short, found.1.missing_is)))
      ∙ ap Incomplete (omega (arith, all, found.1.missing_is))
]

-- with the bytes that are missing after a length the frame is whole, and nothing follows it
pub front-completed : (least limit : ℕ) (bytes more : List ℕ) (missing : ℕ) → 4 ≤ length bytes → front least limit bytes ≡ Incomplete missing → length more ≡ missing
    → front least limit (bytes ++ more) ≡ Body (drop 4 bytes ++ more) []
unfolding front
front-completed least limit bytes more missing long h enough =
    let found = number_incomplete least limit missing bytes (number_at w32 bytes 0) long refl h in
    let n = found.0 in
    let body : List ℕ = drop 4 bytes ++ more in
    let size : length body ≡ n = omega (arith, length-append (drop 4 bytes) more, found.1.short, found.1.missing_is) in
    front-more least limit n bytes more long found.1.read found.1.low found.1.high
    ∙ ap (λ (l : List ℕ). front_sized n l) (sym (append-nil body)) ∙ ap (λ k. front_sized k (body ++ [])) (sym size) ∙ sized_whole body []

-- with the bytes that are missing of a length, and no more, the length is known
pub front-known : (least limit : ℕ) (bytes more : List ℕ) (missing : ℕ) → AreBytes (bytes ++ more) → length bytes < 4 → front least limit bytes ≡ Incomplete missing
    → length more ≡ missing → (n : ℤ) × FitsSigned w32 n × (LE w32 n ≡ bytes ++ more)
front-known least limit bytes more missing are short h enough =
    let now = front-short least limit bytes short in
    let same : missing ≡ 4 - length bytes = cc in
    let all : length (bytes ++ more) ≡ 4 = omega (arith, length-append bytes more, same) in
    let read : ℕ = from_le_bytes w32 (take 4 (bytes ++ more)) in
    let found = number_at-enough (bytes ++ more) (omega (arith, all)) in (
      cast_signed w32 read,
      number_at-fits (bytes ++ more) are (omega (arith, all)),
      LE-number_at_32 (cast_signed w32 read) (bytes ++ more) are found ∙ take_all 4 (bytes ++ more) (omega (arith, all)),
    )

-- something is missing of an incomplete frame
pub front-some-missing : (least limit : ℕ) (bytes : List ℕ) (missing : ℕ) → front least limit bytes ≡ Incomplete missing → 0 < missing
unfolding front
front-some-missing least limit bytes missing h = elim (cases_lt (length bytes) 4) [
  | inl short ↦
      let now = front-short least limit bytes short in
      let same : missing ≡ 4 - length bytes = cc in
      omega (arith, same)
  | inr long ↦
      let found = number_incomplete least limit missing bytes (number_at w32 bytes 0) long refl h in
      omega (arith, found.1.short, found.1.missing_is)
]

-- a length in range with less than its body after it
pub front-begun : (least limit n : ℕ) (bytes : List ℕ) → least ≤ n → n ≤ limit → n < 2 ^ 31 → length bytes < n
    → front least limit (LE w32 (pos n) ++ bytes) ≡ Incomplete (n - length bytes)
unfolding front
front-begun least limit n bytes low high small short =
    let fits : FitsSigned w32 (pos n) = record { sfits = omega arith } in
    ap (front_from least limit (LE w32 (pos n) ++ bytes)) (number_at-LE_32 (pos n) bytes fits)
    ∙ in_range least limit n (LE w32 (pos n) ++ bytes) low high
    ∙ ap (front_sized n) (drop_at (LE w32 (pos n)) bytes 4 (length-LE_32 (pos n)))
    ∙ cond-true (nat_lt (length bytes) n) _ _ (lt-ltb _ _ short)

out_of_range : (least limit : ℕ) (n : ℤ) (bytes : List ℕ) → IsOutOfRange least limit n → front_from least limit bytes (Some n) ≡ Bad n
out_of_range least limit (negsuc n) bytes out = refl
out_of_range least limit (pos n) bytes out = elim (cases_Bool (nat_le least n && nat_le n limit)) [
  | inl fits ↦ let both = and_parts (nat_le least n) (nat_le n limit) fits in
      let low = leb-true least n both.0 in
      let high = leb-true n limit both.1 in
      absurd (out (omega (arith, ints)) (omega (arith, ints)))
  | inr outside ↦ cond-false (nat_le least n && nat_le n limit) (front_sized n (drop 4 bytes)) (Bad (pos n)) outside
]

-- a length that is out of range is refused, whatever follows it
pub front-out : (least limit : ℕ) (n : ℤ) (more : List ℕ) → FitsSigned w32 n → IsOutOfRange least limit n → front least limit (LE w32 n ++ more) ≡ Bad n
unfolding front
front-out least limit n more fits out = ap (front_from least limit (LE w32 n ++ more)) (number_at-LE_32 n more fits) ∙ out_of_range least limit n (LE w32 n ++ more) out

-- ---- the bodies of a stream's first frames

AreBodies-push : (side : Side) (bodies : List (List ℕ)) (body : List ℕ) → AreBodies side bodies → IsBody (least_after side bodies) body → AreBodies side (bodies ++ body ∷ [])
AreBodies-push side [] body each is = (is, tt)
AreBodies-push side (first ∷ others) body each is = (each.0, each_later others each.1) where
  each_later : (others : List (List ℕ)) → AllByRecursion (IsBody side.later) others → AllByRecursion (IsBody side.later) (others ++ body ∷ [])
  each_later [] all = (is, tt)
  each_later (other ∷ others) all = (all.0, each_later others all.1)

-- no frame has been passed yet
pub Begins-start : (side : Side) (input : List ℕ) → Begins side input [] input
Begins-start side input = record { whole = refl; each = tt }

-- more of the stream comes
pub Begins-more : {side : Side} {input rest : List ℕ} {bodies : List (List ℕ)} → Begins side input bodies rest → (more : List ℕ) → Begins side (input ++ more) bodies (rest ++ more)
Begins-more {side} {input} {rest} {bodies} b more =
    record { whole = ap (λ l. l ++ more) b.whole ∙ append_assoc (flat_map Frame bodies) rest more; each = b.each }

-- one more frame is passed
pub Begins-pass : {side : Side} {input rest : List ℕ} {bodies : List (List ℕ)} → Begins side input bodies rest → (body after : List ℕ)
    → IsBody (least_after side bodies) body → rest ≡ Frame body ++ after → Begins side input (bodies ++ body ∷ []) after
Begins-pass {side} {input} {rest} {bodies} b body after is e = record {
  whole = b.whole ∙ ap (λ r. flat_map Frame bodies ++ r) e ∙ sym (append_assoc (flat_map Frame bodies) (Frame body) after)
      ∙ ap (λ l. l ++ after) (sym (flat_map-append Frame bodies (body ∷ []) ∙ ap (λ l. flat_map Frame bodies ++ l) (append-nil (Frame body))));
  each = AreBodies-push side bodies body b.each is;
}

-- one more frame is found
pub Begins-next : (side : Side) (input after body rest : List ℕ) (bodies : List (List ℕ)) → AreBytes after → Begins side input bodies after
    → front (least_after side bodies) max_body after ≡ Body body rest → Begins side input (bodies ++ body ∷ []) rest
Begins-next side input after body rest bodies are b found =
    let read = front-reads (least_after side bodies) max_body after body rest are found in
    Begins-pass b body rest read.0 read.1

-- ---- each stream has exactly one cut

-- a side whose every body has the least length of a later one
abbrev again : Side → Side
again side = record { first = side.later; later = side.later }

again_bodies : (side : Side) (bodies : List (List ℕ)) → AllByRecursion (IsBody side.later) bodies → AreBodies (again side) bodies
again_bodies side [] all = tt
again_bodies side (body ∷ bodies) all = all

later_bodies : (side : Side) (bodies : List (List ℕ)) → AreBodies (again side) bodies → AllByRecursion (IsBody side.later) bodies
later_bodies side [] all = tt
later_bodies side (body ∷ bodies) all = all

again_least : (side : Side) (bodies : List (List ℕ)) → least_after (again side) bodies ≡ side.later
again_least side [] = refl
again_least side (body ∷ bodies) = refl

cut_after_body : (side : Side) (input : List ℕ) (body : List ℕ) (bodies : List (List ℕ)) (rest : List ℕ) → Cut side input (body ∷ bodies) rest
    → (input ≡ Frame body ++ (flat_map Frame bodies ++ rest)) × Cut (again side) (flat_map Frame bodies ++ rest) bodies rest
cut_after_body side input body bodies rest cut = (
  cut.begins.whole ∙ append_assoc (Frame body) (flat_map Frame bodies) rest,
  record {
    begins = record { whole = refl; each = again_bodies side bodies cut.begins.each.1 };
    ends = subst (λ (least : ℕ). HasNoFrame (front least max_body rest)) (sym (again_least side bodies)) cut.ends;
  },
)

cut_found : (side : Side) (input : List ℕ) (body : List ℕ) (bodies : List (List ℕ)) (rest : List ℕ) → Cut side input (body ∷ bodies) rest
    → front side.first max_body input ≡ Body body (flat_map Frame bodies ++ rest)
cut_found side input body bodies rest cut =
    ap (front side.first max_body) (cut_after_body side input body bodies rest cut).0 ∙ front-Frame side.first max_body body (flat_map Frame bodies ++ rest) (lit< tt) cut.begins.each.0

-- no stream has two cuts
pub same_cut : (bodies others : List (List ℕ)) (side : Side) (input rest end : List ℕ) → Cut side input bodies rest → Cut side input others end → (bodies ≡ others) × (rest ≡ end)
same_cut [] [] side input rest end a b = (refl, sym a.begins.whole ∙ b.begins.whole)
same_cut [] (other ∷ others) side input rest end a b =
    absurd (subst HasNoFrame (ap (front side.first max_body) (sym a.begins.whole) ∙ cut_found side input other others end b) a.ends)
same_cut (body ∷ bodies) [] side input rest end a b =
    absurd (subst HasNoFrame (ap (front side.first max_body) (sym b.begins.whole) ∙ cut_found side input body bodies rest a) b.ends)
same_cut (body ∷ bodies) (other ∷ others) side input rest end a b =
    let one = cut_found side input body bodies rest a in
    let two = cut_found side input other others end b in
    let first : body ≡ other = cc in
    let after : flat_map Frame bodies ++ rest ≡ flat_map Frame others ++ end = cc in
    let tail = (cut_after_body side input other others end b).1 in
    let both = same_cut bodies others (again side) (flat_map Frame bodies ++ rest) rest end
    (cut_after_body side input body bodies rest a).1 (subst (λ (l : List ℕ). Cut (again side) l others end) (sym after) tail) in
    (ap (λ b. b ∷ bodies) first ∙ ap (λ bs. other ∷ bs) both.0, both.1)

pub rest_bytes : (xs ys : List ℕ) → AreBytes (xs ++ ys) → AreBytes ys
rest_bytes xs ys are i = let same = get_or-append-add xs ys i 0 in omega (arith, same, are (length xs + i))

pub append_bytes : (xs ys : List ℕ) → AreBytes xs → AreBytes ys → AreBytes (xs ++ ys)
append_bytes [] ys front more i = more i
append_bytes (x ∷ xs) ys front more zero = front 0
append_bytes (x ∷ xs) ys front more (suc i) = append_bytes xs ys (λ k. front (suc k)) more i

-- a cut of what follows a frame gives a cut of the whole
cut_before : (side : Side) (body : List ℕ) (input : List ℕ) (bodies : List (List ℕ)) (rest : List ℕ) → IsBody side.first body → Cut (again side) input bodies rest
    → Cut side (Frame body ++ input) (body ∷ bodies) rest
cut_before side body input bodies rest is cut = record {
  begins = record {
    whole = ap (λ l. Frame body ++ l) cut.begins.whole ∙ sym (append_assoc (Frame body) (flat_map Frame bodies) rest);
    each = (is, later_bodies side bodies cut.begins.each);
  };
  ends = subst (λ (least : ℕ). HasNoFrame (front least max_body rest)) (again_least side bodies) cut.ends;
}

abbrev HasCut : Side → List ℕ → Type 0
HasCut side input = (bodies : List (List ℕ)) × (rest : List ℕ) × Cut side input bodies rest

cut_here : (side : Side) (input : List ℕ) → HasNoFrame (front side.first max_body input) → HasCut side input
cut_here side input ends = ([], input, record { begins = Begins-start side input; ends = ends })

at_front : (fuel : ℕ) (side : Side) (input : List ℕ) → length input ≤ fuel → AreBytes input → (found : Front) → front side.first max_body input ≡ found → HasCut side input
at_front fuel side input bound are (Bad n) e = cut_here side input (subst HasNoFrame (sym e) tt)
at_front fuel side input bound are (Incomplete missing) e = cut_here side input (subst HasNoFrame (sym e) tt)
at_front zero side input bound are (Body body rest) e =
    let read = front-reads side.first max_body input body rest are e in
    let len = ap length read.1 ∙ length-append (Frame body) rest in
    absurd (omega (arith, len, length-Frame body))
at_front (suc fuel) side input bound are (Body body rest) e =
    let read = front-reads side.first max_body input body rest are e in
    let len = ap length read.1 ∙ length-append (Frame body) rest in
    let shorter : length rest ≤ fuel = omega (arith, len, length-Frame body) in
    let others = at_front fuel (again side) rest shorter (rest_bytes (Frame body) rest (subst AreBytes read.1 are)) (front side.later max_body rest) refl in (
      body ∷ others.0,
      others.1,
      subst (λ (l : List ℕ). Cut side l (body ∷ others.0) others.1) (sym read.1) (cut_before side body rest others.0 others.1 read.0 others.2),
    )

-- each stream has a cut
pub has_cut : (side : Side) (input : List ℕ) → AreBytes input → HasCut side input
has_cut side input are = at_front (length input) side input (omega arith) are (front side.first max_body input) refl
