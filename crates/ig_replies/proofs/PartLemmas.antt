-- Parts of bytes that stand one after another.
use Rattle.std.proofs.Common.{◌≡◌, ℕ, ◌+◌, ◌-◌, ◌<◌, ◌≤◌, List, ◌++◌, length, take, drop, sym, ap, ◌∙◌, arith}
use Rattle.std.specs.Prelude.{min}
use Rattle.std.proofs.Math.Seq.{take-add}
use Rattle.std.proofs.lemmas.List.{append_assoc, length-append, length-take, length-drop, drop-drop, drop-take, take_at, take_all, take_min, take-append-le, drop_at, drop-append-le}

-- past the first of two, the second
pub drop_second : (lead result : List ℕ) (n from : ℕ) → n ≡ length lead → n ≤ from → drop from (lead ++ result) ≡ drop (from - n) result
drop_second lead result n from is le =
    let more : from ≡ n + (from - n) = omega (arith, le) in
    ap (λ (k : ℕ). drop k (lead ++ result)) more
    ∙ sym (drop-drop (from - n) n (lead ++ result)) ∙ ap (drop (from - n)) (drop_at lead result n (sym is))

-- within the first of two
pub take_first : (lead result : List ℕ) (from count : ℕ) → from + count ≤ length lead → take count (drop from (lead ++ result)) ≡ take count (drop from lead)
take_first lead result from count le =
    let left : length (drop from lead) ≡ length lead - from = length-drop from lead in
    ap (take count) (drop-append-le from lead result (omega (arith, le)))
    ∙ take-append-le count (drop from lead) result (omega (arith, le, left))

-- over the end of the first of two: its end, and the first bytes of the second
pub take_both : (lead result : List ℕ) (from first count : ℕ) → from + first ≡ length lead → take (first + count) (drop from (lead ++ result)) ≡ take first (drop from lead) ++ take count result
take_both lead result from first count is =
    let end : List ℕ = drop from lead in
    let len : length end ≡ first = omega (arith, length-drop from lead, is) in
    let same : drop from (lead ++ result) ≡ end ++ result = drop-append-le from lead result (omega (arith, is)) in
    ap (take (first + count)) same ∙ take-add first count (end ++ result)
    ∙ ap (λ (l : List ℕ). l ++ take count (drop first (end ++ result))) (take_at end result first len ∙ sym (take_all first end (omega (arith, len))))
    ∙ ap (λ (l : List ℕ). take first end ++ take count l) (drop_at end result first len)

-- what fills a slice where a part goes over the end of the first of two: the first call filled the slice `into` up
-- to that end and made it `mid`, the second one filled what was left of it
pub part_over : (lead result into mid room : List ℕ) (from first second : ℕ) → from + first ≡ length lead
    → mid ≡ take first (drop from lead) ++ drop first into
    → room ≡ take second result ++ drop second (drop first mid)
    → take first mid ++ room ≡ take (first + second) (drop from (lead ++ result)) ++ drop (first + second) into
part_over lead result into mid room from first second is mid_is room_is =
    let end : List ℕ = take first (drop from lead) in
    let len : length end ≡ first = omega (arith, length-take first (drop from lead), length-drop from lead, is) in
    let begun : take first mid ≡ end = ap (take first) mid_is ∙ take_at end (drop first into) first len in
    let left : drop second (drop first mid) ≡ drop (first + second) into =
    ap (λ (l : List ℕ). drop second (drop first l)) mid_is ∙ ap (drop second) (drop_at end (drop first into) first len)
    ∙ drop-drop second first into in
    ap (λ (l : List ℕ). l ++ room) begun ∙ ap (λ (l : List ℕ). end ++ l) (room_is ∙ ap (λ (l : List ℕ). take second result ++ l) left)
    ∙ sym (append_assoc end (take second result) (drop (first + second) into))
    ∙ ap (λ (l : List ℕ). l ++ drop (first + second) into) (sym (take_both lead result from first second is))

-- ---- parts of a frame: what comes before the result, and the result

-- the slice gets the bytes of the whole from an offset on, as many as fit
abbrev pub IsPart : List ℕ → List ℕ → ℕ → ℕ → List ℕ → Type 0
IsPart whole into from n new = (n ≡ min (length into) (length whole - from)) × (new ≡ take n (drop from whole) ++ drop n into)

pub after_lead : (frame lead result into new : List ℕ) (lead_len from n : ℕ) → frame ≡ lead ++ result → lead_len ≡ length lead → lead_len ≤ from
    → n ≡ min (length into) (length result - (from - lead_len)) → new ≡ take n (drop (from - lead_len) result) ++ drop n into
    → IsPart frame into from n new
after_lead frame lead result into new lead_len from n whole lead_is le count bytes =
    let all : length frame ≡ length lead + length result = ap length whole ∙ length-append lead result in
    let there : drop from frame ≡ drop (from - lead_len) result = ap (drop from) whole ∙ drop_second lead result lead_len from lead_is le in
    (omega (arith, all, lead_is, le, count), bytes ∙ ap (λ (l : List ℕ). take n l ++ drop n into) (sym there))

pub within_lead : (frame lead result into new : List ℕ) (lead_len from n : ℕ) → frame ≡ lead ++ result → lead_len ≡ length lead → from + n < lead_len
    → n ≡ min (length into) (length lead - from) → new ≡ take n (drop from lead) ++ drop n into
    → IsPart frame into from n new
within_lead frame lead result into new lead_len from n whole lead_is lt count bytes =
    let all : length frame ≡ length lead + length result = ap length whole ∙ length-append lead result in
    let same : take n (drop from frame) ≡ take n (drop from lead) =
    ap (λ (l : List ℕ). take n (drop from l)) whole ∙ take_first lead result from n (omega (arith, lt, lead_is)) in
    (omega (arith, all, lead_is, lt, count), bytes ∙ ap (λ (l : List ℕ). l ++ drop n into) (sym same))

pub over_lead : (frame lead result into mid room : List ℕ) (lead_len from first second : ℕ) → frame ≡ lead ++ result → lead_len ≡ length lead
    → from < lead_len → lead_len ≤ from + first
    → first ≡ min (length into) (length lead - from) → mid ≡ take first (drop from lead) ++ drop first into
    → second ≡ min (length (drop first mid)) (length result) → room ≡ take second result ++ drop second (drop first mid)
    → IsPart frame into from (first + second) (take first mid ++ room)
over_lead frame lead result into mid room lead_len from first second whole lead_is lt over first_is mid_is second_is room_is =
    let all : length frame ≡ length lead + length result = ap length whole ∙ length-append lead result in
    let exact : from + first ≡ length lead = omega (arith, lead_is, lt, over, first_is) in
    let begun : length (take first (drop from lead)) ≡ first = omega (arith, length-take first (drop from lead), length-drop from lead, exact) in
    let same : length mid ≡ length into = ap length mid_is ∙ omega (arith, length-append (take first (drop from lead)) (drop first into), begun, length-drop first into, first_is) in
    let left : length (drop first mid) ≡ length into - first = length-drop first mid ∙ ap (λ (n : ℕ). n - first) same in (
      omega (arith, all, exact, left, second_is, first_is),
      part_over lead result into mid room from first second exact mid_is room_is
          ∙ ap (λ (l : List ℕ). take (first + second) (drop from l) ++ drop (first + second) into) (sym whole),
    )

-- ---- a piece, of which some bytes are gone

-- what stands between two places
pub part_between : (bytes : List ℕ) (gone len : ℕ) → gone ≤ len → take (len - gone) (drop gone bytes) ≡ drop gone (take len bytes)
part_between bytes gone len le =
    let more : gone + (len - gone) ≡ len = omega (arith, le) in
    sym (drop-take gone (len - gone) bytes) ∙ ap (λ (n : ℕ). drop gone (take n bytes)) more

pub part_length : (bytes : List ℕ) (gone len : ℕ) → gone ≤ len → len ≤ length bytes → length (drop gone (take len bytes)) ≡ len - gone
part_length bytes gone len le within =
    omega (arith, length-drop gone (take len bytes), length-take len bytes, le, within)

-- what fills a slice is a piece of what is left
pub refilled : (left old : List ℕ) (n most : ℕ) → n ≡ min most (length left) → take n (take n left ++ drop n old) ≡ take most left
refilled left old n most is =
    let len : length (take n left) ≡ n = omega (arith, length-take n left, is) in
    take_at (take n left) (drop n old) n len ∙ ap (λ (k : ℕ). take k left) is ∙ take_min most left

pub refilled_length : (left old : List ℕ) (n most : ℕ) → n ≡ min most (length left) → length old ≡ most → length (take n left ++ drop n old) ≡ most
refilled_length left old n most is all =
    omega (arith, length-append (take n left) (drop n old), length-take n left, length-drop n old, is, all)

-- the first bytes of a list are first too where more bytes follow, of which some are taken
pub first_of_room : (n len : ℕ) (xs ys : List ℕ) → n ≤ len → n ≤ length xs → take n (take len (xs ++ ys)) ≡ take n xs
first_of_room n len xs ys le within =
    let zs : List ℕ = xs ++ ys in
    let more : len ≡ n + (len - n) = omega (arith, le) in
    let size : length (take n zs) ≡ n = omega (arith, length-take n zs, length-append xs ys, within) in
    ap (λ (k : ℕ). take n (take k zs)) more ∙ ap (take n) (take-add n (len - n) zs)
    ∙ take_at (take n zs) (take (len - n) (drop n zs)) n size ∙ take-append-le n xs ys within
