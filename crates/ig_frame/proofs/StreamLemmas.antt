-- Lemmas on the place in a stream.
use Rattle.std.proofs.Common.{◌≡◌, ℕ, ◌+◌, ◌-◌, ◌≤◌, pos, List, [], ◌∷◌, ◌++◌, length, length-take-le, take, drop, refl, sym, ap, ◌∙◌, subst, arith, append-nil}
use Rattle.std.proofs.lemmas.Grind.{flat_map-append}
use Rattle.std.proofs.lemmas.List.{length-append, length-drop, drop-drop, take_rest}
use Rattle.std.specs.Int.{w32}
use Rattle.std.specs.List.{flat_map}
use Rattle.ig_base.specs.Numbers.{LE}
use Rattle.ig_base.specs.Frames.{Frame, Side, Front, Body, Bad, Incomplete, front, HasNoFrame, Begins}
use Rattle.ig_frame.specs.Streams.{Stream, place_of, front_at, stream_after, stream_after_frame, StandsFor, HandedOut}

-- a place that saturates, moved on
moved : (place at n : ℕ) → place ≡ place_of at → place_of (place + n) ≡ place_of (at + n)
moved place at n is = omega (arith, is)

-- the stream after a frame that was found
pub stream_after_frame-found : (least : ℕ) (s : Stream) (body rest : List ℕ) → front_at least s ≡ Body body rest
    → stream_after_frame least s ≡ record { limit = s.limit; place = place_of (s.place + 4 + length body); rest = rest }
unfolding stream_after_frame
stream_after_frame-found least s body rest found = ap (stream_after s) found

pub stream_after_frame-stays : (s : Stream) (least : ℕ) → HasNoFrame (front_at least s) → stream_after_frame least s ≡ s
unfolding stream_after_frame
stream_after_frame-stays s least none = stays (front_at least s) none where
  stays : (found : Front) → HasNoFrame found → stream_after s found ≡ s
  stays (Body body rest) none = absurd none
  stays (Bad n) none = refl
  stays (Incomplete missing) none = refl

pub StandsFor-passed : (s : Stream) (input body rest : List ℕ) (at least : ℕ) → StandsFor s input at → front_at least s ≡ Body body rest
    → 4 + length body ≤ length s.rest → rest ≡ drop (4 + length body) s.rest → StandsFor (stream_after_frame least s) input (at + 4 + length body)
StandsFor-passed s input body rest at least stands found within after =
    subst (λ (t : Stream). StandsFor t input (at + 4 + length body)) (sym (stream_after_frame-found least s body rest found)) (record {
      place = omega (arith, stands.place);
      within = omega (arith, within, ap length stands.rest, length-drop at input);
      rest = after ∙ ap (drop (4 + length body)) stands.rest ∙ drop-drop (4 + length body) at input ∙ ap (λ n. drop n input) (omega arith);
    })

length-Frame : (body : List ℕ) → length (Frame body) ≡ 4 + length body
unfolding Frame LE
length-Frame body = length-append (LE w32 (pos (length body))) body

pub HandedOut-passed : (side : Side) (s : Stream) (input body rest : List ℕ) (bodies : List (List ℕ)) (least : ℕ) → HandedOut side s input bodies
    → front_at least s ≡ Body body rest → Begins side input (bodies ++ body ∷ []) rest → HandedOut side (stream_after_frame least s) input (bodies ++ body ∷ [])
HandedOut-passed side s input body rest bodies least handed found begins =
    let frames : length (flat_map Frame (bodies ++ body ∷ [])) ≡ length (flat_map Frame bodies) + (4 + length body) =
    ap length (flat_map-append Frame bodies (body ∷ [])) ∙ length-append (flat_map Frame bodies) (flat_map Frame (body ∷ []))
    ∙ ap (λ n. length (flat_map Frame bodies) + n) (ap length (append-nil (Frame body)) ∙ length-Frame body) in
    subst (λ (t : Stream). HandedOut side t input (bodies ++ body ∷ [])) (sym (stream_after_frame-found least s body rest found)) (record {
      begins = begins;
      place = omega (arith, handed.place, frames);
    })

-- ---- the buffer that the stream's bytes stand in

-- the stream whose bytes from its place on stand in a buffer from this offset on
abbrev pub in_buffer : (limit place start : ℕ) → List ℕ → Stream
in_buffer limit place start items = record { limit = limit; place = place; rest = drop start items }

-- the body that is found, as the slices of the buffer that a look makes
pub looked : (least limit place start len : ℕ) (items seen : List ℕ) (s : Stream) → in_buffer limit place start items ≡ s → seen ≡ items
    → (4 + len ≤ length (take (length seen - start) (drop start seen)))
    × (front least limit (take (length seen - start) (drop start seen))
    ≡ Body (take len (drop 4 (take (length seen - start) (drop start seen)))) (drop (4 + len) (take (length seen - start) (drop start seen))))
    → (place ≡ s.place) × ((rest : List ℕ) × (front_at least s ≡ Body (take (4 + len - 4) (drop 4 (take (length seen - start) (drop start seen)))) rest))
looked least limit place start len items seen s is same found =
    let whole = take_rest seen start in
    let here = ap (front least limit) (sym (whole ∙ ap (drop start) same)) ∙ found.1 in
    let size : 4 + len - 4 ≡ len = omega arith in
    subst (λ (t : Stream). (place ≡ t.place) × ((rest : List ℕ) × (front_at least t ≡ Body (take (4 + len - 4) (drop 4 (take (length seen - start) (drop start seen)))) rest))) is
    (refl, (drop (4 + len) (take (length seen - start) (drop start seen)), here ∙ ap (λ n. Body (take n (drop 4 (take (length seen - start) (drop start seen)))) (drop (4 + len) (take (length seen - start) (drop start seen)))) (sym size)))

-- the frame that is handed out of the buffer, and the stream after it
pub handed : (least limit place start len place' : ℕ) (items seen shown : List ℕ) (s : Stream) → in_buffer limit place start items ≡ s → seen ≡ items → shown ≡ items
    → (4 + len ≤ length (take (length seen - start) (drop start seen)))
    × (front least limit (take (length seen - start) (drop start seen))
    ≡ Body (take len (drop 4 (take (length seen - start) (drop start seen)))) (drop (4 + len) (take (length seen - start) (drop start seen))))
    → place' ≡ place_of (place + (4 + len))
    → (in_buffer limit place' (start + 4 + len) items ≡ stream_after_frame least s) × (place ≡ s.place)
    × ((rest : List ℕ) × (front_at least s ≡ Body (take (start + 4 + len - (start + 4)) (drop (start + 4) shown)) rest))
handed least limit place start len place' items seen shown s is same too found next =
    let whole : take (length seen - start) (drop start seen) ≡ drop start items = take_rest seen start ∙ ap (drop start) same in
    let rest : List ℕ = drop start items in
    let all : (4 + len ≤ length rest) × (front least limit rest ≡ Body (take len (drop 4 rest)) (drop (4 + len) rest)) =
    subst (λ (l : List ℕ). (4 + len ≤ length l) × (front least limit l ≡ Body (take len (drop 4 l)) (drop (4 + len) l))) whole found in
    let size : length (take len (drop 4 rest)) ≡ len = length-take-le len (drop 4 rest) (omega (arith, all.0, length-drop 4 rest)) in
    let after : drop (start + 4 + len) items ≡ drop (4 + len) rest = ap (λ n. drop n items) (omega arith) ∙ sym (drop-drop (4 + len) start items) in
    let body : take (start + 4 + len - (start + 4)) (drop (start + 4) shown) ≡ take len (drop 4 rest) =
    ap (λ n. take n (drop (start + 4) shown)) (omega arith) ∙ ap (λ (l : List ℕ). take len (drop (start + 4) l)) too ∙ ap (take len) (sym (drop-drop 4 start items)) in
    subst (λ (t : Stream). (in_buffer limit place' (start + 4 + len) items ≡ stream_after_frame least t) × (place ≡ t.place)
    × ((rest : List ℕ) × (front_at least t ≡ Body (take (start + 4 + len - (start + 4)) (drop (start + 4) shown)) rest))) is (
      sym (
          stream_after_frame-found least (in_buffer limit place start items) (take len (drop 4 rest)) (drop (4 + len) rest) all.1
          ∙ ap (λ n. record { limit = limit; place = n; rest = drop (4 + len) rest }) (omega (arith, next, size))
          ∙ ap (λ (l : List ℕ). record { limit = limit; place = place'; rest = l }) (sym after)
          ),
      refl,
      (drop (4 + len) rest, all.1 ∙ ap (λ (l : List ℕ). Body l (drop (4 + len) rest)) (sym body)),
    )

-- where no frame is found, the stream stays
pub stayed : (least limit place start : ℕ) (items seen : List ℕ) (s : Stream) (found : Front) → HasNoFrame found → in_buffer limit place start items ≡ s → seen ≡ items
    → front least limit (take (length seen - start) (drop start seen)) ≡ found
    → (in_buffer limit place start items ≡ stream_after_frame least s) × (place ≡ s.place) × (front_at least s ≡ found)
stayed least limit place start items seen s found none is same at =
    let here : front least limit (drop start items) ≡ found = ap (front least limit) (sym (take_rest seen start ∙ ap (drop start) same)) ∙ at in
    let stays = stream_after_frame-stays (in_buffer limit place start items) least (subst HasNoFrame (sym here) none) in
    subst (λ (t : Stream). (in_buffer limit place start items ≡ stream_after_frame least t) × (place ≡ t.place) × (front_at least t ≡ found)) is (sym stays, refl, here)
