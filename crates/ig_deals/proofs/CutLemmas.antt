-- Outputs that are cut off, and the bodies that a session read.
use Rattle.std.proofs.Common.{None, Some, ◌≡◌, ℕ, suc, ◌+◌, ◌<◌, ◌≤◌, List, [], ◌∷◌, ◌++◌, length, Option, Ok, Err, refl, sym, ap, ◌∙◌, subst, arith, append-nil, append_assoc}
use Rattle.std.specs.List.{cons_option}
use Rattle.std.proofs.lemmas.Grind.{flat_map-append}
use Rattle.std.proofs.lemmas.List.{map-append, length-map, length-append}
use Rattle.ig_base.specs.Frames.{client, max_body, least_after, Begins, front, HasNoFrame, Cut}
use Rattle.ig_wire.specs.declared.version.Version.{Version}
use Rattle.ig_caches.specs.declared.call.Call.{Call}
use Rattle.ig_deals.specs.declared.cfg.SessionCfg.{SessionCfg}
use Rattle.ig_deals.specs.declared.manner.Manner.{Manner}
use Rattle.ig_deals.specs.declared.end.SessionEnd.{SessionEnd}
use Rattle.ig_deals.specs.declared.end.SessionEnd.TheVariants as ends
use Rattle.ig_deals.specs.Hellos.{Greeting, greeting_of}
use Rattle.ig_deals.specs.Asks.{Asked, asks_after, asks}
use Rattle.ig_deals.specs.Deals.{Got, Ran, handed, gots, call_for, calls, Deal, deal_next, dealt}
use Rattle.ig_deals.specs.Desk.{Desk, fresh_desk}
use Rattle.ig_deals.specs.Replies.{Reply, reply_frame}
use Rattle.ig_deals.specs.Turns.{Terms}
use Rattle.ig_deals.specs.OutFrames.{replies, reply_frames, terms_at, frames_after, out_frames}
use Rattle.ig_deals.specs.Serves.{IsWaiting, EndsBy, joined, ShowsPart}
use Rattle.ig_deals.specs.Laws.{IsPrefix, IsAfterReading}
use Rattle.ig_deals.proofs.DealLemmas.{all_dealt, given_for}
use Rattle.ig_deals.proofs.ReplyLemmas.{one_reply_each, frames_stay}

-- ---- lists of frames

joined-append : (xs ys : List (List ℕ)) → joined (xs ++ ys) ≡ joined xs ++ joined ys
joined-append xs ys = flat_map-append (λ f. f) xs ys

prefix_within : {A : Type 0} (fewer whole r last : List A) → fewer ++ r ≡ whole ++ last → length fewer ≤ length whole → IsPrefix fewer whole
prefix_within {A} [] whole r last e le = (whole, refl)
prefix_within {A} (x ∷ fewer) [] r last e le = absurd (omega (arith, le))
prefix_within {A} (x ∷ fewer) (y ∷ whole) r last e le =
    let heads : x ≡ y = cc in
    let tails : fewer ++ r ≡ whole ++ last = cc in
    let p : IsPrefix fewer whole = prefix_within fewer whole r last tails (omega (arith, le)) in
    (p.0, ap (λ (l : List A). x ∷ l) p.1 ∙ ap (λ (z : A). z ∷ whole) heads)

pub part_is_prefix : (frames : List (List ℕ)) (output : List ℕ) → ShowsPart frames output → IsPrefix output (joined frames)
part_is_prefix frames output p = (
  p.missing,
  ap (λ (l : List ℕ). l ++ p.missing) p.output_is ∙ append_assoc (joined p.whole) p.prefix p.missing ∙ ap (λ (l : List ℕ). joined p.whole ++ l) (sym p.cut)
      ∙ sym (joined-append p.whole p.last) ∙ ap joined (sym p.frames_are),
)

fewer_are_shown : (fewer frames : List (List ℕ)) (output : List ℕ) → IsPrefix fewer frames → length fewer < length frames → ShowsPart frames output → IsPrefix (joined fewer) output
fewer_are_shown fewer frames output f lt p =
    let lengths : length frames ≡ length p.whole + length p.last = ap length p.frames_are ∙ length-append p.whole p.last in
    let one : length p.last ≤ 1 = p.at_most_one in
    let within : IsPrefix fewer p.whole = prefix_within fewer p.whole f.0 p.last (f.1 ∙ p.frames_are) (omega (arith, lengths, one, lt)) in (
      joined within.0 ++ p.prefix,
      sym (append_assoc (joined fewer) (joined within.0) p.prefix) ∙ ap (λ (l : List ℕ). l ++ p.prefix) (sym (joined-append fewer within.0) ∙ ap joined within.1) ∙ sym p.output_is,
    )

-- ---- with one result fewer one frame is missing at least

next_short : (a : Asked) (c : Option Call) (cs : List Call) (gs : List Got) (later : List Got → List Deal) (n : ℕ) → length gs < length (cons_option c cs)
    → ((gs : List Got) → length gs < length cs → length (later gs) < n) → length (deal_next a c gs later) < suc n
next_short a None cs gs later n lt go = let less : length (later gs) < n = go gs lt in omega (arith, less)
next_short a (Some c) cs [] later n lt go = omega arith
next_short a (Some c) cs (g ∷ gs) later n lt go = let less : length (later gs) < n = go gs (omega (arith, lt)) in omega (arith, less)

dealt_short : (asked : List Asked) (gs : List Got) → length gs < length (calls asked) → length (dealt asked gs) < length asked
dealt_short [] gs lt = absurd (omega (arith, lt))
dealt_short (a ∷ asked) gs lt = next_short a (call_for a.request) (calls asked) gs (dealt asked) (length asked) lt (λ gs' lt'. dealt_short asked gs' lt')

frames_length : (terms : Terms) (desk : Desk) (deals : List Deal) → length (reply_frames terms desk deals) ≡ length deals
frames_length terms desk deals =
    length-map (replies terms desk deals) (reply_frame terms.version) ∙ sym (length-map (replies terms desk deals) (λ (r : Reply). r.id))
    ∙ ap length (one_reply_each terms desk deals) ∙ length-map deals (λ (d : Deal). d.asked.id)

short_after : (cfg : SessionCfg) (manner_at : Version → Manner) (g : Greeting) (bodies : List (List ℕ)) (gs hs : List Got) → length hs ≡ length (calls (asks_after g bodies)) → length gs < length hs
    → length (frames_after cfg manner_at g (asks_after g bodies) gs) < length (frames_after cfg manner_at g (asks_after g bodies) hs)
short_after cfg manner_at (Ok hello) bodies gs hs all lt =
    let terms : Terms = terms_at cfg manner_at hello.version in
    let asked : List Asked = asks_after (Ok hello) bodies in
    let few : length (dealt asked gs) < length asked = dealt_short asked gs (subst (λ (n : ℕ). length gs < n) all lt) in
    let every : length (dealt asked hs) ≡ length asked = sym (length-map (dealt asked hs) (λ (d : Deal). d.asked)) ∙ ap length (all_dealt asked hs all) in
    let one : length (reply_frames terms fresh_desk (dealt asked gs)) ≡ length (dealt asked gs) = frames_length terms fresh_desk (dealt asked gs) in
    let two : length (reply_frames terms fresh_desk (dealt asked hs)) ≡ length (dealt asked hs) = frames_length terms fresh_desk (dealt asked hs) in
    omega (arith, few, every, one, two)
short_after cfg manner_at (Err fault) bodies gs hs all lt = absurd (omega (arith, all, lt))

short_frames : (cfg : SessionCfg) (manner_at : Version → Manner) (bodies : List (List ℕ)) (gs hs : List Got) → length hs ≡ length (calls (asks bodies)) → length gs < length hs
    → length (out_frames cfg manner_at bodies gs) < length (out_frames cfg manner_at bodies hs)
short_frames cfg manner_at [] gs hs all lt = absurd (omega (arith, all, lt))
short_frames cfg manner_at (hello ∷ bodies) gs hs all lt =
    let less : length (frames_after cfg manner_at (greeting_of hello) (asks_after (greeting_of hello) bodies) gs) < length (frames_after cfg manner_at (greeting_of hello) (asks_after (greeting_of hello) bodies) hs) =
    short_after cfg manner_at (greeting_of hello) bodies gs hs all lt in
    omega (arith, less)

pub last_is_cut_off : (cfg : SessionCfg) (manner_at : Version → Manner) (bodies : List (List ℕ)) (ran : List Ran) (last : Ran) (output : List ℕ) → handed (ran ++ last ∷ []) ≡ calls (asks bodies)
    → ShowsPart (out_frames cfg manner_at bodies (gots (ran ++ last ∷ []))) output → IsPrefix (joined (out_frames cfg manner_at bodies (gots ran))) output
last_is_cut_off cfg manner_at bodies ran last output e p =
    let both : gots (ran ++ last ∷ []) ≡ gots ran ++ last.got ∷ [] = map-append (λ (r : Ran). r.got) ran (last ∷ []) in
    let all : length (gots ran ++ last.got ∷ []) ≡ length (calls (asks bodies)) = ap length (sym both) ∙ given_for (ran ++ last ∷ []) (asks bodies) e in
    let lengths : length (gots ran ++ last.got ∷ []) ≡ length (gots ran) + 1 = length-append (gots ran) (last.got ∷ []) in
    let less : length (gots ran) < length (gots ran ++ last.got ∷ []) = omega (arith, lengths) in
    let shown : ShowsPart (out_frames cfg manner_at bodies (gots ran ++ last.got ∷ [])) output = subst (λ (gs : List Got). ShowsPart (out_frames cfg manner_at bodies gs) output) both p in
    let same : IsPrefix (out_frames cfg manner_at bodies (gots ran)) (out_frames cfg manner_at (bodies ++ []) (gots ran ++ last.got ∷ [])) = frames_stay cfg manner_at bodies [] (gots ran) (last.got ∷ []) in
    let fewer : IsPrefix (out_frames cfg manner_at bodies (gots ran)) (out_frames cfg manner_at bodies (gots ran ++ last.got ∷ [])) =
    (same.0, same.1 ∙ ap (λ (l : List (List ℕ)). out_frames cfg manner_at l (gots ran ++ last.got ∷ [])) (append-nil bodies)) in
    fewer_are_shown (out_frames cfg manner_at bodies (gots ran)) (out_frames cfg manner_at bodies (gots ran ++ last.got ∷ [])) output fewer (short_frames cfg manner_at bodies (gots ran) (gots ran ++ last.got ∷ []) all less) shown

-- ---- all whole frames were read

none_waiting : (bodies : List (List ℕ)) (after : List ℕ) (missing : ℕ) → IsWaiting bodies after missing → HasNoFrame (front (least_after client bodies) max_body after)
none_waiting bodies after missing w = subst HasNoFrame (sym w.part) tt

no_bytes : (least : ℕ) → HasNoFrame (front least max_body [])
unfolding front
no_bytes least = tt

none_left : (end : SessionEnd) (input : List ℕ) (bodies : List (List ℕ)) (after : List ℕ) → IsAfterReading end → EndsBy end input bodies after → HasNoFrame (front (least_after client bodies) max_body after)
none_left ends.Ended input bodies after is e = subst (λ (l : List ℕ). HasNoFrame (front (least_after client bodies) max_body l)) (sym e.1) (no_bytes (least_after client bodies))
none_left (ends.Truncated missing) input bodies after is e = none_waiting bodies after missing e.0
none_left (ends.BadFrame place len) input bodies after is e = subst HasNoFrame (sym e.2) tt
none_left (ends.HelloRefused fault) input bodies after is e = absurd is
none_left ends.ReadFault input bodies after is e = none_waiting bodies after e.1 e.2
none_left ends.ByteLimit input bodies after is e = none_waiting bodies after e.1 e.2
none_left ends.WriteFault input bodies after is e = absurd is
none_left ends.NoMemory input bodies after is e = absurd is

pub ends_cut : (end : SessionEnd) (input : List ℕ) (bodies : List (List ℕ)) (after : List ℕ) → IsAfterReading end → Begins client input bodies after → EndsBy end input bodies after → Cut client input bodies after
ends_cut end input bodies after is b e = record { begins = b; ends = none_left end input bodies after is e }
