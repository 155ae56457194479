-- The lengths of replies, and the parts of their frames.
use Rattle.std.proofs.Common.{◌≡◌, ℕ, ◌+◌, ◌-◌, ◌<◌, ◌≤◌, ℤ, pos, Bool, true, false, List, ◌++◌, length, Option, None, Some, sym, ap, subst, ◌∙◌, refl, arith}
use Rattle.std.specs.Prelude.{min, nat_le, ◌^◌, if◌then◌else◌}
use Rattle.std.specs.Int.{w16, w32, w64}
use Rattle.std.proofs.lemmas.Bool.{le-leb, lt-leb, cond-true, cond-false}
use Rattle.std.proofs.lemmas.List.{append_assoc, length-append}
use Rattle.ig_base.specs.declared.Topology.{Topology}
use Rattle.ig_base.specs.Numbers.{LE}
use Rattle.ig_base.specs.Frames.{Frame, max_body}
use Rattle.ig_base.proofs.NumberLemmas.{length-LE_16, length-LE_32, length-LE_64}
use Rattle.ig_base.proofs.FrameLemmas.{length-Frame}
use Rattle.ig_wire.specs.declared.version.Version.{Version}
use Rattle.ig_wire.specs.declared.head.Fault.{Fault}
use Rattle.ig_wire.specs.declared.head.ReplyHead.{ReplyHead}
use Rattle.ig_wire.specs.declared.head_view.HeadView.{HeadView}
use Rattle.ig_wire.specs.HeadViews.{owned_head}
use Rattle.ig_wire.specs.declared.reason.Reason.TheVariants as reason
use Rattle.ig_wire.specs.Versions.{has_flags}
use Rattle.ig_wire.specs.Fields.{string}
use Rattle.ig_wire.specs.Heads.{head_bytes, told_bytes, topology_bytes, fault_bytes, flag_number, MayTell}
use Rattle.ig_deals.specs.Faults.{fault_of}
use Rattle.ig_deals.specs.Replies.{Reply as SaidReply, fault_in, head_of, result_bytes, reply_body, reply_frame, fits, too_long, shortened}
use Rattle.ig_replies.specs.declared.reply.Content.{Content}
use Rattle.ig_replies.specs.declared.reply.Content.TheVariants as held
use Rattle.ig_replies.specs.declared.reply.Reply.{Reply}
use Rattle.ig_replies.specs.Contents.{content_said, reply_said, content_bytes}
use Rattle.ig_replies.specs.FrameParts.{lead_bytes, IsLaidOut}
use Rattle.ig_replies.proofs.ReasonLemmas.{status_is_fault, text_is_short}

-- ---- lengths

pub body_length : (v : Version) (r : SaidReply) → length (reply_body v r) ≡ length (head_bytes v (head_of r)) + length (result_bytes r.content)
unfolding reply_body
body_length v r = length-append (head_bytes v (head_of r)) (result_bytes r.content)

pub frame_length : (v : Version) (reply : Reply) (body_len lead_len : ℕ) → IsLaidOut v reply body_len lead_len
    → length (reply_frame v (reply_said reply)) ≡ 4 + body_len
frame_length v reply body_len lead_len is =
    length-Frame (reply_body v (reply_said reply)) ∙ ap (λ (n : ℕ). 4 + n) (sym is.body)

pub lead_length : (v : Version) (reply : Reply) (body_len : ℕ)
    → length (lead_bytes v reply body_len) ≡ 4 + length (head_bytes v (head_of (reply_said reply)))
lead_length v reply body_len =
    length-append (LE w32 (pos body_len)) (head_bytes v (head_of (reply_said reply)))
    ∙ ap (λ (n : ℕ). n + length (head_bytes v (head_of (reply_said reply)))) (length-LE_32 (pos body_len))

-- what comes before the result is no longer than the frame
pub lead_fits : (v : Version) (reply : Reply) (body_len : ℕ) → body_len ≡ length (reply_body v (reply_said reply))
    → length (lead_bytes v reply body_len) ≤ 4 + body_len
lead_fits v reply body_len is = omega (arith, lead_length v reply body_len, body_length v (reply_said reply), is)

-- two lengths that saturate
pub sum_saturates : (a b m n most : ℕ) → m ≡ min a most → n ≡ min b most → min (m + n) most ≡ min (a + b) most
sum_saturates a b m n most first second = omega (arith, first, second)

-- ---- the frame

pub frame_is : (v : Version) (reply : Reply) (body_len lead_len : ℕ) → IsLaidOut v reply body_len lead_len
    → reply_frame v (reply_said reply) ≡ lead_bytes v reply body_len ++ content_bytes reply.content
unfolding Frame reply_body
frame_is v reply body_len lead_len is =
    ap (λ (n : ℕ). LE w32 (pos n) ++ (head_bytes v (head_of (reply_said reply)) ++ content_bytes reply.content)) (sym is.body)
    ∙ sym (append_assoc (LE w32 (pos body_len)) (head_bytes v (head_of (reply_said reply))) (content_bytes reply.content))

-- ---- replies that are too long

-- a head with a fault of a short text is short
told_is_short : (flags : Bool) (told : Option Topology) (fault : Fault) → length fault.text < 100 → length (told_bytes flags told (Some fault)) < 200
told_is_short true None fault short =
    omega (
      arith,
      short,
      length-append (LE w16 (flag_number false true) ++ topology_bytes None) (fault_bytes (Some fault)),
      length-append (LE w16 (flag_number false true)) (topology_bytes None),
      length-LE_16 (flag_number false true),
      length-append (LE w32 fault.status) (string fault.text),
      length-LE_32 fault.status,
      length-append (LE w32 (pos (length fault.text))) fault.text,
      length-LE_32 (pos (length fault.text)),
    )
told_is_short true (Some t) fault short =
    omega (
      arith,
      short,
      length-append (LE w16 (flag_number true true) ++ topology_bytes (Some t)) (fault_bytes (Some fault)),
      length-append (LE w16 (flag_number true true)) (topology_bytes (Some t)),
      length-LE_16 (flag_number true true),
      length-append (LE w64 t.version) (LE w32 t.minor),
      length-LE_64 t.version,
      length-LE_32 t.minor,
      length-append (LE w32 fault.status) (string fault.text),
      length-LE_32 fault.status,
      length-append (LE w32 (pos (length fault.text))) fault.text,
      length-LE_32 (pos (length fault.text)),
    )
told_is_short false told fault short =
    omega (
      arith,
      short,
      length-append (LE w32 fault.status) (string fault.text),
      length-LE_32 fault.status,
      length-append (LE w32 (pos (length fault.text))) fault.text,
      length-LE_32 (pos (length fault.text)),
    )

pub too_long_fits : (v : Version) (r : SaidReply) → length (reply_body v (too_long r)) < 1000
too_long_fits v r =
    omega (
      arith,
      body_length v (too_long r),
      length-append (LE w64 r.id) (told_bytes (has_flags v) r.told (Some (fault_of reason.ReplyTooLong))),
      length-LE_64 r.id,
      told_is_short (has_flags v) r.told (fault_of reason.ReplyTooLong) (text_is_short reason.ReplyTooLong),
    )

-- a reply that a frame can hold stays as it is
pub kept_whole : (v : Version) (r : SaidReply) → length (reply_body v r) ≤ max_body → (fits v r ≡ true) × (shortened v r ≡ r)
kept_whole v r le =
    let is : fits v r ≡ true = le-leb (length (reply_body v r)) max_body le in (is, cond-true (fits v r) r (too_long r) is)

-- any other becomes a fault
pub made_short : (v : Version) (r : SaidReply) → max_body < length (reply_body v r) → (fits v r ≡ false) × (shortened v r ≡ too_long r)
made_short v r lt =
    let is : fits v r ≡ false = lt-leb (length (reply_body v r)) max_body lt in (is, cond-false (fits v r) r (too_long r) is)

-- what a length that saturates tells
pub new_whole : (v : Version) (r : SaidReply) (n : ℕ) → n ≡ min (length (reply_body v r)) (2 ^ 128 - 1) → n ≤ max_body
    → (n ≡ length (reply_body v r)) × (fits v r ≡ true) × (shortened v r ≡ r)
new_whole v r n is le =
    let exact : n ≡ length (reply_body v r) = omega (arith, is, le) in
    let kept : (fits v r ≡ true) × (shortened v r ≡ r) = kept_whole v r (omega (arith, exact, le)) in (exact, kept.0, kept.1)

pub new_short : (v : Version) (r : SaidReply) (n : ℕ) → n ≡ min (length (reply_body v r)) (2 ^ 128 - 1) → max_body < n
    → (fits v r ≡ false) × (shortened v r ≡ too_long r)
new_short v r n is lt = made_short v r (omega (arith, is, lt))

-- the length of the fault in the place of a reply that is too long
pub short_exact : (v : Version) (r : SaidReply) (n : ℕ) → n ≡ min (length (reply_body v (too_long r))) (2 ^ 128 - 1)
    → (n ≡ length (reply_body v (too_long r))) × (n ≤ max_body)
short_exact v r n is =
    let small : length (reply_body v (too_long r)) < 1000 = too_long_fits v r in
    (omega (arith, is, small), omega (arith, is, small))

-- ---- heads

-- a fault may be told wherever nothing else is
pub head_may : (flags : Bool) (told : Option Topology) (content : Content) → MayTell flags told None → MayTell flags told (fault_in (content_said content))
head_may true told content may = tt
head_may false (Some t) content may = absurd may
head_may false None (held.Shows shown) may = tt
head_may false None (held.Maps map) may = tt
head_may false None (held.Refuses r) may = status_is_fault r
head_may false None (held.Malformed text) may = status_is_fault reason.Malformed

pub lead_is : (v w : Version) (reply : Reply) (body_len : ℕ) (view : HeadView) → w ≡ v → owned_head view ≡ head_of (reply_said reply)
    → LE w32 (pos body_len) ++ head_bytes w (owned_head view) ≡ lead_bytes v reply body_len
lead_is v w reply body_len view same is =
    ap (λ (u : Version). LE w32 (pos body_len) ++ head_bytes u (owned_head view)) same
    ∙ ap (λ (h : ReplyHead). LE w32 (pos body_len) ++ head_bytes v h) is

-- the length of what comes before the result is exact, as it is no longer than a frame
pub lead_exact : (v w : Version) (reply : Reply) (body_len : ℕ) (view : HeadView) (n : ℕ) → w ≡ v → owned_head view ≡ head_of (reply_said reply)
    → body_len ≡ length (reply_body v (reply_said reply)) → body_len ≤ max_body
    → n ≡ min (length (LE w32 (pos body_len) ++ head_bytes w (owned_head view))) (2 ^ 128 - 1)
    → (n ≡ length (lead_bytes v reply body_len)) × (n < 2 ^ 64)
lead_exact v w reply body_len view n same is len fits measured =
    let here : length (LE w32 (pos body_len) ++ head_bytes w (owned_head view)) ≡ length (lead_bytes v reply body_len) =
    ap length (lead_is v w reply body_len view same is) in
    let few : length (lead_bytes v reply body_len) ≤ 4 + body_len = lead_fits v reply body_len len in
    (omega (arith, measured, here, few, fits), omega (arith, measured, here, few, fits))

-- what fills a slice stays within the frame
pub fills_within : (whole gone n room : ℕ) → gone ≤ whole → n ≡ min room (whole - gone) → gone + n ≤ whole
fills_within whole gone n room le is = omega (arith, le, is)
