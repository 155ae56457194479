-- What a session stands for, by its deals.
use Rattle.std.proofs.Common.{◌≡◌, ℕ, List, ◌++◌, map, length, sym, subst, ◌+◌, ◌≤◌, arith}
use Rattle.std.specs.Prelude.{Contains, slice_get}
use Rattle.ig_base.specs.Numbers.{AreBytes}
use Rattle.ig_base.specs.Frames.{client}
use Rattle.ig_frame.specs.Streams.{HandedOut}
use Rattle.ig_deals.specs.declared.cfg.SessionCfg.{SessionCfg}
use Rattle.ig_deals.specs.Asks.{asks}
use Rattle.ig_deals.specs.Deals.{Deal, calls}
use Rattle.ig_deals.specs.Desk.{Desk}
use Rattle.ig_replies.specs.declared.terms.Terms.{Terms as HeldTerms}
use Rattle.ig_replies.specs.RunTerms.{terms_of}
use Rattle.ig_session.specs.declared.phase.Phase.{Phase}
use Rattle.ig_session.specs.declared.phase.Phase.TheVariants.{BeforeHello, Open, Refused, OutOfMemory}
use Rattle.ig_session.specs.declared.awaited.Awaited.{Awaited}
use Rattle.ig_session.specs.States.{State}
use Rattle.ig_session.specs.StandsFor.{ShowsSoFar}
use Rattle.ig_session.specs.StandsAhead.{HandedAhead, given_so_far, dealt_ahead, out_among, IsDue, IsOrder, AreScansAlone, HasEach, AreCounted, out_ahead, IsOpenAhead, IsInAhead, StandsAhead}

-- ---- the whole, by its deals

-- a session stands for these bodies, with these deals
pub record StandsBy (limit : ℕ) (s : State) (input : List ℕ) (ran : List HandedAhead) (order output : List ℕ) (bodies : List (List ℕ)) (deals : List Deal) : Type 0 where
  pub read : HandedOut client s.stream input bodies
  pub are_bytes : AreBytes s.stream.rest
  pub handed : map (λ (r : HandedAhead). r.call) ran ≡ calls (asks bodies)
  pub dealt : dealt_ahead (asks bodies) (given_so_far ran) ≡ deals
  pub out : s.out ≡ out_among 0 deals
  pub count : s.handed ≡ length ran
  pub phase : IsInAhead s.phase s.cfg s.desk bodies deals
  pub alone : AreScansAlone deals
  pub order_is : IsOrder deals order
  pub each : HasEach s.phase deals order
  pub counted : AreCounted limit s.phase s.out (length s.waiting.frames) deals order
  pub shows : ShowsSoFar (out_ahead s.cfg bodies deals order) s.waiting output

pub stands_by : (limit : ℕ) (s : State) (input : List ℕ) (ran : List HandedAhead) (order output : List ℕ) (bodies : List (List ℕ)) (deals : List Deal)
    → StandsBy limit s input ran order output bodies deals → StandsAhead limit s input ran order output
stands_by limit s input ran order output bodies deals by = record {
  bodies = bodies;
  read = by.read;
  are_bytes = by.are_bytes;
  handed_out = by.handed;
  out = subst (λ (l : List Deal). s.out ≡ out_among 0 l) (sym by.dealt) by.out;
  count = by.count;
  phase = subst (λ (l : List Deal). IsInAhead s.phase s.cfg s.desk bodies l) (sym by.dealt) by.phase;
  alone = subst AreScansAlone (sym by.dealt) by.alone;
  order_is = subst (λ (l : List Deal). IsOrder l order) (sym by.dealt) by.order_is;
  each = subst (λ (l : List Deal). HasEach s.phase l order) (sym by.dealt) by.each;
  counted = subst (λ (l : List Deal). AreCounted limit s.phase s.out (length s.waiting.frames) l order) (sym by.dealt) by.counted;
  shows = subst (λ (l : List Deal). ShowsSoFar (out_ahead s.cfg bodies l order) s.waiting output) (sym by.dealt) by.shows;
}

-- ---- phases

pub open_in_ahead : (phase : Phase) (terms : HeldTerms) (cfg : SessionCfg) (desk : Desk) (bodies : List (List ℕ)) (deals : List Deal) → phase ≡ Open terms
    → IsInAhead phase cfg desk bodies deals → IsOpenAhead (terms_of terms) cfg desk bodies deals
open_in_ahead phase terms cfg desk bodies deals is h = subst (λ (p : Phase). IsInAhead p cfg desk bodies deals) is h

pub in_open_ahead : (phase : Phase) (terms : HeldTerms) (cfg : SessionCfg) (desk : Desk) (bodies : List (List ℕ)) (deals : List Deal) → phase ≡ Open terms
    → IsOpenAhead (terms_of terms) cfg desk bodies deals → IsInAhead phase cfg desk bodies deals
in_open_ahead phase terms cfg desk bodies deals is h = subst (λ (p : Phase). IsInAhead p cfg desk bodies deals) (sym is) h

pub each_open : (phase : Phase) (terms : HeldTerms) (deals : List Deal) (order : List ℕ) → phase ≡ Open terms → HasEach phase deals order
    → (place : ℕ) → IsDue (slice_get deals place) → Contains order place
each_open phase terms deals order is h = subst (λ (p : Phase). HasEach p deals order) is h

pub open_each : (phase : Phase) (terms : HeldTerms) (deals : List Deal) (order : List ℕ) → phase ≡ Open terms
    → ((place : ℕ) → IsDue (slice_get deals place) → Contains order place) → HasEach phase deals order
open_each phase terms deals order is h = subst (λ (p : Phase). HasEach p deals order) (sym is) h

-- of a session that isn't out of memory all requests were replied but those whose calls are out
pub counted_in : (limit : ℕ) (phase : Phase) (out : List Awaited) (waiting : ℕ) (deals : List Deal) (order : List ℕ) → phase ≡ BeforeHello → AreCounted limit phase out waiting deals order
    → (length deals ≡ length order + length out) × (length out + waiting ≤ limit)
counted_in limit phase out waiting deals order is h = subst (λ (p : Phase). AreCounted limit p out waiting deals order) is h

pub counted_open : (limit : ℕ) (phase : Phase) (terms : HeldTerms) (out : List Awaited) (waiting : ℕ) (deals : List Deal) (order : List ℕ) → phase ≡ Open terms → AreCounted limit phase out waiting deals order
    → (length deals ≡ length order + length out) × (length out + waiting ≤ limit)
counted_open limit phase terms out waiting deals order is h = subst (λ (p : Phase). AreCounted limit p out waiting deals order) is h

pub open_counted : (limit : ℕ) (phase : Phase) (terms : HeldTerms) (out : List Awaited) (waiting : ℕ) (deals : List Deal) (order : List ℕ) → phase ≡ Open terms
    → (length deals ≡ length order + length out) × (length out + waiting ≤ limit) → AreCounted limit phase out waiting deals order
open_counted limit phase terms out waiting deals order is h = subst (λ (p : Phase). AreCounted limit p out waiting deals order) (sym is) h

-- in any phase no more replies are missing or wait than calls may be out
pub few_missing : (limit : ℕ) (phase : Phase) (out : List Awaited) (waiting : ℕ) (deals : List Deal) (order : List ℕ) → AreCounted limit phase out waiting deals order → length deals + waiting ≤ length order + limit
few_missing limit BeforeHello out waiting deals order h = omega (arith, h.0, h.1)
few_missing limit (Open terms) out waiting deals order h = omega (arith, h.0, h.1)
few_missing limit (Refused fault) out waiting deals order h = omega (arith, h.0, h.1)
few_missing limit OutOfMemory out waiting deals order h = h
