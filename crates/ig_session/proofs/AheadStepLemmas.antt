-- One step keeps what a session stands for whose calls are answered in any order.
use Rattle.std.proofs.Common.{◌≡◌, inl, inr, ℕ, ◌+◌, ◌≤◌, List, [], ◌∷◌, ◌++◌, length, Option, None, Some, Result, Ok, Err, refl, sym, ap, ◌∙◌, subst, arith, append-nil, length-append, ◌<◌, leb-false}
use Rattle.std.specs.Prelude.{◌&&◌, Bool, true, false, Contains, slice_get, nat_le, if◌then◌else◌}
use Rattle.std.specs.List.{cons_option, list_any}
use Rattle.std.proofs.lemmas.List.{length-map, map-append}
use Rattle.std.proofs.lemmas.List.Elements.{Contains-append_left, Contains-push}
use Rattle.ig_wire.specs.declared.head.Fault.{Fault}
use Rattle.ig_caches.specs.declared.call.Call.{Call}
use Rattle.ig_caches.specs.declared.request.Request.{Request}
use Rattle.ig_caches.specs.declared.request.Request.TheVariants.{Run, Scan, NextPage, Close}
use Rattle.ig_deals.specs.declared.end.SessionEnd.TheVariants as ends
use Rattle.ig_deals.specs.Asks.{Asked, asked_in, asks}
use Rattle.ig_deals.specs.Deals.{Deal, call_for, calls}
use Rattle.ig_deals.specs.Desk.{Desk, fresh_desk}
use Rattle.ig_deals.specs.Telling.{crew_manner}
use Rattle.ig_deals.specs.Replies.{reply_frame}
use Rattle.ig_deals.specs.Turns.{Terms, Turn, turn_for, turn}
use Rattle.ig_deals.specs.OutFrames.{desk_after}
use Rattle.ig_deals.proofs.DealLemmas.{calls-append}
use Rattle.ig_deals.proofs.ReplyLemmas.{replies-append}
use Rattle.ig_replies.specs.declared.terms.Terms.{Terms as HeldTerms}
use Rattle.ig_replies.specs.RunTerms.{terms_of}
use Rattle.ig_replies.specs.Showing.{after_push}
use Rattle.ig_session.specs.declared.phase.Phase.TheVariants.{Open}
use Rattle.ig_session.specs.declared.step.Ahead.TheVariants as steps
use Rattle.ig_session.specs.declared.awaited.Awaited.{Awaited}
use Rattle.ig_session.specs.Awaiting.{awaited_of, is_scan}
use Rattle.ig_session.specs.States.{State}
use Rattle.ig_session.specs.Soundness.{IsSound}
use Rattle.ig_session.specs.Comings.{Coming, Replies, Stops, Misses, Greets, Asks, coming}
use Rattle.ig_session.specs.Steps.{opened, refused, handed_out, settled}
use Rattle.ig_session.specs.StandsFor.{ShowsSoFar}
use Rattle.ig_session.specs.StepsAhead.{is_at_cursors, waits_for_all, has_out, is_full, is_held_up, asked_ahead, step_on, step_ahead_to, step_ahead}
use Rattle.ig_session.specs.StandsAhead.{HandedAhead, given_so_far, deal_ahead, dealt_ahead, out_among, is_due, IsDue, LooksAtCursors, IsOrder, AreScansAlone, out_ahead, IsOpenAhead, StandsAhead}
use Rattle.ig_session.specs.LawsAhead.{StandsAfterAhead}
use Rattle.ig_session.proofs.ComingLemmas.{comes_as, RequestIn, request_comes}
use Rattle.ig_session.proofs.StandLemmas.{Reads, reads_body, push_alone, asks_one}
use Rattle.ig_session.proofs.AskLemmas.{least_open}
use Rattle.ig_session.proofs.PlaceLemmas.{at_end, at_first, due_in, due_within, order_more, order_for, still_due}
use Rattle.ig_session.proofs.OutLemmas.{dealt_ahead-append, given_ahead, calls_dealt, calls_among, out_among-append, out_one, out_none}
use Rattle.ig_session.proofs.AheadLemmas.{ahead_terms, frames_at, frames_first, frame_last, one_more_shown, open_shown, open_shown_more, same_shown}
use Rattle.ig_session.proofs.DueLemmas.{neither, first_false, none_out, all_due, due_push, no_scan_out, at_last}
use Rattle.ig_session.proofs.StandsByLemmas.{counted_open, open_counted, stands_by, open_in_ahead, in_open_ahead, each_open, open_each}
use Rattle.ig_session.proofs.AheadGreetLemmas.{opened_stands_ahead, refused_stands_ahead}

-- ---- requests

-- a request to which nothing was given yet leaves the desk as it is
pub none_given : (terms : Terms) (desk : Desk) (asked : Asked) (call : Call) → call_for asked.request ≡ Some call → (turn terms desk (record { asked = asked; got = None })).desk ≡ desk
unfolding turn
none_given terms desk asked call is = by_request asked.request is where
  by_request : (request : Result Request Fault) → call_for request ≡ Some call → (turn_for terms desk asked.id request None).desk ≡ desk
  by_request (Ok (Run c)) is = refl
  by_request (Ok (Scan cache page)) is = refl
  by_request (Ok (NextPage cursor)) is = absurd cc
  by_request (Ok (Close resource)) is = absurd cc
  by_request (Err fault) is = absurd cc

-- what isn't held up has room for one more call
room_left : (limit : ℕ) (out : List Awaited) (next : Coming) → is_held_up limit out next ≡ false → length out < limit
room_left limit out next held =
    leb-false limit (length out) (neither (nat_le limit (length out)) (list_any (λ (a : Awaited). is_scan a.awaits) out) (neither (is_full limit out) (has_out out && waits_for_all next) held).0).0

module _ (s : State) (input : List ℕ) (ran : List HandedAhead) (order output : List ℕ) (limit : ℕ) (terms : HeldTerms) (asked : Asked) (sound : IsSound s) (comes : coming s ≡ Asks terms asked) (held : is_held_up limit s.out (Asks terms asked) ≡ false) (stood : StandsAhead limit s input ran order output) where
  abbrev at : RequestIn s s.phase terms asked
  at = request_comes s terms asked comes

  abbrev deals : List Deal
  deals = dealt_ahead (asks stood.bodies) (given_so_far ran)

  abbrev last : Deal
  last = record { asked = asked; got = None }

  abbrev is_open : IsOpenAhead (terms_of terms) s.cfg s.desk stood.bodies deals
  is_open = open_in_ahead s.phase terms s.cfg s.desk stood.bodies deals at.is_open stood.phase

  -- no scan is out, and for what looks at cursors no call is
  no_scan : list_any (λ (a : Awaited). is_scan a.awaits) s.out ≡ false
  no_scan = (neither (nat_le limit (length s.out)) (list_any (λ (a : Awaited). is_scan a.awaits) s.out) (neither (is_full limit s.out) (has_out s.out && is_at_cursors asked.request) held).0).1

  none : is_at_cursors asked.request ≡ true → s.out ≡ []
  none looks = none_out s.out (first_false (has_out s.out) (is_at_cursors asked.request) (neither (is_full limit s.out) (has_out s.out && is_at_cursors asked.request) held).1 looks)

  may_go : length s.out < limit
  may_go = room_left limit s.out (Asks terms asked) held

  counts : length deals ≡ length order + length s.out
  counts = (counted_open limit s.phase terms s.out (length s.waiting.frames) deals order at.is_open stood.counted).0

  -- no reply waits
  idle : s.waiting.frames ≡ []
  idle = (comes_as s (Asks terms asked) (λ never. cc) comes).none_waits

  abbrev bodies : List (List ℕ)
  bodies = stood.bodies ++ at.body ∷ []

  reads : Reads s input bodies
  reads = reads_body s input stood.bodies at.body at.rest (Open terms) at.is_open sound.limit
      (least_open stood.bodies is_open.hello is_open.requests is_open.bodies_are) stood.are_bytes stood.read at.found_is

  version_is : terms.version ≡ is_open.accepted.version
  version_is = ap (λ (t : Terms). t.version) is_open.terms_are

  now : asks bodies ≡ asks stood.bodies ++ asked ∷ []
  now = ap (λ (l : List (List ℕ)). asks (l ++ at.body ∷ [])) is_open.bodies_are
      ∙ asks_one is_open.hello is_open.requests at.body is_open.accepted is_open.greets
      ∙ ap (λ (l : List (List ℕ)). asks l ++ asked_in is_open.accepted.version at.body ∷ []) (sym is_open.bodies_are)
      ∙ ap (λ (a : Asked). asks stood.bodies ++ a ∷ []) (ap (λ v. asked_in v at.body) (sym version_is) ∙ at.asks)

  as_many : length (given_so_far ran) ≡ length (calls (asks stood.bodies))
  as_many = given_ahead ran (asks stood.bodies) stood.handed_out

  bodies_now : bodies ≡ is_open.hello ∷ (is_open.requests ++ at.body ∷ [])
  bodies_now = ap (λ (l : List (List ℕ)). l ++ at.body ∷ []) is_open.bodies_are

  abbrev own : Terms
  own = ahead_terms s.cfg is_open.accepted.version

  -- each scan that is out is still the last request, and no other call is out
  alone : AreScansAlone (deals ++ last ∷ [])
  alone first later deal e looks due = elim (at_last deals last first later deal e) [
    | inl here ↦ (here.2, ap (out_among 0) here.0 ∙ sym stood.out ∙ none (sym (ap (λ (d : Deal). is_at_cursors d.asked.request) here.1) ∙ looks))
    | inr inside ↦ absurd (no_scan_out s.out first inside.0 deal no_scan (stood.out ∙ ap (out_among 0) inside.1) looks due)
  ]

  order_kept : IsOrder (deals ++ last ∷ []) order
  order_kept = order_for deals (deals ++ last ∷ []) [] order
      (still_due deals (deals ++ last ∷ []) (λ place due. at_first deals (last ∷ []) place (due_within deals place due))) stood.order_is

  -- the replies that were shown are the same
  kept_shown : out_ahead s.cfg bodies (deals ++ last ∷ []) order ≡ out_ahead s.cfg stood.bodies deals order
  kept_shown =
      same_shown s.cfg bodies (deals ++ last ∷ []) deals order (λ v place c. frames_first s.cfg v deals last place (due_within deals place (due_in deals [] order place stood.order_is c)))
      ∙ open_shown s.cfg is_open.hello (is_open.requests ++ at.body ∷ []) bodies is_open.accepted deals order bodies_now is_open.greets
      ∙ sym (open_shown s.cfg is_open.hello is_open.requests stood.bodies is_open.accepted deals order is_open.bodies_are is_open.greets)

  -- the call is out, after the others
  pub handed_stands_ahead : (call : Call) → call_for asked.request ≡ Some call
      → (s.handed ≡ length ran) × StandsAhead limit (handed_out s asked) input (ran ++ record { call = call; got = None } ∷ []) order output
  handed_stands_ahead call is =
      let given : given_so_far (ran ++ record { call = call; got = None } ∷ []) ≡ given_so_far ran ++ None ∷ [] = map-append (λ (r : HandedAhead). r.got) ran (record { call = call; got = None } ∷ []) in
      let dealt : dealt_ahead (asks bodies) (given_so_far (ran ++ record { call = call; got = None } ∷ [])) ≡ deals ++ last ∷ [] =
      ap (λ (l : List Asked). dealt_ahead l (given_so_far (ran ++ record { call = call; got = None } ∷ []))) now
      ∙ ap (dealt_ahead (asks stood.bodies ++ asked ∷ [])) given
      ∙ dealt_ahead-append (asks stood.bodies) (asked ∷ []) (given_so_far ran) (None ∷ []) as_many
      ∙ ap (λ (c : Option Call). deals ++ deal_ahead asked c (None ∷ []) (dealt_ahead [])) is in
      let from : 0 + calls_among deals ≡ calls_among deals = omega arith in
      let number : 0 + calls_among deals ≡ s.handed = from ∙ calls_dealt (asks stood.bodies) (given_so_far ran) as_many ∙ sym as_many ∙ length-map ran (λ (r : HandedAhead). r.got) ∙ sym stood.count in (
        stood.count,
        stands_by limit (handed_out s asked) input (ran ++ record { call = call; got = None } ∷ []) order output bodies (deals ++ last ∷ []) (record {
          read = reads.read;
          are_bytes = reads.are_bytes;
          handed = map-append (λ (r : HandedAhead). r.call) ran (record { call = call; got = None } ∷ []) ∙ ap (λ (l : List Call). l ++ call ∷ []) stood.handed_out
              ∙ sym (ap calls now ∙ calls-append (asks stood.bodies) (asked ∷ []) ∙ ap (λ (c : Option Call). calls (asks stood.bodies) ++ cons_option c []) is);
          dealt = dealt;
          out = ap (λ (l : List Awaited). l ++ awaited_of s.handed asked ∷ []) stood.out
              ∙ sym (out_among-append 0 deals (last ∷ []) ∙ ap (λ (l : List Awaited). out_among 0 deals ++ l) (ap (λ (n : ℕ). out_among n (last ∷ [])) number ∙ out_one s.handed asked call None [] is));
          count = omega (arith, stood.count, length-append ran (record { call = call; got = None } ∷ []));
          phase = in_open_ahead s.phase terms s.cfg s.desk bodies (deals ++ last ∷ []) at.is_open (record {
            hello = is_open.hello;
            requests = is_open.requests ++ at.body ∷ [];
            bodies_are = bodies_now;
            accepted = is_open.accepted;
            greets = is_open.greets;
            terms_are = is_open.terms_are;
            desk_is = is_open.desk_is ∙ sym (none_given (terms_of terms) (desk_after (terms_of terms) fresh_desk deals) asked call is)
                ∙ sym (replies-append (terms_of terms) fresh_desk deals (last ∷ [])).1;
          });
          alone = alone;
          order_is = order_kept;
          counted = open_counted limit s.phase terms (s.out ++ awaited_of s.handed asked ∷ []) (length s.waiting.frames) (deals ++ last ∷ []) order at.is_open (
            omega (arith, counts, length-append deals (last ∷ []), length-append s.out (awaited_of s.handed asked ∷ [])),
            omega (arith, may_go, ap length idle, length-append s.out (awaited_of s.handed asked ∷ [])),
          );
          each = open_each s.phase terms (deals ++ last ∷ []) order at.is_open (λ place due. elim (due_push deals last place due) [
            | inl before ↦ each_open s.phase terms deals order at.is_open stood.each place before
            | inr here ↦ let not_yet : is_due (Some call) None ≡ true = ap (λ (c : Option Call). is_due c None) (sym is) ∙ here.1 in absurd cc
          ]);
          shows = subst (λ (l : List (List ℕ)). ShowsSoFar l s.waiting output) (sym kept_shown) stood.shows;
        }),
      )

  -- a request without a call is replied at once, after the other replies
  pub settled_stands_ahead : call_for asked.request ≡ None → StandsAhead limit (settled terms s asked) input ran (order ++ length deals ∷ []) output
  settled_stands_ahead is =
      let t : Turn = turn (terms_of terms) s.desk last in
      let frame : List ℕ = reply_frame terms.version t.reply in
      let here : t ≡ turn own (desk_after own fresh_desk deals) last =
      ap (λ (x : Terms). turn x s.desk last) is_open.terms_are ∙ ap (λ (d : Desk). turn own d last) (is_open.desk_is ∙ ap (λ (x : Terms). desk_after x fresh_desk deals) is_open.terms_are) in
      let frame_is : reply_frame is_open.accepted.version (turn own (desk_after own fresh_desk deals) last).reply ≡ frame =
      sym (ap (λ v. reply_frame v t.reply) version_is ∙ ap (λ (x : Turn). reply_frame is_open.accepted.version x.reply) here) in
      let there : slice_get (frames_at s.cfg is_open.accepted.version (deals ++ last ∷ [])) (length deals) ≡ Some frame =
      frame_last s.cfg is_open.accepted.version deals last ∙ ap Some frame_is in
      let dealt : dealt_ahead (asks bodies) (given_so_far ran) ≡ deals ++ last ∷ [] =
      ap (λ (l : List Asked). dealt_ahead l (given_so_far ran)) now ∙ ap (dealt_ahead (asks stood.bodies ++ asked ∷ [])) (sym (append-nil (given_so_far ran)))
      ∙ dealt_ahead-append (asks stood.bodies) (asked ∷ []) (given_so_far ran) [] as_many
      ∙ ap (λ (c : Option Call). deals ++ deal_ahead asked c [] (dealt_ahead [])) is in
      let is_last : slice_get (deals ++ last ∷ []) (length deals) ≡ Some last = at_end deals last [] in
      stands_by limit (settled terms s asked) input ran (order ++ length deals ∷ []) output bodies (deals ++ last ∷ []) (record {
        read = reads.read;
        are_bytes = reads.are_bytes;
        handed = stood.handed_out ∙ sym (ap calls now ∙ calls-append (asks stood.bodies) (asked ∷ []) ∙ ap (λ (c : Option Call). calls (asks stood.bodies) ++ cons_option c []) is ∙ append-nil (calls (asks stood.bodies)));
        dealt = dealt;
        out = stood.out ∙ sym (out_among-append 0 deals (last ∷ []) ∙ ap (λ (l : List Awaited). out_among 0 deals ++ l) (out_none (0 + calls_among deals) asked None [] is) ∙ append-nil (out_among 0 deals));
        count = stood.count;
        phase = in_open_ahead s.phase terms s.cfg t.desk bodies (deals ++ last ∷ []) at.is_open (record {
          hello = is_open.hello;
          requests = is_open.requests ++ at.body ∷ [];
          bodies_are = bodies_now;
          accepted = is_open.accepted;
          greets = is_open.greets;
          terms_are = is_open.terms_are;
          desk_is = ap (λ (d : Desk). (turn (terms_of terms) d last).desk) is_open.desk_is ∙ sym (replies-append (terms_of terms) fresh_desk deals (last ∷ [])).1;
        });
        alone = alone;
        order_is = order_more (deals ++ last ∷ []) [] order (length deals) order_kept (record {
          due = subst IsDue (sym is_last) (ap (λ (c : Option Call). is_due c None) is);
          once = λ before. omega (arith, due_within deals (length deals) (due_in deals [] order (length deals) stood.order_is before));
          behind = λ looks other. (
            λ before. due_within deals other (due_in deals [] order other stood.order_is before),
            λ less. each_open s.phase terms deals order at.is_open stood.each other (all_due 0 deals other (sym stood.out ∙ none (subst LooksAtCursors is_last looks)) less),
          );
        });
        counted = open_counted limit s.phase terms s.out (length (after_push s.waiting frame).frames) (deals ++ last ∷ []) (order ++ length deals ∷ []) at.is_open
            (omega (arith, counts, length-append deals (last ∷ []), length-append order (length deals ∷ [])), omega (arith, may_go, push_alone s.waiting frame idle));
        each = open_each s.phase terms (deals ++ last ∷ []) (order ++ length deals ∷ []) at.is_open (λ place due. elim (due_push deals last place due) [
          | inl before ↦ Contains-append_left order (length deals ∷ []) place (each_open s.phase terms deals order at.is_open stood.each place before)
          | inr here ↦ subst (λ (p : ℕ). Contains (order ++ length deals ∷ []) p) (sym here.0) (Contains-push order (length deals))
        ]);
        shows = one_more_shown (out_ahead s.cfg stood.bodies deals order) (out_ahead s.cfg bodies (deals ++ last ∷ []) (order ++ length deals ∷ [])) s.waiting frame output
            (open_shown_more s.cfg is_open.hello (is_open.requests ++ at.body ∷ []) bodies is_open.accepted (deals ++ last ∷ []) order (length deals) frame bodies_now is_open.greets there
            ∙ ap (λ (l : List (List ℕ)). l ++ frame ∷ []) kept_shown)
            stood.shows;
      })

-- ---- one step

stays : (limit : ℕ) (s : State) (input : List ℕ) (ran : List HandedAhead) (order output : List ℕ) → StandsAhead limit s input ran order output → (more : List ℕ) × (length more ≤ 1) × StandsAhead limit s input ran (order ++ more) output
stays limit s input ran order output stood = ([], omega arith, subst (λ (l : List ℕ). StandsAhead limit s input ran l output) (sym (append-nil order)) stood)

asked_stands_ahead : (limit : ℕ) (s : State) (input : List ℕ) (ran : List HandedAhead) (order output : List ℕ) (terms : HeldTerms) (asked : Asked) (c : Option Call) → IsSound s → coming s ≡ Asks terms asked
    → is_held_up limit s.out (Asks terms asked) ≡ false → StandsAhead limit s input ran order output → call_for asked.request ≡ c
    → StandsAfterAhead limit (asked_ahead terms s asked c).0 (asked_ahead terms s asked c).1 input ran order output
asked_stands_ahead limit s input ran order output terms asked (Some call) sound comes held stood is = handed_stands_ahead s input ran order output limit terms asked sound comes held stood call is
asked_stands_ahead limit s input ran order output terms asked None sound comes held stood is =
    (length (dealt_ahead (asks stood.bodies) (given_so_far ran)) ∷ [], omega arith, settled_stands_ahead s input ran order output limit terms asked sound comes held stood is)

on_stands : (limit : ℕ) (s : State) (input : List ℕ) (ran : List HandedAhead) (order output : List ℕ) (next : Coming) → IsSound s → coming s ≡ next → is_held_up limit s.out next ≡ false
    → StandsAhead limit s input ran order output → StandsAfterAhead limit (step_on s next).0 (step_on s next).1 input ran order output
on_stands limit s input ran order output Replies sound comes held stood = stays limit s input ran order output stood
on_stands limit s input ran order output (Stops end) sound comes held stood = stays limit s input ran order output stood
on_stands limit s input ran order output (Misses missing) sound comes held stood = stays limit s input ran order output stood
on_stands limit s input ran order output (Greets (Ok accepted)) sound comes held stood =
    stays limit (opened accepted.version (crew_manner accepted.version) s) input ran order output (opened_stands_ahead limit s input ran order output (Ok accepted) sound comes (room_left limit s.out (Greets (Ok accepted)) held) stood accepted refl)
on_stands limit s input ran order output (Greets (Err fault)) sound comes held stood =
    stays limit (refused fault s) input ran order output (refused_stands_ahead limit s input ran order output (Err fault) sound comes (room_left limit s.out (Greets (Err fault)) held) stood fault refl)
on_stands limit s input ran order output (Asks terms asked) sound comes held stood = asked_stands_ahead limit s input ran order output terms asked (call_for asked.request) sound comes held stood refl

waits_or_goes : (b : Bool) (limit : ℕ) (s : State) (input : List ℕ) (ran : List HandedAhead) (order output : List ℕ) (next : Coming) → IsSound s → coming s ≡ next → is_held_up limit s.out next ≡ b
    → StandsAhead limit s input ran order output → StandsAfterAhead limit (if b then (steps.Wait, s) else step_on s next).0 (if b then (steps.Wait, s) else step_on s next).1 input ran order output
waits_or_goes true limit s input ran order output next sound comes held stood = stays limit s input ran order output stood
waits_or_goes false limit s input ran order output next sound comes held stood = on_stands limit s input ran order output next sound comes held stood

to_stands : (limit : ℕ) (s : State) (input : List ℕ) (ran : List HandedAhead) (order output : List ℕ) (next : Coming) → IsSound s → coming s ≡ next → StandsAhead limit s input ran order output
    → StandsAfterAhead limit (step_ahead_to limit s next).0 (step_ahead_to limit s next).1 input ran order output
to_stands limit s input ran order output Replies sound comes stood = stays limit s input ran order output stood
to_stands limit s input ran order output (Stops ends.NoMemory) sound comes stood = stays limit s input ran order output stood
to_stands limit s input ran order output (Stops ends.Ended) sound comes stood = waits_or_goes (is_held_up limit s.out (Stops ends.Ended)) limit s input ran order output (Stops ends.Ended) sound comes refl stood
to_stands limit s input ran order output (Stops (ends.Truncated n)) sound comes stood = waits_or_goes (is_held_up limit s.out (Stops (ends.Truncated n))) limit s input ran order output (Stops (ends.Truncated n)) sound comes refl stood
to_stands limit s input ran order output (Stops (ends.BadFrame place len)) sound comes stood =
    waits_or_goes (is_held_up limit s.out (Stops (ends.BadFrame place len))) limit s input ran order output (Stops (ends.BadFrame place len)) sound comes refl stood
to_stands limit s input ran order output (Stops (ends.HelloRefused fault)) sound comes stood =
    waits_or_goes (is_held_up limit s.out (Stops (ends.HelloRefused fault))) limit s input ran order output (Stops (ends.HelloRefused fault)) sound comes refl stood
to_stands limit s input ran order output (Stops ends.ReadFault) sound comes stood = waits_or_goes (is_held_up limit s.out (Stops ends.ReadFault)) limit s input ran order output (Stops ends.ReadFault) sound comes refl stood
to_stands limit s input ran order output (Stops ends.ByteLimit) sound comes stood = waits_or_goes (is_held_up limit s.out (Stops ends.ByteLimit)) limit s input ran order output (Stops ends.ByteLimit) sound comes refl stood
to_stands limit s input ran order output (Stops ends.WriteFault) sound comes stood = waits_or_goes (is_held_up limit s.out (Stops ends.WriteFault)) limit s input ran order output (Stops ends.WriteFault) sound comes refl stood
to_stands limit s input ran order output (Misses missing) sound comes stood = waits_or_goes (is_held_up limit s.out (Misses missing)) limit s input ran order output (Misses missing) sound comes refl stood
to_stands limit s input ran order output (Greets greeting) sound comes stood = waits_or_goes (is_held_up limit s.out (Greets greeting)) limit s input ran order output (Greets greeting) sound comes refl stood
to_stands limit s input ran order output (Asks terms asked) sound comes stood = waits_or_goes (is_held_up limit s.out (Asks terms asked)) limit s input ran order output (Asks terms asked) sound comes refl stood

pub step_stands_ahead : (limit : ℕ) (s : State) (input : List ℕ) (ran : List HandedAhead) (order output : List ℕ) → IsSound s → StandsAhead limit s input ran order output
    → StandsAfterAhead limit (step_ahead limit s).0 (step_ahead limit s).1 input ran order output
step_stands_ahead limit s input ran order output sound stood = to_stands limit s input ran order output (coming s) sound refl stood
