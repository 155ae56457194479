-- What is remembered of a request whose call is out is all that its reply depends on.
use Rattle.std.proofs.Common.{◌≡◌, ℕ, ℤ, List, Some, Result, Ok, Err, refl, ap, ◌∙◌}
use Rattle.ig_wire.specs.declared.head.Fault.{Fault}
use Rattle.ig_caches.specs.declared.call.Call.{Call}
use Rattle.ig_caches.specs.declared.call.Call.TheVariants as call
use Rattle.ig_caches.specs.declared.answer.Outcome.{Outcome}
use Rattle.ig_caches.specs.declared.answer.Outcome.TheVariants as outcome
use Rattle.ig_caches.specs.declared.request.Request.{Request}
use Rattle.ig_caches.specs.declared.request.Request.TheVariants as request
use Rattle.ig_parts.specs.ServedMap.{served_map}
use Rattle.ig_deals.specs.declared.cfg.SessionCfg.{SessionCfg}
use Rattle.ig_deals.specs.Asks.{Asked}
use Rattle.ig_deals.specs.Deals.{Got, Had, NoMemory, call_in, call_for}
use Rattle.ig_deals.specs.Desk.{Desk}
use Rattle.ig_deals.specs.Replies.{Content, Maps}
use Rattle.ig_deals.specs.Telling.{topology}
use Rattle.ig_deals.specs.Turns.{Terms, caches_in, content_of, answers, run_turn, request_turn, turn_for, turn}
use Rattle.ig_session.specs.Awaiting.{awaits_of, request_of, awaits_in, awaited_of, deal_of}

-- the call that stands for a call that is out: it has the same caches
abbrev kept : Call → Call
kept (call.Affinity caches) = call.Affinity caches
kept c = call.Names

kept_both : (c : Call) → (request_of (awaits_of (request.Run c)) ≡ request.Run (kept c)) × (caches_in (kept c) ≡ caches_in c)
kept_both (call.Get cache key) = (refl, refl)
kept_both (call.GetAndRemove cache key) = (refl, refl)
kept_both (call.ContainsKey cache key) = (refl, refl)
kept_both (call.ClearKey cache key) = (refl, refl)
kept_both (call.RemoveKey cache key) = (refl, refl)
kept_both (call.Put cache key value) = (refl, refl)
kept_both (call.PutIfAbsent cache key value) = (refl, refl)
kept_both (call.GetAndPut cache key value) = (refl, refl)
kept_both (call.GetAndReplace cache key value) = (refl, refl)
kept_both (call.GetAndPutIfAbsent cache key value) = (refl, refl)
kept_both (call.Replace cache key value) = (refl, refl)
kept_both (call.ReplaceIfEquals cache key wanted value) = (refl, refl)
kept_both (call.RemoveIfEquals cache key wanted) = (refl, refl)
kept_both (call.GetAll cache keys) = (refl, refl)
kept_both (call.ContainsKeys cache keys) = (refl, refl)
kept_both (call.ClearKeys cache keys) = (refl, refl)
kept_both (call.RemoveKeys cache keys) = (refl, refl)
kept_both (call.PutAll cache pairs) = (refl, refl)
kept_both (call.Clear cache) = (refl, refl)
kept_both (call.RemoveAll cache) = (refl, refl)
kept_both (call.Scan cache) = (refl, refl)
kept_both (call.Size cache modes) = (refl, refl)
kept_both call.Names = (refl, refl)
kept_both (call.Create name) = (refl, refl)
kept_both (call.GetOrCreate name) = (refl, refl)
kept_both (call.Destroy cache) = (refl, refl)
kept_both (call.TypeName platform id) = (refl, refl)
kept_both (call.SetTypeName platform id name) = (refl, refl)
kept_both (call.TypeOf id) = (refl, refl)
kept_both (call.PutType meta) = (refl, refl)
kept_both (call.Affinity caches) = (refl, refl)

-- a content depends on the call by the caches of partition maps alone
kept_content : (cfg : SessionCfg) (c : Call) (minor : ℤ) (o : Outcome) → content_of cfg (kept c) minor o ≡ content_of cfg c minor o
kept_content cfg c minor outcome.Done = refl
kept_content cfg c minor (outcome.Found v) = refl
kept_content cfg c minor (outcome.Yes b) = refl
kept_content cfg c minor (outcome.Pairs rows) = refl
kept_content cfg c minor (outcome.Count n) = refl
kept_content cfg c minor (outcome.Names names) = refl
kept_content cfg c minor (outcome.Name name) = refl
kept_content cfg c minor (outcome.Meta meta) = refl
kept_content cfg c minor (outcome.Keys pairs) = ap (λ (caches : List ℤ). Maps (served_map (topology minor) cfg.nodes cfg.parts caches pairs)) (kept_both c).1
kept_content cfg c minor (outcome.Refused why) = refl

kept_run : (terms : Terms) (desk : Desk) (id : ℤ) (c : Call) (got : Got) → run_turn terms desk id (kept c) (Some got) ≡ run_turn terms desk id c (Some got)
kept_run terms desk id c (Had answer) = ap (λ (x : Content). answers terms desk id answer.minor x) (kept_content terms.cfg c answer.minor answer.outcome)
kept_run terms desk id c NoMemory = refl

kept_turn_of : (terms : Terms) (desk : Desk) (id : ℤ) (r : Request) (c : Call) (got : Got) → call_in r ≡ Some c
    → request_turn terms desk id (request_of (awaits_of r)) (Some got) ≡ request_turn terms desk id r (Some got)
kept_turn_of terms desk id (request.Run call) c got is =
    ap (λ (r : Request). request_turn terms desk id r (Some got)) (kept_both call).0 ∙ kept_run terms desk id call got
kept_turn_of terms desk id (request.Scan cache page) c got is = refl
kept_turn_of terms desk id (request.NextPage cursor) c got is = absurd cc
kept_turn_of terms desk id (request.Close resource) c got is = absurd cc

kept_turn_for : (terms : Terms) (desk : Desk) (id : ℤ) (asked : Result Request Fault) (c : Call) (got : Got) → call_for asked ≡ Some c
    → turn_for terms desk id (Ok (request_of (awaits_in asked))) (Some got) ≡ turn_for terms desk id asked (Some got)
kept_turn_for terms desk id (Ok r) c got is = kept_turn_of terms desk id r c got is
kept_turn_for terms desk id (Err fault) c got is = absurd cc

-- the turn of the remembered request is that of the request
pub kept_turn : (terms : Terms) (desk : Desk) (nth : ℕ) (asked : Asked) (c : Call) (got : Got) → call_for asked.request ≡ Some c
    → turn terms desk (deal_of (awaited_of nth asked) got) ≡ turn terms desk (record { asked = asked; got = Some got })
unfolding turn
kept_turn terms desk nth asked c got is = kept_turn_for terms desk asked.id asked.request c got is
