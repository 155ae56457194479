-- What is remembered of a request while its call is out.
use Rattle.std.proofs.Common.{◌≡◌, ℤ, List, refl, sym, ap, ◌∙◌}
use Rattle.ig_caches.specs.declared.call.Call.{Call}
use Rattle.ig_caches.specs.declared.call.Call.TheVariants as call
use Rattle.ig_caches.specs.declared.request.Request.TheVariants.{Run}
use Rattle.ig_session.specs.declared.awaited.Awaits.TheVariants as await
use Rattle.ig_session.specs.Awaiting.{awaits_of}

-- of a call for partition maps the caches
pub awaits_maps : (c : Call) (caches copies : List ℤ) → c ≡ call.Affinity caches → copies ≡ caches → await.Maps copies ≡ awaits_of (Run c)
awaits_maps c caches copies is same = ap await.Maps same ∙ sym (ap (λ (x : Call). awaits_of (Run x)) is)

-- of another call nothing
pub awaits_other : (c : Call) → ((caches : List ℤ) → c ≡ call.Affinity caches → ⊥) → await.Answer ≡ awaits_of (Run c)
awaits_other (call.Get cache key) never = refl
awaits_other (call.GetAndRemove cache key) never = refl
awaits_other (call.ContainsKey cache key) never = refl
awaits_other (call.ClearKey cache key) never = refl
awaits_other (call.RemoveKey cache key) never = refl
awaits_other (call.Put cache key value) never = refl
awaits_other (call.PutIfAbsent cache key value) never = refl
awaits_other (call.GetAndPut cache key value) never = refl
awaits_other (call.GetAndReplace cache key value) never = refl
awaits_other (call.GetAndPutIfAbsent cache key value) never = refl
awaits_other (call.Replace cache key value) never = refl
awaits_other (call.ReplaceIfEquals cache key wanted value) never = refl
awaits_other (call.RemoveIfEquals cache key wanted) never = refl
awaits_other (call.GetAll cache keys) never = refl
awaits_other (call.ContainsKeys cache keys) never = refl
awaits_other (call.ClearKeys cache keys) never = refl
awaits_other (call.RemoveKeys cache keys) never = refl
awaits_other (call.PutAll cache pairs) never = refl
awaits_other (call.Clear cache) never = refl
awaits_other (call.RemoveAll cache) never = refl
awaits_other (call.Scan cache) never = refl
awaits_other (call.Size cache modes) never = refl
awaits_other call.Names never = refl
awaits_other (call.Create name) never = refl
awaits_other (call.GetOrCreate name) never = refl
awaits_other (call.Destroy cache) never = refl
awaits_other (call.TypeName platform id) never = refl
awaits_other (call.SetTypeName platform id name) never = refl
awaits_other (call.TypeOf id) never = refl
awaits_other (call.PutType meta) never = refl
awaits_other (call.Affinity caches) never = absurd (never caches refl)
