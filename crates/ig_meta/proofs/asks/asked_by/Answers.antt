use Rattle.std.proofs.Common.{rules, None}
use Rattle.ig_caches.specs.declared.Call.TheVariants as call
use Rattle.ig_caches.specs.declared.Request.TheVariants.{Run}
use Rattle.ig_meta.specs.Requests.{name_profile}
use Rattle.ig_meta.proofs.asks.asked_by.Goals as goal

pub returns-in-CacheNames : goal.returns-in-CacheNames
returns-in-CacheNames c = rw c.in-CacheNames.is (c.read_asked.ensures (λ x. Run call.Names) (λ x. None) (λ x y p. search rules))

pub returns-in-Create : goal.returns-in-Create
returns-in-Create c = rw c.in-Create.is (c.read_asked-in-Create.ensures (λ x. Run (call.Create x)) name_profile (λ x y p. search rules))

pub returns-in-GetOrCreate : goal.returns-in-GetOrCreate
returns-in-GetOrCreate c = rw c.in-GetOrCreate.is (c.read_asked-in-GetOrCreate.ensures (λ x. Run (call.GetOrCreate x)) name_profile (λ x y p. search rules))

pub returns-in-Destroy : goal.returns-in-Destroy
returns-in-Destroy c = rw c.in-Destroy.is (c.read_asked-in-Destroy.ensures (λ x. Run (call.Destroy x)) (λ x. None) (λ x y p. search rules))

pub returns-in-GetTypeName : goal.returns-in-GetTypeName
returns-in-GetTypeName c = rw c.in-GetTypeName.is (c.read_asked-in-GetTypeName.ensures (λ x. Run (call.TypeName x.0 x.1)) (λ x. None) (λ x y p. search rules))

pub returns-in-RegisterTypeName : goal.returns-in-RegisterTypeName
returns-in-RegisterTypeName c = rw c.in-RegisterTypeName.is (c.read_asked-in-RegisterTypeName.ensures (λ x. Run (call.SetTypeName x.0.0 x.0.1 x.1)) (λ x. None) (λ x y p. search rules))

pub returns-in-GetType : goal.returns-in-GetType
returns-in-GetType c = rw c.in-GetType.is (c.read_asked-in-GetType.ensures (λ x. Run (call.TypeOf x)) (λ x. None) (λ x y p. search rules))

pub returns-in-PutType : goal.returns-in-PutType
returns-in-PutType c = rw c.in-PutType.is (c.read_asked-in-PutType.ensures (λ x. Run (call.PutType x)) (λ x. None) (λ x y p. search rules))
