use Rattle.std.proofs.Common.{List, ℕ, ap, ◌∙◌}
use Rattle.ig_meta.specs.TypeViews.{type_written}
use Rattle.ig_meta.proofs.asks.put_fields.Goals as goal

pub returns-in-Create : goal.returns-in-Create
returns-in-Create g c = rw c.in-Create.is c.put.ensures

pub returns-in-GetOrCreate : goal.returns-in-GetOrCreate
returns-in-GetOrCreate g c = rw c.in-GetOrCreate.is c.put-in-GetOrCreate.ensures

pub returns-in-Destroy : goal.returns-in-Destroy
returns-in-Destroy g c = rw c.in-Destroy.is c.put-in-Destroy.ensures

pub returns-in-TypeName : goal.returns-in-TypeName
returns-in-TypeName g c = rw c.in-TypeName.is c.put_type_on.ensures

pub returns-in-SetTypeName : goal.returns-in-SetTypeName
returns-in-SetTypeName g c = rw c.in-SetTypeName.is c.put_type_name.ensures

pub returns-in-TypeOf : goal.returns-in-TypeOf
returns-in-TypeOf g c = rw c.in-TypeOf.is c.put-in-TypeOf.ensures

pub returns-in-PutType : goal.returns-in-PutType
returns-in-PutType g c = rw c.in-PutType.is (c.put-in-PutType.ensures ∙ ap (λ (l : List ℕ). g.S.Output.after c.args.out.now c.args.into.now l) (type_written c.in-PutType.meta))
