-- The parts that a value's content is made of, and what each of them holds.
use Rattle.std.specs.Prelude.{ℕ, ℤ, Bool, List, Option}
use Rattle.ig_base.specs.declared.NodeId.{NodeId}
use Rattle.ig_value.specs.declared.code.Code.{Code}
use Rattle.ig_value.specs.declared.value.Dec.{Dec}
use Rattle.ig_value.specs.declared.object.Record.{Record}
use Rattle.ig_value.specs.declared.value.Stamp.{Stamp}

-- a number or a truth value, by its type
pub data Scalar : Type 0 where
  i8 i16 i32 i64 u16 u32 u64 truth : Scalar

abbrev pub ScalarValue : Scalar → Type 0
ScalarValue i8 = ℤ
ScalarValue i16 = ℤ
ScalarValue i32 = ℤ
ScalarValue i64 = ℤ
ScalarValue u16 = ℕ
ScalarValue u32 = ℕ
ScalarValue u64 = ℕ
ScalarValue truth = Bool

-- `value` is a value inside, one level deeper; `both p q` is p and then q; `counted p q` is an
-- Int32 count, p, and as many of q as the count says; `optional c p` is the code of null, or the
-- code c and then p; `object` is what follows the code of an object
pub data Part : Type 0 where
  nothing : Part
  scalar : Scalar → Part
  text octets uuid stamp decimal value object : Part
  both counted : Part → Part → Part
  optional : Code → Part → Part

-- an Int32 count, and as many of p
abbrev pub array : Part → Part
array p = counted nothing p

-- what a part holds, where a value inside is an X
abbrev pub Content : Type 0 → Part → Type 0
Content X nothing = Unit {0}
Content X (scalar k) = ScalarValue k
Content X text = List ℕ
Content X octets = List ℕ
Content X uuid = NodeId
Content X stamp = Stamp
Content X decimal = Dec
Content X value = X
Content X object = Record X
Content X (both p q) = Content X p × Content X q
Content X (counted p q) = Content X p × List (Content X q)
Content X (optional c p) = Option (Content X p)
