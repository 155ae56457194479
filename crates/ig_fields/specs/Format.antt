-- The format of the fields of a message, and what fields of a format hold.
use Rattle.std.specs.Prelude.{ℕ, ℤ, Bool, List, Option, ◌⊎◌, nat_eq}
use Rattle.std.specs.Ordering.{int_eq}
use Rattle.std.specs.Cmp.Lexicographic.{pointwise}
use Rattle.ig_base.specs.declared.NodeId.{NodeId}
use Rattle.ig_value.specs.declared.Value.{Value}
use Rattle.ig_value.specs.Part.{Scalar, ScalarValue}

-- what tells the items of a list apart: a String, or an Int32
pub data Key : Type 0 where
  name identifier : Key

-- `scalar` is a number or a truth value, and `byte` a byte without a sign; `within n` is an Int32 from
-- 0 to n; `string` is a data object of code 9, `node` one of code 10, and `value` any data object;
-- `both f g` is f and then g; `choice f g` is byte 0 and f, or byte 1 and g; `unless_null f` is a data
-- object and, unless it is null, f; `listed f` is an Int32 count and as many of f; `distinct k f` is an
-- Int32 count and as many of k and f, where no two of k are equal
pub data Format : Type 0 where
  nothing byte string nullable_string node value : Format
  scalar : Scalar → Format
  within : ℕ → Format
  both choice : Format → Format → Format
  unless_null listed : Format → Format
  distinct : Key → Format → Format

abbrev pub KeyValue : Key → Type 0
KeyValue name = List ℕ
KeyValue identifier = ℤ

-- what fields of a format hold
abbrev pub Fields : Format → Type 0
Fields nothing = Unit {0}
Fields byte = ℕ
Fields string = List ℕ
Fields nullable_string = Option (List ℕ)
Fields node = NodeId
Fields value = Value
Fields (scalar k) = ScalarValue k
Fields (within n) = ℤ
Fields (both f g) = Fields f × Fields g
Fields (choice f g) = Fields f ⊎ Fields g
Fields (unless_null f) = Option (Value × Fields f)
Fields (listed f) = List (Fields f)
Fields (distinct k f) = List (KeyValue k × Fields f)

-- the test of whether two keys are equal
abbrev pub is_same_key : (k : Key) → KeyValue k → KeyValue k → Bool
is_same_key name = pointwise nat_eq
is_same_key identifier = int_eq
