use Rattle.std.proofs.Common.{refl}
use Rattle.ig_value.specs.declared.Code.TheVariants as code
use Rattle.ig_encode.specs.ScalarLengths.{wide_i8, wide_i16, wide_i32, wide_i64, wide_u16, wide_u32, wide_u64, wide_truth}
use Rattle.ig_encode.proofs.LengthLemmas.{row_length, wide_uuid, wide_stamp, wide_two}
use Rattle.ig_encode.proofs.leaf_len.fixed_len.Goals as goal

pub returns-in-Byte : goal.returns-in-Byte
returns-in-Byte c = row_length c.args.value.now code.Byte c.in-Byte.field-0 1 c.in-Byte.is (wide_i8 c.in-Byte.field-0)

pub returns-in-Short : goal.returns-in-Short
returns-in-Short c = row_length c.args.value.now code.Short c.in-Short.field-0 2 c.in-Short.is (wide_i16 c.in-Short.field-0)

pub returns-in-Int : goal.returns-in-Int
returns-in-Int c = row_length c.args.value.now code.Int c.in-Int.field-0 4 c.in-Int.is (wide_i32 c.in-Int.field-0)

pub returns-in-Long : goal.returns-in-Long
returns-in-Long c = row_length c.args.value.now code.Long c.in-Long.field-0 8 c.in-Long.is (wide_i64 c.in-Long.field-0)

pub returns-in-Float : goal.returns-in-Float
returns-in-Float c = row_length c.args.value.now code.Float c.in-Float.field-0 4 c.in-Float.is (wide_u32 c.in-Float.field-0)

pub returns-in-Double : goal.returns-in-Double
returns-in-Double c = row_length c.args.value.now code.Double c.in-Double.field-0 8 c.in-Double.is (wide_u64 c.in-Double.field-0)

pub returns-in-Char : goal.returns-in-Char
returns-in-Char c = row_length c.args.value.now code.Char c.in-Char.field-0 2 c.in-Char.is (wide_u16 c.in-Char.field-0)

pub returns-in-Bool : goal.returns-in-Bool
returns-in-Bool c = row_length c.args.value.now code.Bool c.in-Bool.field-0 1 c.in-Bool.is (wide_truth c.in-Bool.field-0)

pub returns-in-Uuid : goal.returns-in-Uuid
returns-in-Uuid c = row_length c.args.value.now code.Uuid c.in-Uuid.field-0 16 c.in-Uuid.is (wide_uuid c.in-Uuid.field-0)

pub returns-in-Date : goal.returns-in-Date
returns-in-Date c = row_length c.args.value.now code.Date c.in-Date.field-0 8 c.in-Date.is (wide_i64 c.in-Date.field-0)

pub returns-in-Enum : goal.returns-in-Enum
returns-in-Enum c = row_length c.args.value.now code.Enum (c.in-Enum.type_id, c.in-Enum.ordinal) 8 c.in-Enum.is (wide_two c.in-Enum.type_id c.in-Enum.ordinal)

pub returns-in-Timestamp : goal.returns-in-Timestamp
returns-in-Timestamp c = row_length c.args.value.now code.Timestamp c.in-Timestamp.field-0 12 c.in-Timestamp.is (wide_stamp c.in-Timestamp.field-0)

pub returns-in-Time : goal.returns-in-Time
returns-in-Time c = row_length c.args.value.now code.Time c.in-Time.field-0 8 c.in-Time.is (wide_i64 c.in-Time.field-0)

pub returns-in-BinaryEnum : goal.returns-in-BinaryEnum
returns-in-BinaryEnum c = row_length c.args.value.now code.BinaryEnum (c.in-BinaryEnum.type_id, c.in-BinaryEnum.ordinal) 8 c.in-BinaryEnum.is (wide_two c.in-BinaryEnum.type_id c.in-BinaryEnum.ordinal)

pub returns-in-Null : goal.returns-in-Null
returns-in-Null c = row_length c.args.value.now code.Null tt 0 c.in-Null.is refl
