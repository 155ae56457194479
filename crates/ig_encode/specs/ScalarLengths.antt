-- The number of bytes of each scalar.
use Rattle.std.specs.Prelude.{◌≡◌, ℕ, ℤ, Bool, true, false, length}
use Rattle.std.proofs.Common.{refl}
use Rattle.ig_base.specs.Numbers.{LE}
use Rattle.ig_value.specs.Part.{i8, i16, i32, i64, u16, u32, u64, truth}
use Rattle.ig_value.specs.Spells.{scalar_bytes}

pub wide_i8 : (x : ℤ) → length (scalar_bytes i8 x) ≡ 1
unfolding LE
wide_i8 x = refl

pub wide_i16 : (x : ℤ) → length (scalar_bytes i16 x) ≡ 2
unfolding LE
wide_i16 x = refl

pub wide_i32 : (x : ℤ) → length (scalar_bytes i32 x) ≡ 4
unfolding LE
wide_i32 x = refl

pub wide_i64 : (x : ℤ) → length (scalar_bytes i64 x) ≡ 8
unfolding LE
wide_i64 x = refl

pub wide_u16 : (x : ℕ) → length (scalar_bytes u16 x) ≡ 2
unfolding LE
wide_u16 x = refl

pub wide_u32 : (x : ℕ) → length (scalar_bytes u32 x) ≡ 4
unfolding LE
wide_u32 x = refl

pub wide_u64 : (x : ℕ) → length (scalar_bytes u64 x) ≡ 8
unfolding LE
wide_u64 x = refl

pub wide_truth : (x : Bool) → length (scalar_bytes truth x) ≡ 1
wide_truth true = refl
wide_truth false = refl
