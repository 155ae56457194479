-- The bytes between a code and the items.
use Rattle.std.specs.Prelude.{◌≡◌, ℕ, pos, List, ◌++◌, length}
use Rattle.std.proofs.Common.{refl}
use Rattle.std.specs.Int.{w8, w32}
use Rattle.ig_base.specs.Numbers.{LE}
use Rattle.ig_encode.specs.declared.heads.Count.{Count}
use Rattle.ig_encode.specs.declared.heads.Kinded.{Kinded}

-- an Int32 count
abbrev pub count_bytes : Count → List ℕ
count_bytes c = LE w32 (pos c.items)

-- an Int32 count, and a kind
abbrev pub kind_bytes : Kinded → List ℕ
kind_bytes k = LE w32 (pos k.items) ++ LE w8 k.kind

pub wide_count : (c : Count) → length (count_bytes c) ≡ 4
unfolding LE
wide_count c = refl

pub wide_kind : (k : Kinded) → length (kind_bytes k) ≡ 5
unfolding LE
wide_kind k = refl
