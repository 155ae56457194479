-- Frames of bodies whose length is known.
use Rattle.std.proofs.Common.{◌≡◌, ℕ, ◌+◌, pos, List, ◌++◌, length, ap, arith, length-append}
use Rattle.std.specs.Int.{w32}
use Rattle.ig_base.specs.Numbers.{LE}
use Rattle.ig_base.specs.Frames.{Frame}

-- a length is four bytes
pub framed_length : (n : ℕ) (body : List ℕ) → n ≡ length body → 4 + n ≡ length (LE w32 (pos n) ++ body)
unfolding LE
framed_length n body e = omega (arith, e, length-append (LE w32 (pos n)) body)

pub framed_is : (n : ℕ) (body : List ℕ) → n ≡ length body → LE w32 (pos n) ++ body ≡ Frame body
unfolding Frame
framed_is n body e = ap (λ (k : ℕ). LE w32 (pos k) ++ body) e
