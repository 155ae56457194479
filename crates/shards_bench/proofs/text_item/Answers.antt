use Rattle.std.proofs.Common.{◌≡◌, ℕ, ◌+◌, ◌<◌, pos, suc, List, length, length-append, ap, ◌∙◌, arith, rules}
use Rattle.std.specs.Int.{w32}
use Rattle.ig_base.specs.Numbers.{LE}
use Rattle.ig_base.proofs.NumberLemmas.{length-LE_32}
use Rattle.ig_value.proofs.FoldLemmas.{Canon_out}
use Rattle.ig_value.specs.declared.value.Value.{Value}
use Rattle.ig_value.specs.declared.value.Value.TheVariants as value
use Rattle.ig_value.specs.Canon.{Canon, layer_bytes}
use Rattle.ig_value.specs.Limits.{Fits}
use Rattle.shards_bench.proofs.text_item.Goals as goal

-- a code, four bytes of length, and the bytes
long : (x : List ℕ) → length (Canon (value.Str x)) ≡ suc (length (LE w32 (pos (length x))) + length x)
long x = ap length (Canon_out (value.Str x) ∙ ap (layer_bytes Canon) (value.outs-Str x)) ∙ ap (λ n. suc n) (length-append (LE w32 (pos (length x))) x)

pub returns-2 : goal.returns-2
returns-2 c =
    let fits : Fits (value.Str c.args.text) = search rules in
    record { present = λ e. cc; fits = fits; sendable = omega (arith, long c.args.text, length-LE_32 (pos (length c.args.text)), c.requires) }
