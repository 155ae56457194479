use Rattle.std.proofs.Common.{◌≡◌, ℤ, suc, length, FitsSigned, w32, to_z, of_z, ap, sym, subst, ◌∙◌, arith}
use Rattle.std.proofs.lemmas.Int.{to_z-of_z}
use Rattle.ig_base.proofs.NumberLemmas.{length-LE_32}
use Rattle.ig_value.proofs.FoldLemmas.{Canon_out}
use Rattle.ig_value.specs.declared.value.Value.{Value}
use Rattle.ig_value.specs.declared.value.Value.TheVariants as value
use Rattle.ig_value.specs.declared.value.Value.TheOpen.{Value-F}
use Rattle.ig_value.specs.Canon.{Canon, layer_bytes}
use Rattle.ig_value.specs.Limits.{Fits, FitsPart, FitsTo}
use Rattle.ig_value.specs.Table.{content, parts}
use Rattle.shards_bench.proofs.int_item.Goals as goal

-- a code and four bytes
long : (x : ℤ) → length (Canon (value.Int x)) ≡ 5
long x = ap length (Canon_out (value.Int x) ∙ ap (layer_bytes Canon) (value.outs-Int x)) ∙ ap (λ n. suc n) (length-LE_32 x)

fits : (x : ℤ) → FitsSigned w32 x → Fits (value.Int x)
unfolding Fits
fits x range = subst (λ (o : Value-F Value). FitsPart (FitsTo 31) (content (parts o).0) (parts o).1) (sym (value.outs-Int x)) range

pub returns : goal.returns
returns c =
    let x : ℤ = to_z w32 (of_z w32 c.args.number) in
    let range : FitsSigned w32 x = subst (FitsSigned w32) (sym (to_z-of_z w32 c.args.number c.ranges.number)) c.ranges.number in
    record { present = λ e. cc; fits = fits x range; sendable = omega (arith, long x) }
