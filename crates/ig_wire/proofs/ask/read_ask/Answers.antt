use Rattle.std.proofs.Common.{◌≡◌, ◌∙◌, ap, List, ℕ, ℤ, pos, Option, sym, drop}
use Rattle.std.specs.Prelude.{unwrap_or}
use Rattle.std.proofs.Common.{to_z, of_z}
use Rattle.std.proofs.lemmas.Int.{to_z-of_z}
use Rattle.std.specs.Int.{w16, w64}
use Rattle.ig_base.specs.Numbers.{number_at}
use Rattle.ig_wire.proofs.WriteLemmas.{ask_parts}
use Rattle.ig_wire.proofs.ask.read_ask.Goals as goal

pub returns-clause-only : goal.returns-clause-only
returns-clause-only c operation id fields a b e =
    let parts = ask_parts operation id fields a b in
    let first : c.unwrap_or-operation.result ≡ operation =
    c.unwrap_or-operation.ensures ∙ ap (λ (o : Option ℤ). unwrap_or o (pos 0)) (c.get_i16.ensures.exact ∙ ap (λ (l : List ℕ). number_at w16 l 0) e ∙ parts.0) in
    let second : c.unwrap_or-id.result ≡ id = c.unwrap_or-id.ensures ∙ ap (λ (o : Option ℤ). unwrap_or o (pos 0)) (c.get_i64.ensures.exact ∙ ap (λ (l : List ℕ). number_at w64 l 2) e ∙ parts.1) in (
      ap (λ (z : ℤ). to_z w16 (of_z w16 z)) first ∙ to_z-of_z w16 operation a,
      ap (λ (z : ℤ). to_z w64 (of_z w64 z)) second ∙ to_z-of_z w64 id b,
      sym parts.2 ∙ sym (ap (λ (l : List ℕ). drop 10 l) e),
    )
