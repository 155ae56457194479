use Rattle.std.proofs.Common.{List, ℕ, ◌+◌, [], ◌∷◌, refl, ap, ◌∙◌, arith}
use Rattle.ig_value.specs.Table.{byte_of}
use Rattle.ig_encode.specs.Splice.{splice}
use Rattle.ig_encode.proofs.OutputLemmas.{placed, spliced_next}
use Rattle.ig_encode.proofs.coded.put_scalar.Goals as goal

pub returns-in-Some : goal.returns-in-Some
returns-in-Some g c =
    let wide = g.met.E.WriteElement.wide c.args.element.now in
    let code : List ℕ = byte_of c.args.code ∷ [] in
    let bytes : List ℕ = byte_of c.args.code ∷ g.E.Spell.bytes c.args.element.now in
    placed g.S.Output.after c.args.out.now c.args.out.now c.place.new.self c.args.into.now c.in-Some.at bytes c.write_at.new.into refl
    (c.in-Some.ensures.placed c.args.into.now bytes refl (omega (arith, wide, c.width-width.ensures.count)))
    (spliced_next c.args.into.now c.in-Some.at (c.in-Some.at + 1) code (g.E.Spell.bytes c.args.element.now) c.copy_at.new.into c.write_at.new.into (omega (arith, c.in-Some.ensures.fits)) refl
    (c.copy_at.ensures ∙ ap (λ (n : ℕ). splice c.args.into.now c.in-Some.at (n ∷ [])) c.byte.ensures) c.write_at.ensures)
