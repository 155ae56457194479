use Rattle.std.proofs.Common.{List, ℕ, [], ap, sym, ◌∙◌}
use Rattle.ig_wire.proofs.AgreeLemmas.{ok_is}
use Rattle.ig_fields.specs.Format.{Format, Fields}
use Rattle.ig_fields.proofs.FormatLemmas.{fields_read}
use Rattle.ig_fields.proofs.WrittenLemmas.{fields_written}
use Rattle.ig_fields.proofs.FitsLemmas.{fields_fit}
use Rattle.ig_fields.proofs.laws.fields_agree.Goals as goal

pub returns-clause-spelled : goal.returns-clause-spelled
returns-clause-spelled c f s rest x bytes e = let t = (fields_read f).takes s x rest bytes e in (t.prefix, t.whole, t.right)

pub returns-clause-read : goal.returns-clause-read
returns-clause-read c f prefix rest x h = (fields_read f).again prefix x rest h

pub returns-clause-stops : goal.returns-clause-stops
returns-clause-stops c f s left bytes e = let h = (fields_read f).halts s left bytes e in (h.at, h.there, h.wrong)

pub returns-clause-stopped : goal.returns-clause-stopped
returns-clause-stopped c f s at w = let h = (fields_read f).halted s at w in (h.left, h.there, h.is)

pub returns-clause-written : goal.returns-clause-written
returns-clause-written c f x h = fields_written f x h

pub returns-clause-fit : goal.returns-clause-fit
returns-clause-fit c f s x small h = fields_fit f s x small h

abbrev bare : (f : Format) → Fields f → Fields f × List ℕ
bare f x = (x, [])

pub returns-clause-apart : goal.returns-clause-apart
returns-clause-apart c f s x y h k =
    let first = (fields_read f).again s x [] h in
    let second = (fields_read f).again s y [] k in
    ap (λ (z : Fields f × List ℕ). z.0) (ok_is (bare f x) (bare f y) (sym first ∙ second))
