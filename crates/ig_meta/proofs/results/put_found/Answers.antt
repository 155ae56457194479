use Rattle.std.proofs.Common.{List, ℕ, [], ◌∷◌, ap, ◌∙◌}
use Rattle.ig_encode.proofs.OutputLemmas.{two}
use Rattle.ig_fields.specs.FieldBytes.{fields_bytes}
use Rattle.ig_meta.specs.TypeFields.{type_format, fields_of_type}
use Rattle.ig_meta.specs.TypeViews.{type_written}
use Rattle.ig_meta.proofs.results.put_found.Goals as goal

pub returns-in-Some : goal.returns-in-Some
returns-in-Some g c =
    rw c.in-Some.is
    (two g.S.Output.after g.met.S.Output.longer c.args.out.now c.args.into.now (1 ∷ []) (fields_bytes type_format (fields_of_type c.in-Some.meta)) (c.put_byte-in-Some.new.out, c.put_byte-in-Some.new.into) (c.put.new.out, c.put.new.into) c.put_byte-in-Some.ensures
    (c.put.ensures ∙ ap (λ (l : List ℕ). g.S.Output.after c.put_byte-in-Some.new.out c.put_byte-in-Some.new.into l) (type_written c.in-Some.meta)))
