use Rattle.std.proofs.Common.{sym, ap, drop, ◌-◌, ◌∙◌}
use Rattle.ig_decode.proofs.ObjectAtLemmas.{rest_of_parts}
use Rattle.ig_decode.proofs.object.parts_of.Goals as goal

pub returns-clause-rest : goal.returns-clause-rest
returns-clause-rest c =
    c.split_at-3.ensures.back ∙ ap (drop (c.args.layout.now.length - c.args.layout.now.schema_at)) (c.split_at-2.ensures.back ∙ ap (drop (c.args.layout.now.schema_at - 24)) c.split_at.ensures.back)
    ∙ rest_of_parts c.args.bytes.now c.args.layout.now.schema_at c.args.layout.now.length c.requires.fields c.requires.footer
