use Rattle.std.proofs.Common.{arith, rules}
use Rattle.ig_base.specs.Numbers.{AreBytes}
use Rattle.ig_fields.specs.ShowsRightly.{shown_by}
use Rattle.ig_fields.specs.ShownAnswers.{ShowsAs}
use Rattle.ig_parts.specs.PartsMessages.{map_form}
use Rattle.ig_parts.proofs.MessageLemmas.{map_is_right, read_has_parts}
use Rattle.ig_parts.proofs.messages.read_parts.Goals as goal

pub returns-clause-reads : goal.returns-clause-reads
returns-clause-reads c = c.read_shown.ensures (λ m. m) (λ x y p. search rules)

pub returns-clause-right : goal.returns-clause-right
returns-clause-right c =
    let bytes : AreBytes c.args.body.now = λ i. omega (arith, c.type_inv.body i) in
    let reads : ShowsAs (shown_by map_form c.args.body.now c.args.at) c.read_shown.result = c.read_shown.ensures (λ m. m) (λ x y p. search rules) in
    map_is_right c.args.body.now c.args.at c.read_shown.result bytes c.requires reads

pub returns-clause-parts : goal.returns-clause-parts
returns-clause-parts c =
    let bytes : AreBytes c.args.body.now = λ i. omega (arith, c.type_inv.body i) in
    let reads : ShowsAs (shown_by map_form c.args.body.now c.args.at) c.read_shown.result = c.read_shown.ensures (λ m. m) (λ x y p. search rules) in
    read_has_parts c.args.body.now c.args.at c.read_shown.result (map_is_right c.args.body.now c.args.at c.read_shown.result bytes c.requires reads)
