use Rattle.std.proofs.Common.{◌≡◌, ℤ, Err, ap, ◌∙◌, rules, to_z, of_z, w64}
use Rattle.ig_wire.specs.declared.ask.AskFault.TheVariants as ask
use Rattle.ig_session.specs.Requests.{asked_said}
use Rattle.ig_session.specs.Comings.{Asks}
use Rattle.ig_session.proofs.LookLemmas.{said_asked}
use Rattle.ig_session.proofs.reading.asked_by.Goals as goal
use Rattle.ig_session.proofs.reading.asked_by.Goals.{in_default-via-in-Err+in-NotMine-1, in_default-via-in-Ok-1}

pub returns-in_default-clause-asks : goal.returns-in_default-clause-asks
returns-in_default-clause-asks c =
    let same : to_z w64 (of_z w64 c.read_request-id.result.0) ≡ c.read_request-id.result.0 = search rules in
    let never : c.read_request-id.result.1 ≡ Err ask.NoMemory → ⊥ = elim c.in_default-1.branch [
      | in_default-via-in-Err+in-NotMine-1 w ↦ λ e. search (rules, e)
      | in_default-via-in-Ok-1 w ↦ λ e. search (rules, e)
    ] in
    ap (λ (i : ℤ). Asks c.args.terms (asked_said i c.read_request-id.result.1)) same
    ∙ ap (Asks c.args.terms) (said_asked c.args.terms.version c.args.body.now c.read_request-id.result.0 c.read_request-id.result.1 c.read_request-id.ensures.id never c.read_request-id.ensures.asked)
