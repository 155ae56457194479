use Rattle.std.proofs.Common.{sym, ap, subst, [], arith}
use Rattle.ig_turn.specs.declared.view.View.{View}
use Rattle.ig_turn.specs.Steps.{IsAtRest, IsWholeView}
use Rattle.ig_turn.proofs.OpeningLemmas.{rest_opened, whole_opened}
use Rattle.ig_turn.proofs.turn.Turn.new.Goals as goal

pub invariant_of-result : goal.invariant_of-result
invariant_of-result g c = let start = g.O.Plain.start_of c.args.object in let me = c.in_ok-desk.ensures.place.1 in (
  ap (λ m. m.0.number) (sym me),
  ap (λ m. m.1) me,
  subst (λ (v : View g.row.O-Start.Denot g.row.O-AskData.Denot g.row.O-GotData.Denot). IsAtRest g.O.Plain.runs v) (λ i. (sym me i).0)
      (rest_opened g.O.Plain.runs start (g.met.O.Plain.stands_runs c.args.object start [] c.requires)),
)

pub returns-clause-whole : goal.returns-clause-whole
returns-clause-whole g c = let me = c.in_ok-desk.ensures.place.1 in
    subst (λ (v : View g.row.O-Start.Denot g.row.O-AskData.Denot g.row.O-GotData.Denot). IsWholeView v) (λ i. (sym me i).0) (whole_opened, omega arith)
