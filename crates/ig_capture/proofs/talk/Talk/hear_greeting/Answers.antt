use Rattle.std.proofs.Common.{sym, ◌∙◌}
use Rattle.ig_capture.proofs.TurnLemmas.{unspoken_accepted, greeting_stops, greeting_heard}
use Rattle.ig_capture.proofs.talk.Talk.hear_greeting.Goals as goal

pub returns-then-accepts_unspoken : goal.returns-then-accepts_unspoken
returns-then-accepts_unspoken c = unspoken_accepted c.args.self.now c.args.version c.args.place c.args.body.now (sym c.accepts_unspoken.ensures ∙ c.if-accepts_unspoken.true)

pub returns-in-Err : goal.returns-in-Err
returns-in-Err c =
    greeting_stops c.args.self.now c.args.version c.args.place c.args.body.now c.in-Err.fault c.of.result c.args.self.now c.args.text.now (sym c.accepts_unspoken.ensures ∙ c.if-accepts_unspoken.false)
    c.in-Err.ensures c.of.ensures

pub returns : goal.returns
returns c =
    greeting_heard _ _ _ c.self.view_is c.args.version c.args.place c.args.body.now c.in-Ok.reply c.phase_after-self-inside.result c.args.text.now c.put_greeting.new.text
    (sym c.accepts_unspoken.ensures ∙ c.if-accepts_unspoken.false) c.in-Ok.ensures c.phase_after-self-inside.ensures c.requires.empty c.in_ok-put_greeting.ensures
