use Rattle.std.proofs.Common.{sym, ◌∙◌}
use Rattle.ig_capture.proofs.TurnLemmas.{hello_wrong, hello_heard}
use Rattle.ig_capture.proofs.talk.Talk.hear_hello.Goals as goal

pub returns-then-not-is_hello : goal.returns-then-not-is_hello
returns-then-not-is_hello c = hello_wrong c.args.self.now c.args.place c.args.body.now (sym c.is_hello.ensures ∙ c.if-not-is_hello.true)

pub returns : goal.returns
returns c =
    hello_heard _ _ _ c.self.view_is c.args.place c.args.body.now c.hello_version-version.result c.args.text.now c.put_hello.new.text (sym c.is_hello.ensures ∙ c.if-not-is_hello.false)
    c.hello_version-version.ensures c.requires.empty c.in_ok-put_hello.ensures
