use Rattle.std.proofs.Common.{◌≡◌, ◌≤◌, length, subst, ap, ◌∙◌, arith, ℕ}
use Rattle.ig_frame.specs.Streams.{Stream}
use Rattle.ig_capture.proofs.FrontLemmas.{front_range}
use Rattle.ig_capture.proofs.FrameLemmas.{bad_here, frame_here, wrong_here, limit_stays}
use Rattle.ig_capture.proofs.sides.hear_frame.Goals as goal

pub returns-in-Bad-clause-hears : goal.returns-in-Bad-clause-hears
returns-in-Bad-clause-hears c =
    bad_here c.args.session c.args.server c.args.frames.now c.args.talk.now (record { stream = c.args.frames.now; talk = c.args.talk.now }) c.least-least.result c.in-Bad.length c.in-Bad.place c.args.lines.now
    c.least-least.ensures c.in-Bad.ensures.0 c.in-Bad.ensures.1

pub hear_message-requires-clause-least : goal.hear_message-requires-clause-least
hear_message-requires-clause-least c =
    let range = front_range c.least-least.result c.args.frames.now.limit c.args.frames.now.rest c.in-Frame.body.now c.in-Frame.ensures.1.0 c.in-Frame.ensures.1.1 in
    subst (λ (k : ℕ). k ≤ length c.in-Frame.body.now) c.least-least.ensures range.0

pub hear_message-requires-clause-short : goal.hear_message-requires-clause-short
hear_message-requires-clause-short c =
    let range = front_range c.least-least.result c.args.frames.now.limit c.args.frames.now.rest c.in-Frame.body.now c.in-Frame.ensures.1.0 c.in-Frame.ensures.1.1 in
    let few : length c.in-Frame.body.now ≤ 8388608 = subst (λ (k : ℕ). length c.in-Frame.body.now ≤ k) c.requires.limit range.1 in
    omega (arith, few)

pub returns-in-Err-clause-hears : goal.returns-in-Err-clause-hears
returns-in-Err-clause-hears c =
    wrong_here c.args.session c.args.server c.args.frames.now c.args.talk.now c.least-least.result c.in-Frame.place c.in-Frame.body.now c.in-Frame.ensures.1.0 c.least-least.ensures c.in-Frame.ensures.0 c.in-Frame.ensures.1.1
    c.hear_message.new.talk c.args.lines.now c.hear_message.new.lines (record { stream = c.args.frames.now; talk = c.hear_message.new.talk }) c.in-Err.fault c.in-Err.ensures

pub returns-clause-hears : goal.returns-clause-hears
returns-clause-hears c =
    frame_here c.args.session c.args.server c.args.frames.now c.args.talk.now c.least-least.result c.in-Frame.place c.in-Frame.body.now c.in-Frame.ensures.1.0 c.least-least.ensures c.in-Frame.ensures.0 c.in-Frame.ensures.1.1
    c.hear_message.new.talk c.args.lines.now c.hear_message.new.lines c.pass.new.self c.pass.ensures c.in-Ok.ensures

pub returns-clause-limit : goal.returns-clause-limit
returns-clause-limit c = ap (λ (s : Stream). s.limit) c.pass.ensures ∙ limit_stays c.least-least.result c.args.frames.now ∙ c.requires.limit
