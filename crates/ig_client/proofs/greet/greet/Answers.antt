use Rattle.std.proofs.Common.{◌≡◌, ◌∙◌, ℕ, ◌≤◌, List, ◌++◌, Option, length, drop, Ok, subst, ap, sym}
use Rattle.std.specs.Option.{option_copied}
use Rattle.ig_base.specs.Numbers.{AreBytes}
use Rattle.ig_base.specs.Frames.{Frame}
use Rattle.ig_link.specs.States.{SourceState, SinkAdvances}
use Rattle.ig_wire.specs.Greets.{hello_bytes}
use Rattle.ig_wire.specs.HelloReplies.{hello_reply_of}
use Rattle.ig_wire.specs.declared.Login.{Login}
use Rattle.ig_client.specs.Greeted.{ReadsFrame, Answered}
use Rattle.ig_client.proofs.GreetLemmas.{ok_holds, hello_failed, has_length, greeted_by}
use Rattle.ig_client.proofs.greet.greet.Goals as goal

pub returns-then-is_err : goal.returns-then-is_err
returns-then-is_err g c =
    let login : Option Login = option_copied c.args.login in
    hello_failed c.args.version login (g.D.Source.source c.args.link.now) (g.D.Source.source c.send_all.new.sink) (g.D.Sink.sink c.args.link.now) (g.D.Sink.sink c.send_all.new.sink) c.as_slice.result.now c.send_all.result
    (sym c.is_err.ensures.value ∙ c.if-is_err.true)
    c.send_all.ensures.err
    (c.as_slice.ensures ∙ c.in_ok-write_hello.ensures.ok ∙ ap (λ (l : List ℕ). l ++ Frame (hello_bytes c.args.version login)) c.empty-hello.ensures)
    (sym (g.met.D.Duplex.writes_beside c.send_all.new.sink) ∙ c.send_all.ensures.beside ∙ g.met.D.Duplex.writes_beside c.args.link.now)

pub node_in-requires : goal.node_in-requires
node_in-requires g c =
    subst (λ (l : List ℕ). 4 ≤ length l) (sym c.as_slice-2.ensures.value) (has_length c.in_ok-frame.frame.items c.in_ok-frame.ensures.ok.1)

pub returns : goal.returns
returns g c =
    let login : Option Login = option_copied c.args.login in
    let frame : List ℕ = c.in_ok-frame.frame.items in
    let same : c.as_slice-2.result.now ≡ frame = c.as_slice-2.ensures.value in
    let hello : c.as_slice.result.now ≡ Frame (hello_bytes c.args.version login) =
    c.as_slice.ensures ∙ c.in_ok-write_hello.ensures.ok ∙ ap (λ (l : List ℕ). l ++ Frame (hello_bytes c.args.version login)) c.empty-hello.ensures in
    let sent : SinkAdvances (g.D.Sink.sink c.args.link.now) (g.D.Sink.sink c.send_all.new.sink) c.as_slice.result.now =
    ok_holds c.send_all.result (SinkAdvances (g.D.Sink.sink c.args.link.now) (g.D.Sink.sink c.send_all.new.sink) c.as_slice.result.now) (sym c.is_err.ensures.value ∙ c.if-is_err.false) c.send_all.ensures.ok in
    greeted_by c.args.version login (g.D.Source.source c.args.link.now) (g.D.Source.source c.read_frame.new.source) (g.D.Sink.sink c.args.link.now) (g.D.Sink.sink c.read_frame.new.source) frame
    c.node_in.result
    (subst (λ s. SinkAdvances (g.D.Sink.sink c.args.link.now) s (Frame (hello_bytes c.args.version login)))
    (sym (sym (g.met.D.Duplex.reads_beside c.read_frame.new.source) ∙ c.in_ok-frame.ensures.beside ∙ g.met.D.Duplex.reads_beside c.send_all.new.sink))
    (subst (SinkAdvances (g.D.Sink.sink c.args.link.now) (g.D.Sink.sink c.send_all.new.sink)) hello sent))
    (subst (λ (s : SourceState). ReadsFrame s (g.D.Source.source c.read_frame.new.source) (Ok frame))
    (sym (g.met.D.Duplex.writes_beside c.send_all.new.sink) ∙ c.send_all.ensures.beside ∙ g.met.D.Duplex.writes_beside c.args.link.now)
    c.in_ok-frame.ensures.ok)
    (subst AreBytes same c.node_in.ensures.bytes)
    (subst (λ (l : List ℕ). Answered (hello_reply_of c.args.version (drop 4 l)) (drop 4 l) c.node_in.result) same c.node_in.ensures.answer)
