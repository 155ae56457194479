use Rattle.std.proofs.Common.{◌≡◌, ◌∙◌, ℕ, List, ◌++◌, length, take, drop, Some, Result, Ok, Err, refl, sym, ap, subst, arith, eqb-true}
use Rattle.std.proofs.lemmas.Bool.{eqb-false}
use Rattle.ig_base.specs.Numbers.{AreBytes}
use Rattle.ig_client.specs.PendingState.{PendingState}
use Rattle.ig_client.specs.Steps.{Files}
use Rattle.ig_client.specs.Stands.{ChannelStands, Gains, pump_pair}
use Rattle.ig_client.specs.declared.fault.Break.TheVariants.{Closed}
use Rattle.ig_client.specs.declared.fault.ChannelFault.{ChannelFault}
use Rattle.ig_client.specs.declared.fault.ChannelFault.TheVariants.{Down}
use Rattle.ig_client.proofs.PumpLemmas.{stands_unread, stands_empty, stands_linkless, stands_read, read_into, handed_on}
use Rattle.ig_client.proofs.channel.Channel.pump.Goals as goal

pub returns-in_err-piece-clause-pairs : goal.returns-in_err-piece-clause-pairs
returns-in_err-piece-clause-pairs g c =
    subst (λ (r : Result (List ℕ) ChannelFault). Gains (ChannelStands g.L.Source.source g.L.Sink.sink c.args.self.now.pending c.args.self.now.link) (ChannelStands g.L.Source.source g.L.Sink.sink c.next_piece.new.pending c.args.self.now.link) (pump_pair r))
    (sym (handed_on c.from_residual.result c.in_err-piece.field-0.0 c.from_residual.ensures.0 c.from_residual.ensures.1))
    (stands_unread g.L.Source.source g.L.Sink.sink c.args.self.now.pending c.next_piece.new.pending c.args.self.now.link c.in_err-piece.field-0.0 c.in_err-piece.ensures.err)

pub returns-then-is_empty-clause-pairs : goal.returns-then-is_empty-clause-pairs
returns-then-is_empty-clause-pairs g c =
    let none : length c.in_ok-piece.piece.items ≡ 0 = omega (arith, c.in_ok-piece.piece.ok.0, eqb-true _ _ (sym c.if-is_empty.ensures)) in
    subst (λ (l : List ℕ). Gains (ChannelStands g.L.Source.source g.L.Sink.sink c.args.self.now.pending c.args.self.now.link) (ChannelStands g.L.Source.source g.L.Sink.sink c.next_piece.new.pending c.args.self.now.link) (pump_pair (Ok l)))
    (sym c.new.ensures)
    (stands_empty g.L.Source.source g.L.Sink.sink c.args.self.now.pending c.next_piece.new.pending c.args.self.now.link c.in_ok-piece.piece.items c.in_ok-piece.ensures.ok none)

pub returns-in_default-clause-pairs : goal.returns-in_default-clause-pairs
returns-in_default-clause-pairs g c =
    subst (λ o. Gains (ChannelStands g.L.Source.source g.L.Sink.sink c.args.self.now.pending o) (ChannelStands g.L.Source.source g.L.Sink.sink c.next_piece.new.pending o) (pump_pair (Err (Down Closed))))
    (sym c.in_default.is)
    (stands_linkless g.L.Source.source g.L.Sink.sink c.args.self.now.pending c.next_piece.new.pending c.in_ok-piece.piece.items (Err (Down Closed)) c.in_ok-piece.ensures.ok refl)

pub returns-clause-pairs : goal.returns-clause-pairs
returns-clause-pairs g c =
    let piece : List ℕ = c.in_ok-piece.piece.items in
    let buf : List ℕ = c.read_now-answer.new.buf in
    let old : PendingState = c.args.self.now.pending in
    let mid : PendingState = c.next_piece.new.pending in
    let len : c.in_ok-piece.piece.len ≡ length piece = c.in_ok-piece.piece.ok.0 in
    let size : length buf ≡ length piece = c.read_now-answer.auto.buf ∙ ap length c.as_mut_slice.ensures.value in
    let whole : take c.in_ok-piece.piece.len (buf ++ drop (length buf) piece) ≡ buf = read_into piece buf c.in_ok-piece.piece.len len size in
    subst (λ o. Gains (ChannelStands g.L.Source.source g.L.Sink.sink old o) (ChannelStands g.L.Source.source g.L.Sink.sink c.file_read.new.pending (Some c.read_now-answer.new.self)) (pump_pair c.file_read.result))
    (sym c.in-Some.is)
    (stands_read g.L.Source.source g.L.Sink.sink old mid c.file_read.new.pending c.in-Some.link c.read_now-answer.new.self c.read_now-answer.result piece buf c.file_read.result
    c.in_ok-piece.ensures.ok
    (omega (arith, len, eqb-false c.in_ok-piece.piece.len 0 (sym c.if-is_empty.ensures)))
    size
    (subst AreBytes whole c.file_read.ensures.bytes)
    (g.met.L.Duplex.untold_left c.in-Some.link)
    (sym (g.met.L.Duplex.reads_beside c.read_now-answer.new.self) ∙ c.read_now-answer.ensures.beside ∙ g.met.L.Duplex.reads_beside c.in-Some.link)
    c.read_now-answer.ensures.answer
    (subst (λ (l : List ℕ). Files c.read_now-answer.result l mid c.file_read.new.pending c.file_read.result) whole c.file_read.ensures.files))
