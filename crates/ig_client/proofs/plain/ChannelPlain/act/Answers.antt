use Rattle.std.proofs.Common.{rules, ◌≡◌, ◌∙◌, ℕ, List, ◌++◌, Option, None, Some, Result, Ok, Err, length, take, drop, w64, to_z, of_z, refl, sym, ap, subst, arith, eqb-true}
use Rattle.std.proofs.lemmas.Bool.{eqb-false}
use Rattle.ig_base.specs.Numbers.{AreBytes}
use Rattle.ig_client.specs.PendingState.{PendingState, broken}
use Rattle.ig_client.specs.Steps.{Files}
use Rattle.ig_client.specs.Stands.{ChannelStands, Gains, pump_pair}
use Rattle.ig_client.specs.declared.fault.Break.{Break}
use Rattle.ig_client.specs.declared.fault.Break.TheVariants.{Closed}
use Rattle.ig_client.specs.declared.fault.ChannelFault.TheVariants.{Down}
use Rattle.ig_client.specs.declared.ask.ChannelAsk.TheVariants as ask
use Rattle.ig_client.specs.declared.ask.ChannelGot.TheVariants as got
use Rattle.ig_client.proofs.SubmitLemmas.{request_is_submit, parts_are_submit, same_source, stands_submit}
use Rattle.ig_client.proofs.PumpLemmas.{stands_unread, stands_empty, stands_linkless, stands_read, read_into}
use Rattle.ig_client.proofs.ActLemmas.{submit_answered, submit_handed, parts_answered, parts_handed, pump_answered, pump_handed, take_answered, close_answered, closed_answered, is_down, is_open}
use Rattle.ig_client.proofs.plain.ChannelPlain.act.Goals.{then-is_none, else-is_none}
use Rattle.ig_client.proofs.plain.ChannelPlain.act.Goals as goal

-- ---- submits

pub returns-in-Submit-clause-ok : goal.returns-in-Submit-clause-ok
returns-in-Submit-clause-ok g c =
    submit_answered g.L.Left.Left.shows (ChannelStands g.L.Source.source g.L.Sink.sink c.args.self.now.pending c.args.self.now.link)
    (ChannelStands g.L.Source.source g.L.Sink.sink c.submit_over.new.pending c.submit_over.new.link)
    c.args.ask c.submitted.result c.in-Submit.request c.submit_over.result c.in-Submit.is c.submitted.ensures
    (stands_submit g.L.Source.source g.L.Sink.sink (ask.Submit c.in-Submit.request) (got.NotSent c.in-Submit.request) (request_is_submit c.in-Submit.request)
    c.args.self.now.pending c.submit_over.new.pending c.args.self.now.link c.submit_over.new.link c.submit_over.result
    (same_source g.L.Source.source g.L.Sink.source_beside g.met.L.Duplex.writes_beside c.args.self.now.link c.submit_over.new.link c.submit_over.ensures.beside)
    c.submit_over.ensures.submits)

pub returns-in-Submit-clause-err : goal.returns-in-Submit-clause-err
returns-in-Submit-clause-err g c =
    submit_handed g.L.Left.Left.shows (ChannelStands g.L.Source.source g.L.Sink.sink c.args.self.now.pending c.args.self.now.link)
    (ChannelStands g.L.Source.source g.L.Sink.sink c.submit_over.new.pending c.submit_over.new.link)
    c.args.ask c.submitted.result c.in-Submit.request c.submit_over.result c.in-Submit.is c.submitted.ensures
    (stands_submit g.L.Source.source g.L.Sink.sink (ask.Submit c.in-Submit.request) (got.NotSent c.in-Submit.request) (request_is_submit c.in-Submit.request)
    c.args.self.now.pending c.submit_over.new.pending c.args.self.now.link c.submit_over.new.link c.submit_over.result
    (same_source g.L.Source.source g.L.Sink.source_beside g.met.L.Duplex.writes_beside c.args.self.now.link c.submit_over.new.link c.submit_over.ensures.beside)
    c.submit_over.ensures.submits)

pub returns-in-SubmitParts-clause-ok : goal.returns-in-SubmitParts-clause-ok
returns-in-SubmitParts-clause-ok g c =
    parts_answered g.L.Left.Left.shows (ChannelStands g.L.Source.source g.L.Sink.sink c.args.self.now.pending c.args.self.now.link)
    (ChannelStands g.L.Source.source g.L.Sink.sink c.submit_parts_over.new.pending c.submit_parts_over.new.link)
    c.args.ask c.submitted_parts.result c.in-SubmitParts.caches c.submit_parts_over.result c.in-SubmitParts.is c.submitted_parts.ensures
    (stands_submit g.L.Source.source g.L.Sink.sink (ask.SubmitParts c.in-SubmitParts.caches) (got.NotSentParts c.in-SubmitParts.caches) (parts_are_submit c.in-SubmitParts.caches)
    c.args.self.now.pending c.submit_parts_over.new.pending c.args.self.now.link c.submit_parts_over.new.link c.submit_parts_over.result
    (same_source g.L.Source.source g.L.Sink.source_beside g.met.L.Duplex.writes_beside c.args.self.now.link c.submit_parts_over.new.link c.submit_parts_over.ensures.beside)
    c.submit_parts_over.ensures.submits)

pub returns-in-SubmitParts-clause-err : goal.returns-in-SubmitParts-clause-err
returns-in-SubmitParts-clause-err g c =
    parts_handed g.L.Left.Left.shows (ChannelStands g.L.Source.source g.L.Sink.sink c.args.self.now.pending c.args.self.now.link)
    (ChannelStands g.L.Source.source g.L.Sink.sink c.submit_parts_over.new.pending c.submit_parts_over.new.link)
    c.args.ask c.submitted_parts.result c.in-SubmitParts.caches c.submit_parts_over.result c.in-SubmitParts.is c.submitted_parts.ensures
    (stands_submit g.L.Source.source g.L.Sink.sink (ask.SubmitParts c.in-SubmitParts.caches) (got.NotSentParts c.in-SubmitParts.caches) (parts_are_submit c.in-SubmitParts.caches)
    c.args.self.now.pending c.submit_parts_over.new.pending c.args.self.now.link c.submit_parts_over.new.link c.submit_parts_over.result
    (same_source g.L.Source.source g.L.Sink.source_beside g.met.L.Duplex.writes_beside c.args.self.now.link c.submit_parts_over.new.link c.submit_parts_over.ensures.beside)
    c.submit_parts_over.ensures.submits)

-- ---- pumps

pub returns-in-Err-clause-ok : goal.returns-in-Err-clause-ok
returns-in-Err-clause-ok g c =
    pump_answered g.L.Left.Left.shows (ChannelStands g.L.Source.source g.L.Sink.sink c.args.self.now.pending c.args.self.now.link) (ChannelStands g.L.Source.source g.L.Sink.sink c.next_piece.new.pending c.args.self.now.link)
    c.args.ask c.pumped.result (Err c.in-Err.cause) c.in-Pump.is c.pumped.ensures
    (stands_unread g.L.Source.source g.L.Sink.sink c.args.self.now.pending c.next_piece.new.pending c.args.self.now.link c.in-Err.cause c.in-Err.ensures.err)

pub returns-in-Err-clause-err : goal.returns-in-Err-clause-err
returns-in-Err-clause-err g c =
    pump_handed g.L.Left.Left.shows (ChannelStands g.L.Source.source g.L.Sink.sink c.args.self.now.pending c.args.self.now.link) (ChannelStands g.L.Source.source g.L.Sink.sink c.next_piece.new.pending c.args.self.now.link)
    c.args.ask c.pumped.result (Err c.in-Err.cause) c.in-Pump.is c.pumped.ensures
    (stands_unread g.L.Source.source g.L.Sink.sink c.args.self.now.pending c.next_piece.new.pending c.args.self.now.link c.in-Err.cause c.in-Err.ensures.err)

pub returns-then-is_empty-clause-ok : goal.returns-then-is_empty-clause-ok
returns-then-is_empty-clause-ok g c =
    let none : length c.in-Ok.piece.items ≡ 0 = omega (arith, c.in-Ok.piece.ok.0, eqb-true _ _ (sym c.if-is_empty.ensures)) in
    pump_answered g.L.Left.Left.shows (ChannelStands g.L.Source.source g.L.Sink.sink c.args.self.now.pending c.args.self.now.link) (ChannelStands g.L.Source.source g.L.Sink.sink c.next_piece.new.pending c.args.self.now.link)
    c.args.ask c.pumped-then-is_empty.result (Ok c.new.result) c.in-Pump.is c.pumped-then-is_empty.ensures
    (subst (λ (l : List ℕ). Gains (ChannelStands g.L.Source.source g.L.Sink.sink c.args.self.now.pending c.args.self.now.link) (ChannelStands g.L.Source.source g.L.Sink.sink c.next_piece.new.pending c.args.self.now.link) (pump_pair (Ok l))) (sym c.new.ensures)
    (stands_empty g.L.Source.source g.L.Sink.sink c.args.self.now.pending c.next_piece.new.pending c.args.self.now.link c.in-Ok.piece.items c.in-Ok.ensures.ok none))

pub returns-in_default-clause-ok : goal.returns-in_default-clause-ok
returns-in_default-clause-ok g c =
    pump_answered g.L.Left.Left.shows (ChannelStands g.L.Source.source g.L.Sink.sink c.args.self.now.pending c.args.self.now.link) (ChannelStands g.L.Source.source g.L.Sink.sink c.next_piece.new.pending c.args.self.now.link)
    c.args.ask c.pumped-in_default.result (Err (Down Closed)) c.in-Pump.is c.pumped-in_default.ensures
    (subst (λ (o : Option g.row.L.Denot). Gains (ChannelStands g.L.Source.source g.L.Sink.sink c.args.self.now.pending o) (ChannelStands g.L.Source.source g.L.Sink.sink c.next_piece.new.pending o) (pump_pair (Err (Down Closed)))) (sym c.in_default.is)
    (stands_linkless g.L.Source.source g.L.Sink.sink c.args.self.now.pending c.next_piece.new.pending c.in-Ok.piece.items (Err (Down Closed)) c.in-Ok.ensures.ok refl))

pub returns-in-Some-clause-ok : goal.returns-in-Some-clause-ok
returns-in-Some-clause-ok g c =
    let piece : List ℕ = c.in-Ok.piece.items in
    let buf : List ℕ = c.read_now-answer.new.buf in
    let mid : PendingState = c.next_piece.new.pending in
    let len : c.in-Ok.piece.len ≡ length piece = c.in-Ok.piece.ok.0 in
    let size : length buf ≡ length piece = c.read_now-answer.auto.buf ∙ ap length c.as_mut_slice.ensures.value in
    let whole : take c.in-Ok.piece.len (buf ++ drop (length buf) piece) ≡ buf = read_into piece buf c.in-Ok.piece.len len size in
    pump_answered g.L.Left.Left.shows (ChannelStands g.L.Source.source g.L.Sink.sink c.args.self.now.pending c.args.self.now.link) (ChannelStands g.L.Source.source g.L.Sink.sink c.file_read.new.pending (Some c.read_now-answer.new.self))
    c.args.ask c.pumped-in-Ok.result c.file_read.result c.in-Pump.is c.pumped-in-Ok.ensures
    (subst (λ (o : Option g.row.L.Denot). Gains (ChannelStands g.L.Source.source g.L.Sink.sink c.args.self.now.pending o) (ChannelStands g.L.Source.source g.L.Sink.sink c.file_read.new.pending (Some c.read_now-answer.new.self)) (pump_pair c.file_read.result)) (sym c.in-Some.is)
    (stands_read g.L.Source.source g.L.Sink.sink c.args.self.now.pending mid c.file_read.new.pending c.in-Some.link c.read_now-answer.new.self c.read_now-answer.result piece buf c.file_read.result
    c.in-Ok.ensures.ok
    (omega (arith, len, eqb-false c.in-Ok.piece.len 0 (sym c.if-is_empty.ensures)))
    size
    (subst AreBytes whole c.file_read.ensures.bytes)
    (g.met.L.Duplex.untold_left c.in-Some.link)
    (sym (g.met.L.Duplex.reads_beside c.read_now-answer.new.self) ∙ c.read_now-answer.ensures.beside ∙ g.met.L.Duplex.reads_beside c.in-Some.link)
    c.read_now-answer.ensures.answer
    (subst (λ (l : List ℕ). Files c.read_now-answer.result l mid c.file_read.new.pending c.file_read.result) whole c.file_read.ensures.files)))

-- ---- a take and closes

pub returns-in-Take-clause-ok : goal.returns-in-Take-clause-ok
returns-in-Take-clause-ok g c =
    let key : to_z w64 (of_z w64 c.in-Take.id) ≡ c.in-Take.id = search rules in
    take_answered g.L.Source.source g.L.Sink.sink c.args.ask c.in-Take.id (to_z w64 (of_z w64 c.in-Take.id)) c.args.self.now.pending c.take.new.self c.args.self.now.link c.take.result
    c.in-Take.is key c.take.ensures.frame c.take.ensures.new

pub returns-in_default-take-clause-ok : goal.returns-in_default-take-clause-ok
returns-in_default-take-clause-ok g c =
    closed_answered g.L.Source.source g.L.Sink.sink c.args.ask c.args.self.now.pending c.args.self.now.link c.take-in-Close.new.self c.in-Close.is
    (sym c.take-in-Close.ensures.value ∙ c.in_default-take.is) c.take-in-Close.ensures.after

pub returns-after-is_none-clause-ok : goal.returns-after-is_none-clause-ok
returns-after-is_none-clause-ok g c =
    let old : PendingState = c.args.self.now.pending in
    let new : PendingState = c.if-is_none.self.pending in
    let gone : c.if-is_none.self.link ≡ None = elim c.if-is_none.branch [
      | then-is_none w ↦ ap (λ s. s.link) w.self-is ∙ c.take-in-Close.ensures.after
      | else-is_none w ↦ ap (λ s. s.link) w.self-is ∙ c.take-in-Close.ensures.after
    ] in
    let first : old.down ≡ None → new ≡ broken Closed old = λ up. elim c.if-is_none.branch [
      | then-is_none w ↦ ap (λ s. s.pending) w.self-is ∙ w.broke.ensures
      | else-is_none w ↦ absurd (is_down old.down c.down.result c.is_none.result c.down.ensures c.is_none.ensures w.if-is_none.false up)
    ] in
    let later : (cause : Break) → old.down ≡ Some cause → new ≡ old = λ cause is. elim c.if-is_none.branch [
      | then-is_none w ↦ absurd (is_open old.down c.down.result c.is_none.result c.down.ensures c.is_none.ensures w.if-is_none.true cause is)
      | else-is_none w ↦ ap (λ s. s.pending) w.self-is
    ] in
    close_answered g.L.Source.source g.L.Sink.sink c.args.ask old new c.args.self.now.link c.if-is_none.self.link c.in-Some-take.link (g.L.Left.Left.shows c.retire.result) c.in-Close.is
    (sym c.take-in-Close.ensures.value ∙ c.in-Some-take.is) gone c.retire.ensures first later
