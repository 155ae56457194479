use Rattle.std.proofs.Common.{◌≡◌, ◌∙◌, ℕ, ◌+◌, List, length, take, drop, Ok, Err, subst, ap, sym}
use Rattle.ig_base.specs.Frames.{Body, Incomplete, front, max_body}
use Rattle.ig_link.specs.States.{SourceAdvances}
use Rattle.ig_client.specs.Greeted.{ReadsFrame}
use Rattle.ig_client.proofs.GreetLemmas.{on_err, length_breaks, length_read, body_breaks, body_read, bare_read}
use Rattle.ig_client.proofs.greet.read_frame.Goals.{in-Missing+in_ok-read_on-in-Missing, in-Whole}
use Rattle.ig_client.proofs.greet.read_frame.Goals as goal

pub returns-in_err-read_on-clause-err : goal.returns-in_err-read_on-clause-err
returns-in_err-read_on-clause-err g c =
    on_err c.from_residual.result (λ cause. ReadsFrame (g.S.Source.source c.args.source.now) (g.S.Source.source c.read_on.new.source) (Err cause)) c.in_err-read_on.field-0.0 c.from_residual.ensures.1
    (length_breaks (g.S.Source.source c.args.source.now) (g.S.Source.source c.read_on.new.source) c.new-frame.result.items c.read_on.new.bytes.items c.in_err-read_on.field-0.0 c.in_err-read_on.ensures.reads)

pub returns-in_err-read_on-in-Missing-clause-err :
    goal.returns-in_err-read_on-in-Missing-clause-err
returns-in_err-read_on-in-Missing-clause-err g c =
    let first : List ℕ = c.read_on.new.bytes.items in
    on_err c.from_residual-in_err-read_on-in-Missing.result (λ cause. ReadsFrame (g.S.Source.source c.args.source.now) (g.S.Source.source c.read_on-in-Missing.new.source) (Err cause)) c.in_err-read_on-in-Missing.field-0.0
    c.from_residual-in_err-read_on-in-Missing.ensures.1
    (body_breaks (g.S.Source.source c.args.source.now) (g.S.Source.source c.read_on.new.source) (g.S.Source.source c.read_on-in-Missing.new.source) first first c.read_on-in-Missing.new.bytes.items c.in-Missing.count
    c.in_err-read_on-in-Missing.field-0.0
    (length_read (g.S.Source.source c.args.source.now) (g.S.Source.source c.read_on.new.source) c.new-frame.result.items first c.new-frame.ensures.items c.in_ok-read_on.ensures.reads).1
    (ap (front 1 max_body) (sym c.as_slice.ensures.value) ∙ c.in-Missing.ensures)
    c.in_err-read_on-in-Missing.ensures.reads)

pub returns-clause-ok : goal.returns-clause-ok
returns-clause-ok g c =
    let first : List ℕ = c.read_on.new.bytes.items in
    let begun : (length first ≡ 4) × SourceAdvances (g.S.Source.source c.args.source.now) (g.S.Source.source c.read_on.new.source) first =
    length_read (g.S.Source.source c.args.source.now) (g.S.Source.source c.read_on.new.source) c.new-frame.result.items first c.new-frame.ensures.items c.in_ok-read_on.ensures.reads in
    elim c.match-front_of.branch [
      | in-Missing+in_ok-read_on-in-Missing w ↦
          subst (λ s. ReadsFrame (g.S.Source.source c.args.source.now) (g.S.Source.source s) (Ok c.match-front_of.frame.items)) (sym w.source-is)
          (subst (λ v. ReadsFrame (g.S.Source.source c.args.source.now) (g.S.Source.source w.read_on-in-Missing.new.source) (Ok v.items)) (sym w.frame-is)
          (body_read (g.S.Source.source c.args.source.now) (g.S.Source.source c.read_on.new.source) (g.S.Source.source w.read_on-in-Missing.new.source) first w.read_on-in-Missing.new.bytes.items w.in-Missing.count begun
          (ap (front 1 max_body) (sym c.as_slice.ensures.value) ∙ w.in-Missing.ensures)
          w.in_ok-read_on-in-Missing.ensures.reads))
      | in-Whole w ↦
          subst (λ s. ReadsFrame (g.S.Source.source c.args.source.now) (g.S.Source.source s) (Ok c.match-front_of.frame.items)) (sym w.source-is)
          (subst (λ v. ReadsFrame (g.S.Source.source c.args.source.now) (g.S.Source.source c.read_on.new.source) (Ok v.items)) (sym w.frame-is)
          (bare_read (g.S.Source.source c.args.source.now) (g.S.Source.source c.read_on.new.source) first w.in-Whole.field-0 begun
          (subst (λ (l : List ℕ). front 1 max_body l ≡ Body (take w.in-Whole.field-0 (drop 4 l)) (drop (4 + w.in-Whole.field-0) l)) c.as_slice.ensures.value w.in-Whole.ensures.1)))
    ]
