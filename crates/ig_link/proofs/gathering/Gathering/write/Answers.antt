use Rattle.std.proofs.Common.{ℕ, ◌∙◌, ◌++◌, List, length, ap, sym, subst, arith, rules}
use Rattle.std.proofs.lemmas.List.{take_all}
use Rattle.ig_link.specs.Gathered.{Gathered, HandsOn}
use Rattle.ig_link.proofs.GatheringLemmas.{waits_on, written_after}
use Rattle.ig_link.proofs.gathering.Gathering.write.Goals as goal

pub returns-then-keep : goal.returns-then-keep
returns-then-keep g c =
    let piece : List ℕ = c.args.piece.now in
    let kept = c.if-keep.ensures in
    let was = sym (ap (λ (s : Gathered). s.broken) c.self.view_is) ∙ c.if-self.false in
    let whole = sym (take_all (length piece) piece (omega arith)) in (
      waits_on _ _ _ (ap (λ (s : Gathered). s.waiting) kept ∙ ap (λ (l : List ℕ). c.args.self.now.waiting ++ l) whole),
      search rules,
      search rules,
      was,
      ap (λ (s : Gathered). s.broken) kept ∙ was,
    )

pub returns-in-Ok : goal.returns-in-Ok
returns-in-Ok g c =
    let contents = g.W.Write.contents in
    let flushed = c.if-not-flush.ensures in
    let same = c.if-keep-2.ensures in
    let before = ap (λ (s : Gathered). s.waiting) c.if-keep.ensures in
    let first = subst (λ (l : List ℕ). HandsOn (contents c.args.writer.now) (contents c.flush.new.writer) l c.flush.new.self.waiting) before flushed.0 in
    let none = ap (λ (s : Gathered). s.waiting) same ∙ flushed.1 in
    let was = sym (ap (λ (s : Gathered). s.broken) c.self.view_is) ∙ c.if-self.false in (
      written_after (contents c.args.writer.now) (contents c.flush.new.writer) (contents c.write_some.new.writer) c.args.self.now.waiting c.flush.new.self.waiting c.args.piece.now c.keep-2.new.self.waiting
          c.in-Ok.n first flushed.1 c.in-Ok.ensures.bytes none,
      omega (arith, c.if-n-gt0.true),
      c.in-Ok.ensures.bound,
      was,
      ap (λ (s : Gathered). s.broken) same ∙ flushed.3,
    )
