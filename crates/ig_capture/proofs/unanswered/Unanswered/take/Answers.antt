use Rattle.std.proofs.Common.{◌≡◌, ℤ, Option, Some, None, List, refl, to_z, of_z, w64, sym, ap, subst, ◌∙◌}
use Rattle.std.proofs.lemmas.Int.{to_z-of_z}
use Rattle.std.specs.Option.{IfNone}
use Rattle.std.specs.FinMap.{from_entries}
use Rattle.std.specs.Ordering.{int_cmp}
use Rattle.ig_capture.specs.Operations.{Operations, SplitsFirst}
use Rattle.ig_capture.specs.Requests.{taken}
use Rattle.ig_capture.proofs.RequestLemmas.{none_taken, only_taken, first_taken, not_some}
use Rattle.ig_capture.proofs.unanswered.Unanswered.take.Goals as goal

pub returns-in_default : goal.returns-in_default
returns-in_default c =
    let key : to_z w64 (of_z w64 c.args.id) ≡ c.args.id = to_z-of_z w64 c.args.id c.ranges.id in
    let none : None ≡ c.remove.result = not_some c.remove.result c.in_default.not-Some in
    let same : c.remove.new.self.entries ≡ c.self.inside.requests.entries =
    subst (λ (o : Option Operations). IfNone o (c.remove.new.self.entries ≡ c.self.inside.requests.entries)) (sym none) c.remove.ensures.unchanged in (
      ap (λ (k : ℤ). taken k c.args.self.now) (sym key)
          ∙ none_taken c.args.self.now c.self.inside.requests.entries (to_z w64 (of_z w64 c.args.id)) c.self.view_is (none ∙ c.remove.ensures.value),
      ap (λ (es : List (ℤ × Operations)). from_entries {R = int_cmp} es) same ∙ c.self.view_is,
    )

pub returns-in_ok-insert-in-Some-later : goal.returns-in_ok-insert-in-Some-later
returns-in_ok-insert-in-Some-later c =
    let key : to_z w64 (of_z w64 c.args.id) ≡ c.args.id = to_z-of_z w64 c.args.id c.ranges.id in
    let splits : SplitsFirst c.in-Some.waiting c.split-first.result.0 (Some c.in-Some-later.later) =
    subst (λ (o : Option Operations). SplitsFirst c.in-Some.waiting c.split-first.result.0 o) c.in-Some-later.is c.split-first.ensures in
    ap (λ (k : ℤ). taken k c.args.self.now) (sym key)
    ∙ first_taken c.args.self.now c.self.inside.requests.entries c.remove.new.self.entries c.insert.new.self.entries (to_z w64 (of_z w64 c.args.id)) c.split-first.result.0 splits.0 splits.1 c.in-Some.waiting
    c.in-Some-later.later c.self.view_is (sym c.in-Some.is ∙ c.remove.ensures.value) splits.2 splits.3 c.remove.ensures.updates.0 c.in_ok-insert-in-Some-later.ensures.updates.0

pub returns-in-None : goal.returns-in-None
returns-in-None c =
    let key : to_z w64 (of_z w64 c.args.id) ≡ c.args.id = to_z-of_z w64 c.args.id c.ranges.id in
    let splits : SplitsFirst c.in-Some.waiting c.split-first.result.0 None =
    subst (λ (o : Option Operations). SplitsFirst c.in-Some.waiting c.split-first.result.0 o) c.in-None.is c.split-first.ensures in
    ap (λ (k : ℤ). taken k c.args.self.now) (sym key)
    ∙ only_taken c.args.self.now c.self.inside.requests.entries c.remove.new.self.entries (to_z w64 (of_z w64 c.args.id)) c.split-first.result.0 c.in-Some.waiting c.self.view_is
    (sym c.in-Some.is ∙ c.remove.ensures.value) splits c.remove.ensures.updates.0
