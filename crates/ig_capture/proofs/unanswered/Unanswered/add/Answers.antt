use Rattle.std.proofs.Common.{◌≡◌, ℤ, to_z, of_z, w64, sym, ap, ◌∙◌}
use Rattle.std.proofs.lemmas.Int.{to_z-of_z}
use Rattle.ig_capture.specs.Requests.{with_request}
use Rattle.ig_capture.proofs.RequestLemmas.{first_added, request_added, not_some}
use Rattle.ig_capture.proofs.unanswered.Unanswered.add.Goals as goal

pub returns-in_default : goal.returns-in_default
returns-in_default c =
    let key : to_z w64 (of_z w64 c.args.id) ≡ c.args.id = to_z-of_z w64 c.args.id c.ranges.id in
    first_added c.args.self.now c.self.inside.requests.entries c.insert.new.self.entries (to_z w64 (of_z w64 c.args.id)) c.args.operation c.new-only.result c.self.view_is
    (not_some c.in_ok-waiting.field-0 c.in_default.not-Some ∙ c.in_ok-waiting.ensures.old) c.new-only.ensures c.in_ok-waiting.ensures.updates.0
    ∙ ap (λ (k : ℤ). with_request k c.args.operation c.args.self.now) key

pub returns : goal.returns
returns c =
    let key : to_z w64 (of_z w64 c.args.id) ≡ c.args.id = to_z-of_z w64 c.args.id c.ranges.id in
    request_added c.args.self.now c.self.inside.requests.entries c.insert.new.self.entries c.insert-2.new.self.entries (to_z w64 (of_z w64 c.args.id)) c.args.operation c.new-only.result c.in-Some.waiting c.add.new.self
    c.self.view_is (sym c.in-Some.is ∙ c.in_ok-waiting.ensures.old) c.in_ok-add.ensures c.in_ok-waiting.ensures.updates.0 c.in_ok-insert.ensures.updates.0
    ∙ ap (λ (k : ℤ). with_request k c.args.operation c.args.self.now) key
