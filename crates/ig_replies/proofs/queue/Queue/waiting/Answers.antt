use Rattle.std.proofs.Common.{◌≡◌, List, ℕ, sym, ap, ◌∙◌}
use Rattle.std.specs.Prelude.{[], ◌↔◌}
use Rattle.ig_replies.specs.Showing.{Waiting, piece_shown}
use Rattle.ig_replies.specs.Queues.{waiting_in}
use Rattle.ig_replies.proofs.QueueLemmas.{shown_is_left, none_left}
use Rattle.ig_replies.proofs.queue.Queue.waiting.Goals as goal

pub returns-clause-shown : goal.returns-clause-shown
returns-clause-shown c =
    c.left.ensures ∙ shown_is_left c.self.inside.first c.self.inside.piece c.self.inside.later.items c.self.invariant
    ∙ ap piece_shown c.self.view_is

pub returns-clause-end : goal.returns-clause-end
returns-clause-end c =
    let both : (c.self.inside.piece ≡ []) ↔ ((waiting_in c.self.inside.first c.self.inside.piece c.self.inside.later.items).frames ≡ []) =
    none_left c.self.inside.first c.self.inside.piece c.self.inside.later.items c.self.invariant in
    let frames : (waiting_in c.self.inside.first c.self.inside.piece c.self.inside.later.items).frames ≡ c.args.self.now.frames =
    ap (λ (w : Waiting). w.frames) c.self.view_is in
    (λ e. sym frames ∙ both.0 (sym c.left.ensures ∙ e), λ e. c.left.ensures ∙ both.1 (frames ∙ e))
