use Rattle.std.proofs.Common.{◌∙◌, ap, sym, List, ℕ}
use Rattle.ig_ops.proofs.PageLemmas.{page_is}
use Rattle.ig_ops.proofs.shown_body.ShownBodyMessage.put.Goals as goal

pub returns-in-Page : goal.returns-in-Page
returns-in-Page g c =
    rw (c.in-Page.is, ← c.as_slice.ensures)
    (c.put_page.ensures ∙ ap (λ (l : List ℕ). g.S.Output.after c.args.out.now c.args.into.now l) (sym (page_is c.in-Page.page.cursor c.as_slice.result.now c.in-Page.page.more)))
