use Rattle.std.proofs.Common.{◌∙◌, ap, sym, List, ℕ}
use Rattle.ig_ops.proofs.PageLemmas.{page_is}
use Rattle.ig_ops.proofs.pages.PageBodyMessage.put.Goals as goal

pub returns : goal.returns
returns g c =
    c.put_page.ensures
    ∙ ap (λ (l : List ℕ). g.S.Output.after c.args.out.now c.args.into.now l) (sym (page_is c.args.self.now.cursor c.args.self.now.rows.now c.args.self.now.more))
