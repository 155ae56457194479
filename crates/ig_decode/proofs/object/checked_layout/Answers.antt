use Rattle.std.proofs.Common.{rules, arith}
use Rattle.std.proofs.lemmas.Result.{err_from_is_err_and}
use Rattle.ig_decode.proofs.ObjectAtLemmas.{foot_wrong}
use Rattle.ig_decode.proofs.object.checked_layout.Goals as goal

pub returns-in_err-checked_footer-clause-wrong : goal.returns-in_err-checked_footer-clause-wrong
returns-in_err-checked_footer-clause-wrong c =
    let p = err_from_is_err_and c.from_residual-in_err-checked_footer.result c.from_residual-in_err-checked_footer.ensures.1 in
    rw (p.1, p.2) (λ ids. foot_wrong c.args.header.now c.args.there _ _ c.in_ok-form.ensures.right (c.in_err-checked_footer.ensures.wrong c.args.there) ids)

pub returns-clause-right : goal.returns-clause-right
returns-clause-right c =
    let r = c.in_ok-checked_footer.ensures.right in
    record {
      head = c.in_ok-form.ensures.right;
      foot = r.foot c.args.there;
      length = search rules;
      schema_at = r.schema_at;
      some = r.some;
      more = r.more;
      within = search rules;
      even = r.even;
      form = rw r.same_form c.in_ok-form.ensures.form;
    }
