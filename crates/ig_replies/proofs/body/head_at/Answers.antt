use Rattle.std.proofs.Common.{◌≡◌, Option, sym, ap, subst}
use Rattle.ig_wire.specs.declared.head.Fault.{Fault}
use Rattle.ig_wire.specs.declared.head.ReplyHead.{ReplyHead}
use Rattle.ig_wire.specs.Versions.{has_flags}
use Rattle.ig_wire.specs.Heads.{MayTell, HasShortText}
use Rattle.ig_replies.proofs.FrameLemmas.{head_may}
use Rattle.ig_replies.proofs.body.head_at.Goals as goal

pub invariant_of-result : goal.invariant_of-result
invariant_of-result c = record {
  may = subst (λ (f : Option Fault). MayTell (has_flags c.args.version) c.args.reply.now.told f) (sym c.fault_view.ensures)
      (head_may (has_flags c.args.version) c.args.reply.now.told c.args.reply.now.content c.requires.told);
  small = subst HasShortText (sym c.fault_view.ensures) c.requires.text;
}
