use Rattle.std.proofs.Common.{ℤ, refl, ap, ◌∙◌, w64}
use Rattle.std.proofs.lemmas.Int.{to_z-of_z}
use Rattle.ig_wire.specs.declared.reason.Reason.TheVariants as reason
use Rattle.ig_deals.specs.Faults.{fault_of}
use Rattle.ig_deals.specs.Replies.{Fails, reply_frame, shortened}
use Rattle.ig_deals.specs.Turns.{untold}
use Rattle.ig_replies.specs.Showing.{showing}
use Rattle.ig_replies.proofs.ReasonLemmas.{reason_short}
use Rattle.ig_replies.proofs.turns.lacks_memory.Goals as goal

pub say-requires : goal.say-requires
say-requires c = reason_short reason.NoMemory

pub returns : goal.returns
returns c = λ desk. record {
  frame_is = c.say.ensures
      ∙ ap (λ (i : ℤ). showing (reply_frame c.args.terms.now.version (shortened c.args.terms.now.version
      (untold i (Fails (fault_of reason.NoMemory)))))) (to_z-of_z w64 c.args.id c.ranges.id);
  desk_is = refl;
}
