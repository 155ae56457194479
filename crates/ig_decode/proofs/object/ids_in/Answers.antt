use Rattle.std.proofs.Common.{◌≡◌, ◌+◌, ◌*◌, ◌≤◌, ◌∙◌, suc, ap, arith, length, length-drop, to_z, of_z}
use Rattle.std.specs.Int.{w32}
use Rattle.std.proofs.lemmas.Int.{to_z-of_z}
use Rattle.ig_decode.specs.FooterForms.{entry_bytes}
use Rattle.ig_decode.specs.ObjectAnswers.{footer_ids}
use Rattle.ig_decode.proofs.ObjectAtLemmas.{one_id, room_left}
use Rattle.ig_decode.proofs.object.ids_in.Goals as goal

pub each-preserved : goal.each-preserved
each-preserved c =
    let entry = entry_bytes c.args.form in
    let less = c.take_one.ensures.more c.each-test.true in
    let id = c.take_id-id.result.0 in
    record {
      so_far = rw c.in_ok-push.ensures.items
          (one_id c.each.ids.items entry c.each.left.items c.take_one.new.self.items c.each.entries.now c.take_id-id.result.1.now (to_z w32 (of_z w32 id)) (footer_ids c.args.form c.args.footer.now) less (to_z-of_z w32 id c.take_id-id.ensures.range ∙ c.take_id-id.ensures.id) c.take_id-id.ensures.more c.each.invariant.so_far);
      there = room_left entry c.each.left.items c.take_one.new.self.items c.each.entries.now c.take_id-id.result.1.now less c.take_id-id.ensures.more c.each.invariant.there;
    }
