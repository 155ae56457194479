use Rattle.std.proofs.Common.{◌≡◌, ◌++◌, ◌∷◌, [], length, suc, arith}
use Rattle.ig_capture.proofs.SessionLemmas.{one_longer, room_added}
use Rattle.ig_capture.proofs.sessions.make_room.Goals as goal

pub rooms-preserved : goal.rooms-preserved
rooms-preserved c =
    let one : c.push.new.self.items ≡ c.rooms.sessions.items ++ c.new.result ∷ [] = c.in_ok-push.ensures.items in
    let size : length c.push.new.self.items ≡ suc (length c.rooms.sessions.items) = one_longer c.rooms.sessions.items c.push.new.self.items c.new.result one in
    record {
      added = room_added c.args.sessions.now.items c.rooms.sessions.items c.push.new.self.items c.new.result c.rooms.invariant.added c.rooms.invariant.longer one c.new.ensures;
      longer = omega (arith, size, c.rooms.invariant.longer);
      missing = omega (arith, size, c.rooms.invariant.longer, c.rooms.invariant.missing, c.rooms-test.true, c.len.ensures);
    }
