use Rattle.ig_link.proofs.DoorLemmas.{accepts_as}
use Rattle.ig_link.proofs.mem_door.MemDoorDoor.accept.Goals as goal

pub returns-clause-answer : goal.returns-clause-answer
returns-clause-answer c = accepts_as c.follow_accept.result c.args.self.now c.follow_accept.new.self c.follow_accept.ensures
