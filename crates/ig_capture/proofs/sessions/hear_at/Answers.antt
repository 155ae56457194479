use Rattle.std.proofs.lemmas.List.{get_or_read}
use Rattle.ig_capture.specs.Heads.{HasRoom}
use Rattle.ig_capture.specs.Sessions.{fresh_session}
use Rattle.ig_capture.proofs.SessionLemmas.{shows_at}
use Rattle.ig_capture.proofs.sessions.hear_at.Goals as goal

pub returns : goal.returns
returns c =
    let room : HasRoom c.args.session c.args.sessions.now.items c.make_room.new.sessions.items = c.in_ok-make_room.ensures in
    shows_at c.args.sessions.now.items c.make_room.new.sessions.items c.args.session c.args.server c.args.bytes.now c.index_mut.result.now c.hear.new.self c.args.lines.now c.hear.new.lines c.hear.result
    room.sessions room.room (get_or_read c.make_room.new.sessions.items c.args.session c.index_mut.result.now room.room c.index_mut.ensures.value fresh_session) c.hear.ensures
