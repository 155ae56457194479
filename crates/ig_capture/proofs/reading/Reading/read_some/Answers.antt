use Rattle.std.proofs.Common.{◌≡◌, ◌<◌, ◌≤◌, ℕ, length, Ok, Err, sym, subst, arith}
use Rattle.ig_capture.specs.Heads.{HasLeft, ReadsSome}
use Rattle.ig_capture.specs.Reading as readings
use Rattle.ig_capture.proofs.HeadLemmas.{run_some, run_stopped}
use Rattle.ig_capture.proofs.reading.Reading.read_some.Goals as goal

pub returns-in-Ok : goal.returns-in-Ok
returns-in-Ok c =
    let r : readings.Reading = record { field = c.self.inside.field; place = c.self.inside.place; came = c.self.inside.came; sessions = c.self.inside.sessions.items } in
    let left : 0 < c.in-Bytes.left = subst HasLeft c.in-Bytes.is c.self.invariant in
    let some : 0 < c.min-len.result = omega (arith, left, c.requires, c.min-len.ensures) in
    let low : c.min-len.result ≤ c.in-Bytes.left = omega (arith, c.min-len.ensures) in
    let high : c.min-len.result ≤ length c.args.piece.now = omega (arith, c.min-len.ensures) in
    subst (λ (x : readings.Reading). ReadsSome c.args.piece.now c.args.self.now x c.args.lines.now c.hear_at.new.lines (Ok c.min-len.result)) (sym c.fewer.ensures)
    (subst (λ (x : readings.Reading). ReadsSome c.args.piece.now x
    (readings.fewer_left c.in-Bytes.server c.in-Bytes.session c.in-Bytes.count c.in-Bytes.left c.min-len.result (record r { sessions = c.hear_at.new.sessions.items })) c.args.lines.now c.hear_at.new.lines (Ok c.min-len.result)) c.self.view_is
    (run_some c.in-Bytes.server c.in-Bytes.session c.in-Bytes.count c.in-Bytes.left r c.in-Bytes.is c.args.piece.now c.min-len.result c.hear_at.new.sessions.items c.args.lines.now c.hear_at.new.lines some low high c.in-Ok.ensures))

pub returns-in-Err : goal.returns-in-Err
returns-in-Err c =
    let r : readings.Reading = record { field = c.self.inside.field; place = c.self.inside.place; came = c.self.inside.came; sessions = c.self.inside.sessions.items } in
    let left : 0 < c.in-Bytes.left = subst HasLeft c.in-Bytes.is c.self.invariant in
    let some : 0 < c.min-len.result = omega (arith, left, c.requires, c.min-len.ensures) in
    let low : c.min-len.result ≤ c.in-Bytes.left = omega (arith, c.min-len.ensures) in
    let high : c.min-len.result ≤ length c.args.piece.now = omega (arith, c.min-len.ensures) in
    subst (λ (x : readings.Reading). ReadsSome c.args.piece.now x (record r { sessions = c.hear_at.new.sessions.items }) c.args.lines.now c.hear_at.new.lines (Err c.in-Err.fault)) c.self.view_is
    (run_stopped c.in-Bytes.server c.in-Bytes.session c.in-Bytes.count c.in-Bytes.left r c.in-Bytes.is c.args.piece.now c.min-len.result c.hear_at.new.sessions.items (record r { sessions = c.hear_at.new.sessions.items })
    c.args.lines.now c.hear_at.new.lines c.in-Err.fault some low high c.in-Err.ensures)
