use Rattle.std.proofs.Common.{◌≡◌, ◌≤◌, List, ℕ, ◌-◌, ◌++◌, length, take, drop, sym, ap, ◌∙◌, arith}
use Rattle.std.specs.Prelude.{min}
use Rattle.std.proofs.lemmas.List.{length-drop}
use Rattle.ig_wire.specs.Limits.{piece_bytes}
use Rattle.ig_replies.proofs.PartLemmas.{refilled, refilled_length, first_of_room}
use Rattle.ig_replies.proofs.piece.Piece.refill.Goals as goal

pub returns-clause-some : goal.returns-clause-some
returns-clause-some c = c.fill-self-inside.ensures.some

pub returns-clause-piece : goal.returns-clause-piece
returns-clause-piece c =
    let left : List ℕ = drop c.args.frame.now.gone c.args.frame.now.frame in
    let old : List ℕ = c.as_mut_slice.result.now in
    let filled : List ℕ = c.fill-self-inside.new.into in
    let n : ℕ = c.fill-self-inside.result in
    let room : ℕ = c.self.inside.bytes.len in
    let size : length old ≡ piece_bytes = ap length c.as_mut_slice.ensures.value ∙ c.self.invariant.2 in
    let room_is : room ≡ piece_bytes = sym c.as_mut_slice.ensures.len ∙ size in
    let n_is : n ≡ min piece_bytes (length left) =
    omega (arith, c.fill-self-inside.ensures.count, size, length-drop c.args.frame.now.gone c.args.frame.now.frame) in
    let all : length filled ≡ piece_bytes = ap length c.fill-self-inside.ensures.bytes ∙ refilled_length left old n piece_bytes n_is size in
    let fits : n ≤ piece_bytes = omega (arith, n_is) in
    first_of_room n room filled (drop (length filled) c.self.inside.bytes.items) (omega (arith, fits, room_is)) (omega (arith, fits, all))
    ∙ ap (take n) c.fill-self-inside.ensures.bytes ∙ refilled left old n piece_bytes n_is
