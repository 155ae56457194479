use Rattle.std.proofs.Common.{◌≡◌, ◌∙◌, ℕ, ◌+◌, ◌-◌, ◌^◌, ℤ, List, [], length, min, take, drop, w64, to_z, of_z, Some, sym, ap, arith}
use Rattle.std.proofs.lemmas.Int.{to_z-of_z}
use Rattle.std.specs.FinMap as map
use Rattle.std.specs.Result.{is_ok}
use Rattle.ig_base.specs.Numbers.{number_at}
use Rattle.ig_base.specs.Frames.{front, max_body}
use Rattle.ig_base.proofs.FrameLemmas.{front-short}
use Rattle.ig_client.specs.contracts.pending.Pending as pending
use Rattle.ig_client.specs.declared.fault.Break.TheVariants.{Unasked}
use Rattle.ig_client.specs.PendingState.{PendingState, filed, unless_broken, map_of, broken}
use Rattle.ig_client.proofs.PendingLemmas.{extended, id_read, with_part, files_reply, files_unasked}
use Rattle.ig_client.proofs.pending.Pending.file.Goals as goal

-- ---- a frame that wasn't asked for

unasked : (c : goal.After-self-then-not-is_waiting-1)
    → broken (Unasked (to_z w64 (of_z w64 c.unwrap_or-id.result))) (with_part c.extend_from_slice.new.self.items (pending.the_view c.self.inside)) ≡ filed c.args.piece.now c.args.self.now
unasked c =
    let id : ℤ = to_z w64 (of_z w64 c.unwrap_or-id.result) in
    let old : PendingState = pending.the_view c.self.inside in
    let items : List ℕ = c.extend_from_slice.new.self.items in
    let all : List ℕ = c.as_slice.result.now in
    let room : old.room ≡ c.args.self.now.room = ap (λ (v : PendingState). v.room) c.self.view_is in
    files_unasked old c.args.piece.now items (take c.in-Whole.len (drop 4 all)) (drop (4 + c.in-Whole.len) all) id
    (extended c.self.inside.part.items c.args.piece.now items (is_ok c.extend_from_slice.result) c.extend_from_slice.ensures.items
    (c.extend_from_slice.ensures.succeeds (omega (arith, c.self.invariant.0, c.requires.fits, room))))
    (ap (front c.self.inside.least max_body) (sym c.as_slice.ensures.value) ∙ c.in-Whole.ensures.1)
    (id_read all c.in-Whole.len c.get_i64.result c.unwrap_or-id.result id
    (c.get_i64.ensures.exact ∙ ap (λ (l : List ℕ). number_at w64 (take (4 + c.in-Whole.len - 4) (drop 4 l)) 0) (c.deref.ensures.value ∙ sym c.as_slice.ensures.value))
    c.unwrap_or-id.ensures (to_z-of_z w64 c.unwrap_or-id.result (record { sfits = c.unwrap_or-id.type_inv })))
    (sym c.is_waiting.ensures ∙ c.if-not-is_waiting.true)
    ∙ ap (filed c.args.piece.now) c.self.view_is

pub returns-then-not-is_waiting-clause-new : goal.returns-then-not-is_waiting-clause-new
returns-then-not-is_waiting-clause-new c = unasked c

pub returns-then-not-is_waiting-clause-answer : goal.returns-then-not-is_waiting-clause-answer
returns-then-not-is_waiting-clause-answer c = ap (λ (v : PendingState). unless_broken v.down) (unasked c)

-- ---- the reply to a pending call

pub invariant_of-self-in-Whole : goal.invariant_of-self-in-Whole
invariant_of-self-in-Whole c = (
  omega (arith, c.replace-frame.new.dest.ok.1),
  record {
    ids = c.self.invariant.1.ids;
    pending = omega (arith, c.self.invariant.1.pending, c.saturating_sub-self-inside.ensures);
    reading = λ up. (
      4,
      ap (λ v. front c.self.inside.least max_body v.items) c.replace-frame.ensures.after
          ∙ ap (front c.self.inside.least max_body) c.new.ensures.items
          ∙ front-short c.self.inside.least max_body [] (omega arith),
    );
  },
)

pub returns-else-not-is_waiting-clause-new : goal.returns-else-not-is_waiting-clause-new
returns-else-not-is_waiting-clause-new c =
    let id : ℤ = to_z w64 (of_z w64 c.unwrap_or-id.result) in
    let old : PendingState = pending.the_view c.self.inside in
    let items : List ℕ = c.extend_from_slice.new.self.items in
    let all : List ℕ = c.as_slice.result.now in
    let room : old.room ≡ c.args.self.now.room = ap (λ (v : PendingState). v.room) c.self.view_is in
    let len : c.len.result ≡ length items = c.len.ensures ∙ ap (λ v. v.len) c.replace-frame.ensures.value ∙ c.extend_from_slice.new.self.ok.0 in
    files_reply old c.args.piece.now items (take c.in-Whole.len (drop 4 all)) (drop (4 + c.in-Whole.len) all) id
    c.saturating_sub-self-inside.result c.saturating_add-self-inside.result (map_of c.put_reply.new.replies.entries) c.replace-frame.new.dest.items
    (extended c.self.inside.part.items c.args.piece.now items (is_ok c.extend_from_slice.result) c.extend_from_slice.ensures.items
    (c.extend_from_slice.ensures.succeeds (omega (arith, c.self.invariant.0, c.requires.fits, room))))
    (ap (front c.self.inside.least max_body) (sym c.as_slice.ensures.value) ∙ c.in-Whole.ensures.1)
    (id_read all c.in-Whole.len c.get_i64.result c.unwrap_or-id.result id
    (c.get_i64.ensures.exact ∙ ap (λ (l : List ℕ). number_at w64 (take (4 + c.in-Whole.len - 4) (drop 4 l)) 0) (c.deref.ensures.value ∙ sym c.as_slice.ensures.value))
    c.unwrap_or-id.ensures (to_z-of_z w64 c.unwrap_or-id.result (record { sfits = c.unwrap_or-id.type_inv })))
    (sym c.is_waiting.ensures ∙ c.if-not-is_waiting.false)
    c.saturating_sub-self-inside.ensures
    (c.put_reply.ensures ∙ ap (λ (f : List ℕ). map.insert old.replies id (Some f)) (c.new-in-Whole.ensures ∙ ap (λ v. v.items) c.replace-frame.ensures.value))
    (c.saturating_add-self-inside.ensures ∙ ap (λ n. min (c.self.inside.place + n) (2 ^ 64 - 1)) len)
    (ap (λ v. v.items) c.replace-frame.ensures.after ∙ c.new.ensures.items)
    ∙ ap (filed c.args.piece.now) c.self.view_is

pub returns-else-not-is_waiting-clause-answer : goal.returns-else-not-is_waiting-clause-answer
returns-else-not-is_waiting-clause-answer c =
    sym (ap unless_broken (ap (λ (v : PendingState). v.down) c.self.view_is ∙ c.requires.up))
    ∙ ap (λ (v : PendingState). unless_broken v.down) (returns-else-not-is_waiting-clause-new c)
