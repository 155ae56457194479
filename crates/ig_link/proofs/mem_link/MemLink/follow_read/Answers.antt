use Rattle.std.proofs.Common.{◌≡◌, ℕ, ◌+◌, ◌<◌, true, false, List, min, is_ok, length, take, drop, sym, ap, ◌∙◌, refl, ◌++◌, arith, rules, length-drop}
use Rattle.std.proofs.lemmas.Bool.{ltb-true, cond-true}
use Rattle.std.proofs.lemmas.List.{length-append, length-take-le}
use Rattle.std.specs.List.{list_any}
use Rattle.ig_link.specs.declared.mem_link.ReadStep.TheVariants as reads
use Rattle.ig_link.specs.Script.{bytes_of, may_stop}
use Rattle.ig_link.specs.MemLink.{reads_left}
use Rattle.ig_link.specs.ScriptOffset.{steps_from_offset}
use Rattle.ig_link.proofs.ScriptLemmas.{at_place, may_end, same_bytes, used_up, BytesPassed, bytes_passed, reads_bytes}
use Rattle.ig_link.proofs.mem_link.MemLink.follow_read.Goals as goal

pub invariant_of-self-then-waits : goal.invariant_of-self-then-waits
invariant_of-self-then-waits c =
    let skipped = rw c.deref.ensures.value at c.skip_steps.ensures.steps in
    let look = rw c.deref-2.ensures.value at c.in-Some-AfterWritten.ensures.lookup in
    let within : c.skip_steps.result.0 < length c.self.inside.reads.items = ltb-true _ _ (sym look.0) in
    let old = c.self.invariant in
    let same = ap length (same_bytes c.self.inside.written_count c.args.waits (reads_left c.self.inside) _ skipped) in
    let may : list_any may_stop (steps_from_offset c.skip_steps.result.1 (drop c.skip_steps.result.0 c.self.inside.reads.items)) ≡ true =
    ap (list_any may_stop) (at_place c.self.inside.reads.items c.skip_steps.result.0 c.skip_steps.result.1 c.in-Some-AfterWritten.field-0.now within look.1)
    ∙ may_end c.in-Some-AfterWritten.field-0.now c.in-Some-AfterWritten.field-0-0 c.skip_steps.result.1 (drop (c.skip_steps.result.0 + 1) c.self.inside.reads.items) c.in-Some-AfterWritten.field-0-is in
    record {
      reads_within = omega (arith, within);
      writes_within = old.writes_within;
      at_end = λ ended none. let wrong : true ≡ false = sym may ∙ none in cc;
      taken_room = omega (arith, same, old.taken_room);
      written_room = old.written_room;
      written_within = old.written_within;
    }

pub invariant_of-self-else-waits : goal.invariant_of-self-else-waits
invariant_of-self-else-waits c =
    let skipped = rw c.deref.ensures.value at c.skip_steps.ensures.steps in
    let look = rw c.deref-2.ensures.value at c.in-Some-AfterWritten.ensures.lookup in
    let within : c.skip_steps.result.0 < length c.self.inside.reads.items = ltb-true _ _ (sym look.0) in
    let old = c.self.invariant in
    let same = ap length (same_bytes c.self.inside.written_count c.args.waits (reads_left c.self.inside) _ skipped) in
    record {
      reads_within = omega (arith, within);
      writes_within = old.writes_within;
      at_end = λ ended none. let still = c.if-self.false in cc;
      taken_room = omega (arith, same, old.taken_room);
      written_room = old.written_room;
      written_within = old.written_within;
    }

pub invariant_of-self-in-Some-Pause : goal.invariant_of-self-in-Some-Pause
invariant_of-self-in-Some-Pause c =
    let skipped = rw c.deref.ensures.value at c.skip_steps.ensures.steps in
    let look = rw c.deref-2.ensures.value at c.in-Some-Pause.ensures.lookup in
    let within : c.skip_steps.result.0 < length c.self.inside.reads.items = ltb-true _ _ (sym look.0) in
    let old = c.self.invariant in
    let same = ap length (used_up c.self.inside.written_count c.args.waits c.self.inside.reads.items (reads_left c.self.inside) c.skip_steps.result.0 c.skip_steps.result.1 c.in-Some-Pause.field-0.now reads.Pause skipped within look.1 c.in-Some-Pause.field-0-is refl) in
    record {
      reads_within = omega (arith, within);
      writes_within = old.writes_within;
      at_end = λ ended none. let still = c.if-self.false in cc;
      taken_room = omega (arith, same, old.taken_room);
      written_room = old.written_room;
      written_within = old.written_within;
    }

pub invariant_of-self-in-Some-Fault : goal.invariant_of-self-in-Some-Fault
invariant_of-self-in-Some-Fault c =
    let skipped = rw c.deref.ensures.value at c.skip_steps.ensures.steps in
    let look = rw c.deref-2.ensures.value at c.in-Some-Fault.ensures.lookup in
    let within : c.skip_steps.result.0 < length c.self.inside.reads.items = ltb-true _ _ (sym look.0) in
    let old = c.self.invariant in
    let same = ap length (used_up c.self.inside.written_count c.args.waits c.self.inside.reads.items (reads_left c.self.inside) c.skip_steps.result.0 c.skip_steps.result.1 c.in-Some-Fault.field-0.now reads.Fault skipped within look.1 c.in-Some-Fault.field-0-is refl) in
    record {
      reads_within = omega (arith, within);
      writes_within = old.writes_within;
      at_end = λ ended none. let still = c.if-self.false in cc;
      taken_room = omega (arith, same, old.taken_room);
      written_room = old.written_room;
      written_within = old.written_within;
    }

pub invariant_of-self-in-Some-Bytes : goal.invariant_of-self-in-Some-Bytes
invariant_of-self-in-Some-Bytes c =
    let skipped = rw c.deref.ensures.value at c.skip_steps.ensures.steps in
    let look = rw c.deref-2.ensures.value at c.in-Some-Bytes.ensures.lookup in
    let within : c.skip_steps.result.0 < length c.self.inside.reads.items = ltb-true _ _ (sym look.0) in
    let n : ℕ = c.copy_some-n.result in
    let fresh : List ℕ = drop c.skip_steps.result.1 c.in-Some-Bytes.bytes in
    let left : c.bytes_from-left.result.now ≡ fresh = c.bytes_from-left.ensures ∙ ap (drop c.skip_steps.result.1) c.as_slice.ensures in
    let step : BytesPassed n fresh c.self.inside.written_count c.args.waits (reads_left c.self.inside) (steps_from_offset (c.skip_steps.result.1 + n) (drop c.skip_steps.result.0 c.self.inside.reads.items)) =
    bytes_passed c.self.inside.written_count c.args.waits c.self.inside.reads.items (reads_left c.self.inside) c.skip_steps.result.0 c.skip_steps.result.1 n c.in-Some-Bytes.field-0.now c.in-Some-Bytes.bytes
    skipped within look.1 c.in-Some-Bytes.field-0-is in
    let size : n ≡ min (length fresh) (length c.args.buf.now) = c.copy_some-n.ensures.count ∙ ap (λ (l : List ℕ). min (length l) (length c.args.buf.now)) left in
    let before = ap length step.bytes_before ∙ length-append fresh (bytes_of step.others) in
    let piece = ap (λ (l : List ℕ). length (take n l)) left ∙ length-take-le n fresh (omega (arith, size)) in
    let ok : is_ok c.extend_from_slice.result ≡ true = c.extend_from_slice.ensures.succeeds (omega (arith, piece, before, size, c.self.invariant.taken_room)) in
    let old = c.self.invariant in
    let after = ap length step.bytes_after ∙ length-append (drop n fresh) (bytes_of step.others) in
    let grown = c.extend_from_slice.ensures.len ∙ cond-true _ _ _ ok in
    record {
      reads_within = omega (arith, within);
      writes_within = old.writes_within;
      at_end = λ ended none. let still = c.if-self.false in cc;
      taken_room = omega (arith, grown, after, before, piece, size, length-drop n fresh, old.taken_room, c.extend_from_slice.ensures.capacity);
      written_room = old.written_room;
      written_within = old.written_within;
    }

pub returns-in-Some-Bytes : goal.returns-in-Some-Bytes
returns-in-Some-Bytes c =
    let skipped = rw c.deref.ensures.value at c.skip_steps.ensures.steps in
    let look = rw c.deref-2.ensures.value at c.in-Some-Bytes.ensures.lookup in
    let within : c.skip_steps.result.0 < length c.self.inside.reads.items = ltb-true _ _ (sym look.0) in
    let n : ℕ = c.copy_some-n.result in
    let fresh : List ℕ = drop c.skip_steps.result.1 c.in-Some-Bytes.bytes in
    let left : c.bytes_from-left.result.now ≡ fresh = c.bytes_from-left.ensures ∙ ap (drop c.skip_steps.result.1) c.as_slice.ensures in
    let step : BytesPassed n fresh c.self.inside.written_count c.args.waits (reads_left c.self.inside) (steps_from_offset (c.skip_steps.result.1 + n) (drop c.skip_steps.result.0 c.self.inside.reads.items)) =
    bytes_passed c.self.inside.written_count c.args.waits c.self.inside.reads.items (reads_left c.self.inside) c.skip_steps.result.0 c.skip_steps.result.1 n c.in-Some-Bytes.field-0.now c.in-Some-Bytes.bytes
    skipped within look.1 c.in-Some-Bytes.field-0-is in
    let size : n ≡ min (length fresh) (length c.args.buf.now) = c.copy_some-n.ensures.count ∙ ap (λ (l : List ℕ). min (length l) (length c.args.buf.now)) left in
    let before = ap length step.bytes_before ∙ length-append fresh (bytes_of step.others) in
    let piece = ap (λ (l : List ℕ). length (take n l)) left ∙ length-take-le n fresh (omega (arith, size)) in
    let ok : is_ok c.extend_from_slice.result ≡ true = c.extend_from_slice.ensures.succeeds (omega (arith, piece, before, size, c.self.invariant.taken_room)) in
    let grown = c.extend_from_slice.ensures.items ∙ cond-true _ _ _ ok in
    rw (← c.self.view_is)
    record {
      steps = λ still. reads_bytes c.self.inside.written_count c.args.waits (reads_left c.self.inside) _ fresh n c.copy_some-n.new.buf step (size ∙ ap (min (length fresh)) (sym c.copy_some-n.auto.buf)) (c.copy_some-n.ensures.copied ∙ ap (take n) left);
      stays = λ ended. let still = c.if-self.false in cc;
      settled = λ ended none. let still = c.if-self.false in cc;
      taken = grown ∙ ap (λ (l : List ℕ). c.self.inside.taken.items ++ l) (sym c.copy_some-n.ensures.copied);
      counts = (refl, refl, c.if-self.false);
      in_range = (search rules, search rules);
      same = refl;
      writes = refl;
      room = refl;
      written_count = refl;
    }
