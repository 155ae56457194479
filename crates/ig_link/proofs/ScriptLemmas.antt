-- Steps of a script.
use Rattle.std.proofs.Common.{◌≡◌, ℕ, ◌+◌, ◌-◌, ◌<◌, ◌≤◌, ◌^◌, Bool, true, false, not, nat_lt, nat_le, List, [], ◌∷◌, ◌++◌, length, take, drop, get_or, min, Some, if◌then◌else◌, refl, sym, ap, ◌∙◌, subst, arith, length-drop, inl, inr, append_assoc}
use Rattle.std.proofs.lemmas.Bool.{cases_lt, false_from_ne_true, true_from_ne_false, le-leb, lt-leb}
use Rattle.std.proofs.lemmas.List.{drop_more, drop-drop, take-append-drop}
use Rattle.std.specs.List.{list_any}
use Rattle.ig_link.specs.States.{Rose, SourceAdvances}
use Rattle.ig_link.specs.ReadsAs.{ReadSome, ReadEnd, ReadFault, ReadsAs}
use Rattle.ig_link.specs.ReadsNowAs.{ReadPause, ReadsNowAs}
use Rattle.ig_link.specs.declared.ends.Take.{Take}
use Rattle.ig_link.specs.declared.ends.Take.TheVariants as took
use Rattle.ig_link.specs.declared.link.TakeNow.{TakeNow}
use Rattle.ig_link.specs.declared.link.TakeNow.TheVariants as now
use Rattle.ig_link.specs.declared.mem_link.ReadStep.{ReadStep}
use Rattle.ig_link.specs.declared.mem_link.ReadStep.TheVariants as reads
use Rattle.ig_link.specs.Script.{Script, script_source, bytes_of, may_stop, is_skipped, after_skipped, next_count, NextRead, ScriptReads, as_now}
use Rattle.ig_link.specs.ScriptOffset.{step_from_offset, steps_from_offset}

pub skips : (count : ℕ) (waits : Bool) (step : ReadStep) (steps : List ReadStep) → is_skipped count waits step ≡ true → after_skipped count waits (step ∷ steps) ≡ after_skipped count waits steps
skips count waits step steps e = ap (λ b. if b then after_skipped count waits steps else (step ∷ steps)) e

pub stops : (count : ℕ) (waits : Bool) (step : ReadStep) (steps : List ReadStep) → is_skipped count waits step ≡ false → after_skipped count waits (step ∷ steps) ≡ step ∷ steps
stops count waits step steps e = ap (λ b. if b then after_skipped count waits steps else (step ∷ steps)) e

-- the steps at a place, of which the first may be gone in part
pub at_place : (steps : List ReadStep) (next offset : ℕ) (d : ReadStep) → next < length steps → d ≡ get_or steps next d → steps_from_offset offset (drop next steps) ≡ step_from_offset offset d ∷ drop (next + 1) steps
at_place steps next offset d within read = ap (steps_from_offset offset) (drop_more steps next d within ∙ ap (λ s. s ∷ drop (next + 1) steps) (sym read))

step_from_offset-zero : (step : ReadStep) → step_from_offset 0 step ≡ step
step_from_offset-zero (reads.Bytes bytes) = refl
step_from_offset-zero reads.Pause = refl
step_from_offset-zero (reads.AfterWritten n) = refl
step_from_offset-zero reads.Fault = refl

pub steps_from_offset-zero : (steps : List ReadStep) → steps_from_offset 0 steps ≡ steps
steps_from_offset-zero [] = refl
steps_from_offset-zero (step ∷ steps) = ap (λ s. s ∷ steps) (step_from_offset-zero step)

-- a place whose step is is_skipped over
pub skips_at : (count : ℕ) (waits : Bool) (steps : List ReadStep) (next offset : ℕ) (d : ReadStep) → next < length steps → d ≡ get_or steps next d → is_skipped count waits (step_from_offset offset d) ≡ true
    → after_skipped count waits (steps_from_offset 0 (drop (next + 1) steps)) ≡ after_skipped count waits (steps_from_offset offset (drop next steps))
skips_at count waits steps next offset d within read e =
    ap (after_skipped count waits) (steps_from_offset-zero (drop (next + 1) steps)) ∙ sym (skips count waits (step_from_offset offset d) (drop (next + 1) steps) e) ∙ ap (after_skipped count waits) (sym (at_place steps next offset d within read))

-- a place whose step isn't
pub stops_at : (count : ℕ) (waits : Bool) (steps : List ReadStep) (next offset : ℕ) (d : ReadStep) → next < length steps → d ≡ get_or steps next d → is_skipped count waits (step_from_offset offset d) ≡ false
    → steps_from_offset offset (drop next steps) ≡ after_skipped count waits (steps_from_offset offset (drop next steps))
stops_at count waits steps next offset d within read e =
    at_place steps next offset d within read ∙ sym (stops count waits (step_from_offset offset d) (drop (next + 1) steps) e) ∙ ap (after_skipped count waits) (sym (at_place steps next offset d within read))

-- a step that is is_skipped over takes no bytes away
pub bytes_of-after_skipped : (count : ℕ) (waits : Bool) (steps : List ReadStep) → bytes_of (after_skipped count waits steps) ≡ bytes_of steps
bytes_of-after_skipped count waits [] = refl
bytes_of-after_skipped count waits (reads.Bytes [] ∷ steps) = bytes_of-after_skipped count waits steps
bytes_of-after_skipped count waits (reads.Bytes (byte ∷ bytes) ∷ steps) = refl
bytes_of-after_skipped count waits (reads.Fault ∷ steps) = refl
bytes_of-after_skipped count true (reads.Pause ∷ steps) = bytes_of-after_skipped count true steps
bytes_of-after_skipped count false (reads.Pause ∷ steps) = refl
bytes_of-after_skipped count waits (reads.AfterWritten n ∷ steps) =
    elim (nat_lt count n) as (λ b. bytes_of (if not b then after_skipped count waits steps else (reads.AfterWritten n ∷ steps)) ≡ bytes_of steps) [
      | true ↦ refl
      | false ↦ bytes_of-after_skipped count waits steps
    ]

-- where no step may stop a read, none does after_skipped those that are is_skipped over
pub holds-after_skipped : (count : ℕ) (waits : Bool) (steps : List ReadStep) → list_any may_stop steps ≡ false → list_any may_stop (after_skipped count waits steps) ≡ false
holds-after_skipped count waits [] e = refl
holds-after_skipped count waits (reads.Bytes [] ∷ steps) e = holds-after_skipped count waits steps e
holds-after_skipped count waits (reads.Bytes (byte ∷ bytes) ∷ steps) e = e
holds-after_skipped count waits (reads.Fault ∷ steps) e = cc
holds-after_skipped count true (reads.Pause ∷ steps) e = holds-after_skipped count true steps e
holds-after_skipped count false (reads.Pause ∷ steps) e = e
holds-after_skipped count waits (reads.AfterWritten n ∷ steps) e = cc

not_skipped_from : (count : ℕ) (waits : Bool) (s step : ReadStep) (ss steps : List ReadStep) (b : Bool) → is_skipped count waits s ≡ b → (after_skipped count waits ss ≡ step ∷ steps → is_skipped count waits step ≡ false)
    → after_skipped count waits (s ∷ ss) ≡ step ∷ steps → is_skipped count waits step ≡ false
not_skipped_from count waits s step ss steps true e more h = more (sym (skips count waits s ss e) ∙ h)
not_skipped_from count waits s step ss steps false e more h =
    let same : s ≡ step = let whole = sym (stops count waits s ss e) ∙ h in cc in
    ap (is_skipped count waits) (sym same) ∙ e

-- the step at which it stops isn't is_skipped over
pub not_skipped : (count : ℕ) (waits : Bool) (all : List ReadStep) (step : ReadStep) (steps : List ReadStep) → after_skipped count waits all ≡ step ∷ steps → is_skipped count waits step ≡ false
not_skipped count waits [] step steps h = cc
not_skipped count waits (s ∷ ss) step steps h = not_skipped_from count waits s step ss steps (is_skipped count waits s) refl (not_skipped count waits ss step steps) h

pub first_bytes-some : (count : ℕ) (waits : Bool) (bytes : List ℕ) → is_skipped count waits (reads.Bytes bytes) ≡ false → 0 < length bytes
first_bytes-some count waits [] e = cc
first_bytes-some count waits (byte ∷ bytes) e = omega arith

-- What the steps are at a place once those before it were is_skipped over.
pub here : (count : ℕ) (waits : Bool) (steps before : List ReadStep) (next offset : ℕ) (d step : ReadStep) → steps_from_offset offset (drop next steps) ≡ after_skipped count waits before
    → next < length steps → d ≡ get_or steps next d → d ≡ step → after_skipped count waits before ≡ step_from_offset offset step ∷ drop (next + 1) steps
here count waits steps before next offset d step gone within read is =
    sym gone ∙ at_place steps next offset d within read ∙ ap (λ s. step_from_offset offset s ∷ drop (next + 1) steps) is

-- no bytes go with the steps that are is_skipped over
pub same_bytes : (count : ℕ) (waits : Bool) (before after : List ReadStep) → after ≡ after_skipped count waits before → bytes_of after ≡ bytes_of before
same_bytes count waits before after e = ap bytes_of e ∙ bytes_of-after_skipped count waits before

pub record BytesPassed (n : ℕ) (bytes : List ℕ) (count : ℕ) (waits : Bool) (before after : List ReadStep) : Type 0 where
  pub others : List ReadStep
  pub was : after_skipped count waits before ≡ reads.Bytes bytes ∷ others
  pub is : after ≡ reads.Bytes (drop n bytes) ∷ others
  pub bytes_before : bytes_of before ≡ bytes ++ bytes_of others
  pub bytes_after : bytes_of after ≡ drop n bytes ++ bytes_of others

pub bytes_passed : (count : ℕ) (waits : Bool) (steps before : List ReadStep) (next offset n : ℕ) (d : ReadStep) (bytes : List ℕ) → steps_from_offset offset (drop next steps) ≡ after_skipped count waits before
    → next < length steps → d ≡ get_or steps next d → d ≡ reads.Bytes bytes → BytesPassed n (drop offset bytes) count waits before (steps_from_offset (offset + n) (drop next steps))
bytes_passed count waits steps before next offset n d bytes gone within read is =
    let was = here count waits steps before next offset d (reads.Bytes bytes) gone within read is in
    let now : steps_from_offset (offset + n) (drop next steps) ≡ reads.Bytes (drop n (drop offset bytes)) ∷ drop (next + 1) steps =
    at_place steps next (offset + n) d within read ∙ ap (λ s. step_from_offset (offset + n) s ∷ drop (next + 1) steps) is ∙ ap (λ l. reads.Bytes l ∷ drop (next + 1) steps) (sym (drop-drop n offset bytes)) in
    record {
      others = drop (next + 1) steps;
      was = was;
      is = now;
      bytes_before = sym (bytes_of-after_skipped count waits before) ∙ ap bytes_of was;
      bytes_after = ap bytes_of now;
    }

-- what a read answers at a step of bytes
pub reads_bytes : (count : ℕ) (waits : Bool) (before after : List ReadStep) (bytes : List ℕ) (n : ℕ) (buf : List ℕ) → BytesPassed n bytes count waits before after → n ≡ min (length bytes) (length buf)
    → take n buf ≡ take n bytes → NextRead waits (after_skipped count waits before) (now.Bytes n) after buf
reads_bytes count waits before after bytes n buf p size copied = subst (λ (s : List ReadStep). NextRead waits s (now.Bytes n) after buf) (sym p.was)
    (ap now.Bytes size, subst (λ (k : ℕ). take k buf ≡ take k bytes) size copied, p.is ∙ ap (λ k. reads.Bytes (drop k bytes) ∷ p.others) size)

-- ---- what the script does is what the traits say

pub next_count-rises : (n : ℕ) → n < 2 ^ 64 → Rose n (next_count n)
next_count-rises n fits = elim (cases_lt n (2 ^ 64 - 1)) [
  | inl below ↦ inl (omega arith)
  | inr top ↦ inr (omega arith)
]

module _ (waits : Bool) (old new : Script) (buf : List ℕ) where
  -- an answer but the end says that the script hadn't ended
  is_open : (answer : TakeNow) → (answer ≡ now.End → ⊥) → ScriptReads waits answer old new buf → old.ended ≡ false
  is_open answer other step = false_from_ne_true old.ended (λ ended. other (step.stays ended).0)

  holds_on : (s : List ReadStep) → after_skipped old.written_count waits old.reads ≡ s → list_any may_stop s ≡ list_any may_stop new.reads → not (list_any may_stop old.reads) ≡ true
      → not (list_any may_stop new.reads) ≡ true
  holds_on s e same h =
      let none : list_any may_stop old.reads ≡ false = false_from_ne_true _ (λ yes. let no = ap not yes in cc) in
      let later = holds-after_skipped old.written_count waits old.reads none in
      ap not (sym same ∙ ap (list_any may_stop) (sym e) ∙ later)

  script_advances : (bytes : List ℕ) → new.taken ≡ old.taken ++ bytes → bytes_of old.reads ≡ bytes ++ bytes_of new.reads → old.read_faults ≤ new.read_faults → old.pauses ≤ new.pauses
      → (not (list_any may_stop old.reads) ≡ true → not (list_any may_stop new.reads) ≡ true) → SourceAdvances (script_source old) (script_source new) bytes
  script_advances bytes taken left faults pauses holds = record {
    taken = taken;
    left = left;
    untold_taken = λ none. cc;
    untold_left = λ untold none. cc;
    stays_untold = λ untold. untold;
    faults = faults;
    pauses = pauses;
    holds = holds;
  }

  read_some : (n : ℕ) (s : List ReadStep) → after_skipped old.written_count waits old.reads ≡ s → 0 < length buf → NextRead waits s (now.Bytes n) new.reads buf → ScriptReads waits (now.Bytes n) old new buf
      → ReadSome n (script_source old) (script_source new) buf
  read_some n [] e room to step = let wrong = to.0 in cc
  read_some n (reads.Fault ∷ steps) e room to step = let wrong = to.0 in cc
  read_some n (reads.Pause ∷ steps) e room to step = let wrong = to.0 in cc
  read_some n (reads.AfterWritten k ∷ steps) e room to step =
      (elim waits as (λ w. now.Bytes n ≡ (if w then now.End else now.NotYet) → ReadSome n (script_source old) (script_source new) buf) [ true ↦ λ wrong. cc | false ↦ λ wrong. cc ]) to.0
  read_some n (reads.Bytes bytes ∷ steps) e room to step =
      let size : n ≡ min (length bytes) (length buf) = let same = to.0 in cc in
      let after : new.reads ≡ reads.Bytes (drop n bytes) ∷ steps = to.2 ∙ ap (λ k. reads.Bytes (drop k bytes) ∷ steps) (sym size) in
      let copied : take n buf ≡ take n bytes = subst (λ (k : ℕ). take k buf ≡ take k bytes) (sym size) to.1 in
      let all = sym (bytes_of-after_skipped old.written_count waits old.reads) ∙ ap bytes_of e in
      let whole : bytes_of old.reads ≡ take n buf ++ bytes_of new.reads =
      all ∙ ap (λ l. l ++ bytes_of steps) (sym (take-append-drop n bytes)) ∙ append_assoc (take n bytes) (drop n bytes) (bytes_of steps)
      ∙ ap (λ l. l ++ (drop n bytes ++ bytes_of steps)) (sym copied) ∙ ap (λ s. take n buf ++ bytes_of s) (sym after) in
      record {
        some = omega (arith, size, first_bytes-some old.written_count waits bytes (not_skipped old.written_count waits old.reads (reads.Bytes bytes) steps e), room);
        fits = omega (arith, size);
        advances = script_advances (take n buf) step.taken whole (omega (arith, step.counts.0)) (omega (arith, step.counts.1)) (holds_on (reads.Bytes bytes ∷ steps) e (ap (list_any may_stop) (sym after)));
        was_open = is_open (now.Bytes n) (λ wrong. cc) step;
        is_open = step.counts.2;
        counts = step.counts.0;
        pauses = step.counts.1;
      }

  read_pause : (s : List ReadStep) → after_skipped old.written_count waits old.reads ≡ s → NextRead waits s now.NotYet new.reads buf → ScriptReads waits now.NotYet old new buf
      → ReadPause (script_source old) (script_source new)
  read_pause [] e to step = let wrong = to.0 in cc
  read_pause (reads.Fault ∷ steps) e to step = let wrong = to.0 in cc
  read_pause (reads.Bytes bytes ∷ steps) e to step = let wrong = to.0 in cc
  read_pause (reads.Pause ∷ steps) e to step = record {
    advances = script_advances [] step.taken (sym (bytes_of-after_skipped old.written_count waits old.reads) ∙ ap bytes_of e ∙ ap bytes_of (sym to.1)) (omega (arith, step.counts.0)) (omega (arith, step.counts.1, step.in_range.1)) (holds_on (reads.Pause ∷ steps) e (ap (list_any may_stop) (sym to.1)));
    was_open = is_open now.NotYet (λ wrong. cc) step;
    is_open = step.counts.2;
    counts = step.counts.0;
    rose = subst (Rose old.pauses) (sym step.counts.1) (next_count-rises old.pauses step.in_range.1);
  }
  read_pause (reads.AfterWritten k ∷ steps) e to step = record {
    advances = script_advances [] step.taken (sym (bytes_of-after_skipped old.written_count waits old.reads) ∙ ap bytes_of e ∙ ap bytes_of (sym to.1)) (omega (arith, step.counts.0)) (omega (arith, step.counts.1, step.in_range.1)) (holds_on (reads.AfterWritten k ∷ steps) e (ap (list_any may_stop) (sym to.1)));
    was_open = is_open now.NotYet (λ wrong. cc) step;
    is_open = step.counts.2;
    counts = step.counts.0;
    rose = subst (Rose old.pauses) (sym step.counts.1) (next_count-rises old.pauses step.in_range.1);
  }

  read_fault : (s : List ReadStep) → after_skipped old.written_count waits old.reads ≡ s → NextRead waits s now.Failed new.reads buf → ScriptReads waits now.Failed old new buf
      → ReadFault (script_source old) (script_source new)
  read_fault [] e to step = let wrong = to.0 in cc
  read_fault (reads.Bytes bytes ∷ steps) e to step = let wrong = to.0 in cc
  read_fault (reads.Pause ∷ steps) e to step = let wrong = to.0 in cc
  read_fault (reads.AfterWritten k ∷ steps) e to step =
      (elim waits as (λ w. now.Failed ≡ (if w then now.End else now.NotYet) → ReadFault (script_source old) (script_source new)) [ true ↦ λ wrong. cc | false ↦ λ wrong. cc ]) to.0
  read_fault (reads.Fault ∷ steps) e to step =
      let may : list_any may_stop old.reads ≡ true =
      true_from_ne_false (list_any may_stop old.reads) (λ h. let none : true ≡ false = sym (ap (list_any may_stop) e) ∙ holds-after_skipped old.written_count waits old.reads h in cc) in
      record {
        advances = script_advances [] step.taken (sym (bytes_of-after_skipped old.written_count waits old.reads) ∙ ap bytes_of e ∙ ap bytes_of (sym to.1)) (omega (arith, step.counts.0, step.in_range.0)) (omega (arith, step.counts.1)) (λ h. let never : not (list_any may_stop old.reads) ≡ false = ap not may in cc);
        was_open = is_open now.Failed (λ wrong. cc) step;
        is_open = step.counts.2;
        pauses = step.counts.1;
        rose = subst (Rose old.read_faults) (sym step.counts.0) (next_count-rises old.read_faults step.in_range.0);
        holds_not = ap not may;
      }

  read_over : old.ended ≡ true → ScriptReads waits now.End old new buf → ReadEnd (script_source old) (script_source new)
  read_over ended step = record {
    advances = script_advances [] step.taken (ap bytes_of (sym (step.stays ended).1)) (omega (arith, step.counts.0)) (omega (arith, step.counts.1)) (λ h. ap (λ s. not (list_any may_stop s)) (step.stays ended).1 ∙ h);
    ended = step.counts.2;
    counts = step.counts.0;
    pauses = step.counts.1;
    whole = λ h. ap Some (step.settled ended (false_from_ne_true _ (λ yes. let no = ap not yes in cc)));
  }

  read_end : (s : List ReadStep) → after_skipped old.written_count waits old.reads ≡ s → NextRead waits s now.End new.reads buf → ScriptReads waits now.End old new buf → ReadEnd (script_source old) (script_source new)
  read_end [] e to step =
      let none : bytes_of old.reads ≡ [] = sym (bytes_of-after_skipped old.written_count waits old.reads) ∙ ap bytes_of e in
      record {
        advances = script_advances [] step.taken (none ∙ ap bytes_of (sym to.1)) (omega (arith, step.counts.0)) (omega (arith, step.counts.1)) (holds_on [] e (ap (list_any may_stop) (sym to.1)));
        ended = step.counts.2;
        counts = step.counts.0;
        pauses = step.counts.1;
        whole = λ h. ap Some none;
      }
  read_end (reads.Fault ∷ steps) e to step = let wrong = to.0 in cc
  read_end (reads.Pause ∷ steps) e to step = let wrong = to.0 in cc
  read_end (reads.Bytes bytes ∷ steps) e to step = let wrong = to.0 in cc
  read_end (reads.AfterWritten k ∷ steps) e to step = record {
    advances = script_advances [] step.taken (sym (bytes_of-after_skipped old.written_count waits old.reads) ∙ ap bytes_of e ∙ ap bytes_of (sym to.1)) (omega (arith, step.counts.0)) (omega (arith, step.counts.1)) (holds_on (reads.AfterWritten k ∷ steps) e (ap (list_any may_stop) (sym to.1)));
    ended = step.counts.2;
    counts = step.counts.0;
    pauses = step.counts.1;
    whole = λ h.
        let none : list_any may_stop old.reads ≡ false = false_from_ne_true _ (λ yes. let no = ap not yes in cc) in
        let wrong : true ≡ false = sym (ap (list_any may_stop) e) ∙ holds-after_skipped old.written_count waits old.reads none in
        cc;
  }

pub reads_now_as : (waits : Bool) (answer : TakeNow) (old new : Script) (buf : List ℕ) → 0 < length buf → ScriptReads waits answer old new buf → ReadsNowAs answer (script_source old) (script_source new) buf
reads_now_as waits (now.Bytes n) old new buf room step =
    read_some waits old new buf n (after_skipped old.written_count waits old.reads) refl room (step.steps (is_open waits old new buf (now.Bytes n) (λ wrong. cc) step)) step
reads_now_as waits now.NotYet old new buf room step =
    read_pause waits old new buf (after_skipped old.written_count waits old.reads) refl (step.steps (is_open waits old new buf now.NotYet (λ wrong. cc) step)) step
reads_now_as waits now.Failed old new buf room step =
    read_fault waits old new buf (after_skipped old.written_count waits old.reads) refl (step.steps (is_open waits old new buf now.Failed (λ wrong. cc) step)) step
reads_now_as waits now.End old new buf room step =
    (elim old.ended as (λ b. old.ended ≡ b → ReadEnd (script_source old) (script_source new)) [
      | true ↦ λ ended. read_over waits old new buf ended step
      | false ↦ λ still. read_end waits old new buf (after_skipped old.written_count waits old.reads) refl (step.steps still) step
    ]) refl

pub reads_as : (answer : Take) (old new : Script) (buf : List ℕ) → 0 < length buf → ScriptReads true (as_now answer) old new buf → ReadsAs answer (script_source old) (script_source new) buf
reads_as (took.Bytes n) old new buf room step = reads_now_as true (now.Bytes n) old new buf room step
reads_as took.End old new buf room step = reads_now_as true now.End old new buf room step
reads_as took.Failed old new buf room step = reads_now_as true now.Failed old new buf room step

never_from : (count : ℕ) (steps after s : List ReadStep) (buf : List ℕ) → after_skipped count true steps ≡ s → NextRead true s now.NotYet after buf → ⊥
never_from count steps after [] buf e to = let wrong = to.0 in cc
never_from count steps after (reads.Fault ∷ more) buf e to = let wrong = to.0 in cc
never_from count steps after (reads.Bytes bytes ∷ more) buf e to = let wrong = to.0 in cc
never_from count steps after (reads.AfterWritten k ∷ more) buf e to = let wrong = to.0 in cc
never_from count steps after (reads.Pause ∷ more) buf e to = let wrong = not_skipped count true steps reads.Pause more e in cc

-- a read that waits never says that nothing is there yet
pub never_not_yet : (old new : Script) (buf : List ℕ) → ScriptReads true now.NotYet old new buf → ⊥
never_not_yet old new buf step =
    never_from old.written_count old.reads new.reads (after_skipped old.written_count true old.reads) buf refl (step.steps (is_open true old new buf now.NotYet (λ wrong. cc) step))

-- a step of bytes is is_skipped over where all of it is gone
pub is_skipped-bytes : (count : ℕ) (waits : Bool) (offset : ℕ) (bytes left : List ℕ) → drop offset bytes ≡ left → nat_le (length bytes) offset ≡ is_skipped count waits (reads.Bytes left)
is_skipped-bytes count waits offset bytes [] e = le-leb (length bytes) offset (omega (arith, ap length e, length-drop offset bytes))
is_skipped-bytes count waits offset bytes (byte ∷ left) e = lt-leb (length bytes) offset (omega (arith, ap length e, length-drop offset bytes))

-- a step that waits for written bytes may stop a read
pub may_end : (d : ReadStep) (k offset : ℕ) (steps : List ReadStep) → d ≡ reads.AfterWritten k → list_any may_stop (step_from_offset offset d ∷ steps) ≡ true
may_end d k offset steps e = ap (λ s. list_any may_stop (step_from_offset offset s ∷ steps)) e

-- a step that advances nothing and is used up
pub used_up : (count : ℕ) (waits : Bool) (steps before : List ReadStep) (next offset : ℕ) (d step : ReadStep) → steps_from_offset offset (drop next steps) ≡ after_skipped count waits before
    → next < length steps → d ≡ get_or steps next d → d ≡ step → bytes_of (step_from_offset offset step ∷ drop (next + 1) steps) ≡ bytes_of (drop (next + 1) steps)
    → bytes_of (steps_from_offset 0 (drop (next + 1) steps)) ≡ bytes_of before
used_up count waits steps before next offset d step gone within read is none =
    ap bytes_of (steps_from_offset-zero (drop (next + 1) steps)) ∙ sym none ∙ ap bytes_of (sym (here count waits steps before next offset d step gone within read is)) ∙ bytes_of-after_skipped count waits before
