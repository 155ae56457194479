-- A step of a door's script is an accept as the trait states it.
use Rattle.std.proofs.Common.{◌≡◌, true, false, not, List, [], ◌∷◌, Some, refl, sym, ap, ◌∙◌, subst, arith}
use Rattle.std.proofs.lemmas.Bool.{false_from_ne_true}
use Rattle.ig_link.specs.States.{Rose}
use Rattle.ig_link.specs.AcceptsAs.{IsComing, IsNew, OpensLink, DoorEnds, DoorFails, AcceptsAs}
use Rattle.ig_link.specs.Script.{Script, script_source, script_sink}
use Rattle.ig_link.specs.DoorScript.{DoorScript, coming_link, coming_links, script_door, IsUnused, AreUnused, NextAccept, ScriptAccepts}
use Rattle.ig_link.specs.declared.door.Opened.{Opened}
use Rattle.ig_link.specs.declared.door.Opened.TheVariants as opened
use Rattle.ig_link.specs.declared.mem_door.DoorStep.{DoorStep}
use Rattle.ig_link.specs.declared.mem_door.DoorStep.TheVariants as steps
use Rattle.ig_link.proofs.ScriptLemmas.{next_count-rises}

new_link : (s : Script) → IsUnused s → IsNew (script_source s) (script_sink s)
new_link s unused = record {
  taken = ap (λ (t : Script). t.taken) unused;
  written = ap (λ (t : Script). t.written) unused;
  tells = ap (λ (t : Script). not t.overrun) unused;
  read_faults = ap (λ (t : Script). t.read_faults) unused;
  write_faults = ap (λ (t : Script). t.write_faults) unused;
  pauses = ap (λ (t : Script). t.pauses) unused;
  is_open = ap (λ (t : Script). t.ended) unused;
}

module _ (old new : DoorScript) where
  not_ended : (step : DoorStep) (more : List DoorStep) → old.steps ≡ step ∷ more → (old.ended ≡ true → old.steps ≡ []) → old.ended ≡ false
  not_ended step more e settled = false_from_ne_true old.ended (λ ended. let none = settled ended in cc)

  opens : (link : Script) (s : List DoorStep) → old.steps ≡ s → NextAccept s (opened.Link link) new.steps → ScriptAccepts (opened.Link link) old new
      → OpensLink (script_source link) (script_sink link) (script_door old) (script_door new)
  opens link [] e to step = let wrong = to.0 in cc
  opens link (steps.Fault ∷ more) e to step = let wrong = to.0 in cc
  opens link (steps.Link first ∷ more) e to step =
      let same : first ≡ link = let both = to.0 in cc in
      let unused : IsUnused first × AreUnused more = subst AreUnused e step.unused in
      record {
        comes = (coming_link first, coming_links more, ap coming_links e, ap (λ s. Some (coming_links s)) to.1, subst (λ (l : Script). IsComing (coming_link first) (script_source l) (script_sink l)) same (record { rest = refl; reads_hold = refl; writes_hold = refl }));
        is_new = new_link link (subst IsUnused same unused.0);
        opened = λ below. omega (arith, step.counts.0, below);
        grows = omega (arith, step.counts.0, step.in_range.1);
        faults = step.counts.1;
        was_open = not_ended (steps.Link first) more e step.settled;
        is_open = step.counts.2;
      }

  ends : (s : List DoorStep) → old.steps ≡ s → NextAccept s opened.End new.steps → ScriptAccepts opened.End old new → DoorEnds (script_door old) (script_door new)
  ends (steps.Link first ∷ more) e to step = let wrong = to.0 in cc
  ends (steps.Fault ∷ more) e to step = let wrong = to.0 in cc
  ends [] e to step = record {
    none_left = ap coming_links e;
    coming = ap (λ s. Some (coming_links s)) (to.1 ∙ sym e);
    opened = step.counts.0;
    faults = step.counts.1;
    ended = step.counts.2;
  }

  fails : (s : List DoorStep) → old.steps ≡ s → NextAccept s opened.Failed new.steps → ScriptAccepts opened.Failed old new → DoorFails (script_door old) (script_door new)
  fails [] e to step = let wrong = to.0 in cc
  fails (steps.Link first ∷ more) e to step = let wrong = to.0 in cc
  fails (steps.Fault ∷ more) e to step = record {
    coming = ap (λ s. Some (coming_links s)) to.1 ∙ sym (ap (λ s. Some (coming_links s)) e);
    opened = step.counts.0;
    faults = omega (arith, step.counts.1, step.in_range.0);
    rose = subst (Rose old.faults) (sym step.counts.1) (next_count-rises old.faults step.in_range.0);
    was_open = not_ended steps.Fault more e step.settled;
    is_open = step.counts.2;
  }

pub accepts_as : (answer : Opened Script) (old new : DoorScript) → ScriptAccepts answer old new → AcceptsAs script_source script_sink answer (script_door old) (script_door new)
accepts_as (opened.Link link) old new step = opens old new link old.steps refl step.steps step
accepts_as opened.End old new step = ends old new old.steps refl step.steps step
accepts_as opened.Failed old new step = fails old new old.steps refl step.steps step
