-- The read steps that are left of a script, if the first bytes of the next one were taken.
use Rattle.std.specs.Prelude.{ℕ, List, [], ◌∷◌, drop}
use Rattle.ig_link.specs.declared.mem_link.ReadStep.{ReadStep}
use Rattle.ig_link.specs.declared.mem_link.ReadStep.TheVariants as reads

-- a step without its first bytes, up to this offset
abbrev pub step_from_offset : ℕ → ReadStep → ReadStep
step_from_offset offset (reads.Bytes bytes) = reads.Bytes (drop offset bytes)
step_from_offset offset reads.Pause = reads.Pause
step_from_offset offset (reads.AfterWritten n) = reads.AfterWritten n
step_from_offset offset reads.Fault = reads.Fault

-- the steps without the first bytes, up to this offset, of the first step
abbrev pub steps_from_offset : ℕ → List ReadStep → List ReadStep
steps_from_offset offset [] = []
steps_from_offset offset (step ∷ steps) = step_from_offset offset step ∷ steps
