-- Which results are those on names and descriptions of types.
use Rattle.std.specs.Prelude.{Bool, true, false}
use Rattle.ig_caches.specs.declared.answer.Outcome.{Outcome}
use Rattle.ig_caches.specs.declared.answer.Outcome.TheVariants.{Names, Name, Meta}
use Rattle.ig_caches.specs.declared.request.Shown.{Shown}
use Rattle.ig_caches.specs.declared.request.Shown.TheVariants.{Out, Page}

abbrev pub is_meta_outcome : Outcome → Bool
is_meta_outcome (Names names) = true
is_meta_outcome (Name name) = true
is_meta_outcome (Meta found) = true
is_meta_outcome o = false

-- tests whether a result is the names of caches, the name of a type or its description
abbrev pub is_meta : Shown → Bool
is_meta (Out o) = is_meta_outcome o
is_meta (Page page) = false
