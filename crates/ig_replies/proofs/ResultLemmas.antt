-- The bytes of results by their kinds.
use Rattle.std.proofs.Common.{◌≡◌, true, false, refl}
use Rattle.ig_caches.specs.declared.answer.Outcome.TheVariants as outcome
use Rattle.ig_caches.specs.declared.request.Shown.{Shown}
use Rattle.ig_caches.specs.declared.request.Shown.TheVariants.{Out, Page}
use Rattle.ig_ops.specs.Results as ops
use Rattle.ig_meta.specs.Results as meta
use Rattle.ig_deals.specs.Tables.{shown_bytes}
use Rattle.ig_replies.specs.Results.{is_meta}

clash : false ≡ true → ⊥
clash h = cc

clash_true : true ≡ false → ⊥
clash_true h = cc

pub meta_shown : (s : Shown) → is_meta s ≡ true → meta.IsMetaShown s
meta_shown (Out (outcome.Names names)) is = tt
meta_shown (Out (outcome.Name name)) is = tt
meta_shown (Out (outcome.Meta found)) is = tt
meta_shown (Out outcome.Done) is = absurd (clash is)
meta_shown (Out (outcome.Found v)) is = absurd (clash is)
meta_shown (Out (outcome.Yes b)) is = absurd (clash is)
meta_shown (Out (outcome.Pairs rows)) is = absurd (clash is)
meta_shown (Out (outcome.Count n)) is = absurd (clash is)
meta_shown (Out (outcome.Keys pairs)) is = absurd (clash is)
meta_shown (Out (outcome.Refused why)) is = absurd (clash is)
meta_shown (Page page) is = absurd (clash is)

pub meta_bytes : (s : Shown) → is_meta s ≡ true → shown_bytes s ≡ meta.shown_bytes s
meta_bytes (Out (outcome.Names names)) is = refl
meta_bytes (Out (outcome.Name name)) is = refl
meta_bytes (Out (outcome.Meta found)) is = refl
meta_bytes (Out outcome.Done) is = absurd (clash is)
meta_bytes (Out (outcome.Found v)) is = absurd (clash is)
meta_bytes (Out (outcome.Yes b)) is = absurd (clash is)
meta_bytes (Out (outcome.Pairs rows)) is = absurd (clash is)
meta_bytes (Out (outcome.Count n)) is = absurd (clash is)
meta_bytes (Out (outcome.Keys pairs)) is = absurd (clash is)
meta_bytes (Out (outcome.Refused why)) is = absurd (clash is)
meta_bytes (Page page) is = absurd (clash is)

pub other_bytes : (s : Shown) → is_meta s ≡ false → shown_bytes s ≡ ops.shown_bytes s
other_bytes (Out (outcome.Names names)) is = absurd (clash_true is)
other_bytes (Out (outcome.Name name)) is = absurd (clash_true is)
other_bytes (Out (outcome.Meta found)) is = absurd (clash_true is)
other_bytes (Out outcome.Done) is = refl
other_bytes (Out (outcome.Found v)) is = refl
other_bytes (Out (outcome.Yes b)) is = refl
other_bytes (Out (outcome.Pairs rows)) is = refl
other_bytes (Out (outcome.Count n)) is = refl
other_bytes (Out (outcome.Keys pairs)) is = refl
other_bytes (Out (outcome.Refused why)) is = refl
other_bytes (Page page) is = refl
