-- The terms of a session, as its code has them.
use Rattle.std.specs.Prelude.{◌≡◌, ◌≤◌, false}
use Rattle.ig_wire.specs.Versions.{has_flags}
use Rattle.ig_deals.specs.declared.manner.Manner.TheVariants.{Never}
use Rattle.ig_deals.specs.Turns.{Terms}
use Rattle.ig_replies.specs.declared.terms.Terms.{Terms as HeldTerms}

abbrev pub terms_of : HeldTerms → Terms
terms_of t = record { version = t.version; manner = t.manner; cfg = t.cfg }

-- below 1.4.0 no topology is told, and there are no more nodes and partitions than a map can have
pub record AreTerms (t : HeldTerms) : Type 0 where
  pub silent : has_flags t.version ≡ false → t.manner ≡ Never
  pub few : t.cfg.nodes ≤ 65536
  pub parts : t.cfg.parts ≤ 65536
