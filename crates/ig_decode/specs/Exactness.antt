-- Whether bytes were in the canonical form of what was read from them.
use Rattle.std.specs.Prelude.{◌≡◌, ◌≤◌, ◌↔◌, Bool, ℕ, List, ◌++◌, length, IsTrue}

-- A prefix of the bytes was read, and `rest` is left. The canonical form of what was read is no
-- longer than the prefix, and the flag stays set exactly where it is the prefix.
pub record KeepsExact (old new : Bool) (bytes form rest : List ℕ) : Type 0 where
  pub prefix : List ℕ
  pub whole : bytes ≡ prefix ++ rest
  pub least : length form ≤ length prefix
  pub exact : IsTrue new ↔ (IsTrue old × (prefix ≡ form))
