-- What a buffer that gathers bytes for a writer does with them.
use Rattle.std.specs.Prelude.{◌≡◌, ℕ, ◌≤◌, Bool, true, false, List, [], ◌++◌, take, drop, length, Option, Some, None}
use Rattle.std.specs.Io.KnownBytes.{Appends}
use Rattle.ig_link.specs.declared.ends.Gave.{Gave}
use Rattle.ig_link.specs.declared.ends.Gave.TheVariants as gave

-- The state of the buffer: the bytes that wait to be written, in their order; and whether a write has
-- failed.
pub record Gathered : Type 0 where
  pub waiting : List ℕ
  pub broken : Bool

-- Of these bytes the first were written, no other was, and the others wait in their order: none is
-- lost, none is written twice. `before` and `after` are what the writer holds.
pub record HandsOn (before after : Option (List ℕ)) (bytes waiting : List ℕ) : Type 0 where
  pub count : ℕ
  pub fits : count ≤ length bytes
  pub written : Appends before after (take count bytes)
  pub waits : waiting ≡ drop count bytes

-- all that waited was written, or a write failed, now or before
abbrev pub GatheredFlush : Bool → Option (List ℕ) → Option (List ℕ) → Gathered → Gathered → Type 0
GatheredFlush true before after old new =
    HandsOn before after old.waiting new.waiting × (new.waiting ≡ [])
    × (old.broken ≡ false) × (new.broken ≡ false)
GatheredFlush false before after old new =
    HandsOn before after old.waiting new.waiting × (new.broken ≡ true)

-- a piece waits after what waited before, or nothing changed
abbrev pub KeepsPiece : Bool → Gathered → Gathered → List ℕ → Type 0
KeepsPiece true old new piece = new ≡ record { waiting = old.waiting ++ piece; broken = old.broken }
KeepsPiece false old new piece = new ≡ old

-- The first n bytes of the piece, at least one, wait after what waited before, or were written after
-- it, and no write has failed; or a write failed, now or before, and the piece was dropped.
abbrev pub GatheredWrite : Gave → Option (List ℕ) → Option (List ℕ) → Gathered → Gathered → List ℕ → Type 0
GatheredWrite (gave.Bytes n) before after old new piece =
    HandsOn before after (old.waiting ++ take n piece) new.waiting
    × (1 ≤ n) × (n ≤ length piece) × (old.broken ≡ false) × (new.broken ≡ false)
GatheredWrite gave.Failed before after old new piece =
    HandsOn before after old.waiting new.waiting × (new.broken ≡ true)

-- What a flush does if bytes are gathered: all that waited was written, or a write failed. Otherwise it
-- does nothing.
abbrev pub BufferFlushes : Option (List ℕ) → Option (List ℕ) → Option Gathered → Option Gathered → Type 0
BufferFlushes before after (Some old) (Some new) = (done : Bool) × GatheredFlush done before after old new
BufferFlushes before after (Some old) None = ⊥
BufferFlushes before after None (Some new) = ⊥
BufferFlushes before after None None = after ≡ before

-- The first n bytes of the piece, at least one, were written, or the write failed and wrote nothing.
abbrev pub WritesThrough : Gave → Option (List ℕ) → Option (List ℕ) → List ℕ → Type 0
WritesThrough (gave.Bytes n) before after piece =
    (1 ≤ n) × (n ≤ length piece) × Appends before after (take n piece)
WritesThrough gave.Failed before after piece = Appends before after []

-- What a write does: it adds to the buffer if bytes are gathered, and otherwise it writes through.
abbrev pub BufferWrites : Gave → Option (List ℕ) → Option (List ℕ) → Option Gathered → Option Gathered → List ℕ → Type 0
BufferWrites answer before after (Some old) (Some new) piece = GatheredWrite answer before after old new piece
BufferWrites answer before after (Some old) None piece = ⊥
BufferWrites answer before after None (Some new) piece = ⊥
BufferWrites answer before after None None piece = WritesThrough answer before after piece
