-- What a stream has at its place, as the answer of a call.
use Rattle.std.specs.Prelude.{◌≡◌, ℕ, List}
use Rattle.ig_base.specs.Frames as frames
use Rattle.ig_frame.specs.Streams.{Stream}
use Rattle.ig_frame.specs.declared.next.Next.{Next}
use Rattle.ig_frame.specs.declared.next.Next.TheVariants.{Frame, More, Bad}

-- the answer says what was found at the place of the stream
abbrev pub Shows : Next → Stream → frames.Front → Type 0
Shows (Frame place body) s found = (place ≡ s.place) × ((rest : List ℕ) × (found ≡ frames.Body body.now rest))
Shows (More missing) s found = found ≡ frames.Incomplete missing
Shows (Bad place len) s found = (place ≡ s.place) × (found ≡ frames.Bad len)
