-- Worked runs of a channel of version 1.0.0, written by hand: three calls whose replies come as 3, 1, 2, and
-- replies that weren't asked for.
use Rattle.std.proofs.Common.{◌≡◌, ℕ, pos, true, List, [], ◌∷◌, ◌++◌, None, Some, Ok, Err, refl}
use Rattle.ig_base.specs.Numbers.{LE}
use Rattle.ig_base.specs.Frames.{Frame, front}
use Rattle.ig_wire.specs.Versions.{version_1_0}
use Rattle.ig_caches.specs.declared.request.Request.TheVariants as request
use Rattle.ig_client.specs.Cutting.{cut, asked}
use Rattle.ig_client.specs.Pairs.{Pair}
use Rattle.ig_client.specs.ChannelRun.{given, outcome, pending, reply_left, AllAsked}
use Rattle.ig_client.specs.declared.fault.Break.TheVariants.{ReadFault}
use Rattle.ig_client.specs.declared.fault.ChannelFault.TheVariants.{Down, Broke}
use Rattle.ig_client.specs.declared.ask.ChannelAsk.{ChannelAsk}
use Rattle.ig_client.specs.declared.ask.ChannelAsk.TheVariants as ask
use Rattle.ig_client.specs.declared.ask.ChannelGot.TheVariants as got
use Rattle.ig_client.specs.declared.ask.ChannelStart.{ChannelStart}

-- the body of a reply that says nothing but that a call was done
abbrev reply : ℕ → List ℕ
reply id = id ∷ 0 ∷ 0 ∷ 0 ∷ 0 ∷ 0 ∷ 0 ∷ 0 ∷ 0 ∷ 0 ∷ 0 ∷ 0 ∷ []

abbrev reply_frame : ℕ → List ℕ
reply_frame id = 12 ∷ 0 ∷ 0 ∷ 0 ∷ reply id

abbrev start : ChannelStart
start = record {
  version = version_1_0;
  taken = Some [];
  left = Some (reply_frame 3 ++ reply_frame 1 ++ reply_frame 2);
  written = Some [];
  read_faults = 0;
  write_faults = 0;
  pauses = 0;
  reads_hold = true;
  writes_hold = true;
}

-- closes the cursor 7
abbrev close : ChannelAsk
close = ask.Submit (request.Close (pos 7))

abbrev three : List Pair
three = (close, got.Sent (pos 1)) ∷ (close, got.Sent (pos 2)) ∷ (close, got.Sent (pos 3)) ∷ []

abbrev answered : List Pair
answered =
    three ++ (ask.Pump, got.Pumped (reply_frame 3 ++ reply_frame 1)) ∷ (ask.Pump, got.Pumped (reply_frame 2)) ∷ []

pub first_identifier : outcome start [] [] close ≡ Ok (pos 1)
unfolding LE front
first_identifier = refl

pub fourth_identifier : outcome start [] three close ≡ Ok (pos 4)
unfolding LE front
fourth_identifier = refl

pub all_pending : pending start [] three ≡ 3
unfolding front
all_pending = refl

pub all_asked : AllAsked 3 (cut 12 (reply_frame 3 ++ reply_frame 1 ++ reply_frame 2))
unfolding front
all_asked = refl

pub none_pending : pending start (given [] answered) answered ≡ 0
unfolding front
none_pending = refl

pub its_reply : reply_left start (given [] answered) answered (pos 2) ≡ Some (reply_frame 2)
unfolding LE front Frame
its_reply = refl

pub given_once : reply_left start (given [] answered) (answered ++ (ask.Take (pos 2), got.Taken (Some (reply_frame 2))) ∷ []) (pos 2) ≡ None
unfolding front
given_once = refl

-- a reply to a call that wasn't made, and a second reply to one call
pub never_made : asked 2 (reply 1 ∷ reply 9 ∷ []) ≡ reply 1 ∷ []
never_made = refl

pub made_once : asked 2 (reply 1 ∷ reply 1 ∷ []) ≡ reply 1 ∷ []
made_once = refl

pub broken_for_ever : outcome start [] ((ask.Pump, got.NotPumped (Broke ReadFault)) ∷ []) close ≡ Err (Down ReadFault)
broken_for_ever = refl
