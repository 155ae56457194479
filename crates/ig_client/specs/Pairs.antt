-- What a channel was asked and answered so far, read off the pairs.
use Rattle.std.specs.Prelude.{ℕ, ◌+◌, ℤ, pos, Bool, true, false, List, [], ◌∷◌, Option, None, Some, if◌then◌else◌}
use Rattle.std.specs.Option.{option_or}
use Rattle.std.specs.Ordering.{int_eq}
use Rattle.std.specs.List.{flat_map, list_any}
use Rattle.ig_base.specs.Frames.{Frame}
use Rattle.ig_parts.specs.PartsMessages as parts
use Rattle.ig_client.specs.RequestBodies.{request_body}
use Rattle.ig_client.specs.declared.fault.Break.{Break}
use Rattle.ig_client.specs.declared.fault.Break.TheVariants as break
use Rattle.ig_client.specs.declared.fault.ChannelFault.TheVariants.{Broke}
use Rattle.ig_client.specs.declared.ask.ChannelAsk.{ChannelAsk}
use Rattle.ig_client.specs.declared.ask.ChannelAsk.TheVariants as ask
use Rattle.ig_link.specs.declared.link.Retired.{Retired}
use Rattle.ig_client.specs.declared.ask.ChannelGot.{ChannelGot}
use Rattle.ig_client.specs.declared.ask.ChannelGot.TheVariants as got

-- what is left of a link stands as what it shows
abbrev pub GotData : Type 0
GotData = ChannelGot Retired

abbrev pub Pair : Type 0
Pair = ChannelAsk × GotData

-- ---- submits

-- the body of the frame that asks it, under an identifier
abbrev pub body_of : ChannelAsk → ℤ → List ℕ
body_of (ask.Submit request) id = request_body id request
body_of (ask.SubmitParts caches) id = parts.ask_body id caches
body_of _ id = []

-- the identifier of an accepted submit
abbrev pub id_given : GotData → Option ℤ
id_given (got.Sent id) = Some id
id_given _ = None

abbrev pub one_if : Option ℤ → ℕ
one_if None = 0
one_if (Some id) = 1

-- how many submits were accepted
abbrev pub sent : List Pair → ℕ
sent [] = 0
sent (p ∷ ps) = one_if (id_given p.1) + sent ps

abbrev pub frame_under : ChannelAsk → Option ℤ → List ℕ
frame_under asks None = []
frame_under asks (Some id) = Frame (body_of asks id)

-- the frames of the accepted submits, in order
abbrev pub sent_bytes : List Pair → List ℕ
sent_bytes ps = flat_map (λ p. frame_under p.0 (id_given p.1)) ps

-- ---- pumps

abbrev pub bytes_of : GotData → List ℕ
bytes_of (got.Pumped bytes) = bytes
bytes_of _ = []

-- the bytes that the pumps gave
abbrev pub pumped : List Pair → List ℕ
pumped ps = flat_map (λ p. bytes_of p.1) ps

-- ---- breaks

-- the break that this pair answers; the close that retires the link counts as one
abbrev pub break_of : GotData → Option Break
break_of (got.NotSent request (Broke cause)) = Some cause
break_of (got.NotSentParts caches (Broke cause)) = Some cause
break_of (got.NotPumped (Broke cause)) = Some cause
break_of (got.Closed (Some retired)) = Some break.Closed
break_of _ = None

abbrev pub first_break : List Pair → Option Break
first_break [] = None
first_break (p ∷ ps) = option_or (break_of p.1) (first_break ps)

-- the break, if there is one, passes the test
abbrev pub breaks_by : (Break → Bool) → Option Break → Bool
breaks_by test None = false
breaks_by test (Some cause) = test cause

-- some pair answers a break that passes the test
abbrev pub answers_break : (Break → Bool) → List Pair → Bool
answers_break test ps = list_any (λ p. breaks_by test (break_of p.1)) ps

abbrev pub is_read_fault : Break → Bool
is_read_fault break.ReadFault = true
is_read_fault _ = false

abbrev pub is_write_fault : Break → Bool
is_write_fault break.WriteFault = true
is_write_fault _ = false

abbrev pub is_end : Break → Bool
is_end break.PeerEnded = true
is_end _ = false

-- a pump took bytes after which a frame can't be read, or wasn't asked for
abbrev pub is_of_frames : Option Break → Bool
is_of_frames (Some (break.BadFrame place length)) = true
is_of_frames (Some (break.Unasked id)) = true
is_of_frames _ = false

-- the frame of the submit that a write fault broke, if one did, where n submits were accepted before
abbrev pub broken_frame : ℕ → List Pair → List ℕ
broken_frame n [] = []
broken_frame n (p ∷ ps) =
    if breaks_by is_write_fault (break_of p.1) then Frame (body_of p.0 (pos (n + 1)))
    else broken_frame (n + one_if (id_given p.1)) ps

-- ---- takes and closes

-- this pair takes the reply to the call with this identifier
abbrev pub takes : ℤ → ChannelAsk → GotData → Bool
takes id (ask.Take taken) (got.Taken (Some frame)) = int_eq taken id
takes id _ _ = false

-- the reply to the call with this identifier was taken
abbrev pub was_taken : ℤ → List Pair → Bool
was_taken id ps = list_any (λ p. takes id p.0 p.1) ps

-- the answer is what is left of the link
abbrev pub closes : GotData → Bool
closes (got.Closed (Some retired)) = true
closes _ = false

-- the link was retired
abbrev pub was_closed : List Pair → Bool
was_closed ps = list_any (λ p. closes p.1) ps
