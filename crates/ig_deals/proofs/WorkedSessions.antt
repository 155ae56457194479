-- Worked sessions: the frames that answer bodies, written by hand.
use Rattle.std.specs.Prelude.{nat_le}
use Rattle.std.proofs.Common.{◌≡◌, ℕ, ℤ, pos, Bool, true, if◌then◌else◌, List, [], ◌∷◌, ◌++◌, length, None, Some, Ok, refl, ap, ◌∙◌}
use Rattle.std.specs.Int.{w32}
use Rattle.std.specs.Fmt.{digits}
use Rattle.std.specs.Str.{is_utf8, chars}
use lib.Utf8.{encode}
use Rattle.std.proofs.lemmas.Bool.{cond-true}
use Rattle.ig_base.specs.Numbers.{LE}
use Rattle.ig_base.specs.Frames.{Frame, max_body}
use Rattle.ig_value.specs.declared.value.Value.TheVariants as value
use Rattle.ig_value.specs.Canon.{Canon, layer_bytes}
use Rattle.ig_value.specs.Objects.{refusal}
use Rattle.ig_value.specs.Reading.{object_at, reading}
use Rattle.ig_value.proofs.FoldLemmas.{Canon_out}
use Rattle.ig_wire.specs.declared.version.Version.{Version}
use Rattle.ig_wire.specs.Versions.{version_1_0, version_1_4}
use Rattle.ig_caches.specs.declared.call.Pair.{Pair}
use Rattle.ig_caches.specs.declared.request.Request.TheVariants.{NextPage, Close}
use Rattle.ig_caches.specs.declared.request.Shown.TheVariants.{Out}
use Rattle.ig_caches.specs.declared.answer.Outcome.{Outcome}
use Rattle.ig_caches.specs.declared.answer.Outcome.TheVariants.{Done, Found, Pairs, Keys, Refused}
use Rattle.ig_caches.specs.declared.answer.Why.TheVariants.{NoCache, CacheExists}
use Rattle.ig_parts.specs.ServedMap.{parts_on, nodes_below, served_map}
use Rattle.ig_deals.specs.declared.cfg.SessionCfg.{SessionCfg}
use Rattle.ig_deals.specs.Hellos.{greeting_of}
use Rattle.ig_deals.specs.Asks.{asked_in, asks}
use Rattle.ig_deals.specs.Deals.{Got, Had, Deal, dealt}
use Rattle.ig_deals.specs.Desk.{Cursor, Desk, fresh_desk}
use Rattle.ig_deals.specs.Telling.{session_manner}
use Rattle.ig_deals.specs.Replies.{Shows, Reply, reply_body, reply_frame, fits, too_long, shortened}
use Rattle.ig_deals.specs.Turns.{Terms, Turn, page_content, turn}
use Rattle.ig_deals.specs.OutFrames.{reply_frames, terms_at, out_frames}
use Rattle.ig_deals.specs.Laws.{scan_deal}

-- one node, with 1,024 partitions a cache
abbrev cfg : SessionCfg
cfg = record { node = 0; nodes = 1; parts = 1024 }

-- an answer, by the number of creations and the outcome
abbrev had : ℤ → Outcome → Got
had minor outcome = Had (record { minor = minor; outcome = outcome })

-- a key with itself as its value
abbrev row : ℤ → Pair
row n = record { key = value.Int n; value = value.Int n }

-- ---- bodies and frames

-- a hello at 1.0.0
abbrev hello_1_0 : List ℕ
hello_1_0 =
    1 ∷ 1 ∷ 0 ∷ 0 ∷ 0 ∷ 0 ∷ 0 ∷ 2 ∷ []

-- a hello at 1.4.0
abbrev hello_1_4 : List ℕ
hello_1_4 =
    1 ∷ 1 ∷ 0 ∷ 4 ∷ 0 ∷ 0 ∷ 0 ∷ 2 ∷ []

-- a hello at 1.7.0
abbrev hello_1_7 : List ℕ
hello_1_7 =
    1 ∷ 1 ∷ 0 ∷ 7 ∷ 0 ∷ 0 ∷ 0 ∷ 2 ∷ []

-- put 1 to 2 in the cache 3343801, under identifier 1
abbrev put_body : List ℕ
put_body =
    233 ∷ 3 ∷ 1 ∷ 0 ∷ 0 ∷ 0 ∷ 0 ∷ 0 ∷ 0 ∷ 0 ∷ 185 ∷ 5 ∷ 51 ∷ 0 ∷ 0 ∷ 3 ∷ 1 ∷ 0 ∷ 0 ∷ 0 ∷ 3 ∷ 2 ∷
    0 ∷ 0 ∷ 0 ∷ []

-- get 1 from it, under identifier 2
abbrev get_body : List ℕ
get_body =
    232 ∷ 3 ∷ 2 ∷ 0 ∷ 0 ∷ 0 ∷ 0 ∷ 0 ∷ 0 ∷ 0 ∷ 185 ∷ 5 ∷ 51 ∷ 0 ∷ 0 ∷ 3 ∷ 1 ∷ 0 ∷ 0 ∷ 0 ∷ []

-- get 1 from the cache 7, under identifier 3
abbrev lost_body : List ℕ
lost_body =
    232 ∷ 3 ∷ 3 ∷ 0 ∷ 0 ∷ 0 ∷ 0 ∷ 0 ∷ 0 ∷ 0 ∷ 7 ∷ 0 ∷ 0 ∷ 0 ∷ 0 ∷ 3 ∷ 1 ∷ 0 ∷ 0 ∷ 0 ∷ []

-- an operation that there is not
abbrev unknown_body : List ℕ
unknown_body =
    210 ∷ 7 ∷ 5 ∷ 0 ∷ 0 ∷ 0 ∷ 0 ∷ 0 ∷ 0 ∷ 0 ∷ []

-- get of a truth value 2
abbrev malformed_body : List ℕ
malformed_body =
    232 ∷ 3 ∷ 6 ∷ 0 ∷ 0 ∷ 0 ∷ 0 ∷ 0 ∷ 0 ∷ 0 ∷ 185 ∷ 5 ∷ 51 ∷ 0 ∷ 0 ∷ 8 ∷ 2 ∷ []

-- get of a null key
abbrev null_body : List ℕ
null_body =
    232 ∷ 3 ∷ 1 ∷ 0 ∷ 0 ∷ 0 ∷ 0 ∷ 0 ∷ 0 ∷ 0 ∷ 185 ∷ 5 ∷ 51 ∷ 0 ∷ 0 ∷ 101 ∷ []

-- scan by pages of 2 rows, under identifier 1
abbrev scan_body : List ℕ
scan_body =
    208 ∷ 7 ∷ 1 ∷ 0 ∷ 0 ∷ 0 ∷ 0 ∷ 0 ∷ 0 ∷ 0 ∷ 185 ∷ 5 ∷ 51 ∷ 0 ∷ 0 ∷ 101 ∷ 2 ∷ 0 ∷ 0 ∷ 0 ∷ 255 ∷
    255 ∷ 255 ∷ 255 ∷ 0 ∷ []

-- the next page of cursor 1
abbrev next_body : List ℕ
next_body =
    209 ∷ 7 ∷ 2 ∷ 0 ∷ 0 ∷ 0 ∷ 0 ∷ 0 ∷ 0 ∷ 0 ∷ 1 ∷ 0 ∷ 0 ∷ 0 ∷ 0 ∷ 0 ∷ 0 ∷ 0 ∷ []

-- close cursor 1
abbrev close_body : List ℕ
close_body =
    0 ∷ 0 ∷ 2 ∷ 0 ∷ 0 ∷ 0 ∷ 0 ∷ 0 ∷ 0 ∷ 0 ∷ 1 ∷ 0 ∷ 0 ∷ 0 ∷ 0 ∷ 0 ∷ 0 ∷ 0 ∷ []

-- create the cache x, under identifier 2
abbrev create_body : List ℕ
create_body =
    27 ∷ 4 ∷ 2 ∷ 0 ∷ 0 ∷ 0 ∷ 0 ∷ 0 ∷ 0 ∷ 0 ∷ 9 ∷ 1 ∷ 0 ∷ 0 ∷ 0 ∷ 120 ∷ []

-- the same under identifier 3
abbrev again_body : List ℕ
again_body =
    27 ∷ 4 ∷ 3 ∷ 0 ∷ 0 ∷ 0 ∷ 0 ∷ 0 ∷ 0 ∷ 0 ∷ 9 ∷ 1 ∷ 0 ∷ 0 ∷ 0 ∷ 120 ∷ []

-- the partition maps of no cache, under identifier 5
abbrev parts_body : List ℕ
parts_body =
    77 ∷ 4 ∷ 5 ∷ 0 ∷ 0 ∷ 0 ∷ 0 ∷ 0 ∷ 0 ∷ 0 ∷ 0 ∷ 0 ∷ 0 ∷ 0 ∷ []

-- byte 1
abbrev accepted : List ℕ
accepted =
    1 ∷ 0 ∷ 0 ∷ 0 ∷ 1 ∷ []

-- byte 1 and the node 1
abbrev accepted_1_4 : List ℕ
accepted_1_4 =
    18 ∷ 0 ∷ 0 ∷ 0 ∷ 1 ∷ 10 ∷ 0 ∷ 0 ∷ 0 ∷ 0 ∷ 0 ∷ 0 ∷ 0 ∷ 0 ∷ 1 ∷ 0 ∷ 0 ∷ 0 ∷ 0 ∷ 0 ∷ 0 ∷ 0 ∷ []

-- byte 0, the highest version and the text
abbrev refused_hello : List ℕ
refused_hello =
    31 ∷ 0 ∷ 0 ∷ 0 ∷ 0 ∷ 1 ∷ 0 ∷ 4 ∷ 0 ∷ 0 ∷ 0 ∷ 9 ∷ 19 ∷ 0 ∷ 0 ∷ 0 ∷ 117 ∷ 110 ∷ 115 ∷ 117 ∷
    112 ∷ 112 ∷ 111 ∷ 114 ∷ 116 ∷ 101 ∷ 100 ∷ 32 ∷ 118 ∷ 101 ∷ 114 ∷ 115 ∷ 105 ∷ 111 ∷ 110 ∷ []

-- the reply to the put
abbrev put_reply : List ℕ
put_reply =
    12 ∷ 0 ∷ 0 ∷ 0 ∷ 1 ∷ 0 ∷ 0 ∷ 0 ∷ 0 ∷ 0 ∷ 0 ∷ 0 ∷ 0 ∷ 0 ∷ 0 ∷ 0 ∷ []

-- the reply to the get
abbrev get_reply : List ℕ
get_reply =
    17 ∷ 0 ∷ 0 ∷ 0 ∷ 2 ∷ 0 ∷ 0 ∷ 0 ∷ 0 ∷ 0 ∷ 0 ∷ 0 ∷ 0 ∷ 0 ∷ 0 ∷ 0 ∷ 3 ∷ 2 ∷ 0 ∷ 0 ∷ 0 ∷ []

-- the reply to a get from no cache
abbrev lost_reply : List ℕ
lost_reply =
    37 ∷ 0 ∷ 0 ∷ 0 ∷ 3 ∷ 0 ∷ 0 ∷ 0 ∷ 0 ∷ 0 ∷ 0 ∷ 0 ∷ 232 ∷ 3 ∷ 0 ∷ 0 ∷ 9 ∷ 20 ∷ 0 ∷ 0 ∷ 0 ∷ 99 ∷
    97 ∷ 99 ∷ 104 ∷ 101 ∷ 32 ∷ 100 ∷ 111 ∷ 101 ∷ 115 ∷ 32 ∷ 110 ∷ 111 ∷ 116 ∷ 32 ∷ 101 ∷ 120 ∷
    105 ∷ 115 ∷ 116 ∷ []

-- the reply to an operation that there is not
abbrev unknown_reply : List ℕ
unknown_reply =
    39 ∷ 0 ∷ 0 ∷ 0 ∷ 5 ∷ 0 ∷ 0 ∷ 0 ∷ 0 ∷ 0 ∷ 0 ∷ 0 ∷ 2 ∷ 0 ∷ 0 ∷ 0 ∷ 9 ∷ 22 ∷ 0 ∷ 0 ∷ 0 ∷ 105 ∷
    110 ∷ 118 ∷ 97 ∷ 108 ∷ 105 ∷ 100 ∷ 32 ∷ 111 ∷ 112 ∷ 101 ∷ 114 ∷ 97 ∷ 116 ∷ 105 ∷ 111 ∷ 110 ∷
    32 ∷ 99 ∷ 111 ∷ 100 ∷ 101 ∷ []

-- the reply to a get that does not read
abbrev malformed_reply : List ℕ
malformed_reply =
    40 ∷ 0 ∷ 0 ∷ 0 ∷ 6 ∷ 0 ∷ 0 ∷ 0 ∷ 0 ∷ 0 ∷ 0 ∷ 0 ∷ 1 ∷ 0 ∷ 0 ∷ 0 ∷ 9 ∷ 23 ∷ 0 ∷ 0 ∷ 0 ∷ 109 ∷
    97 ∷ 108 ∷ 102 ∷ 111 ∷ 114 ∷ 109 ∷ 101 ∷ 100 ∷ 32 ∷ 114 ∷ 101 ∷ 113 ∷ 117 ∷ 101 ∷ 115 ∷
    116 ∷ 32 ∷ 97 ∷ 116 ∷ 32 ∷ 50 ∷ 48 ∷ []

-- the reply to a get of a null key
abbrev null_reply : List ℕ
null_reply =
    34 ∷ 0 ∷ 0 ∷ 0 ∷ 1 ∷ 0 ∷ 0 ∷ 0 ∷ 0 ∷ 0 ∷ 0 ∷ 0 ∷ 1 ∷ 0 ∷ 0 ∷ 0 ∷ 9 ∷ 17 ∷ 0 ∷ 0 ∷ 0 ∷ 110 ∷
    117 ∷ 108 ∷ 108 ∷ 32 ∷ 107 ∷ 101 ∷ 121 ∷ 32 ∷ 111 ∷ 114 ∷ 32 ∷ 118 ∷ 97 ∷ 108 ∷ 117 ∷ 101 ∷
    []

-- the first page of two rows, and more
abbrev first_reply : List ℕ
first_reply =
    45 ∷ 0 ∷ 0 ∷ 0 ∷ 1 ∷ 0 ∷ 0 ∷ 0 ∷ 0 ∷ 0 ∷ 0 ∷ 0 ∷ 0 ∷ 0 ∷ 0 ∷ 0 ∷ 1 ∷ 0 ∷ 0 ∷ 0 ∷ 0 ∷ 0 ∷ 0 ∷
    0 ∷ 2 ∷ 0 ∷ 0 ∷ 0 ∷ 3 ∷ 1 ∷ 0 ∷ 0 ∷ 0 ∷ 3 ∷ 1 ∷ 0 ∷ 0 ∷ 0 ∷ 3 ∷ 2 ∷ 0 ∷ 0 ∷ 0 ∷ 3 ∷ 2 ∷ 0 ∷
    0 ∷ 0 ∷ 1 ∷ []

-- the last page of one row
abbrev second_reply : List ℕ
second_reply =
    27 ∷ 0 ∷ 0 ∷ 0 ∷ 2 ∷ 0 ∷ 0 ∷ 0 ∷ 0 ∷ 0 ∷ 0 ∷ 0 ∷ 0 ∷ 0 ∷ 0 ∷ 0 ∷ 1 ∷ 0 ∷ 0 ∷ 0 ∷ 3 ∷ 3 ∷ 0 ∷
    0 ∷ 0 ∷ 3 ∷ 3 ∷ 0 ∷ 0 ∷ 0 ∷ 0 ∷ []

-- a cursor that is not open
abbrev closed_reply : List ℕ
closed_reply =
    40 ∷ 0 ∷ 0 ∷ 0 ∷ 2 ∷ 0 ∷ 0 ∷ 0 ∷ 0 ∷ 0 ∷ 0 ∷ 0 ∷ 243 ∷ 3 ∷ 0 ∷ 0 ∷ 9 ∷ 23 ∷ 0 ∷ 0 ∷ 0 ∷
    114 ∷ 101 ∷ 115 ∷ 111 ∷ 117 ∷ 114 ∷ 99 ∷ 101 ∷ 32 ∷ 100 ∷ 111 ∷ 101 ∷ 115 ∷ 32 ∷ 110 ∷ 111 ∷
    116 ∷ 32 ∷ 101 ∷ 120 ∷ 105 ∷ 115 ∷ 116 ∷ []

-- a cursor was closed
abbrev close_reply : List ℕ
close_reply =
    12 ∷ 0 ∷ 0 ∷ 0 ∷ 2 ∷ 0 ∷ 0 ∷ 0 ∷ 0 ∷ 0 ∷ 0 ∷ 0 ∷ 0 ∷ 0 ∷ 0 ∷ 0 ∷ []

-- the put at 1.4.0: the topology is told
abbrev told_put : List ℕ
told_put =
    22 ∷ 0 ∷ 0 ∷ 0 ∷ 1 ∷ 0 ∷ 0 ∷ 0 ∷ 0 ∷ 0 ∷ 0 ∷ 0 ∷ 2 ∷ 0 ∷ 1 ∷ 0 ∷ 0 ∷ 0 ∷ 0 ∷ 0 ∷ 0 ∷ 0 ∷ 0 ∷
    0 ∷ 0 ∷ 0 ∷ []

-- the get at 1.4.0: it is not told again
abbrev untold_get : List ℕ
untold_get =
    15 ∷ 0 ∷ 0 ∷ 0 ∷ 2 ∷ 0 ∷ 0 ∷ 0 ∷ 0 ∷ 0 ∷ 0 ∷ 0 ∷ 0 ∷ 0 ∷ 3 ∷ 2 ∷ 0 ∷ 0 ∷ 0 ∷ []

-- the get from no cache at 1.4.0
abbrev untold_lost : List ℕ
untold_lost =
    39 ∷ 0 ∷ 0 ∷ 0 ∷ 3 ∷ 0 ∷ 0 ∷ 0 ∷ 0 ∷ 0 ∷ 0 ∷ 0 ∷ 1 ∷ 0 ∷ 232 ∷ 3 ∷ 0 ∷ 0 ∷ 9 ∷ 20 ∷ 0 ∷ 0 ∷
    0 ∷ 99 ∷ 97 ∷ 99 ∷ 104 ∷ 101 ∷ 32 ∷ 100 ∷ 111 ∷ 101 ∷ 115 ∷ 32 ∷ 110 ∷ 111 ∷ 116 ∷ 32 ∷
    101 ∷ 120 ∷ 105 ∷ 115 ∷ 116 ∷ []

-- the same as the first request
abbrev told_lost : List ℕ
told_lost =
    51 ∷ 0 ∷ 0 ∷ 0 ∷ 3 ∷ 0 ∷ 0 ∷ 0 ∷ 0 ∷ 0 ∷ 0 ∷ 0 ∷ 3 ∷ 0 ∷ 1 ∷ 0 ∷ 0 ∷ 0 ∷ 0 ∷ 0 ∷ 0 ∷ 0 ∷ 0 ∷
    0 ∷ 0 ∷ 0 ∷ 232 ∷ 3 ∷ 0 ∷ 0 ∷ 9 ∷ 20 ∷ 0 ∷ 0 ∷ 0 ∷ 99 ∷ 97 ∷ 99 ∷ 104 ∷ 101 ∷ 32 ∷ 100 ∷
    111 ∷ 101 ∷ 115 ∷ 32 ∷ 110 ∷ 111 ∷ 116 ∷ 32 ∷ 101 ∷ 120 ∷ 105 ∷ 115 ∷ 116 ∷ []

-- the create at 1.4.0: another topology is told
abbrev told_create : List ℕ
told_create =
    22 ∷ 0 ∷ 0 ∷ 0 ∷ 2 ∷ 0 ∷ 0 ∷ 0 ∷ 0 ∷ 0 ∷ 0 ∷ 0 ∷ 2 ∷ 0 ∷ 1 ∷ 0 ∷ 0 ∷ 0 ∷ 0 ∷ 0 ∷ 0 ∷ 0 ∷ 1 ∷
    0 ∷ 0 ∷ 0 ∷ []

-- the second create at 1.4.0: the same topology
abbrev untold_again : List ℕ
untold_again =
    31 ∷ 0 ∷ 0 ∷ 0 ∷ 3 ∷ 0 ∷ 0 ∷ 0 ∷ 0 ∷ 0 ∷ 0 ∷ 0 ∷ 1 ∷ 0 ∷ 233 ∷ 3 ∷ 0 ∷ 0 ∷ 9 ∷ 12 ∷ 0 ∷ 0 ∷
    0 ∷ 99 ∷ 97 ∷ 99 ∷ 104 ∷ 101 ∷ 32 ∷ 101 ∷ 120 ∷ 105 ∷ 115 ∷ 116 ∷ 115 ∷ []

-- partition maps of no cache
abbrev parts_reply : List ℕ
parts_reply =
    26 ∷ 0 ∷ 0 ∷ 0 ∷ 5 ∷ 0 ∷ 0 ∷ 0 ∷ 0 ∷ 0 ∷ 0 ∷ 0 ∷ 0 ∷ 0 ∷ 1 ∷ 0 ∷ 0 ∷ 0 ∷ 0 ∷ 0 ∷ 0 ∷ 0 ∷ 0 ∷
    0 ∷ 0 ∷ 0 ∷ 0 ∷ 0 ∷ 0 ∷ 0 ∷ []

-- ---- sessions

-- nothing follows a call that has no answer yet
waits_for_an_answer :
    out_frames cfg session_manner (hello_1_0 ∷ put_body ∷ unknown_body ∷ [])
    ([])
    ≡ accepted ∷ []
unfolding greeting_of asked_in reading object_at refusal turn reply_body Frame LE served_map nodes_below parts_on
waits_for_an_answer = refl

-- a refused call
no_cache :
    out_frames cfg session_manner (hello_1_0 ∷ lost_body ∷ [])
    (had (pos 0) (Refused NoCache) ∷ [])
    ≡ accepted ∷ lost_reply ∷ []
unfolding greeting_of asked_in reading object_at refusal turn reply_body Frame LE served_map nodes_below parts_on
no_cache = refl

-- requests that are refused need no answer
refused_requests :
    out_frames cfg session_manner (hello_1_0 ∷ unknown_body ∷ malformed_body ∷ null_body ∷ [])
    ([])
    ≡ accepted ∷ unknown_reply ∷ malformed_reply ∷ null_reply ∷ []
unfolding greeting_of asked_in reading object_at refusal turn reply_body Frame LE served_map nodes_below parts_on is_utf8 chars encode digits
refused_requests = refl

-- a refused call tells, too
a_refusal_tells :
    out_frames cfg session_manner (hello_1_4 ∷ lost_body ∷ [])
    (had (pos 0) (Refused NoCache) ∷ [])
    ≡ accepted_1_4 ∷ told_lost ∷ []
unfolding greeting_of asked_in reading object_at refusal turn reply_body Frame LE served_map nodes_below parts_on
a_refusal_tells = refl

-- a creation changes the topology
tells_a_change :
    out_frames cfg session_manner (hello_1_4 ∷ put_body ∷ create_body ∷ again_body ∷ [])
    (had (pos 0) Done ∷ had (pos 1) Done ∷ had (pos 1) (Refused CacheExists) ∷ [])
    ≡ accepted_1_4 ∷ told_put ∷ told_create ∷ untold_again ∷ []
unfolding greeting_of asked_in reading object_at refusal turn reply_body Frame LE served_map nodes_below parts_on is_utf8 chars encode
tells_a_change = refl

-- partition maps of no cache
parts_of_no_cache :
    out_frames cfg session_manner (hello_1_4 ∷ put_body ∷ parts_body ∷ [])
    (had (pos 0) Done ∷ had (pos 0) (Keys []) ∷ [])
    ≡ accepted_1_4 ∷ told_put ∷ parts_reply ∷ []
unfolding greeting_of asked_in reading object_at refusal turn reply_body Frame LE served_map nodes_below parts_on
parts_of_no_cache = refl

-- after a refused hello nothing is answered
refused_hello_answers_nothing :
    out_frames cfg session_manner (hello_1_7 ∷ put_body ∷ [])
    (had (pos 0) Done ∷ [])
    ≡ refused_hello ∷ []
unfolding greeting_of asked_in reading object_at refusal turn reply_body Frame LE served_map nodes_below parts_on
refused_hello_answers_nothing = refl

-- nor asked
refused_hello_asks_nothing : asks (hello_1_7 ∷ put_body ∷ []) ≡ []
unfolding greeting_of
refused_hello_asks_nothing = refl

-- ---- sessions whose replies have values

int_bytes : (x : ℤ) → Canon (value.Int x) ≡ 3 ∷ LE w32 x
int_bytes x = Canon_out (value.Int x) ∙ ap (layer_bytes Canon) (value.outs-Int x)

-- a reply whose body is not too long
fits_as : (v : Version) (reply : Reply) (bytes : List ℕ) → reply_body v reply ≡ bytes → nat_le (length bytes) max_body ≡ true → fits v reply ≡ true
fits_as v reply bytes e short = ap (λ (l : List ℕ). nat_le (length l) max_body) e ∙ short

shown_as : (v : Version) (reply : Reply) (bytes : List ℕ) → reply_body v reply ≡ bytes → nat_le (length bytes) max_body ≡ true → reply_frame v (shortened v reply) ≡ Frame bytes
shown_as v reply bytes e short =
    ap (reply_frame v) (cond-true (fits v reply) reply (too_long reply) (fits_as v reply bytes e short)) ∙ ap Frame e

-- the value 2, under identifier 2
abbrev found_two : Reply
found_two = record { id = pos 2; told = None; content = Shows (Out (Found (value.Int (pos 2)))) }

abbrev found_bytes : List ℕ
found_bytes = 2 ∷ 0 ∷ 0 ∷ 0 ∷ 0 ∷ 0 ∷ 0 ∷ 0 ∷ 0 ∷ 0 ∷ 0 ∷ 0 ∷ 3 ∷ 2 ∷ 0 ∷ 0 ∷ 0 ∷ []

found_body : reply_body version_1_0 found_two ≡ found_bytes
unfolding reply_body LE
found_body = ap (λ (l : List ℕ). 2 ∷ 0 ∷ 0 ∷ 0 ∷ 0 ∷ 0 ∷ 0 ∷ 0 ∷ 0 ∷ 0 ∷ 0 ∷ 0 ∷ l) (int_bytes (pos 2))

-- a put and a get
put_and_get_said :
    out_frames cfg session_manner (hello_1_0 ∷ put_body ∷ get_body ∷ [])
    (had (pos 0) Done ∷ had (pos 0) (Found (value.Int (pos 2))) ∷ [])
    ≡ accepted ∷ put_reply ∷ reply_frame version_1_0 (shortened version_1_0 found_two) ∷ []
unfolding greeting_of asked_in reading object_at refusal turn reply_body Frame LE served_map nodes_below parts_on
put_and_get_said = refl

put_and_get :
    out_frames cfg session_manner (hello_1_0 ∷ put_body ∷ get_body ∷ [])
    (had (pos 0) Done ∷ had (pos 0) (Found (value.Int (pos 2))) ∷ [])
    ≡ accepted ∷ put_reply ∷ get_reply ∷ []
unfolding Frame LE
put_and_get = put_and_get_said ∙ ap (λ (frame : List ℕ). accepted ∷ put_reply ∷ frame ∷ []) (shown_as version_1_0 found_two found_bytes found_body refl)

-- the same at 1.4.0: the first answer tells the topology, and the second doesn't
abbrev untold_bytes : List ℕ
untold_bytes = 2 ∷ 0 ∷ 0 ∷ 0 ∷ 0 ∷ 0 ∷ 0 ∷ 0 ∷ 0 ∷ 0 ∷ 3 ∷ 2 ∷ 0 ∷ 0 ∷ 0 ∷ []

untold_body : reply_body version_1_4 found_two ≡ untold_bytes
unfolding reply_body LE
untold_body = ap (λ (l : List ℕ). 2 ∷ 0 ∷ 0 ∷ 0 ∷ 0 ∷ 0 ∷ 0 ∷ 0 ∷ 0 ∷ 0 ∷ l) (int_bytes (pos 2))

tells_once_said :
    out_frames cfg session_manner (hello_1_4 ∷ put_body ∷ get_body ∷ lost_body ∷ [])
    (had (pos 0) Done ∷ had (pos 0) (Found (value.Int (pos 2))) ∷ had (pos 0) (Refused NoCache) ∷ [])
    ≡ accepted_1_4 ∷ told_put ∷ reply_frame version_1_4 (shortened version_1_4 found_two) ∷ untold_lost ∷ []
unfolding greeting_of asked_in reading object_at refusal turn reply_body Frame LE served_map nodes_below parts_on
tells_once_said = refl

tells_once :
    out_frames cfg session_manner (hello_1_4 ∷ put_body ∷ get_body ∷ lost_body ∷ [])
    (had (pos 0) Done ∷ had (pos 0) (Found (value.Int (pos 2))) ∷ had (pos 0) (Refused NoCache) ∷ [])
    ≡ accepted_1_4 ∷ told_put ∷ untold_get ∷ untold_lost ∷ []
unfolding Frame LE
tells_once =
    tells_once_said
    ∙ ap (λ (frame : List ℕ). accepted_1_4 ∷ told_put ∷ frame ∷ untold_lost ∷ []) (shown_as version_1_4 found_two untold_bytes untold_body refl)

-- ---- a scan of three rows by pages of two

abbrev terms : Terms
terms = terms_at cfg session_manner version_1_0

-- the cursor with these rows left
abbrev cursor_of : List Pair → Cursor
cursor_of rows = record { number = 1; page = 2; rows = rows }

-- the desk with these cursors
abbrev desk_of : List Cursor → Desk
desk_of cursors = record { cursors = cursors; next = 2; told = None }

abbrev last_rows : List Pair
last_rows = row (pos 3) ∷ []

abbrev three_rows : List Pair
three_rows = row (pos 1) ∷ row (pos 2) ∷ last_rows

abbrev first_said : Reply
first_said = record { id = pos 1; told = None; content = page_content (Some (pos 1)) (cursor_of three_rows) }

abbrev first_bytes : List ℕ
first_bytes =
    1 ∷ 0 ∷ 0 ∷ 0 ∷ 0 ∷ 0 ∷ 0 ∷ 0 ∷ 0 ∷ 0 ∷ 0 ∷ 0 ∷ 1 ∷ 0 ∷ 0 ∷ 0 ∷ 0 ∷ 0 ∷ 0 ∷ 0 ∷ 2 ∷ 0 ∷ 0 ∷ 0
    ∷ 3 ∷ 1 ∷ 0 ∷ 0 ∷ 0 ∷ 3 ∷ 1 ∷ 0 ∷ 0 ∷ 0 ∷ 3 ∷ 2 ∷ 0 ∷ 0 ∷ 0 ∷ 3 ∷ 2 ∷ 0 ∷ 0 ∷ 0 ∷ 1 ∷ []

abbrev last_said : Reply
last_said = record { id = pos 2; told = None; content = page_content None (cursor_of last_rows) }

abbrev last_bytes : List ℕ
last_bytes =
    2 ∷ 0 ∷ 0 ∷ 0 ∷ 0 ∷ 0 ∷ 0 ∷ 0 ∷ 0 ∷ 0 ∷ 0 ∷ 0 ∷ 1 ∷ 0 ∷ 0 ∷ 0 ∷ 3 ∷ 3 ∷ 0 ∷ 0 ∷ 0 ∷ 3 ∷ 3 ∷ 0 ∷ 0 ∷ 0
    ∷ 0 ∷ []

first_body : reply_body version_1_0 first_said ≡ first_bytes
unfolding reply_body LE
first_body =
    ap (λ (l : List ℕ).
    1 ∷ 0 ∷ 0 ∷ 0 ∷ 0 ∷ 0 ∷ 0 ∷ 0 ∷ 0 ∷ 0 ∷ 0 ∷ 0 ∷ 1 ∷ 0 ∷ 0 ∷ 0 ∷ 0 ∷ 0 ∷ 0 ∷ 0 ∷ 2 ∷ 0 ∷ 0 ∷ 0
    ∷ ((l ++ l ++ (Canon (value.Int (pos 2)) ++ Canon (value.Int (pos 2)) ++ [])) ++ 1 ∷ [])) (int_bytes (pos 1))
    ∙ ap (λ (l : List ℕ).
    1 ∷ 0 ∷ 0 ∷ 0 ∷ 0 ∷ 0 ∷ 0 ∷ 0 ∷ 0 ∷ 0 ∷ 0 ∷ 0 ∷ 1 ∷ 0 ∷ 0 ∷ 0 ∷ 0 ∷ 0 ∷ 0 ∷ 0 ∷ 2 ∷ 0 ∷ 0 ∷ 0
    ∷ 3 ∷ 1 ∷ 0 ∷ 0 ∷ 0 ∷ 3 ∷ 1 ∷ 0 ∷ 0 ∷ 0 ∷ ((l ++ l ++ []) ++ 1 ∷ [])) (int_bytes (pos 2))

last_body : reply_body version_1_0 last_said ≡ last_bytes
unfolding reply_body LE
last_body =
    ap (λ (l : List ℕ). 2 ∷ 0 ∷ 0 ∷ 0 ∷ 0 ∷ 0 ∷ 0 ∷ 0 ∷ 0 ∷ 0 ∷ 0 ∷ 0 ∷ 1 ∷ 0 ∷ 0 ∷ 0 ∷ ((l ++ l ++ []) ++ 0 ∷ [])) (int_bytes (pos 3))

-- the first page, and a cursor with the last row
first_turn : turn terms fresh_desk (scan_deal (pos 1) (pos 3343801) (pos 2) (pos 0) three_rows) ≡ record { reply = first_said; desk = desk_of (cursor_of last_rows ∷ []) }
unfolding turn
first_turn =
    ap (λ (b : Bool). record { reply = if b then first_said else too_long first_said; desk = desk_of (if b then cursor_of last_rows ∷ [] else []) })
    (fits_as version_1_0 first_said first_bytes first_body refl)

abbrev next_deal : Deal
next_deal = record { asked = record { id = pos 2; request = Ok (NextPage (pos 1)) }; got = None }

-- the last page, and no cursor
last_turn : turn terms (desk_of (cursor_of last_rows ∷ [])) next_deal ≡ record { reply = last_said; desk = desk_of [] }
unfolding turn
last_turn =
    ap (λ (b : Bool). record { reply = if b then last_said else too_long last_said; desk = desk_of [] }) (fits_as version_1_0 last_said last_bytes last_body refl)

-- what the bodies ask
pages_asked : dealt (asks (hello_1_0 ∷ scan_body ∷ next_body ∷ next_body ∷ [])) (had (pos 0) (Pairs three_rows) ∷ [])
    ≡ scan_deal (pos 1) (pos 3343801) (pos 2) (pos 0) three_rows ∷ next_deal ∷ next_deal ∷ []
unfolding greeting_of asked_in reading object_at refusal LE
pages_asked = refl

-- the two pages, and after them the cursor isn't open
pages : reply_frames terms fresh_desk (scan_deal (pos 1) (pos 3343801) (pos 2) (pos 0) three_rows ∷ next_deal ∷ next_deal ∷ [])
    ≡ first_reply ∷ second_reply ∷ closed_reply ∷ []
unfolding turn reply_body Frame LE
pages =
    ap (λ (t : Turn). reply_frame version_1_0 t.reply ∷ reply_frames terms t.desk (next_deal ∷ next_deal ∷ [])) first_turn
    ∙ ap (λ (t : Turn). reply_frame version_1_0 first_said ∷ reply_frame version_1_0 t.reply ∷ reply_frames terms t.desk (next_deal ∷ [])) last_turn
    ∙ ap (λ (l : List ℕ). Frame l ∷ reply_frame version_1_0 last_said ∷ closed_reply ∷ []) first_body
    ∙ ap (λ (l : List ℕ). first_reply ∷ Frame l ∷ closed_reply ∷ []) last_body

-- a cursor is closed without a page of it being shown, and then it isn't open
abbrev close_deal : Deal
close_deal = record { asked = record { id = pos 2; request = Ok (Close (pos 1)) }; got = None }

closes_a_cursor : reply_frames terms (desk_of (cursor_of last_rows ∷ [])) (close_deal ∷ close_deal ∷ []) ≡ close_reply ∷ closed_reply ∷ []
unfolding turn reply_body Frame LE
closes_a_cursor = refl

closing_asked : asks (hello_1_0 ∷ close_body ∷ []) ≡ close_deal.asked ∷ []
unfolding greeting_of asked_in reading object_at refusal LE
closing_asked = refl
