-- The calls of a channel without its link, as plain data.
use Rattle.std.proofs.Common.{◌≡◌, cond, ℕ, ◌+◌, ◌-◌, ◌^◌, ℤ, pos, w64, Bool, true, false, List, [], ◌++◌, length, take, drop, min, Option, None, Some, refl, sym, ap, ◌∙◌, arith}
use Rattle.std.proofs.lemmas.Bool.{cond-true, cond-false}
use Rattle.std.specs.FinMap as map
use Rattle.std.specs.Option.{unwrap_or}
use Rattle.ig_base.specs.Numbers.{number_at}
use Rattle.ig_base.specs.Frames.{Front, Body, front, max_body}
use Rattle.ig_client.specs.PendingState.{PendingState, Replies, with_front, with_reply, filed, broken, is_waiting, id_of}
use Rattle.ig_client.specs.declared.fault.Break.TheVariants.{Unasked}

-- the bytes that were added, where there was memory
pub extended : (was more now : List ℕ) (ok : Bool) → now ≡ cond ok (was ++ more) was → ok ≡ true → now ≡ was ++ more
extended was more now ok is done = is ∙ cond-true ok (was ++ more) was done

-- the identifier that was read in the frame's body
pub id_read : (all : List ℕ) (len : ℕ) (read : Option ℤ) (raw id : ℤ) → read ≡ number_at w64 (take (4 + len - 4) (drop 4 all)) 0 → raw ≡ unwrap_or read (pos 0) → id ≡ raw
    → id ≡ id_of (take len (drop 4 all))
id_read all len read raw id is value same =
    let count : 4 + len - 4 ≡ len = omega arith in
    same ∙ value ∙ ap (λ (o : Option ℤ). unwrap_or o (pos 0)) is ∙ ap (λ n. id_of (take n (drop 4 all))) count

-- ---- the bytes of a frame

-- the channel with these bytes of its frame
abbrev pub with_part : List ℕ → PendingState → PendingState
with_part items c = record c { part = items; room = 0 }

pub filed_as : (c : PendingState) (piece items : List ℕ) (f : Front) → items ≡ c.part ++ piece → front c.least max_body items ≡ f → filed piece c ≡ with_front f (with_part items c)
filed_as c piece items f are at =
    ap (λ (l : List ℕ). with_front (front c.least max_body l) (with_part l c)) (sym are) ∙ ap (λ g. with_front g (with_part items c)) at

-- the frame is the reply to a pending call, or it isn't
pub filed_reply : (c : PendingState) (body rest : List ℕ) (id : ℤ) → id ≡ id_of body → is_waiting (map.get c.replies id) ≡ true → with_front (Body body rest) c ≡ with_reply id c
filed_reply c body rest id is waits =
    cond-true (is_waiting (map.get c.replies (id_of body))) (with_reply (id_of body) c) (broken (Unasked (id_of body)) c) (ap (λ i. is_waiting (map.get c.replies i)) (sym is) ∙ waits)
    ∙ ap (λ i. with_reply i c) (sym is)

pub filed_unasked : (c : PendingState) (body rest : List ℕ) (id : ℤ) → id ≡ id_of body → is_waiting (map.get c.replies id) ≡ false → with_front (Body body rest) c ≡ broken (Unasked id) c
filed_unasked c body rest id is unasked =
    cond-false (is_waiting (map.get c.replies (id_of body))) (with_reply (id_of body) c) (broken (Unasked (id_of body)) c) (ap (λ i. is_waiting (map.get c.replies i)) (sym is) ∙ unasked)
    ∙ ap (λ i. broken (Unasked i) c) (sym is)

-- a call that waits has no reply
pub waiting_is : (x : Option (Option (List ℕ))) → is_waiting x ≡ true → x ≡ Some None
waiting_is None is = cc
waiting_is (Some None) is = refl
waiting_is (Some (Some frame)) is = cc

-- the frame that was being read is filed
pub files_reply : (c : PendingState) (piece items body rest : List ℕ) (id : ℤ) (waiting place : ℕ) (replies : Replies) (part : List ℕ)
    → items ≡ c.part ++ piece → front c.least max_body items ≡ Body body rest → id ≡ id_of body → is_waiting (map.get c.replies id) ≡ true
    → waiting ≡ c.waiting - 1 → replies ≡ map.insert c.replies id (Some items) → place ≡ min (c.place + length items) (2 ^ 64 - 1) → part ≡ []
    → (record { least = c.least; last = c.last; waiting = waiting; replies = replies; place = place; part = part; room = 0; down = c.down }) ≡ filed piece c
files_reply c piece items body rest id waiting place replies part are at is waits waiting_is replies_are place_is part_is =
    let step : filed piece c ≡ with_reply id (with_part items c) =
    filed_as c piece items (Body body rest) are at ∙ filed_reply (with_part items c) body rest id is waits in
    let make : ℕ → Replies → ℕ → List ℕ → PendingState =
    λ w r p l. record { least = c.least; last = c.last; waiting = w; replies = r; place = p; part = l; room = 0; down = c.down } in
    ap (λ w. make w replies place part) waiting_is
    ∙ ap (λ r. make (c.waiting - 1) r place part) replies_are
    ∙ ap (λ p. make (c.waiting - 1) (map.insert c.replies id (Some items)) p part) place_is
    ∙ ap (λ (l : List ℕ). make (c.waiting - 1) (map.insert c.replies id (Some items)) (min (c.place + length items) (2 ^ 64 - 1)) l) part_is
    ∙ sym step

-- the frame that was being read wasn't asked for
pub files_unasked : (c : PendingState) (piece items body rest : List ℕ) (id : ℤ) → items ≡ c.part ++ piece → front c.least max_body items ≡ Body body rest → id ≡ id_of body
    → is_waiting (map.get c.replies id) ≡ false → broken (Unasked id) (with_part items c) ≡ filed piece c
files_unasked c piece items body rest id are at is unasked =
    sym (filed_as c piece items (Body body rest) are at ∙ filed_unasked (with_part items c) body rest id is unasked)
