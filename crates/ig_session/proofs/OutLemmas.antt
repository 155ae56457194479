-- The calls that are out, and what was given for the others.
use Rattle.std.proofs.Common.{◌≡◌, ℕ, zero, suc, ◌+◌, ◌<◌, ◌≤◌, List, [], ◌∷◌, ◌++◌, map, length, Option, None, Some, refl, sym, ap, ◌∙◌, arith, append_assoc}
use Rattle.std.specs.Prelude.{Bool, true, false, cond, slice_get}
use Rattle.std.specs.List.{cons_option}
use Rattle.std.proofs.lemmas.Bool.{eq-eqb, ne_eqb}
use Rattle.std.proofs.lemmas.List.{length-map, map-append}
use Rattle.ig_caches.specs.declared.call.Call.{Call}
use Rattle.ig_deals.specs.Asks.{Asked}
use Rattle.ig_deals.specs.Deals.{Got, Deal, call_for, calls}
use Rattle.ig_session.specs.declared.awaited.Awaited.{Awaited}
use Rattle.ig_session.specs.Awaiting.{awaited_of, has_nth, awaited_at, without_nth}
use Rattle.ig_session.specs.StandsAhead.{HandedAhead, given_so_far, deal_ahead, dealt_ahead, out_next, out_after, out_among}
use Rattle.ig_session.specs.LawsAhead.{with_got}

-- ---- deals

next-append : (a : Asked) (c : Option Call) (cs : List Call) (gs hs : List (Option Got)) (both first : List (Option Got) → List Deal) (last : List Deal)
    → length gs ≡ length (cons_option c cs)
    → ((gs : List (Option Got)) → length gs ≡ length cs → both (gs ++ hs) ≡ first gs ++ last)
    → deal_ahead a c (gs ++ hs) both ≡ deal_ahead a c gs first ++ last
next-append a None cs gs hs both first last len go = ap (λ (ds : List Deal). record { asked = a; got = None } ∷ ds) (go gs len)
next-append a (Some c) cs [] hs both first last len go = absurd (omega arith)
next-append a (Some c) cs (g ∷ gs) hs both first last len go = ap (λ (ds : List Deal). record { asked = a; got = g } ∷ ds) (go gs (omega arith))

pub dealt_ahead-append : (asked more : List Asked) (gs hs : List (Option Got)) → length gs ≡ length (calls asked) → dealt_ahead (asked ++ more) (gs ++ hs) ≡ dealt_ahead asked gs ++ dealt_ahead more hs
dealt_ahead-append [] more [] hs len = refl
dealt_ahead-append [] more (g ∷ gs) hs len = absurd (omega arith)
dealt_ahead-append (a ∷ asked) more gs hs len =
    next-append a (call_for a.request) (calls asked) gs hs (dealt_ahead (asked ++ more)) (dealt_ahead asked) (dealt_ahead more hs) len (λ gs' len'. dealt_ahead-append asked more gs' hs len')

-- as many were handed out as are asked for
pub given_ahead : (ran : List HandedAhead) (asked : List Asked) → map (λ (r : HandedAhead). r.call) ran ≡ calls asked → length (given_so_far ran) ≡ length (calls asked)
given_ahead ran asked e = length-map ran (λ (r : HandedAhead). r.got) ∙ sym (length-map ran (λ (r : HandedAhead). r.call)) ∙ ap length e

-- ---- how many calls deals have

abbrev counted : Option Call → ℕ → ℕ
counted None n = n
counted (Some c) n = suc n

abbrev pub calls_among : List Deal → ℕ
calls_among [] = 0
calls_among (deal ∷ deals) = counted (call_for deal.asked.request) (calls_among deals)

counted_dealt : (a : Asked) (c : Option Call) (cs : List Call) (gs : List (Option Got)) (later : List (Option Got) → List Deal) → call_for a.request ≡ c → length gs ≡ length (cons_option c cs)
    → ((gs : List (Option Got)) → length gs ≡ length cs → calls_among (later gs) ≡ length cs) → calls_among (deal_ahead a c gs later) ≡ length (cons_option c cs)
counted_dealt a None cs gs later is len go = ap (λ (c : Option Call). counted c (calls_among (later gs))) is ∙ go gs len
counted_dealt a (Some c) cs [] later is len go = absurd (omega arith)
counted_dealt a (Some c) cs (g ∷ gs) later is len go = ap (λ (o : Option Call). counted o (calls_among (later gs))) is ∙ ap suc (go gs (omega arith))

pub calls_dealt : (asked : List Asked) (gs : List (Option Got)) → length gs ≡ length (calls asked) → calls_among (dealt_ahead asked gs) ≡ length (calls asked)
calls_dealt [] gs len = refl
calls_dealt (a ∷ asked) gs len = counted_dealt a (call_for a.request) (calls asked) gs (dealt_ahead asked) refl len (λ gs' len'. calls_dealt asked gs' len')

-- ---- calls that are out

out_next-append : (n : ℕ) (deal : Deal) (c : Option Call) (ds es : List Deal) → ((k : ℕ) → out_among k (ds ++ es) ≡ out_among k ds ++ out_among (k + calls_among ds) es)
    → out_after n deal c (λ k. out_among k (ds ++ es)) ≡ out_after n deal c (λ k. out_among k ds) ++ out_among (n + counted c (calls_among ds)) es
out_next-append n deal None ds es go = go n
out_next-append n deal (Some c) ds es go =
    let moved : suc n + calls_among ds ≡ n + suc (calls_among ds) = omega arith in
    ap (λ (l : List Awaited). out_next n deal.asked deal.got ++ l) (go (suc n) ∙ ap (λ (k : ℕ). out_among (suc n) ds ++ out_among k es) moved)
    ∙ sym (append_assoc (out_next n deal.asked deal.got) (out_among (suc n) ds) (out_among (n + suc (calls_among ds)) es))

pub out_among-append : (n : ℕ) (ds es : List Deal) → out_among n (ds ++ es) ≡ out_among n ds ++ out_among (n + calls_among ds) es
out_among-append n [] es = ap (λ (k : ℕ). out_among k es) (omega arith)
out_among-append n (deal ∷ ds) es = out_next-append n deal (call_for deal.asked.request) ds es (λ k. out_among-append k ds es)

-- a deal with a call, from this number on
pub out_one : (n : ℕ) (a : Asked) (c : Call) (got : Option Got) (after : List Deal) → call_for a.request ≡ Some c
    → out_among n (record { asked = a; got = got } ∷ after) ≡ out_next n a got ++ out_among (suc n) after
out_one n a c got after is = ap (λ (o : Option Call). out_after n (record { asked = a; got = got }) o (λ k. out_among k after)) is

-- and one without a call
pub out_none : (n : ℕ) (a : Asked) (got : Option Got) (after : List Deal) → call_for a.request ≡ None
    → out_among n (record { asked = a; got = got } ∷ after) ≡ out_among n after
out_none n a got after is = ap (λ (o : Option Call). out_after n (record { asked = a; got = got }) o (λ k. out_among k after)) is

-- ---- numbers

-- none has this number
abbrev AreOthers : ℕ → List Awaited → Type 0
AreOthers nth [] = Unit {0}
AreOthers nth (a ∷ out) = (has_nth nth a ≡ false) × AreOthers nth out

others_got : (nth n : ℕ) (a : Asked) (got : Option Got) (l : List Awaited) → (n ≡ nth → ⊥) → AreOthers nth l → AreOthers nth (out_next n a got ++ l)
others_got nth n a None l never others = (ne_eqb n nth never, others)
others_got nth n a (Some got) l never others = others

others_next : (nth n : ℕ) (deal : Deal) (c : Option Call) (ds : List Deal) → ((k : ℕ) → n ≤ k → k < n + counted c (calls_among ds) → k ≡ nth → ⊥)
    → ((m : ℕ) → ((k : ℕ) → m ≤ k → k < m + calls_among ds → k ≡ nth → ⊥) → AreOthers nth (out_among m ds)) → AreOthers nth (out_after n deal c (λ k. out_among k ds))
others_next nth n deal None ds never go = go n never
others_next nth n deal (Some c) ds never go =
    others_got nth n deal.asked deal.got (out_among (suc n) ds) (never n (omega arith) (omega arith)) (go (suc n) (λ k at_least less. never k (omega (arith, at_least)) (omega (arith, less))))

others : (nth n : ℕ) (ds : List Deal) → ((k : ℕ) → n ≤ k → k < n + calls_among ds → k ≡ nth → ⊥) → AreOthers nth (out_among n ds)
others nth n [] never = tt
others nth n (deal ∷ ds) never = others_next nth n deal (call_for deal.asked.request) ds never (λ m. others nth m ds)

others_left : (nth : ℕ) (out : List Awaited) (a : Awaited) (later : List Awaited) → AreOthers nth out → has_nth nth a ≡ true → without_nth (out ++ a ∷ later) nth ≡ out ++ later
others_left nth [] a later are is = ap (λ (b : Bool). cond b later (a ∷ without_nth later nth)) is
others_left nth (x ∷ out) a later are is =
    ap (λ (b : Bool). cond b (out ++ a ∷ later) (x ∷ without_nth (out ++ a ∷ later) nth)) are.0 ∙ ap (λ (l : List Awaited). x ∷ l) (others_left nth out a later are.1 is)

others_passed : (nth : ℕ) (out later : List Awaited) → AreOthers nth out → awaited_at (out ++ later) nth ≡ awaited_at later nth
others_passed nth [] later are = refl
others_passed nth (a ∷ out) later are =
    ap (λ (b : Bool). cond b (Some a) (awaited_at (out ++ later) nth)) are.0 ∙ others_passed nth out later are.1

-- A call is out whose deal stands between others: it is found by its number, and without it the others are out.
module _ (before after : List Deal) (a : Asked) (c : Call) (has_call : call_for a.request ≡ Some c) where
  abbrev nth : ℕ
  nth = calls_among before

  below : AreOthers nth (out_among 0 before)
  below = others nth 0 before (λ k at_least less same. let is : k ≡ calls_among before = same in omega (arith, less, is))

  -- the calls that are out, whatever was given for this one
  pub out_with : (got : Option Got) → out_among 0 (before ++ record { asked = a; got = got } ∷ after) ≡ out_among 0 before ++ (out_next nth a got ++ out_among (suc nth) after)
  out_with got =
      out_among-append 0 before (record { asked = a; got = got } ∷ after)
      ∙ ap (λ (l : List Awaited). out_among 0 before ++ l) (ap (λ (k : ℕ). out_among k (record { asked = a; got = got } ∷ after)) (omega arith) ∙ out_one nth a c got after has_call)

  itself : has_nth nth (awaited_of nth a) ≡ true
  itself = eq-eqb nth nth refl

  pub found_out : (out : List Awaited) → out ≡ out_among 0 (before ++ record { asked = a; got = None } ∷ after) → awaited_at out nth ≡ Some (awaited_of nth a)
  found_out out is =
      ap (λ (l : List Awaited). awaited_at l nth) (is ∙ out_with None)
      ∙ others_passed nth (out_among 0 before) (awaited_of nth a ∷ out_among (suc nth) after) below
      ∙ ap (λ (b : Bool). cond b (Some (awaited_of nth a)) (awaited_at (out_among (suc nth) after) nth)) itself

  pub others_out : (out : List Awaited) (got : Got) → out ≡ out_among 0 (before ++ record { asked = a; got = None } ∷ after)
      → without_nth out nth ≡ out_among 0 (before ++ record { asked = a; got = Some got } ∷ after)
  others_out out got is =
      ap (λ (l : List Awaited). without_nth l nth) (is ∙ out_with None)
      ∙ others_left nth (out_among 0 before) (awaited_of nth a) (out_among (suc nth) after) below itself
      ∙ sym (out_with (Some got))

-- ---- the request of a call that is out

-- the call with a number is out: its request stands between these, and was handed out between these
pub record IsOut (asked : List Asked) (ran : List HandedAhead) (nth : ℕ) (call : Call) : Type 0 where
  pub before : List Asked
  pub it : Asked
  pub after : List Asked
  pub first : List HandedAhead
  pub later : List HandedAhead
  pub asked_are : asked ≡ before ++ it ∷ after
  pub ran_are : ran ≡ first ++ record { call = call; got = None } ∷ later
  pub has_call : call_for it.request ≡ Some call
  pub number : length first ≡ nth
  pub calls_first : map (λ (r : HandedAhead). r.call) first ≡ calls before

abbrev IsNth : List HandedAhead → ℕ → Call → Type 0
IsNth ran nth call = slice_get ran nth ≡ Some (record { call = call; got = None })

is_out_next : (a : Asked) (c : Option Call) (asked : List Asked) (ran : List HandedAhead) (nth : ℕ) (call : Call) → call_for a.request ≡ c
    → map (λ (r : HandedAhead). r.call) ran ≡ cons_option c (calls asked) → IsNth ran nth call
    → ((ran : List HandedAhead) (nth : ℕ) → map (λ (r : HandedAhead). r.call) ran ≡ calls asked → IsNth ran nth call → IsOut asked ran nth call) → IsOut (a ∷ asked) ran nth call
is_out_next a None asked ran nth call is e at go =
    let there : IsOut asked ran nth call = go ran nth e at in
    record {
      before = a ∷ there.before;
      it = there.it;
      after = there.after;
      first = there.first;
      later = there.later;
      asked_are = ap (λ (l : List Asked). a ∷ l) there.asked_are;
      ran_are = there.ran_are;
      has_call = there.has_call;
      number = there.number;
      calls_first = there.calls_first ∙ sym (ap (λ (o : Option Call). cons_option o (calls there.before)) is);
    }
is_out_next a (Some c) asked [] nth call is e at go = absurd cc
is_out_next a (Some c) asked (r ∷ ran) zero call is e at go =
    let same : r ≡ record { call = call; got = None } = cc in
    let own : r.call ≡ c = cc in
    record {
      before = [];
      it = a;
      after = asked;
      first = [];
      later = ran;
      asked_are = refl;
      ran_are = ap (λ (x : HandedAhead). x ∷ ran) same;
      has_call = is ∙ ap Some (sym own ∙ ap (λ (x : HandedAhead). x.call) same);
      number = refl;
      calls_first = refl;
    }
is_out_next a (Some c) asked (r ∷ ran) (suc n) call is e at go =
    let own : r.call ≡ c = cc in
    let others : map (λ (x : HandedAhead). x.call) ran ≡ calls asked = cc in
    let there : IsOut asked ran n call = go ran n others at in
    record {
      before = a ∷ there.before;
      it = there.it;
      after = there.after;
      first = r ∷ there.first;
      later = there.later;
      asked_are = ap (λ (l : List Asked). a ∷ l) there.asked_are;
      ran_are = ap (λ (l : List HandedAhead). r ∷ l) there.ran_are;
      has_call = there.has_call;
      number = omega (arith, there.number);
      calls_first = ap (λ (x : Call). x ∷ map (λ (y : HandedAhead). y.call) there.first) own ∙ ap (λ (l : List Call). c ∷ l) there.calls_first
          ∙ sym (ap (λ (o : Option Call). cons_option o (calls there.before)) is);
    }

pub is_out : (asked : List Asked) (ran : List HandedAhead) (nth : ℕ) (call : Call) → map (λ (r : HandedAhead). r.call) ran ≡ calls asked → IsNth ran nth call → IsOut asked ran nth call
is_out [] [] nth call e at = absurd cc
is_out [] (r ∷ ran) nth call e at = absurd cc
is_out (a ∷ asked) ran nth call e at = is_out_next a (call_for a.request) asked ran nth call refl e at (λ ran' nth'. is_out asked ran' nth' call)

got_there : (first : List HandedAhead) (call : Call) (later : List HandedAhead) (got : Got)
    → with_got (first ++ record { call = call; got = None } ∷ later) (length first) got ≡ first ++ record { call = call; got = Some got } ∷ later
got_there [] call later got = refl
got_there (r ∷ first) call later got = ap (λ (l : List HandedAhead). r ∷ l) (got_there first call later got)

-- what was dealt, before and after something was given for the call
module _ (asked : List Asked) (ran : List HandedAhead) (nth : ℕ) (call : Call) (all : map (λ (r : HandedAhead). r.call) ran ≡ calls asked) (there : IsOut asked ran nth call) where
  abbrev pub deals_before : List Deal
  deals_before = dealt_ahead there.before (given_so_far there.first)

  abbrev pub deals_after : List Deal
  deals_after = dealt_ahead there.after (given_so_far there.later)

  as_many : length (given_so_far there.first) ≡ length (calls there.before)
  as_many = given_ahead there.first there.before there.calls_first

  pub number_is : calls_among deals_before ≡ nth
  number_is = calls_dealt there.before (given_so_far there.first) as_many ∙ sym as_many ∙ length-map there.first (λ (r : HandedAhead). r.got) ∙ there.number

  dealt_there : (got : Option Got) → dealt_ahead asked (given_so_far (there.first ++ record { call = call; got = got } ∷ there.later)) ≡ deals_before ++ record { asked = there.it; got = got } ∷ deals_after
  dealt_there got =
      ap (λ (l : List Asked). dealt_ahead l (given_so_far (there.first ++ record { call = call; got = got } ∷ there.later))) there.asked_are
      ∙ ap (dealt_ahead (there.before ++ there.it ∷ there.after)) (map-append (λ (r : HandedAhead). r.got) there.first (record { call = call; got = got } ∷ there.later))
      ∙ dealt_ahead-append there.before (there.it ∷ there.after) (given_so_far there.first) (got ∷ given_so_far there.later) as_many
      ∙ ap (λ (o : Option Call). deals_before ++ deal_ahead there.it o (got ∷ given_so_far there.later) (dealt_ahead there.after)) there.has_call

  pub dealt_out : dealt_ahead asked (given_so_far ran) ≡ deals_before ++ record { asked = there.it; got = None } ∷ deals_after
  dealt_out = ap (λ (l : List HandedAhead). dealt_ahead asked (given_so_far l)) there.ran_are ∙ dealt_there None

  got_is : (got : Got) → with_got ran nth got ≡ there.first ++ record { call = call; got = Some got } ∷ there.later
  got_is got = ap (λ (l : List HandedAhead). with_got l nth got) there.ran_are
      ∙ ap (λ (n : ℕ). with_got (there.first ++ record { call = call; got = None } ∷ there.later) n got) (sym there.number)
      ∙ got_there there.first call there.later got

  pub dealt_given : (got : Got) → dealt_ahead asked (given_so_far (with_got ran nth got)) ≡ deals_before ++ record { asked = there.it; got = Some got } ∷ deals_after
  dealt_given got = ap (λ (l : List HandedAhead). dealt_ahead asked (given_so_far l)) (got_is got) ∙ dealt_there (Some got)

  pub handed_given : (got : Got) → map (λ (r : HandedAhead). r.call) (with_got ran nth got) ≡ calls asked
  handed_given got =
      ap (map (λ (r : HandedAhead). r.call)) (got_is got)
      ∙ map-append (λ (r : HandedAhead). r.call) there.first (record { call = call; got = Some got } ∷ there.later)
      ∙ sym (map-append (λ (r : HandedAhead). r.call) there.first (record { call = call; got = None } ∷ there.later))
      ∙ sym (ap (map (λ (r : HandedAhead). r.call)) there.ran_are) ∙ all

  pub length_given : (got : Got) → length (with_got ran nth got) ≡ length ran
  length_given got = sym (length-map (with_got ran nth got) (λ (r : HandedAhead). r.call)) ∙ ap length (handed_given got ∙ sym all) ∙ length-map ran (λ (r : HandedAhead). r.call)
