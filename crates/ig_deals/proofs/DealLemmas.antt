-- Asks and deals of longer lists.
use Rattle.std.specs.Prelude.{FitsSigned, unwrap_or}
use Rattle.std.specs.Int.{w16, w64}
use Rattle.std.proofs.Common.{ℤ, pos, None, Some, ◌≡◌, ℕ, List, [], ◌∷◌, ◌++◌, map, length, Option, Ok, Err, refl, sym, ap, ◌∙◌, arith}
use Rattle.std.specs.List.{cons_option}
use Rattle.std.proofs.lemmas.List.{map-append, length-map}
use Rattle.std.proofs.lemmas.List.Elements.{filter_map-append}
use Rattle.ig_base.specs.Numbers.{LE}
use Rattle.ig_wire.proofs.WriteLemmas.{ask_parts}
use Rattle.ig_wire.specs.declared.hello.HelloFault.{HelloFault}
use Rattle.ig_caches.specs.declared.call.Call.{Call}
use Rattle.ig_deals.specs.Hellos.{Greeting, greeting_of}
use Rattle.ig_deals.specs.Asks.{Asked, operation_in, id_in, asked_in, asks_after, asks}
use Rattle.ig_deals.specs.Deals.{Got, Ran, handed, gots, call_for, calls, Deal, deal_next, dealt}
use Rattle.ig_deals.specs.Laws.{IsPrefix}

-- ---- asks

pub head_is_read : (operation id : ℤ) (fields : List ℕ) → FitsSigned w16 operation → FitsSigned w64 id
    → (operation_in (LE w16 operation ++ LE w64 id ++ fields) ≡ operation) × (id_in (LE w16 operation ++ LE w64 id ++ fields) ≡ id)
head_is_read operation id fields a b =
    let parts = ask_parts operation id fields a b in
    (ap (λ (o : Option ℤ). unwrap_or o (pos 0)) parts.0, ap (λ (o : Option ℤ). unwrap_or o (pos 0)) parts.1)

pub asks_after-append : (g : Greeting) (bodies more : List (List ℕ)) → asks_after g (bodies ++ more) ≡ asks_after g bodies ++ asks_after g more
asks_after-append (Ok hello) bodies more = map-append (asked_in hello.version) bodies more
asks_after-append (Err fault) bodies more = refl

pub asks-append : (hello : List ℕ) (bodies more : List (List ℕ)) → asks (hello ∷ (bodies ++ more)) ≡ asks (hello ∷ bodies) ++ asks (hello ∷ more)
asks-append hello bodies more = asks_after-append (greeting_of hello) bodies more

pub asks_nothing : (hello : List ℕ) (fault : HelloFault) (bodies : List (List ℕ)) → greeting_of hello ≡ Err fault → asks (hello ∷ bodies) ≡ []
asks_nothing hello fault bodies e = ap (λ (g : Greeting). asks_after g bodies) e

pub calls-append : (asked more : List Asked) → calls (asked ++ more) ≡ calls asked ++ calls more
calls-append asked more = filter_map-append (λ (a : Asked). call_for a.request) asked more

-- as many results as calls
pub given_for : (ran : List Ran) (asked : List Asked) → handed ran ≡ calls asked → length (gots ran) ≡ length (calls asked)
given_for ran asked e = length-map ran (λ (r : Ran). r.got) ∙ sym (length-map ran (λ (r : Ran). r.call)) ∙ ap length e

-- ---- deals

-- the deal before deals that go on with others
next-append : (a : Asked) (c : Option Call) (cs : List Call) (gs hs : List Got) (both first : List Got → List Deal) (last : List Deal)
    → length gs ≡ length (cons_option c cs)
    → ((gs : List Got) → length gs ≡ length cs → both (gs ++ hs) ≡ first gs ++ last)
    → deal_next a c (gs ++ hs) both ≡ deal_next a c gs first ++ last
next-append a None cs gs hs both first last len go = ap (λ (ds : List Deal). record { asked = a; got = None } ∷ ds) (go gs len)
next-append a (Some c) cs [] hs both first last len go = absurd (omega arith)
next-append a (Some c) cs (g ∷ gs) hs both first last len go = ap (λ (ds : List Deal). record { asked = a; got = Some g } ∷ ds) (go gs (omega arith))

pub dealt-append : (asked more : List Asked) (gs hs : List Got) → length gs ≡ length (calls asked) → dealt (asked ++ more) (gs ++ hs) ≡ dealt asked gs ++ dealt more hs
dealt-append [] more [] hs len = refl
dealt-append [] more (g ∷ gs) hs len = absurd (omega arith)
dealt-append (a ∷ asked) more gs hs len =
    next-append a (call_for a.request) (calls asked) gs hs (dealt (asked ++ more)) (dealt asked) (dealt more hs) len (λ gs' len'. dealt-append asked more gs' hs len')

abbrev asked_of : Deal → Asked
asked_of d = d.asked

next-all : (a : Asked) (c : Option Call) (cs : List Call) (gs : List Got) (later : List Got → List Deal) (asked : List Asked)
    → length gs ≡ length (cons_option c cs) → ((gs : List Got) → length gs ≡ length cs → map asked_of (later gs) ≡ asked)
    → map asked_of (deal_next a c gs later) ≡ a ∷ asked
next-all a None cs gs later asked len go = ap (λ (l : List Asked). a ∷ l) (go gs len)
next-all a (Some c) cs [] later asked len go = absurd (omega arith)
next-all a (Some c) cs (g ∷ gs) later asked len go = ap (λ (l : List Asked). a ∷ l) (go gs (omega arith))

pub all_dealt : (asked : List Asked) (gs : List Got) → length gs ≡ length (calls asked) → map asked_of (dealt asked gs) ≡ asked
all_dealt [] gs len = refl
all_dealt (a ∷ asked) gs len = next-all a (call_for a.request) (calls asked) gs (dealt asked) asked len (λ gs' len'. all_dealt asked gs' len')

prefix-cons : {A : Type 0} (x : A) (xs ys : List A) → IsPrefix xs ys → IsPrefix (x ∷ xs) (x ∷ ys)
prefix-cons {A} x xs ys p = (p.0, ap (λ (l : List A). x ∷ l) p.1)

next-first : (a : Asked) (c : Option Call) (gs : List Got) (later : List Got → List Deal) (asked : List Asked)
    → ((gs : List Got) → IsPrefix (map asked_of (later gs)) asked) → IsPrefix (map asked_of (deal_next a c gs later)) (a ∷ asked)
next-first a None gs later asked go = prefix-cons a (map asked_of (later gs)) asked (go gs)
next-first a (Some c) [] later asked go = (a ∷ asked, refl)
next-first a (Some c) (g ∷ gs) later asked go = prefix-cons a (map asked_of (later gs)) asked (go gs)

pub first_dealt : (asked : List Asked) (gs : List Got) → IsPrefix (map asked_of (dealt asked gs)) asked
first_dealt [] gs = ([], refl)
first_dealt (a ∷ asked) gs = next-first a (call_for a.request) gs (dealt asked) asked (λ gs'. first_dealt asked gs')

next-stays : (a : Asked) (c : Option Call) (gs hs : List Got) (before after : List Got → List Deal)
    → ((gs : List Got) → IsPrefix (before gs) (after (gs ++ hs))) → IsPrefix (deal_next a c gs before) (deal_next a c (gs ++ hs) after)
next-stays a None gs hs before after go = prefix-cons (record { asked = a; got = None }) (before gs) (after (gs ++ hs)) (go gs)
next-stays a (Some c) [] hs before after go = (deal_next a (Some c) hs after, refl)
next-stays a (Some c) (g ∷ gs) hs before after go = prefix-cons (record { asked = a; got = Some g }) (before gs) (after (gs ++ hs)) (go gs)

pub deals_stay : (asked more : List Asked) (gs hs : List Got) → IsPrefix (dealt asked gs) (dealt (asked ++ more) (gs ++ hs))
deals_stay [] more gs hs = (dealt more (gs ++ hs), refl)
deals_stay (a ∷ asked) more gs hs = next-stays a (call_for a.request) gs hs (dealt asked) (dealt (asked ++ more)) (λ gs'. deals_stay asked more gs' hs)
