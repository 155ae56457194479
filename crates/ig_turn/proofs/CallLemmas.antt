-- The steps of a call keep the rule.
use Rattle.std.proofs.Common.{◌≡◌, ◌⊎◌, ℕ, suc, zero, ◌+◌, ◌%◌, ◌^◌, ◌<◌, ◌≤◌, eqb, Bool, true, cond, List, [], ◌∷◌, ◌++◌, map, length, get_or, set, refl, sym, ap, ◌∙◌, subst, inl, inr, arith, eq-eqb, ne_eqb, length-set, length-append}
use mathlib.Core.Option.{Option, some, none, some-ne-none}
use mathlib.Core.List.{IsPrefix}
use mathlib.Core.Logic.{dite}
use native.Mathlib.Decide.{ℕ_discrete, dec_lt}
use lib.ListN.{get_elem?}
use lib.Seq.{set-get_or}
use prog.Atomic.{either}
use Rattle.std.specs.Prelude.{slice_index_or}
use Rattle.atomic_table.specs.Table.{State, Me, step, keeps, takes, gives, rest, stepped, Allows, Act, Valid, carried_after}
use Rattle.atomic_table.proofs.Lists.{set_again}
use Rattle.ig_base.specs.declared.entry.Entry.{Entry}
use Rattle.ig_turn.specs.declared.view.Ended.{Ended}
use Rattle.ig_turn.specs.declared.view.Stage.{Stage}
use Rattle.ig_turn.specs.declared.view.Stage.TheVariants.{Idle, Waiting, Holding}
use Rattle.ig_turn.specs.declared.view.View.{View}
use Rattle.ig_turn.specs.History.{entries_of, entry, ended, pairs_of, numbers_of, IsWhole}
use Rattle.std.specs.List.{AllByRecursion, Contains}
use Rattle.ig_turn.specs.Ordered.{Phase, home, out, Board, number_of, parts_of, homes_of, commits_of, HolderFits, Tickets, Numbers, Knows, ObjectFits, Ordered}
use Rattle.ig_turn.specs.Steps.{with_stage, held_ticket, held_list, committed_view, IsWholeView, DrawsTicket, TakesObject, Commits, Passes}
use Rattle.ig_turn.proofs.ListLemmas.{prefix_refl, prefix_more, prefix_inside, each_weaker, each_has, each_in, all_from_each, each_from_all, entries_of_some, entries_of-other}
use Rattle.ig_turn.proofs.BoardLemmas.{put, put_here, put_else, views_set, waiting_or_holding, with_ticket, with_phase, with_entry, with_next, tickets_drawn, tickets_mine, tickets_taken, tickets_taking, tickets_logged, tickets_logging, tickets_passed, tickets_passing, numbers_logged, numbers_logging}

pub at_bound : {T : Type 0} (l : List T) (i : ℕ) (x : T) → get_elem? l i ≡ some x → i < length l
at_bound [] i x e = absurd (some-ne-none x (sym e))
at_bound (y ∷ ys) zero x e = omega arith
at_bound (y ∷ ys) (suc i) x e = let h = at_bound ys i x e in omega arith

module _ {A G : Type 0} where
  abbrev ticket_of : Stage A G → ℕ
  ticket_of (Waiting t) = t
  ticket_of (Holding t l c) = t
  ticket_of _ = 0

  -- whoever has 0 and all its `born` among its numbers has every number that was drawn
  module _ (seats : ℕ) (owner parent : ℕ → ℕ) (log : List (Entry A G)) (j : ℕ) (parts : List (Ended A G)) (born : List ℕ) (k : Numbers seats owner parent log j [] parts born)
      (older : (n : ℕ) → 0 < n → n < seats → parent n < n) (zeroth : Contains (map number_of parts) 0) (every : AllByRecursion (Contains (map number_of parts)) born) where
    all_below : (bound n : ℕ) → n < bound → n < seats → Contains (map number_of parts) n
    all_below zero n lt high = absurd (omega arith)
    all_below (suc bound) n lt high = dite (ℕ_discrete n 0) (λ e. subst (Contains (map number_of parts)) (sym e) zeroth)
        (λ other. let less = older n (omega arith) high in
        let up = each_has _ number_of parts (parent n) k.each (all_below bound (parent n) (omega arith) (omega arith)) in
        each_in _ born n every (k.kin n (omega arith) high (ap owner (sym up.2) ∙ up.1.0)))

    pub every_entry : ((n : ℕ) → seats ≤ n → entries_of n log ≡ []) → AllByRecursion (λ e. Contains (map number_of parts) e.seat) log
    every_entry fresh = each_weaker _ _ (λ e made. known e made (dite (dec_lt e.seat seats) (λ lt. inl lt) (λ not. inr (omega arith)))) log (entries_of_some log)
      where
        known : (e : Entry A G) → (entries_of e.seat log ≡ [] → ⊥) → (e.seat < seats) ⊎ (seats ≤ e.seat) → Contains (map number_of parts) e.seat
        known e made (inl lt) = all_below (suc e.seat) e.seat (omega arith) lt
        known e made (inr le) = absurd (made (fresh e.seat le))

  -- What a seat knows of its numbers, from what the rule knows. The entries of `seen` need not stand in the log's order
  pub whole_from : (seats : ℕ) (owner parent : ℕ → ℕ) (log : List (Entry A G)) (j number : ℕ) (own : List (Entry A G)) (joined : List (Ended A G)) (born : List ℕ) (seen : List (Entry A G))
      → ((n : ℕ) → seats ≤ n → entries_of n log ≡ []) → ((n : ℕ) → 0 < n → n < seats → parent n < n)
      → Numbers seats owner parent log j [] (ended number own ∷ joined) born → AllByRecursion (Contains log) seen → AllByRecursion (λ e. entries_of e.number seen ≡ e.own) (ended number own ∷ joined)
      → IsWhole number seen own joined born
  whole_from seats owner parent log j number own joined born seen fresh older k inside are = record {
    own_is = are.0;
    joined_are = all_from_each _ joined are.1;
    different = k.different;
    all_known = λ each. let ns : List ℕ = numbers_of number joined in
        let all = every_entry seats owner parent log j (ended number own ∷ joined) born k older each.0 (each_from_all (Contains ns) born each.1) fresh in
        all_from_each (λ e. Contains ns e.seat) seen (each_weaker _ _ (λ e c. each_in (λ d. Contains ns d.seat) log e all c) seen inside);
  }

module _ {O X A G : Type 0} (stands : O → X → List (A × G) → Type 0) (start : X) where
  abbrev V : Type 0
  V = View X A G

  abbrev St : Type 0
  St = State O V

  abbrev M : Type 0
  M = Me O V

  abbrev Rule : St → Type 0
  Rule = Ordered stands start

  abbrev K : Board O A G → ℕ → V → Type 0
  K = Knows start

  pub at_stage : (v : V) (st : Stage A G) → v.stage ≡ st → v ≡ with_stage v st
  at_stage v st e = ap (λ (z : Stage A G). with_stage v z) e

  -- the numbers of a live view
  pub numbers_at : (b : Board O A G) (j : ℕ) (v : V) (ds : List ℕ) → v.drawn ≡ ds → v.live ≡ true → K b j v
      → Numbers b.seats b.owner b.parent b.log j ds (map (λ n. ended n []) ds ++ (ended v.number v.own ∷ v.ended)) v.born
  numbers_at b j v ds e alive k = subst (λ (z : List ℕ × Bool). Numbers b.seats b.owner b.parent b.log j z.0 (map (λ n. ended n []) z.0 ++ cond z.1 (ended v.number v.own ∷ v.ended) []) v.born)
      (λ i. (e i, alive i)) k.numbers

  pub numbers_back : (b : Board O A G) (j : ℕ) (w : V) (ds : List ℕ) → w.drawn ≡ ds → w.live ≡ true
      → Numbers b.seats b.owner b.parent b.log j ds (map (λ n. ended n []) ds ++ (ended w.number w.own ∷ w.ended)) w.born
      → Numbers b.seats b.owner b.parent b.log j w.drawn (parts_of w) w.born
  numbers_back b j w ds e alive n = subst (λ (z : List ℕ × Bool). Numbers b.seats b.owner b.parent b.log j z.0 (map (λ n. ended n []) z.0 ++ cond z.1 (ended w.number w.own ∷ w.ended) []) w.born)
      (λ i. (sym e i, sym alive i)) n

  pub served : (b : Board O A G) (p : Phase O) → ObjectFits stands start b p → (c : ℕ) → p ≡ out c → b.serving < b.ticket
  served b (home o) f c e = cc
  served b (out d) f c e = f.0

  pub few_commits : (b : Board O A G) (p : Phase O) → ObjectFits stands start b p → commits_of p ≤ 1
  few_commits b (home o) f = omega arith
  few_commits b (out d) f = f.1

  few_served : (b : Board O A G) (p : Phase O) → ObjectFits stands start b p → b.serving ≤ b.ticket → b.serving + commits_of p ≤ b.ticket
  few_served b (home o) f le = omega arith
  few_served b (out d) f le = omega (arith, f.0, f.1)

  pub short_log : (s : St) (r : Rule s) → length r.board.log ≤ 2 ^ 62
  short_log s r = omega (arith, r.counted, r.few, r.tickets_left, few_served r.board r.board.phase r.object r.in_turn)

  -- a step that changes no word and no view
  pub unmoved : (s : St) (r : Rule s) (i id : ℕ) (cs : List (ℕ × O)) (v : V) → get_elem? s.views id ≡ some v → Rule (stepped s i (get_or s.words i 0) id cs v keeps)
  unmoved s r i id cs v at = subst Rule (λ k. record { words = sym (set-get_or s.words i 0) k; homes = s.homes; views = sym (set_again s.views id v at) k }) r

  -- of a place that is there after a step
  pub still_there : (s : St) (id : ℕ) (w : V) (i : ℕ) → i < length s.views → i < length (set s.views id w)
  still_there s id w i lt = omega (arith, length-set s.views id w)

  module _ (s : St) (r : Rule s) (id : ℕ) (v : V) (at : get_elem? s.views id ≡ some v) where
    abbrev b : Board O A G
    b = r.board

    object_drawn : (new : ℕ) → new ≡ b.ticket + 1 → (p : Phase O) → ObjectFits stands start b p → ObjectFits stands start (with_ticket b new id) p
    object_drawn new more (home o) f = f
    object_drawn new more (out c) f = (omega (arith, f.0), f.1)

    ticket_drawn : (cs : List (ℕ × O)) (x new : ℕ) → v.stage ≡ Idle → x ≡ b.ticket → new ≡ b.ticket + 1 → b.ticket < 2 ^ 62 → Rule (stepped s 0 new id cs (with_stage v (Waiting x)) keeps)
    ticket_drawn cs x new idle is more room = let w : V = with_stage v (Waiting x) in let k : K b id (with_stage v Idle) = subst (K b id) (at_stage v Idle idle) (r.each_view id v at) in
        let b' : Board O A G = with_ticket b new id in let out_is = served b b.phase r.object in let turn : b.serving ≤ b.ticket = r.in_turn in record {
          board = b';
          words = ap (λ (ws : List ℕ). set ws 0 new) r.words;
          homes = r.homes;
          object = object_drawn new more b.phase r.object;
          counted = r.counted;
          few = r.few;
          in_turn = omega arith;
          tickets_left = omega arith;
          numbers_left = r.numbers_left;
          fresh = r.fresh;
          older = r.older;
          each_view = views_set (K b') s.views id w
              record {
                seen = k.seen;
                met = k.met;
                tickets = subst (λ (u : ℕ). Tickets b' id (Waiting u)) (sym is) (tickets_mine b new id more turn out_is k.tickets);
                numbers = k.numbers;
                starts = k.starts;
              }
              (λ j u ne here. let h = r.each_view j u here in record {
                seen = h.seen;
                met = h.met;
                tickets = tickets_drawn b new id more turn out_is j u.stage ne h.tickets;
                numbers = h.numbers;
                starts = h.starts;
              });
          holders = λ t low high. still_there s id w (put b.whose b.ticket id t) (dite (ℕ_discrete t b.ticket)
              (λ e. subst (λ (z : ℕ). z < length s.views) (sym (ap (put b.whose b.ticket id) e ∙ put_here b.whose b.ticket id)) (at_bound s.views id v at))
              (λ other. subst (λ (z : ℕ). z < length s.views) (sym (put_else b.whose b.ticket id t other)) (r.holders t low (omega arith))));
          owners = λ n high. still_there s id w (b.owner n) (r.owners n high);
        }

  pub draws : (slots id : ℕ) (me : M) (old new : ℕ) → me.0.stage ≡ Idle → new ≡ old + 1 → old < 2 ^ 62
      → Allows Rule slots id me 0 (λ x. either (eqb x old) new x) (DrawsTicket (step slots 0 old new none) me)
  draws slots id me old new idle more room s r _ at _ = let x : ℕ = get_or s.words 0 0 in let is : x ≡ r.board.ticket = ap (λ (ws : List ℕ). get_or ws 0 0) r.words in dite (ℕ_discrete x old)
      (λ hit. let w : V = with_stage me.0 (Waiting x) in (
        w,
        keeps,
        tt,
        subst (λ (c : Bool). Rule (stepped s 0 (either c new x) id me.1 w keeps)) (sym (eq-eqb x old hit)) (ticket_drawn s r id me.0 at me.1 x new idle is (omega arith) (omega arith)),
        ((λ _. refl), λ ne. absurd (ne hit)),
      ))
      (λ miss. (
        me.0,
        keeps,
        tt,
        subst (λ (c : Bool). Rule (stepped s 0 (either c new x) id me.1 me.0 keeps)) (sym (ne_eqb x old miss)) (unmoved s r 0 id me.1 me.0 at),
        ((λ e. absurd (miss e)), λ _. refl),
      ))

  module _ (s : St) (r : Rule s) (id : ℕ) (v : V) (at : get_elem? s.views id ≡ some v) where
    abbrev bd : Board O A G
    bd = r.board

    -- the seat that is served takes the object
    object_taken : (cs : List (ℕ × O)) (t : ℕ) (o : O) → v.stage ≡ Waiting t → t ≡ bd.serving → bd.phase ≡ home o
        → Rule (stepped s 1 (get_or s.words 1 0) id cs (with_stage v (Holding t bd.log 0)) (takes 0 o))
    object_taken cs t o waits is there = let w : V = with_stage v (Holding t bd.log 0) in let k : K bd id (with_stage v (Waiting t)) = subst (K bd id) (at_stage v (Waiting t) waits) (r.each_view id v at) in
        let f = k.tickets.stage in let b' : Board O A G = with_phase bd (out 0) in let mine : bd.whose bd.serving ≡ id = ap bd.whose (sym is) ∙ f.2 in let none_yet : commits_of bd.phase ≡ 0 = ap commits_of there in record {
          board = b';
          words = set-get_or s.words 1 0 ∙ r.words;
          homes = ap (λ (hs : List (Option O)). set hs 0 none) (r.homes ∙ ap homes_of there);
          object = (omega (arith, f.1), omega arith);
          counted = r.counted;
          few = omega (arith, r.few);
          in_turn = r.in_turn;
          tickets_left = r.tickets_left;
          numbers_left = r.numbers_left;
          fresh = r.fresh;
          older = r.older;
          each_view = views_set (K b') s.views id w
              record {
                seen = k.seen;
                met = k.met;
                tickets = tickets_taking bd id mine t is k.tickets;
                numbers = k.numbers;
                starts = k.starts;
              }
              (λ j u ne here. let h = r.each_view j u here in record {
                seen = h.seen;
                met = h.met;
                tickets = tickets_taken bd id mine o there j u.stage ne h.tickets;
                numbers = h.numbers;
                starts = h.starts;
              });
          holders = λ u low high. still_there s id w (bd.whose u) (r.holders u low high);
          owners = λ n high. still_there s id w (bd.owner n) (r.owners n high);
        }

    -- what a look at the ticket that is served tells the seat that has it
    abbrev pub Took : List (ℕ × O) → ℕ → M → Type 0
    Took cs t me = (o : O) × (l : List (Entry A G)) × (me ≡ (with_stage v (Holding t l 0), (0, o) ∷ cs)) × stands o v.start (pairs_of l) × IsPrefix v.seen l

    abbrev pub Taken : List (ℕ × O) → ℕ → Type 0
    Taken cs t = (w : V) × (a : Act O) × Valid s.homes cs a × Rule (stepped s 1 (get_or s.words 1 0) id cs w a) × Took cs t (w, carried_after cs a)

    take_at : (cs : List (ℕ × O)) (t : ℕ) → v.stage ≡ Waiting t → t ≡ bd.serving → v.live ≡ true → (p : Phase O) → bd.phase ≡ p → Taken cs t
    take_at cs t waits is alive (home o) there = let k = r.each_view id v at in (
      with_stage v (Holding t bd.log 0),
      takes 0 o,
      ap (λ (hs : List (Option O)). get_elem? hs 0) (r.homes ∙ ap homes_of there),
      object_taken cs t o waits is there,
      (o, bd.log, refl, subst (λ (x : X). stands o x (pairs_of bd.log)) (sym (k.starts alive)) (subst (ObjectFits stands start bd) there r.object), k.seen),
    )
    take_at cs t waits is alive (out c) there = let k : K bd id (with_stage v (Waiting t)) = subst (K bd id) (at_stage v (Waiting t) waits) (r.each_view id v at) in let f = k.tickets.stage in
        let holds = subst (λ (p : Phase O). HolderFits bd id p (Waiting t)) there k.tickets.holder in
        absurd (waiting_or_holding t bd.serving c bd.log (Waiting t) refl (holds (ap bd.whose (sym is) ∙ f.2)))

    pub take_now : (cs : List (ℕ × O)) (t : ℕ) → v.stage ≡ Waiting t → t ≡ bd.serving → v.live ≡ true → Taken cs t
    take_now cs t waits is alive = take_at cs t waits is alive bd.phase refl

  pub takes_it : (slots id : ℕ) (me : M) (t : ℕ) → me.0.stage ≡ Waiting t → me.0.live ≡ true → Allows Rule slots id me 1 (λ x. x) (TakesObject stands (step slots 1 0 0 none) me)
  takes_it slots id me t waits alive s r _ at _ = let x : ℕ = get_or s.words 1 0 in let is : x ≡ r.board.serving = ap (λ (ws : List ℕ). get_or ws 1 0) r.words in dite (ℕ_discrete x t)
      (λ hit. let got = take_now s r id me.0 at me.1 t waits (sym hit ∙ is) alive in (
        got.0,
        got.1,
        got.2,
        got.3,
        λ u waits'. let same : t ≡ u = ap ticket_of (sym waits ∙ waits') in (
          (λ _. subst (λ (z : ℕ). Took s r id me.0 at me.1 z (got.0, carried_after me.1 got.1)) same got.4),
          λ ne. absurd (ne (hit ∙ same)),
        ),
      ))
      (λ miss. (
        me.0,
        keeps,
        tt,
        unmoved s r 1 id me.1 me.0 at,
        λ u waits'. let same : t ≡ u = ap ticket_of (sym waits ∙ waits') in ((λ e. absurd (miss (e ∙ sym same))), λ _. refl),
      ))

  module _ (s : St) (r : Rule s) (id : ℕ) (v : V) (at : get_elem? s.views id ≡ some v) where
    abbrev bc : Board O A G
    bc = r.board

    -- the history one entry longer
    abbrev longer_log : A → G → List (Entry A G)
    longer_log ask got = bc.log ++ entry v.number ask got ∷ []

    fresh_logged : (ask : A) (got : G) → Numbers bc.seats bc.owner bc.parent bc.log id [] (ended v.number v.own ∷ v.ended) v.born → (n : ℕ) → bc.seats ≤ n → entries_of n (longer_log ask got) ≡ []
    fresh_logged ask got k n high = let f = k.each.0 in entries_of-other n bc.log v.number ask got (λ e. omega (arith, f.1)) ∙ r.fresh n high

    call_committed : (cs : List (ℕ × O)) (t : ℕ) (ask : A) (got : G) → v.stage ≡ Holding t bc.log 0 → v.drawn ≡ [] → v.live ≡ true → bc.phase ≡ out 0
        → Rule (stepped s 2 (bc.count + 1) id cs (committed_view v t bc.log ask got) keeps) × IsWholeView (committed_view v t bc.log ask got)
    call_committed cs t ask got holds undrawn alive there = let log' : List (Entry A G) = longer_log ask got in let w : V = committed_view v t bc.log ask got in
        let before = r.each_view id v at in let k : K bc id (with_stage v (Holding t bc.log 0)) = subst (K bc id) (at_stage v (Holding t bc.log 0) holds) before in
        let f = k.tickets.stage in let b' : Board O A G = with_entry bc (bc.count + 1) log' 1 in let mine : bc.whose bc.serving ≡ id = ap bc.whose (sym f.0) ∙ f.2 in
        let n = numbers_at bc id v [] undrawn alive before in
        let n' = numbers_logging bc.seats bc.owner bc.parent bc.log id v.number v.own v.ended v.born ask got n in
        let few : bc.count ≤ bc.serving = omega (arith, r.few, ap commits_of there) in
        let long : length log' ≡ bc.count + 1 = omega (arith, length-append bc.log (entry v.number ask got ∷ []), r.counted) in
        let fresh' = fresh_logged ask got n in let owned : bc.owner v.number ≡ id = n.each.0.0 in (
          record {
            board = b';
            words = ap (λ (ws : List ℕ). set ws 2 (bc.count + 1)) r.words;
            homes = r.homes ∙ ap homes_of there;
            object = (omega (arith, f.0, f.1), omega arith);
            counted = sym long;
            few = omega arith;
            in_turn = r.in_turn;
            tickets_left = r.tickets_left;
            numbers_left = r.numbers_left;
            fresh = fresh';
            older = r.older;
            each_view = views_set (K b') s.views id w
                record {
                  seen = prefix_refl log';
                  met = prefix_more v.met bc.log (entry v.number ask got ∷ []) k.met;
                  tickets = tickets_logging bc id mine (bc.count + 1) log' t 0 bc.log k.tickets;
                  numbers = numbers_back b' id w [] undrawn alive n';
                  starts = k.starts;
                }
                (λ j u ne here. let h = r.each_view j u here in record {
                  seen = prefix_more u.seen bc.log (entry v.number ask got ∷ []) h.seen;
                  met = prefix_more u.met bc.log (entry v.number ask got ∷ []) h.met;
                  tickets = tickets_logged bc id mine (bc.count + 1) log' j u.stage ne h.tickets;
                  numbers = numbers_logged bc.seats bc.owner bc.parent bc.log j u.drawn (parts_of u) u.born v.number ask got (λ e. ne (sym e ∙ owned)) h.numbers;
                  starts = h.starts;
                });
            holders = λ u low high. still_there s id w (bc.whose u) (r.holders u low high);
            owners = λ m high. still_there s id w (bc.owner m) (r.owners m high);
          },
          (
            whole_from bc.seats bc.owner bc.parent log' id v.number (v.own ++ entry v.number ask got ∷ []) v.ended v.born log'
                fresh' r.older n' (prefix_inside log' log' (prefix_refl log')) (each_weaker _ _ (λ e h. h.2) (ended v.number (v.own ++ entry v.number ask got ∷ []) ∷ v.ended) n'.each),
            omega (arith, r.tickets_left, few, long, r.counted, f.0, f.1),
          ),
        )

  pub commits_call : (slots id : ℕ) (me : M) (t : ℕ) (l : List (Entry A G)) (ask : A) (got : G) (calls : List (A × G)) → me.0.stage ≡ Holding t l 0 → me.0.drawn ≡ [] → me.0.live ≡ true → calls ≡ (ask, got) ∷ []
      → Allows Rule slots id me 2 (λ x. (x + 1) % 2 ^ 64) (Commits calls (step slots 2 1 0 none) me)
  commits_call slots id me t l ask got calls holds undrawn alive one s r _ at _ = let b = r.board in let v : V = me.0 in let x : ℕ = get_or s.words 2 0 in let is : x ≡ b.count = ap (λ (ws : List ℕ). get_or ws 2 0) r.words in
      let k : K b id (with_stage v (Holding t l 0)) = subst (K b id) (at_stage v (Holding t l 0) holds) (r.each_view id v at) in let f = k.tickets.stage in
      let same : l ≡ b.log = f.4 in let here : v.stage ≡ Holding t b.log 0 = holds ∙ ap (λ (z : List (Entry A G)). Holding t z 0) same in
      let made = call_committed s r id v at me.1 t ask got here undrawn alive f.3 in
      let next : (x + 1) % 2 ^ 64 ≡ b.count + 1 = omega (arith, short_log s r, r.counted) in (
        committed_view v t b.log ask got,
        keeps,
        tt,
        subst (λ (z : ℕ). Rule (stepped s 2 z id me.1 (committed_view v t b.log ask got) keeps)) (sym next) made.0,
        λ t' l' ask' got' holds' one'. let st = sym here ∙ holds' in let same_call = sym one ∙ one' in
            ((λ i. (committed_view v (ap held_ticket st i) (ap held_list st i) (slice_index_or (same_call i) 0 (ask, got)).0 (slice_index_or (same_call i) 0 (ask, got)).1, me.1)), made.1),
      )

  module _ (s : St) (r : Rule s) (id : ℕ) (v : V) (at : get_elem? s.views id ≡ some v) where
    abbrev bp : Board O A G
    bp = r.board

    turn_passed : (t c : ℕ) (o : O) → v.stage ≡ Holding t bp.log c → bp.phase ≡ out c → stands o start (pairs_of bp.log)
        → Rule (stepped s 1 (bp.serving + 1) id ((0, o) ∷ []) (with_stage v Idle) gives)
    turn_passed t c o holds there stood = let w : V = with_stage v Idle in let k : K bp id (with_stage v (Holding t bp.log c)) = subst (K bp id) (at_stage v (Holding t bp.log c) holds) (r.each_view id v at) in
        let f = k.tickets.stage in let b' : Board O A G = with_next bp (bp.serving + 1) o in let mine : bp.whose bp.serving ≡ id = ap bp.whose (sym f.0) ∙ f.2 in
        let once = subst (ObjectFits stands start bp) there r.object in record {
          board = b';
          words = ap (λ (ws : List ℕ). set ws 1 (bp.serving + 1)) r.words;
          homes = ap (λ (hs : List (Option O)). set hs 0 (some o)) (r.homes ∙ ap homes_of there);
          object = stood;
          counted = r.counted;
          few = omega (arith, r.few, ap commits_of there, once.1);
          in_turn = omega (arith, f.0, f.1);
          tickets_left = r.tickets_left;
          numbers_left = r.numbers_left;
          fresh = r.fresh;
          older = r.older;
          each_view = views_set (K b') s.views id w
              record {
                seen = k.seen;
                met = k.met;
                tickets = tickets_passing bp id mine (bp.serving + 1) o refl t c bp.log k.tickets;
                numbers = k.numbers;
                starts = k.starts;
              }
              (λ j u ne here. let h = r.each_view j u here in record {
                seen = h.seen;
                met = h.met;
                tickets = tickets_passed bp id mine (bp.serving + 1) o refl j u.stage ne h.tickets;
                numbers = h.numbers;
                starts = h.starts;
              });
          holders = λ u low high. still_there s id w (bp.whose u) (r.holders u (omega arith) high);
          owners = λ n high. still_there s id w (bp.owner n) (r.owners n high);
        }

  pub passes_turn : (slots id : ℕ) (me : M) (t c : ℕ) (l : List (Entry A G)) (o : O) → me.0.stage ≡ Holding t l c → me.0.live ≡ true → me.1 ≡ (0, o) ∷ [] → stands o me.0.start (pairs_of l)
      → Allows Rule slots id me 1 (λ x. (x + 1) % 2 ^ 64) (λ found me'. Passes (step slots 1 1 0 none) me found me')
  passes_turn slots id me t c l o holds alive carries stood s r _ at _ = let b = r.board in let v : V = me.0 in let x : ℕ = get_or s.words 1 0 in let is : x ≡ b.serving = ap (λ (ws : List ℕ). get_or ws 1 0) r.words in
      let k : K b id (with_stage v (Holding t l c)) = subst (K b id) (at_stage v (Holding t l c) holds) (r.each_view id v at) in let f = k.tickets.stage in
      let same : l ≡ b.log = f.4 in let here : v.stage ≡ Holding t b.log c = holds ∙ ap (λ (z : List (Entry A G)). Holding t z c) same in
      let stood' : stands o start (pairs_of b.log) = subst (λ (z : X × List (Entry A G)). stands o z.0 (pairs_of z.1)) (λ i. (k.starts alive i, same i)) stood in
      let next : (x + 1) % 2 ^ 64 ≡ b.serving + 1 = omega (arith, r.in_turn, r.tickets_left) in (
        with_stage v Idle,
        gives,
        tt,
        subst (λ (z : List (ℕ × O) × ℕ). Rule (stepped s 1 z.1 id z.0 (with_stage v Idle) gives)) (λ i. (sym carries i, sym next i)) (turn_passed s r id v at t c o here f.3 stood'),
        (λ i. (with_stage v Idle, rest (carries i))),
      )
