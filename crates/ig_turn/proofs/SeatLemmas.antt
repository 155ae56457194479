-- The steps by which seats are made, joined and told keep the rule.
use Rattle.std.proofs.Common.{◌≡◌, ◌≢◌, ◌⊎◌, ℕ, suc, zero, ◌+◌, ◌^◌, ◌<◌, ◌≤◌, eqb, Bool, true, false, cond, List, [], ◌∷◌, ◌++◌, map, length, get_or, set, refl, sym, ap, ◌∙◌, subst, inl, inr, ⊎_elim, arith, eq-eqb, ne_eqb, length-set, length-append, lt-ltb, le-ltb}
use mathlib.Core.Option.{some, none, some-injective, some-ne-none}
use mathlib.Core.List.{IsPrefix}
use mathlib.Core.Logic.{dite}
use native.Mathlib.Decide.{ℕ_discrete, dec_lt}
use lib.ListN.{get_elem?}
use lib.Seq.{set-get_or}
use prog.Atomic.{either}
use Rattle.atomic_table.specs.Table.{State, Me, step, keeps, stepped, Allows, Splits, Joins}
use Rattle.atomic_table.proofs.Lists.{at_set, set_again}
use Rattle.ig_base.specs.declared.entry.Entry.{Entry}
use Rattle.ig_turn.specs.declared.view.Ended.{Ended}
use Rattle.ig_turn.specs.declared.view.Stage.{Stage}
use Rattle.ig_turn.specs.declared.view.Stage.TheVariants.{Idle, Waiting, Holding}
use Rattle.ig_turn.specs.declared.view.View.{View}
use Rattle.ig_turn.specs.History.{ended, IsLonger}
use Rattle.std.specs.List.{AllByRecursion}
use Rattle.ig_turn.specs.Ordered.{Phase, home, out, Board, parts_of, StageFits, HolderFits, Tickets, Numbers, Knows, ObjectFits, Ordered}
use Rattle.ig_turn.specs.Steps.{with_drawn, numberless_view, longer_of, settled_view, left_of_split, right_of_split, note_of, merged_view, informed_view, DrawsNumber, Settles}
use Rattle.ig_turn.proofs.ListLemmas.{contains_none, prefix_refl, prefix_both, prefix_length, prefix_inside, each_weaker, each_both, entries_of_between, entries_of_none}
use Rattle.ig_turn.proofs.BoardLemmas.{put, put_here, put_else, views_set, numbers_drawn, numbers_drawing, numbers_split, numbers_left, numbers_right, numbers_none, moved, numbers_moved, numbers_spent, numbers_joined}
use Rattle.ig_turn.proofs.CallLemmas.{at_bound, numbers_at, numbers_back, served, short_log, unmoved, still_there, whole_from}

module _ {T : Type 0} where
  pub at_end : (l : List T) (x y : T) (j : ℕ) → get_elem? (l ++ x ∷ []) j ≡ some y → ((j < length l) × (get_elem? l j ≡ some y)) ⊎ ((j ≡ length l) × (x ≡ y))
  at_end [] x y zero e = inr (refl, some-injective x y e)
  at_end [] x y (suc j) e = absurd (some-ne-none y (sym e))
  at_end (z ∷ zs) x y zero e = inl (omega arith, e)
  at_end (z ∷ zs) x y (suc j) e = ⊎_elim (λ t. inl (omega (arith, t.0), t.1)) (λ t. inr (omega (arith, t.0), t.1)) (at_end zs x y j e)

  pub views_more : (K : ℕ → T → Type 0) (vs : List T) (w : T) → K (length vs) w → ((j : ℕ) (v : T) → j < length vs → get_elem? vs j ≡ some v → K j v)
      → (j : ℕ) (v : T) → get_elem? (vs ++ w ∷ []) j ≡ some v → K j v
  views_more K vs w last others j v e = ⊎_elim (λ (t : (j < length vs) × (get_elem? vs j ≡ some v)). others j v t.0 t.1)
      (λ (t : (j ≡ length vs) × (w ≡ v)). subst (λ (x : ℕ × T). K x.0 x.1) (λ i. (sym t.0 i, t.1 i)) last) (at_end vs w v j e)

module _ {A G : Type 0} where
  -- what holds of each part holds of those that were drawn
  pub each_drawn : (Q : Ended A G → Type 0) (ds : List ℕ) (es : List (Ended A G)) → AllByRecursion Q (map (λ n. ended n []) ds ++ es) → AllByRecursion (λ d. Q (ended d [])) ds
  each_drawn Q [] es p = tt
  each_drawn Q (d ∷ ds) es p = (p.0, each_drawn Q ds es p.1)

  pub longer_cases : (xs ys zs : List (Entry A G)) → IsPrefix xs zs → IsPrefix ys zs → IsLonger xs ys (longer_of xs ys) × IsPrefix (longer_of xs ys) zs
  longer_cases xs ys zs p q = dite (dec_lt (length xs) (length ys))
      (λ lt. let is : longer_of xs ys ≡ ys = ap (λ (b : Bool). cond b ys xs) (lt-ltb (length xs) (length ys) lt) in
      (inr (is, prefix_both ys xs zs q p (omega arith)), subst (λ (l : List (Entry A G)). IsPrefix l zs) (sym is) q))
      (λ not. let le : length ys ≤ length xs = omega arith in let is : longer_of xs ys ≡ xs = ap (λ (b : Bool). cond b ys xs) (le-ltb (length xs) (length ys) le) in
      (inl (is, prefix_both xs ys zs p q le), subst (λ (l : List (Entry A G)). IsPrefix l zs) (sym is) p))

  pub both_begin : (xs ys zs : List (Entry A G)) → IsLonger xs ys zs → IsPrefix xs zs × IsPrefix ys zs
  both_begin xs ys zs (inl (e, p)) = (subst (IsPrefix xs) (sym e) (prefix_refl xs), subst (IsPrefix ys) (sym e) p)
  both_begin xs ys zs (inr (e, p)) = (subst (IsPrefix xs) (sym e) p, subst (IsPrefix ys) (sym e) (prefix_refl ys))

module _ {O A G : Type 0} where
  -- the board with other numbers
  abbrev pub renumbered : Board O A G → ℕ → (ℕ → ℕ) → (ℕ → ℕ) → Board O A G
  renumbered b seats owner parent = record b { seats = seats; owner = owner; parent = parent }

  module _ (b : Board O A G) (seats : ℕ) (owner parent : ℕ → ℕ) where
    stage_kept : (j : ℕ) (st : Stage A G) → StageFits b j st → StageFits (renumbered b seats owner parent) j st
    stage_kept j Idle f = tt
    stage_kept j (Waiting t) f = f
    stage_kept j (Holding t l c) f = f

    holder_kept : (j : ℕ) (p : Phase O) (st : Stage A G) → HolderFits b j p st → HolderFits (renumbered b seats owner parent) j p st
    holder_kept j (home o) st f = tt
    holder_kept j (out c) st f = f

    pub tickets_kept : (j : ℕ) (st : Stage A G) → Tickets b j st → Tickets (renumbered b seats owner parent) j st
    tickets_kept j st k = record { stage = stage_kept j st k.stage; turn = k.turn; holder = holder_kept j b.phase st k.holder }

  pub holder_none : (b : Board O A G) (j : ℕ) (p : Phase O) (st : Stage A G) → ((c : ℕ) → p ≡ out c → b.whose b.serving ≡ j → ⊥) → HolderFits b j p st
  holder_none b j (home o) st f = tt
  holder_none b j (out c) st f = λ is. absurd (f c refl is)

module _ {O X A G : Type 0} (stands : O → X → List (A × G) → Type 0) (start : X) where
  abbrev V : Type 0
  V = View X A G

  abbrev St : Type 0
  St = State O V

  abbrev M : Type 0
  M = Me O V

  abbrev Rule : St → Type 0
  Rule = Ordered stands start

  abbrev K : Board O A G → ℕ → V → Type 0
  K = Knows start

  object_kept : (b : Board O A G) (seats : ℕ) (owner parent : ℕ → ℕ) (p : Phase O) → ObjectFits stands start b p → ObjectFits stands start (renumbered b seats owner parent) p
  object_kept b seats owner parent (home o) f = f
  object_kept b seats owner parent (out c) f = f

  -- a view that stays, where its numbers do
  pub stays : (b : Board O A G) (seats : ℕ) (owner parent : ℕ → ℕ) (j : ℕ) (u : V) → K b j u → Numbers seats owner parent b.log j u.drawn (parts_of u) u.born → K (renumbered b seats owner parent) j u
  stays b seats owner parent j u k n = record {
    seen = k.seen;
    met = k.met;
    tickets = tickets_kept b seats owner parent j u.stage k.tickets;
    numbers = n;
    starts = k.starts;
  }

  module _ (s : St) (r : Rule s) (id : ℕ) (v : V) (at : get_elem? s.views id ≡ some v) where
    abbrev b : Board O A G
    b = r.board

    number_drawn : (cs : List (ℕ × O)) → v.drawn ≡ [] → v.live ≡ true → b.seats < 2 ^ 62
        → Rule (stepped s 3 (b.seats + 1) id cs (record v { drawn = b.seats ∷ []; born = v.born ++ b.seats ∷ [] }) keeps)
    number_drawn cs undrawn alive room = let w : V = record v { drawn = b.seats ∷ []; born = v.born ++ b.seats ∷ [] } in let k = r.each_view id v at in
        let n = numbers_at stands start b id v [] undrawn alive k in
        let owner : ℕ → ℕ = put b.owner b.seats id in let parent : ℕ → ℕ = put b.parent b.seats v.number in let b' : Board O A G = renumbered b (b.seats + 1) owner parent in
        let f = n.each.0 in let some_seat = r.numbers_left in record {
          board = b';
          words = ap (λ (ws : List ℕ). set ws 3 (b.seats + 1)) r.words;
          homes = r.homes;
          object = object_kept b (b.seats + 1) owner parent b.phase r.object;
          counted = r.counted;
          few = r.few;
          in_turn = r.in_turn;
          tickets_left = r.tickets_left;
          numbers_left = (omega arith, omega arith);
          fresh = λ m high. r.fresh m (omega arith);
          older = λ m low high. dite (ℕ_discrete m b.seats)
              (λ e. let p : parent m ≡ v.number = ap parent e ∙ put_here b.parent b.seats v.number in omega (arith, f.1))
              (λ other. let p : parent m ≡ b.parent m = put_else b.parent b.seats v.number m other in omega (arith, r.older m low (omega arith)));
          each_view = views_set (K b') s.views id w
              record {
                seen = k.seen;
                met = k.met;
                tickets = tickets_kept b (b.seats + 1) owner parent id v.stage k.tickets;
                numbers = numbers_back stands start b' id w (b.seats ∷ []) refl alive (numbers_drawing b.seats b.owner b.parent b.log id v.number r.older f.0 f.1 v.own v.ended v.born (r.fresh b.seats (omega arith)) n);
                starts = k.starts;
              }
              (λ j u ne here. let h = r.each_view j u here in stays b (b.seats + 1) owner parent j u h
              (numbers_drawn b.seats b.owner b.parent b.log id v.number r.older f.0 f.1 j u.drawn (parts_of u) u.born ne
              (each_weaker _ _ (λ d g. g.1) u.drawn (each_drawn _ u.drawn (cond u.live (ended u.number u.own ∷ u.ended) []) h.numbers.each)) h.numbers));
          holders = λ t low high. still_there stands start s id w (b.whose t) (r.holders t low high);
          owners = λ m high. still_there stands start s id w (owner m) (dite (ℕ_discrete m b.seats)
              (λ e. subst (λ (z : ℕ). z < length s.views) (sym (ap owner e ∙ put_here b.owner b.seats id)) (at_bound s.views id v at))
              (λ other. subst (λ (z : ℕ). z < length s.views) (sym (put_else b.owner b.seats id m other)) (r.owners m (omega arith))));
        }

  pub draws_it : (slots id : ℕ) (me : M) (old new : ℕ) → me.0.drawn ≡ [] → me.0.live ≡ true → new ≡ old + 1 → old < 2 ^ 62
      → Allows Rule slots id me 3 (λ x. either (eqb x old) new x) (DrawsNumber (step slots 3 old new none) me)
  draws_it slots id me old new undrawn alive more room s r _ at _ = let b = r.board in let v : V = me.0 in let x : ℕ = get_or s.words 3 0 in let is : x ≡ b.seats = ap (λ (ws : List ℕ). get_or ws 3 0) r.words in
      let k = r.each_view id v at in let n = numbers_at stands start b id v [] undrawn alive k in dite (ℕ_discrete x old)
      (λ hit. let up : new ≡ b.seats + 1 = omega arith in let w : V = record v { drawn = b.seats ∷ []; born = v.born ++ b.seats ∷ [] } in (
        w,
        keeps,
        tt,
        subst (λ (c : Bool). Rule (stepped s 3 (either c new x) id me.1 w keeps)) (sym (eq-eqb x old hit))
            (subst (λ (z : ℕ). Rule (stepped s 3 z id me.1 w keeps)) (sym up) (number_drawn s r id v at me.1 undrawn alive (omega arith))),
        (
          λ _. (
            (λ i. (record v { drawn = sym is i ∷ []; born = v.born ++ sym is i ∷ [] }, me.1)),
            omega (arith, n.each.0.1),
            each_weaker _ _ (λ m less. omega arith) v.born n.below,
            entries_of_none x v.seen b.log k.seen (r.fresh x (omega arith)),
          ),
          λ ne. absurd (ne hit),
        ),
      ))
      (λ miss. (
        v,
        keeps,
        tt,
        subst (λ (c : Bool). Rule (stepped s 3 (either c new x) id me.1 v keeps)) (sym (ne_eqb x old miss)) (unmoved stands start s r 3 id me.1 v at),
        ((λ e. absurd (miss e)), λ _. refl),
      ))

  -- a lifeless view at the end
  module _ (s : St) (r : Rule s) where
    abbrev bn : Board O A G
    bn = r.board

    unowned : (m : ℕ) → m < bn.seats → bn.owner m ≢ length s.views
    unowned m high e = omega (arith, r.owners m high)

    -- a view that nothing was given to yet has no ticket
    unserved : (p : Phase O) → bn.phase ≡ p → (c : ℕ) → p ≡ out c → bn.whose bn.serving ≡ length s.views → ⊥
    unserved p is c e at = let lt = served stands start bn bn.phase r.object c (is ∙ e) in omega (arith, r.holders bn.serving (omega arith) lt)

    pub no_ticket : Tickets bn (length s.views) Idle
    no_ticket = record {
      stage = tt;
      turn = λ t low high is. absurd (omega (arith, r.holders t low high));
      holder = holder_none bn (length s.views) bn.phase Idle (unserved bn.phase refl);
    }

  pub splits_note : (id : ℕ) (v : V) → Splits Rule id v v (note_of v)
  splits_note id v s r at = let b = r.board in let w : V = note_of v in let same : set s.views id v ++ w ∷ [] ≡ s.views ++ w ∷ [] = ap (λ (vs : List V). vs ++ w ∷ []) (set_again s.views id v at) in
      let longer : length (s.views ++ w ∷ []) ≡ length s.views + 1 = length-append s.views (w ∷ []) in
      subst (λ (vs : List V). Rule record { words = s.words; homes = s.homes; views = vs }) (sym same) record {
        board = b;
        words = r.words;
        homes = r.homes;
        object = r.object;
        counted = r.counted;
        few = r.few;
        in_turn = r.in_turn;
        tickets_left = r.tickets_left;
        numbers_left = r.numbers_left;
        fresh = r.fresh;
        older = r.older;
        each_view = views_more (K b) s.views w
            record {
              seen = (r.each_view id v at).seen;
              met = (b.log, refl);
              tickets = no_ticket s r;
              numbers = numbers_none b.seats b.owner b.parent b.log (length s.views) (unowned s r) r.older;
              starts = λ e. cc;
            }
            (λ j u _ here. r.each_view j u here);
        holders = λ t low high. omega (arith, longer, r.holders t low high);
        owners = λ m high. omega (arith, longer, r.owners m high);
      }

  split_at : (id n : ℕ) (v : V) → v.live ≡ true → (s : St) (r : Rule s) → get_elem? s.views id ≡ some (with_drawn v (n ∷ []))
      → Rule record { words = s.words; homes = s.homes; views = set s.views id (left_of_split (with_drawn v (n ∷ []))) ++ right_of_split (with_drawn v (n ∷ [])) ∷ [] }
  split_at id n v alive s r at = let b = r.board in let old : V = with_drawn v (n ∷ []) in let k = r.each_view id old at in let nums = numbers_at stands start b id old (n ∷ []) refl alive k in
      let fresh : ℕ = length s.views in let inside : id < fresh = at_bound s.views id old at in let apart : fresh ≢ id = λ e. omega arith in let mine = nums.each.0.0 in
      let left : V = left_of_split old in let right : V = right_of_split old in let owner : ℕ → ℕ = put b.owner n fresh in let b' : Board O A G = renumbered b b.seats owner b.parent in
      let long : length (set s.views id left) ≡ length s.views = length-set s.views id left in
      let longer : length (set s.views id left ++ right ∷ []) ≡ length s.views + 1 = omega (arith, length-append (set s.views id left) (right ∷ [])) in
      let fresh_none = no_ticket s r in record {
        board = b';
        words = r.words;
        homes = r.homes;
        object = object_kept b b.seats owner b.parent b.phase r.object;
        counted = r.counted;
        few = r.few;
        in_turn = r.in_turn;
        tickets_left = r.tickets_left;
        numbers_left = r.numbers_left;
        fresh = r.fresh;
        older = r.older;
        each_view = views_more (K b') (set s.views id left) right
            (subst (λ (z : ℕ). K b' z right) (sym long) record {
              seen = k.seen;
              met = (b.log, refl);
              tickets = tickets_kept b b.seats owner b.parent fresh Idle fresh_none;
              numbers = numbers_right b.seats b.owner b.parent b.log id n fresh mine apart (ended v.number v.own ∷ v.ended) v.born (unowned s r) r.older nums;
              starts = λ _. k.starts alive;
            })
            (λ j u lt here. views_set (λ i x. i < fresh → K b' i x) s.views id left
            (λ _. record {
              seen = k.seen;
              met = k.met;
              tickets = tickets_kept b b.seats owner b.parent id v.stage k.tickets;
              numbers = numbers_back stands start b' id left [] refl alive (numbers_left b.seats b.owner b.parent b.log id n fresh mine apart (ended v.number v.own ∷ v.ended) v.born nums);
              starts = k.starts;
            })
            (λ i x ne here below. let h = r.each_view i x here in
            stays b b.seats owner b.parent i x h (numbers_split b.seats b.owner b.parent b.log id n fresh mine apart i x.drawn (parts_of x) x.born ne (λ e. omega arith) h.numbers)) j u here (omega arith));
        holders = λ t low high. omega (arith, longer, r.holders t low high);
        owners = λ m high. dite (ℕ_discrete m n)
            (λ e. let is : owner m ≡ fresh = ap owner e ∙ put_here b.owner n fresh in omega (arith, longer))
            (λ other. let is : owner m ≡ b.owner m = put_else b.owner n fresh m other in omega (arith, longer, r.owners m high));
      }

  pub splits_seat : (id n : ℕ) (v : V) → v.drawn ≡ n ∷ [] → v.live ≡ true → Splits Rule id v (left_of_split v) (right_of_split v)
  splits_seat id n v drawn alive s r at = let same : v ≡ with_drawn v (n ∷ []) = ap (λ (ns : List ℕ). with_drawn v ns) drawn in
      subst (λ (z : V). Rule record { words = s.words; homes = s.homes; views = set s.views id (left_of_split z) ++ right_of_split z ∷ [] }) (sym same)
      (split_at id n v alive s r (subst (λ (z : V). get_elem? s.views id ≡ some z) same at))

  still_both : (s : St) (id other i : ℕ) (v w : V) → i < length s.views → i < length (set (set s.views id v) other w)
  still_both s id other i v w lt = omega (arith, length-set (set s.views id v) other w, length-set s.views id v)

  -- the rule after two views changed and the words did not
  both_set : (s : St) (r : Rule s) (seats : ℕ) (owner parent : ℕ → ℕ) (id other : ℕ) (v w : V) → let b' : Board O A G = renumbered r.board seats owner parent in K b' id v → K b' other w
      → ((j : ℕ) (u : V) → j ≢ id → j ≢ other → get_elem? s.views j ≡ some u → K b' j u) → seats ≡ r.board.seats → parent ≡ r.board.parent → ((n : ℕ) → n < seats → owner n < length s.views)
      → Rule record { words = s.words; homes = s.homes; views = set (set s.views id v) other w }
  both_set s r seats owner parent id other v w k h others same_seats same_parent inside = let b = r.board in let b' : Board O A G = renumbered b seats owner parent in record {
    board = b';
    words = r.words ∙ ap (λ (z : ℕ). b.ticket ∷ b.serving ∷ b.count ∷ z ∷ []) (sym same_seats);
    homes = r.homes;
    object = object_kept b seats owner parent b.phase r.object;
    counted = r.counted;
    few = r.few;
    in_turn = r.in_turn;
    tickets_left = r.tickets_left;
    numbers_left = subst (λ (z : ℕ). (0 < z) × (z ≤ 2 ^ 62)) (sym same_seats) r.numbers_left;
    fresh = λ n high. r.fresh n (omega arith);
    older = λ n low high. subst (λ (f : ℕ → ℕ). f n < n) (sym same_parent) (r.older n low (omega arith));
    each_view = views_set (K b') (set s.views id v) other w h (λ j u ne here. views_set (λ i x. i ≢ other → K b' i x) s.views id v (λ _. k) (λ i x ne' there apart. others i x ne' apart there) j u here ne);
    holders = λ t low high. still_both s id other (b.whose t) v w (r.holders t low high);
    owners = λ n high. still_both s id other (owner n) v w (inside n high);
  }

  other_there : (vs : List V) (id other : ℕ) (v w : V) → (other ≡ id → ⊥) → get_elem? (set vs id v) other ≡ some w → get_elem? vs other ≡ some w
  other_there vs id other v w apart there = ⊎_elim (λ (t : (other ≡ id) × (v ≡ w)). absurd (apart t.0)) (λ (t : (other ≢ id) × (get_elem? vs other ≡ some w)). t.1) (at_set vs id other v w there)

  -- what a view that waits for nothing knows of tickets stands for a spent one too
  idle_tickets : (b : Board O A G) (j : ℕ) (w : V) → w.stage ≡ Idle → K b j w → Tickets b j Idle
  idle_tickets b j w idle k = subst (λ (z : Stage A G). Tickets b j z) idle k.tickets

  pub joins_seat : (id : ℕ) (v : V) (other : ℕ) (w : V) (x : X) → v.drawn ≡ [] → v.live ≡ true → w.stage ≡ Idle → w.drawn ≡ [] → w.live ≡ true → Joins Rule id v other w (merged_view v w) (numberless_view x [])
  joins_seat id v other w x undrawn alive idle' undrawn' alive' s r at apart there = let b = r.board in let k = r.each_view id v at in let here = other_there s.views id other (merged_view v w) w apart there in let h = r.each_view other w here in
      let n = numbers_at stands start b id v [] undrawn alive k in let n' = numbers_at stands start b other w [] undrawn' alive' h in
      let owner : ℕ → ℕ = moved b.owner id other in let b' : Board O A G = renumbered b b.seats owner b.parent in let y : V = merged_view v w in
      let nums = numbers_joined b.seats b.owner b.parent b.log id other apart (ended v.number v.own) (ended w.number w.own) v.ended w.ended v.born w.born n n' in
      both_set s r b.seats owner b.parent id other y (numberless_view x [])
      record {
        seen = k.seen;
        met = h.seen;
        tickets = tickets_kept b b.seats owner b.parent id v.stage k.tickets;
        numbers = numbers_back stands start b' id y [] undrawn alive nums;
        starts = k.starts;
      }
      record {
        seen = (b.log, refl);
        met = (b.log, refl);
        tickets = tickets_kept b b.seats owner b.parent other Idle (idle_tickets b other w idle' h);
        numbers = numbers_spent b.seats b.owner b.parent b.log id other apart;
        starts = λ e. cc;
      }
      (λ j u ne ne' at'. let g = r.each_view j u at' in stays b b.seats owner b.parent j u g
      (numbers_moved b.seats b.owner b.parent b.log id other apart j u.drawn (parts_of u) u.born ne ne' g.numbers))
      refl refl
      (λ m high. dite (ℕ_discrete (b.owner m) other)
      (λ e. let is : owner m ≡ id = ap (λ (c : Bool). cond c id (b.owner m)) (eq-eqb (b.owner m) other e) in omega (arith, at_bound s.views id v at))
      (λ not. let is : owner m ≡ b.owner m = ap (λ (c : Bool). cond c id (b.owner m)) (ne_eqb (b.owner m) other not) in omega (arith, r.owners m high)))

  pub joins_note : (id : ℕ) (v : V) (other : ℕ) (w : V) (x : X) → w.stage ≡ Idle → w.drawn ≡ [] → w.live ≡ false → Joins Rule id v other w (informed_view v w) (numberless_view x [])
  joins_note id v other w x idle undrawn lifeless_is s r at apart there = let b = r.board in let k = r.each_view id v at in let here = other_there s.views id other (informed_view v w) w apart there in let h = r.each_view other w here in
      let bare = subst (λ (z : List ℕ × Bool). Numbers b.seats b.owner b.parent b.log other z.0 (map (λ n. ended n []) z.0 ++ cond z.1 (ended w.number w.own ∷ w.ended) []) w.born)
      (λ i. (undrawn i, lifeless_is i)) h.numbers in
      both_set s r b.seats b.owner b.parent id other (informed_view v w) (numberless_view x [])
      record {
        seen = k.seen;
        met = h.seen;
        tickets = k.tickets;
        numbers = k.numbers;
        starts = k.starts;
      }
      record {
        seen = (b.log, refl);
        met = (b.log, refl);
        tickets = idle_tickets b other w idle h;
        numbers = numbers_none b.seats b.owner b.parent b.log other (λ m high is. contains_none m (bare.has m high is)) r.older;
        starts = λ e. cc;
      }
      (λ j u _ _ at'. r.each_view j u at')
      refl refl r.owners

  pub settles_it : (slots id i : ℕ) (me : M) → me.0.drawn ≡ [] → me.0.live ≡ true → Allows Rule slots id me i (λ n. n) (Settles (step slots i 0 0 none) me)
  settles_it slots id i me undrawn alive s r _ at _ = let b = r.board in let v : V = me.0 in let k = r.each_view id v at in let n = numbers_at stands start b id v [] undrawn alive k in
      let new : List (Entry A G) = longer_of v.seen v.met in let both = longer_cases v.seen v.met b.log k.seen k.met in let begins = both_begin v.seen v.met new both.0 in let w : V = settled_view v in (
        w,
        keeps,
        tt,
        subst (λ (ws : List ℕ). Rule record { words = ws; homes = s.homes; views = set s.views id w }) (sym (set-get_or s.words i 0)) record {
          board = b;
          words = r.words;
          homes = r.homes;
          object = r.object;
          counted = r.counted;
          few = r.few;
          in_turn = r.in_turn;
          tickets_left = r.tickets_left;
          numbers_left = r.numbers_left;
          fresh = r.fresh;
          older = r.older;
          each_view = views_set (K b) s.views id w
              record {
                seen = both.1;
                met = (b.log, refl);
                tickets = k.tickets;
                numbers = k.numbers;
                starts = k.starts;
              }
              (λ j u _ here. r.each_view j u here);
          holders = λ t low high. still_there stands start s id w (b.whose t) (r.holders t low high);
          owners = λ m high. still_there stands start s id w (b.owner m) (r.owners m high);
        },
        (
          refl,
          both.0,
          λ keeps_parts. (
            whole_from b.seats b.owner b.parent b.log id v.number v.own v.ended v.born new r.fresh r.older n (prefix_inside new b.log both.1)
                (each_both _ _ _ (λ e f g. ⊎_elim (λ a. entries_of_between e.number v.seen new b.log e.own begins.0 both.1 a f.2) (λ a. entries_of_between e.number v.met new b.log e.own begins.1 both.1 a f.2) g)
                (ended v.number v.own ∷ v.ended) n.each keeps_parts),
            omega (arith, short_log stands start s r, prefix_length new b.log both.1),
          ),
        ),
      )
