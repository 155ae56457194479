-- What one view knows, after a step of another or of its own.
use Rattle.std.proofs.Common.{◌≡◌, ◌≢◌, ℕ, ◌+◌, ◌<◌, ◌≤◌, eqb, Bool, cond, List, [], ◌∷◌, ◌++◌, map, set, refl, sym, ap, ◌∙◌, subst, ⊎_elim, arith, eq-eqb, ne_eqb}
use mathlib.Core.Option.{some}
use mathlib.Core.List.{map-append}
use mathlib.Core.Logic.{dite}
use native.Mathlib.Decide.{ℕ_discrete}
use lib.ListN.{get_elem?}
use Rattle.atomic_table.proofs.Lists.{at_set}
use Rattle.ig_base.specs.declared.entry.Entry.{Entry}
use Rattle.ig_turn.specs.declared.view.Ended.{Ended}
use Rattle.ig_turn.specs.declared.view.Stage.{Stage}
use Rattle.ig_turn.specs.declared.view.Stage.TheVariants.{Idle, Waiting, Holding}
use Rattle.ig_turn.specs.History.{entries_of, entry, ended}
use Rattle.std.specs.Prelude.{nat_eq}
use Rattle.std.specs.List.{AllByRecursion, Contains, IsDistinct}
use Rattle.std.proofs.lemmas.List.Elements.{Contains-append_left, Contains-append_right, Contains-append_cases}
use Rattle.ig_turn.specs.Ordered.{Phase, home, out, Board, number_of, StageFits, HolderFits, Tickets, Numbers}
use Rattle.ig_turn.proofs.ListLemmas.{each_append, each_weaker, each_both, each_has, contains_none, contains_first, contains_later, contains_cases, distinct_none, distinct_one, distinct_cons, distinct_first, distinct_later, distinct_append, entries_of-other, entries_of-same}

-- the function f, but x at k
abbrev pub put : (ℕ → ℕ) → ℕ → ℕ → ℕ → ℕ
put f k x n = cond (eqb n k) x (f n)

pub put_here : (f : ℕ → ℕ) (k x : ℕ) → put f k x k ≡ x
put_here f k x = ap (λ (b : Bool). cond b x (f k)) (eq-eqb k k refl)

pub put_else : (f : ℕ → ℕ) (k x n : ℕ) → n ≢ k → put f k x n ≡ f n
put_else f k x n ne = ap (λ (b : Bool). cond b x (f n)) (ne_eqb n k ne)

-- what was at other is at id
abbrev pub moved : (ℕ → ℕ) → ℕ → ℕ → ℕ → ℕ
moved owner id other n = cond (eqb (owner n) other) id (owner n)

module _ {V : Type 0} where
  pub views_set : (K : ℕ → V → Type 0) (vs : List V) (id : ℕ) (w : V) → K id w → ((j : ℕ) (v : V) → j ≢ id → get_elem? vs j ≡ some v → K j v)
      → (j : ℕ) (v : V) → get_elem? (set vs id w) j ≡ some v → K j v
  views_set K vs id w mine others j v e = ⊎_elim (λ (t : (j ≡ id) × (w ≡ v)). subst (λ (x : ℕ × V). K x.0 x.1) (λ i. (sym t.0 i, t.1 i)) mine)
      (λ (t : (j ≢ id) × (get_elem? vs j ≡ some v)). others j v t.0 t.1) (at_set vs id j w v e)

module _ {A G : Type 0} where
  pub idle_or_holding : (t c : ℕ) (l : List (Entry A G)) (st : Stage A G) → st ≡ Idle → st ≡ Holding t l c → ⊥
  idle_or_holding t c l st e f = cc

  pub waiting_or_holding : (u t c : ℕ) (l : List (Entry A G)) (st : Stage A G) → st ≡ Waiting u → st ≡ Holding t l c → ⊥
  waiting_or_holding u t c l st e f = cc

module _ {O A G : Type 0} where
  -- the board after a ticket was drawn
  abbrev pub with_ticket : Board O A G → ℕ → ℕ → Board O A G
  with_ticket b new id = record b { ticket = new; whose = put b.whose b.ticket id }

  module _ (b : Board O A G) (new id : ℕ) (more : new ≡ b.ticket + 1) (in_turn : b.serving ≤ b.ticket) where
    stage_drawn : (j : ℕ) (st : Stage A G) → StageFits b j st → StageFits (with_ticket b new id) j st
    stage_drawn j Idle f = tt
    stage_drawn j (Waiting t) f = (f.0, omega (arith, f.1), put_else b.whose b.ticket id t (λ e. omega (arith, f.1)) ∙ f.2)
    stage_drawn j (Holding t l c) f = (f.0, omega (arith, f.1), put_else b.whose b.ticket id t (λ e. omega (arith, f.1)) ∙ f.2, f.3, f.4)

    holder_drawn : (j : ℕ) (p : Phase O) (st : Stage A G) → ((c : ℕ) → p ≡ out c → b.serving < b.ticket) → HolderFits b j p st → HolderFits (with_ticket b new id) j p st
    holder_drawn j (home o) st lt f = tt
    holder_drawn j (out c) st lt f = λ is. f (sym (put_else b.whose b.ticket id b.serving (λ e. omega (arith, lt c refl))) ∙ is)

    pub tickets_drawn : ((c : ℕ) → b.phase ≡ out c → b.serving < b.ticket) → (j : ℕ) (st : Stage A G) → j ≢ id → Tickets b j st → Tickets (with_ticket b new id) j st
    tickets_drawn lt j st ne k = record {
      stage = stage_drawn j st k.stage;
      turn = λ t low high is. dite (ℕ_discrete t b.ticket)
          (λ e. absurd (ne (sym is ∙ (ap (put b.whose b.ticket id) e ∙ put_here b.whose b.ticket id))))
          (λ other. k.turn t low (omega arith) (sym (put_else b.whose b.ticket id t other) ∙ is));
      holder = holder_drawn j b.phase st lt k.holder;
    }

    holder_mine : (p : Phase O) → ((c : ℕ) → p ≡ out c → b.serving < b.ticket) → HolderFits b id p Idle → HolderFits (with_ticket b new id) id p (Waiting b.ticket)
    holder_mine (home o) lt f = tt
    holder_mine (out c) lt f = λ is. absurd (idle_or_holding b.serving c b.log Idle refl (f (sym (put_else b.whose b.ticket id b.serving (λ e. omega (arith, lt c refl))) ∙ is)))

    pub tickets_mine : ((c : ℕ) → b.phase ≡ out c → b.serving < b.ticket) → Tickets b id Idle → Tickets (with_ticket b new id) id (Waiting b.ticket)
    tickets_mine lt k = record {
      stage = (in_turn, omega arith, put_here b.whose b.ticket id);
      turn = λ t low high is. dite (ℕ_discrete t b.ticket) (λ e. sym e) (λ other. absurd (k.turn t low (omega arith) (sym (put_else b.whose b.ticket id t other) ∙ is)));
      holder = holder_mine b.phase lt k.holder;
    }

  abbrev pub with_phase : Board O A G → Phase O → Board O A G
  with_phase b p = record b { phase = p }

  -- the board after a commit
  abbrev pub with_entry : Board O A G → ℕ → List (Entry A G) → ℕ → Board O A G
  with_entry b count log c = record b { count = count; log = log; phase = out c }

  -- the board after the turn was passed
  abbrev pub with_next : Board O A G → ℕ → O → Board O A G
  with_next b next o = record b { serving = next; phase = home o }

  module _ (b : Board O A G) (id : ℕ) (mine : b.whose b.serving ≡ id) where
    not_served : (j t : ℕ) → j ≢ id → t ≡ b.serving → b.whose t ≡ j → ⊥
    not_served j t ne e is = ne (sym is ∙ (ap b.whose e ∙ mine))

    stage_taken : (o : O) → b.phase ≡ home o → (j : ℕ) (st : Stage A G) → j ≢ id → StageFits b j st → StageFits (with_phase b (out 0)) j st
    stage_taken o at j Idle ne f = tt
    stage_taken o at j (Waiting t) ne f = f
    stage_taken o at j (Holding t l c) ne f = absurd (not_served j t ne f.0 f.2)

    pub tickets_taken : (o : O) → b.phase ≡ home o → (j : ℕ) (st : Stage A G) → j ≢ id → Tickets b j st → Tickets (with_phase b (out 0)) j st
    tickets_taken o at j st ne k = record { stage = stage_taken o at j st ne k.stage; turn = k.turn; holder = λ is. absurd (not_served j b.serving ne refl is) }

    pub tickets_taking : (t : ℕ) → t ≡ b.serving → Tickets b id (Waiting t) → Tickets (with_phase b (out 0)) id (Holding t b.log 0)
    tickets_taking t e k = let f = k.stage in record {
      stage = (e, f.1, f.2, refl, refl);
      turn = k.turn;
      holder = λ _. ap (λ (u : ℕ). Holding u b.log 0) e;
    }

    stage_logged : (count : ℕ) (log : List (Entry A G)) (j : ℕ) (st : Stage A G) → j ≢ id → StageFits b j st → StageFits (with_entry b count log 1) j st
    stage_logged count log j Idle ne f = tt
    stage_logged count log j (Waiting t) ne f = f
    stage_logged count log j (Holding t l c) ne f = absurd (not_served j t ne f.0 f.2)

    pub tickets_logged : (count : ℕ) (log : List (Entry A G)) (j : ℕ) (st : Stage A G) → j ≢ id → Tickets b j st → Tickets (with_entry b count log 1) j st
    tickets_logged count log j st ne k = record { stage = stage_logged count log j st ne k.stage; turn = k.turn; holder = λ is. absurd (not_served j b.serving ne refl is) }

    pub tickets_logging : (count : ℕ) (log : List (Entry A G)) (t c : ℕ) (l : List (Entry A G)) → Tickets b id (Holding t l c) → Tickets (with_entry b count log 1) id (Holding t log 1)
    tickets_logging count log t c l k = let f = k.stage in record {
      stage = (f.0, f.1, f.2, refl, refl);
      turn = k.turn;
      holder = λ _. ap (λ (u : ℕ). Holding u log 1) f.0;
    }

    stage_passed : (next : ℕ) (o : O) → next ≡ b.serving + 1 → (j : ℕ) (st : Stage A G) → j ≢ id → StageFits b j st → StageFits (with_next b next o) j st
    stage_passed next o more j Idle ne f = tt
    stage_passed next o more j (Waiting t) ne f = (dite (ℕ_discrete t b.serving) (λ e. absurd (not_served j t ne e f.2)) (λ other. omega (arith, f.0)), f.1, f.2)
    stage_passed next o more j (Holding t l c) ne f = absurd (not_served j t ne f.0 f.2)

    pub tickets_passed : (next : ℕ) (o : O) → next ≡ b.serving + 1 → (j : ℕ) (st : Stage A G) → j ≢ id → Tickets b j st → Tickets (with_next b next o) j st
    tickets_passed next o more j st ne k = record { stage = stage_passed next o more j st ne k.stage; turn = λ t low high is. k.turn t (omega arith) high is; holder = tt }

    pub tickets_passing : (next : ℕ) (o : O) → next ≡ b.serving + 1 → (t c : ℕ) (l : List (Entry A G)) → Tickets b id (Holding t l c) → Tickets (with_next b next o) id Idle
    tickets_passing next o more t c l k = let f = k.stage in record {
      stage = tt;
      turn = λ u low high is. let e : t ≡ u = k.turn u (omega arith) high is in let g : t ≡ b.serving = f.0 in absurd (omega arith);
      holder = tt;
    }

module _ {A G : Type 0} where
  -- one more entry, under a number that is not this view's
  pub numbers_logged : (seats : ℕ) (owner parent : ℕ → ℕ) (log : List (Entry A G)) (j : ℕ) (drawn : List ℕ) (parts : List (Ended A G)) (born : List ℕ) (m : ℕ) (ask : A) (got : G) → owner m ≢ j
      → Numbers seats owner parent log j drawn parts born → Numbers seats owner parent (log ++ entry m ask got ∷ []) j drawn parts born
  numbers_logged seats owner parent log j drawn parts born m ask got other k = record {
    each = each_weaker _ _ (λ e f. (f.0, f.1, entries_of-other e.number log m ask got (λ is. other (ap owner is ∙ f.0)) ∙ f.2)) parts k.each;
    different = k.different;
    has = k.has;
    kin = k.kin;
    below = k.below;
    childless = k.childless;
  }

  others_logged : (owner : ℕ → ℕ) (seats j : ℕ) (log : List (Entry A G)) (m : ℕ) (ask : A) (got : G) (parts : List (Ended A G)) → (Contains (map number_of parts) m → ⊥)
      → AllByRecursion (λ e. (owner e.number ≡ j) × (e.number < seats) × (entries_of e.number log ≡ e.own)) parts
      → AllByRecursion (λ e. (owner e.number ≡ j) × (e.number < seats) × (entries_of e.number (log ++ entry m ask got ∷ []) ≡ e.own)) parts
  others_logged owner seats j log m ask got [] away p = tt
  others_logged owner seats j log m ask got (e ∷ es) away p = let f = p.0 in
      ((f.0, f.1, entries_of-other e.number log m ask got (λ is. away (contains_first (map number_of es) m e.number (sym is))) ∙ f.2), others_logged owner seats j log m ask got es (λ h. away (contains_later (map number_of es) m e.number h)) p.1)

  -- one more entry of the view's own
  pub numbers_logging : (seats : ℕ) (owner parent : ℕ → ℕ) (log : List (Entry A G)) (j m : ℕ) (own : List (Entry A G)) (joined : List (Ended A G)) (born : List ℕ) (ask : A) (got : G)
      → Numbers seats owner parent log j [] (ended m own ∷ joined) born → Numbers seats owner parent (log ++ entry m ask got ∷ []) j [] (ended m (own ++ entry m ask got ∷ []) ∷ joined) born
  numbers_logging seats owner parent log j m own joined born ask got k = let f = k.each.0 in record {
    each = ((f.0, f.1, entries_of-same m log ask got ∙ ap (λ (l : List (Entry A G)). l ++ entry m ask got ∷ []) f.2), others_logged owner seats j log m ask got joined (distinct_first m (map number_of joined) k.different) k.each.1);
    different = k.different;
    has = k.has;
    kin = k.kin;
    below = k.below;
    childless = tt;
  }

  -- a number was drawn by the view id, under its number m
  module _ (seats : ℕ) (owner parent : ℕ → ℕ) (log : List (Entry A G)) (id m : ℕ) (older : (n : ℕ) → 0 < n → n < seats → parent n < n) (mine : owner m ≡ id) (inside : m < seats) where
    kin_drawn : (j n : ℕ) → 0 < n → n < seats → put owner seats id (put parent seats m n) ≡ j → owner (parent n) ≡ j
    kin_drawn j n low high is = let less = older n low high in sym (put_else owner seats id (parent n) (λ e. omega arith)) ∙ (ap (put owner seats id) (sym (put_else parent seats m n (λ e. omega arith))) ∙ is)

    drawer : put owner seats id (put parent seats m seats) ≡ id
    drawer = ap (put owner seats id) (put_here parent seats m) ∙ (put_else owner seats id m (λ e. omega arith) ∙ mine)

    kept_drawn : (j : ℕ) (e : Ended A G) → (owner e.number ≡ j) × (e.number < seats) × (entries_of e.number log ≡ e.own)
        → (put owner seats id e.number ≡ j) × (e.number < seats + 1) × (entries_of e.number log ≡ e.own)
    kept_drawn j e f = (put_else owner seats id e.number (λ is. omega (arith, f.1)) ∙ f.0, omega (arith, f.1), f.2)

    pub numbers_drawn : (j : ℕ) (drawn : List ℕ) (parts : List (Ended A G)) (born : List ℕ) → j ≢ id → AllByRecursion (λ d. d < seats) drawn → Numbers seats owner parent log j drawn parts born
        → Numbers (seats + 1) (put owner seats id) (put parent seats m) log j drawn parts born
    numbers_drawn j drawn parts born ne small k = record {
      each = each_weaker _ _ (kept_drawn j) parts k.each;
      different = k.different;
      has = λ n high is. dite (ℕ_discrete n seats) (λ e. absurd (ne (sym is ∙ (ap (put owner seats id) e ∙ put_here owner seats id))))
          (λ other. k.has n (omega arith) (sym (put_else owner seats id n other) ∙ is));
      kin = λ n low high is. dite (ℕ_discrete n seats) (λ e. absurd (ne (sym is ∙ (ap (λ (z : ℕ). put owner seats id (put parent seats m z)) e ∙ drawer))))
          (λ other. k.kin n low (omega arith) (kin_drawn j n low (omega arith) is));
      below = each_weaker _ _ (λ n less. omega arith) born k.below;
      childless = each_both _ _ _ (λ d f less. (
        put_else owner seats id d (λ e. omega arith) ∙ f.0,
        λ n low high is. dite (ℕ_discrete n seats)
            (λ e. ne (sym f.0 ∙ (ap owner (sym is ∙ (ap (put parent seats m) e ∙ put_here parent seats m)) ∙ mine)))
            (λ other. f.1 n low (omega arith) (sym (put_else parent seats m n other) ∙ is)),
      )) drawn k.childless small;
    }

    pub numbers_drawing : (own : List (Entry A G)) (joined : List (Ended A G)) (born : List ℕ) → entries_of seats log ≡ [] → Numbers seats owner parent log id [] (ended m own ∷ joined) born
        → Numbers (seats + 1) (put owner seats id) (put parent seats m) log id (seats ∷ []) (ended seats [] ∷ (ended m own ∷ joined)) (born ++ seats ∷ [])
    numbers_drawing own joined born fresh k = let parts : List (Ended A G) = ended m own ∷ joined in record {
      each = ((put_here owner seats id, omega arith, fresh), each_weaker _ _ (kept_drawn id) parts k.each);
      different = distinct_cons seats (map number_of parts) (λ h. let t = each_has _ number_of parts seats k.each h in let f = t.1 in absurd (omega (arith, f.1, t.2))) k.different;
      has = λ n high is. dite (ℕ_discrete n seats) (λ e. contains_first (map number_of parts) n seats (sym e)) (λ other. contains_later (map number_of parts) n seats (k.has n (omega arith) (sym (put_else owner seats id n other) ∙ is)));
      kin = λ n low high is. dite (ℕ_discrete n seats) (λ e. Contains-append_right born (seats ∷ []) n (contains_first [] n seats (sym e)))
          (λ other. Contains-append_left born (seats ∷ []) n (k.kin n low (omega arith) (kin_drawn id n low (omega arith) is)));
      below = each_append _ born (seats ∷ []) (each_weaker _ _ (λ n less. omega arith) born k.below) (omega arith, tt);
      childless = (
        (
          put_here owner seats id,
          λ n low high is. dite (ℕ_discrete n seats)
              (λ e. let f : m ≡ seats = sym (put_here parent seats m) ∙ (ap (put parent seats m) (sym e) ∙ is) in omega arith)
              (λ other. let f : parent n ≡ seats = sym (put_else parent seats m n other) ∙ is in let less = older n low (omega arith) in omega arith),
        ),
        tt,
      );
    }

  -- the number n, which the view id drew, went to the view fresh
  module _ (seats : ℕ) (owner parent : ℕ → ℕ) (log : List (Entry A G)) (id n fresh : ℕ) (mine : owner n ≡ id) (apart : fresh ≢ id) where
    kin_split : (j m : ℕ) → fresh ≢ j → put owner n fresh (parent m) ≡ j → owner (parent m) ≡ j
    kin_split j m ne is = sym (put_else owner n fresh (parent m) (λ e. ne (sym (ap (put owner n fresh) e ∙ put_here owner n fresh) ∙ is))) ∙ is

    owner_split : (j m : ℕ) → fresh ≢ j → put owner n fresh m ≡ j → owner m ≡ j
    owner_split j m ne is = sym (put_else owner n fresh m (λ e. ne (sym (ap (put owner n fresh) e ∙ put_here owner n fresh) ∙ is))) ∙ is

    pub numbers_split : (j : ℕ) (drawn : List ℕ) (parts : List (Ended A G)) (born : List ℕ) → j ≢ id → fresh ≢ j → Numbers seats owner parent log j drawn parts born
        → Numbers seats (put owner n fresh) parent log j drawn parts born
    numbers_split j drawn parts born ne other k = record {
      each = each_weaker _ _ (λ e f. (put_else owner n fresh e.number (λ is. ne (sym f.0 ∙ (ap owner is ∙ mine))) ∙ f.0, f.1, f.2)) parts k.each;
      different = k.different;
      has = λ m high is. k.has m high (owner_split j m other is);
      kin = λ m low high is. k.kin m low high (kin_split j m other is);
      below = k.below;
      childless = each_weaker _ _ (λ d f. (put_else owner n fresh d (λ is. ne (sym f.0 ∙ (ap owner is ∙ mine))) ∙ f.0, f.1)) drawn k.childless;
    }

    left_parts : (parts : List (Ended A G)) → (Contains (map number_of parts) n → ⊥) → AllByRecursion (λ e. (owner e.number ≡ id) × (e.number < seats) × (entries_of e.number log ≡ e.own)) parts
        → AllByRecursion (λ e. (put owner n fresh e.number ≡ id) × (e.number < seats) × (entries_of e.number log ≡ e.own)) parts
    left_parts [] away p = tt
    left_parts (e ∷ es) away p = let f = p.0 in ((put_else owner n fresh e.number (λ is. away (contains_first (map number_of es) n e.number is)) ∙ f.0, f.1, f.2), left_parts es (λ h. away (contains_later (map number_of es) n e.number h)) p.1)

    pub numbers_left : (parts : List (Ended A G)) (born : List ℕ) → Numbers seats owner parent log id (n ∷ []) (ended n [] ∷ parts) born → Numbers seats (put owner n fresh) parent log id [] parts born
    numbers_left parts born k = record {
      each = left_parts parts (distinct_first n (map number_of parts) k.different) k.each.1;
      different = distinct_later n (map number_of parts) k.different;
      has = λ m high is. ⊎_elim (λ e. absurd (apart (sym (put_here owner n fresh) ∙ (ap (put owner n fresh) e ∙ is)))) (λ h. h) (contains_cases (map number_of parts) m n (k.has m high (owner_split id m apart is)));
      kin = λ m low high is. k.kin m low high (kin_split id m apart is);
      below = k.below;
      childless = tt;
    }

    pub numbers_right : (parts : List (Ended A G)) (born : List ℕ) → ((m : ℕ) → m < seats → owner m ≢ fresh) → ((m : ℕ) → 0 < m → m < seats → parent m < m)
        → Numbers seats owner parent log id (n ∷ []) (ended n [] ∷ parts) born → Numbers seats (put owner n fresh) parent log fresh [] (ended n [] ∷ []) []
    numbers_right parts born unowned older k = let f = k.each.0 in record {
      each = ((put_here owner n fresh, f.1, f.2), tt);
      different = distinct_one n;
      has = λ m high is. dite (ℕ_discrete m n) (λ e. contains_first [] m n (sym e)) (λ other. absurd (unowned m high (sym (put_else owner n fresh m other) ∙ is)));
      kin = λ m low high is. let less = older m low high in dite (ℕ_discrete (parent m) n) (λ e. absurd (k.childless.0.1 m low high e))
          (λ other. absurd (unowned (parent m) (omega arith) (sym (put_else owner n fresh (parent m) other) ∙ is)));
      below = tt;
      childless = tt;
    }

  -- a view with no numbers
  pub numbers_none : (seats : ℕ) (owner parent : ℕ → ℕ) (log : List (Entry A G)) (j : ℕ) → ((m : ℕ) → m < seats → owner m ≢ j) → ((m : ℕ) → 0 < m → m < seats → parent m < m)
      → Numbers seats owner parent log j [] [] []
  numbers_none seats owner parent log j unowned older = record {
    each = tt;
    different = distinct_none;
    has = λ m high is. absurd (unowned m high is);
    kin = λ m low high is. let less = older m low high in absurd (unowned (parent m) (omega arith) is);
    below = tt;
    childless = tt;
  }

  number_map : (xs ys : List (Ended A G)) → map number_of (xs ++ ys) ≡ map number_of xs ++ map number_of ys
  number_map xs ys = map-append number_of xs ys

  -- the numbers of the view other went to the view id
  module _ (seats : ℕ) (owner parent : ℕ → ℕ) (log : List (Entry A G)) (id other : ℕ) (apart : other ≢ id) where
    moved_else : (n : ℕ) → owner n ≢ other → moved owner id other n ≡ owner n
    moved_else n ne = ap (λ (b : Bool). cond b id (owner n)) (ne_eqb (owner n) other ne)

    moved_here : (n : ℕ) → owner n ≡ other → moved owner id other n ≡ id
    moved_here n e = ap (λ (b : Bool). cond b id (owner n)) (eq-eqb (owner n) other e)

    moved_back : (j n : ℕ) → j ≢ id → moved owner id other n ≡ j → owner n ≡ j
    moved_back j n ne is = dite (ℕ_discrete (owner n) other) (λ e. absurd (ne (sym is ∙ moved_here n e))) (λ not. sym (moved_else n not) ∙ is)

    pub numbers_moved : (j : ℕ) (drawn : List ℕ) (parts : List (Ended A G)) (born : List ℕ) → j ≢ id → j ≢ other → Numbers seats owner parent log j drawn parts born
        → Numbers seats (moved owner id other) parent log j drawn parts born
    numbers_moved j drawn parts born ne ne' k = record {
      each = each_weaker _ _ (λ e f. (moved_else e.number (λ is. ne' (sym f.0 ∙ is)) ∙ f.0, f.1, f.2)) parts k.each;
      different = k.different;
      has = λ n high is. k.has n high (moved_back j n ne is);
      kin = λ n low high is. k.kin n low high (moved_back j (parent n) ne is);
      below = k.below;
      childless = each_weaker _ _ (λ d f. (moved_else d (λ is. ne' (sym f.0 ∙ is)) ∙ f.0, f.1)) drawn k.childless;
    }

    pub numbers_spent : Numbers seats (moved owner id other) parent log other [] [] []
    numbers_spent = record {
      each = tt;
      different = distinct_none;
      has = λ n high is. gone n is;
      kin = λ n low high is. gone (parent n) is;
      below = tt;
      childless = tt;
    }
      where
        gone : (n : ℕ) → moved owner id other n ≡ other → {T : Type 0} → T
        gone n is = absurd (dite (ℕ_discrete (owner n) other) (λ e. apart (sym is ∙ moved_here n e)) (λ not. not (sym (moved_else n not) ∙ is)))

    kept_moved : (e : Ended A G) → (owner e.number ≡ id) × (e.number < seats) × (entries_of e.number log ≡ e.own) → (moved owner id other e.number ≡ id) × (e.number < seats) × (entries_of e.number log ≡ e.own)
    kept_moved e f = (moved_else e.number (λ is. apart (sym is ∙ f.0)) ∙ f.0, f.1, f.2)

    come : (e : Ended A G) → (owner e.number ≡ other) × (e.number < seats) × (entries_of e.number log ≡ e.own) → (moved owner id other e.number ≡ id) × (e.number < seats) × (entries_of e.number log ≡ e.own)
    come e f = (moved_here e.number f.0, f.1, f.2)

    -- the first goes after the others
    distinct_turned : (n : ℕ) (ns : List ℕ) → IsDistinct nat_eq (n ∷ ns) → IsDistinct nat_eq (ns ++ n ∷ [])
    distinct_turned n ns a = distinct_append ns (n ∷ []) (distinct_later n ns a) (distinct_one n)
        (λ m h t. ⊎_elim (λ e. distinct_first n ns a (subst (Contains ns) (sym e) h)) (λ c. contains_none m c) (contains_cases [] m n t))

    contains_turned : (n : ℕ) (ns : List ℕ) (m : ℕ) → Contains (n ∷ ns) m → Contains (ns ++ n ∷ []) m
    contains_turned n ns m h = ⊎_elim (λ e. Contains-append_right ns (n ∷ []) m (contains_first [] m n e)) (λ t. Contains-append_left ns (n ∷ []) m t) (contains_cases ns m n h)

    contains_back : (n : ℕ) (ns : List ℕ) (m : ℕ) → Contains (ns ++ n ∷ []) m → Contains (n ∷ ns) m
    contains_back n ns m h = ⊎_elim (λ t. contains_later ns m n t) (λ t. ⊎_elim (λ e. contains_first ns m n e) (λ c. absurd (contains_none m c)) (contains_cases [] m n t)) (Contains-append_cases ns (n ∷ []) m h)

    pub numbers_joined : (first last : Ended A G) (joined gained : List (Ended A G)) (born more : List ℕ)
        → Numbers seats owner parent log id [] (first ∷ joined) born → Numbers seats owner parent log other [] (last ∷ gained) more
        → Numbers seats (moved owner id other) parent log id [] (first ∷ (joined ++ (gained ++ last ∷ []))) (born ++ more)
    numbers_joined first last joined gained born more k h = let ps : List (Ended A G) = first ∷ joined in let qs : List (Ended A G) = last ∷ gained in
        let ns : List ℕ = map number_of gained ++ last.number ∷ [] in
        let turned : map number_of (gained ++ last ∷ []) ≡ ns = number_map gained (last ∷ []) in
        let all : map number_of (ps ++ (gained ++ last ∷ [])) ≡ map number_of ps ++ ns = number_map ps (gained ++ last ∷ []) ∙ ap (λ (l : List ℕ). map number_of ps ++ l) turned in record {
          each = each_append _ ps (gained ++ last ∷ []) (each_weaker _ _ kept_moved ps k.each) (each_append _ gained (last ∷ []) (each_weaker _ _ come gained h.each.1) (come last h.each.0, tt));
          different = subst (IsDistinct nat_eq) (sym all) (distinct_append (map number_of ps) ns k.different (distinct_turned last.number (map number_of gained) h.different)
              (λ n a b. let x = each_has _ number_of ps n k.each a in let y = each_has _ number_of qs n h.each (contains_back last.number (map number_of gained) n b) in
              apart (sym y.1.0 ∙ (ap owner (y.2 ∙ sym x.2) ∙ x.1.0))));
          has = λ n high is. subst (λ (l : List ℕ). Contains l n) (sym all) (dite (ℕ_discrete (owner n) other)
              (λ e. Contains-append_right (map number_of ps) ns n (contains_turned last.number (map number_of gained) n (h.has n high e)))
              (λ not. Contains-append_left (map number_of ps) ns n (k.has n high (sym (moved_else n not) ∙ is))));
          kin = λ n low high is. dite (ℕ_discrete (owner (parent n)) other)
              (λ e. Contains-append_right born more n (h.kin n low high e))
              (λ not. Contains-append_left born more n (k.kin n low high (sym (moved_else (parent n) not) ∙ is)));
          below = each_append _ born more k.below h.below;
          childless = tt;
        }
