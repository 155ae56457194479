-- The table at the start meets the rule.
use Rattle.std.proofs.Common.{◌≡◌, ℕ, suc, zero, List, [], ◌∷◌, refl, sym, subst, arith}
use mathlib.Core.Option.{some, some-injective, some-ne-none}
use lib.ListN.{get_elem?}
use Rattle.atomic_table.specs.Table.{opening}
use Rattle.ig_turn.specs.declared.view.View.{View}
use Rattle.ig_turn.specs.Ordered.{home, Board, Knows, Ordered}
use Rattle.std.proofs.lemmas.List.Elements.{All-nil}
use Rattle.ig_turn.specs.History.{IsWhole}
use Rattle.ig_turn.specs.Steps.{opening_view, IsAtRest}
use Rattle.ig_turn.proofs.ListLemmas.{distinct_one, contains_first}

module _ {O X A G : Type 0} (stands : O → X → List (A × G) → Type 0) (start : X) where
  abbrev first_board : O → Board O A G
  first_board o = record {
    ticket = 0;
    serving = 0;
    count = 0;
    seats = 1;
    log = [];
    phase = home o;
    whose = λ _. 0;
    owner = λ _. 0;
    parent = λ _. 0;
  }

  first_knows : (o : O) → Knows start (first_board o) 0 (opening_view start)
  first_knows o = record {
    seen = ([], refl);
    met = ([], refl);
    tickets = record { stage = tt; turn = λ t low high is. absurd (omega arith); holder = tt };
    numbers = record {
      each = ((refl, omega arith, refl), tt);
      different = distinct_one 0;
      has = λ n high is. contains_first [] n 0 (omega arith);
      kin = λ n low high is. absurd (omega arith);
      below = tt;
      childless = tt;
    };
    starts = λ _. refl;
  }

  each_first : (o : O) (j : ℕ) (v : View X A G) → get_elem? (opening_view start ∷ []) j ≡ some v → Knows start (first_board o) j v
  each_first o zero v e = subst (Knows start (first_board o) 0) (some-injective (opening_view start) v e) (first_knows o)
  each_first o (suc j) v e = absurd (some-ne-none v (sym e))

  pub opens : (o : O) → stands o start [] → Ordered stands start (opening (0 ∷ 0 ∷ 0 ∷ 1 ∷ []) (o ∷ []) (opening_view start))
  opens o stood = record {
    board = first_board o;
    words = refl;
    homes = refl;
    object = stood;
    counted = refl;
    few = omega arith;
    in_turn = omega arith;
    tickets_left = omega arith;
    numbers_left = (omega arith, omega arith);
    fresh = λ n high. refl;
    older = λ n low high. absurd (omega arith);
    each_view = each_first o;
    holders = λ t low high. absurd (omega arith);
    owners = λ n high. omega arith;
  }

pub whole_opened : {A G : Type 0} → IsWhole {A = A} {G = G} 0 [] [] [] []
whole_opened = record {
  own_is = refl;
  joined_are = All-nil _;
  different = distinct_one 0;
  all_known = λ _. All-nil _;
}

pub rest_opened : {X A G : Type 0} (runs : X → List (A × G) → Type 0) (x : X) → runs x [] → IsAtRest runs (opening_view x)
rest_opened runs x legal = record {
  idle = refl;
  none_drawn = refl;
  live = refl;
  met_none = refl;
  legal = legal;
  whole = (whole_opened, omega arith);
}
