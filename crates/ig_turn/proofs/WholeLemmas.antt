-- What holds of a whole seat, after a split, a join or a note.
use Rattle.std.proofs.Common.{◌≡◌, ◌≢◌, ◌<◌, ℕ, List, [], ◌∷◌, ◌++◌, map, length, refl, inl, inr, ⊎_elim, arith, ap, sym, ◌∙◌, subst, length-append}
use Rattle.atomic_table.specs.Table.{Me}
use Rattle.std.specs.Prelude.{Result, Ok, Err, IfOk}
use Rattle.std.specs.List.{All, AllByRecursion, Contains}
use mathlib.Core.List.{map-append, append-nil}
use Rattle.std.proofs.lemmas.List.Elements.{All-nil, All-contains, Contains-append_left, Contains-append_right}
use Rattle.ig_base.specs.declared.entry.Entry.{Entry}
use Rattle.ig_turn.specs.declared.view.Ended.{Ended}
use Rattle.ig_turn.specs.declared.view.View.{View}
use Rattle.ig_turn.specs.History.{entries_of, entry, ended, numbers_of, HasEachNumber, IsWhole}
use Rattle.ig_turn.specs.Ordered.{number_of}
use Rattle.ig_turn.specs.Steps.{with_drawn, right_of_split, merged_view, informed_view, settled_view, IsAtRest, IsWholeView, KeepsParts, AddsView}
use Rattle.ig_turn.proofs.ListLemmas.{each_append, each_weaker, each_from_all, all_from_each, each_has, contains_none, contains_first, contains_cases, distinct_one, distinct_first, entries_of-append, entries_of-other, entries_of-same, entries_of_some}

module _ {X A G : Type 0} where
  keeps_glued : (v w : View X A G) → IsWholeView v → IsWholeView w → KeepsParts (merged_view v w)
  keeps_glued v w a b = (
    inl a.0.own_is,
    each_append _ v.ended (w.ended ++ ended w.number w.own ∷ []) (each_weaker _ _ (λ e h. inl h) v.ended (each_from_all _ v.ended a.0.joined_are))
        (each_append _ w.ended (ended w.number w.own ∷ []) (each_weaker _ _ (λ e h. inr h) w.ended (each_from_all _ w.ended b.0.joined_are)) (inr b.0.own_is, tt)),
  )

  keeps_informed : (v w : View X A G) → IsWholeView v → KeepsParts (informed_view v w)
  keeps_informed v w a = (inl a.0.own_is, each_weaker _ _ (λ e h. inl h) v.ended (each_from_all _ v.ended a.0.joined_are))

module _ {O X A G : Type 0} where
  -- a seat keeps its parts, and those of the seat that it takes in
  pub keeps_both : (me : Me O (View X A G)) (cs : List (ℕ × O)) (v w : View X A G) → me ≡ (merged_view v w, cs) → IsWholeView v → IsWholeView w → KeepsParts me.0
  keeps_both me cs v w e a b = subst (λ (m : Me O (View X A G)). KeepsParts m.0) (sym e) (keeps_glued v w a b)

  pub keeps_own : (me : Me O (View X A G)) (cs : List (ℕ × O)) (v w : View X A G) → me ≡ (informed_view v w, cs) → IsWholeView v → KeepsParts me.0
  keeps_own me cs v w e a = subst (λ (m : Me O (View X A G)). KeepsParts m.0) (sym e) (keeps_informed v w a)

front_all : (P : ℕ → Type 0) (ns ms : List ℕ) → All P (ns ++ ms) → All P ns
front_all P ns ms all = all_from_each P ns (front ns (each_from_all P (ns ++ ms) all))
  where
    front : (ns : List ℕ) → AllByRecursion P (ns ++ ms) → AllByRecursion P ns
    front [] h = tt
    front (n ∷ ns) h = (h.0, front ns h.1)

module _ {A G : Type 0} where
  -- of a seat off which another was split
  pub whole_born : (number : ℕ) (seen own : List (Entry A G)) (joined : List (Ended A G)) (born : List ℕ) (n : ℕ) → IsWhole number seen own joined born → IsWhole number seen own joined (born ++ n ∷ [])
  whole_born number seen own joined born n w = record {
    own_is = w.own_is;
    joined_are = w.joined_are;
    different = w.different;
    all_known = λ each. w.all_known (each.0, front_all (Contains (numbers_of number joined)) born (n ∷ []) each.1);
  }

  -- of a seat that was split off
  pub whole_new : (number : ℕ) (seen : List (Entry A G)) → 0 < number → entries_of number seen ≡ [] → IsWhole number seen [] [] []
  whole_new number seen above none = record {
    own_is = none;
    joined_are = All-nil _;
    different = distinct_one number;
    all_known = λ each. absurd (elim (contains_cases [] 0 number each.0) as (λ _. ⊥) [ inl e ↦ omega arith | inr never ↦ contains_none 0 never ]);
  }

module _ {X A G : Type 0} (runs : X → List (A × G) → Type 0) where
  -- two seats at rest, after one was split off the other
  pub rest_split : (v left right : View X A G) (n : ℕ) → left ≡ record v { drawn = []; born = v.born ++ n ∷ [] } → right ≡ right_of_split (with_drawn v (n ∷ [])) → v.number < n → entries_of n v.seen ≡ []
      → IsAtRest runs v → IsAtRest runs left × IsAtRest runs right
  rest_split v left right n e f above unused r = let w = r.whole in (
    subst (IsAtRest runs) (sym e) record {
      idle = r.idle;
      none_drawn = refl;
      live = r.live;
      met_none = r.met_none;
      legal = r.legal;
      whole = (whole_born v.number v.seen v.own v.ended v.born n w.0, w.1);
    },
    subst (IsAtRest runs) (sym f) record {
      idle = refl;
      none_drawn = refl;
      live = refl;
      met_none = refl;
      legal = r.legal;
      whole = (whole_new n v.seen (omega arith) unused, w.1);
    },
  )

empty : {T : Type 0} (xs : List T) → length xs ≡ 0 → xs ≡ []
empty [] e = refl
empty (x ∷ xs) e = absurd (omega arith)

module _ {A G : Type 0} where
  -- of a seat that has joined all others nobody but the seat itself can have made a call since
  pub none_between : (number : ℕ) (seen between own : List (Entry A G)) (joined : List (Ended A G)) (born : List ℕ) (ask : A) (got : G) → IsWhole number seen own joined born
      → IsWhole number ((seen ++ between) ++ entry number ask got ∷ []) (own ++ entry number ask got ∷ []) joined born → HasEachNumber number joined born → between ≡ []
  none_between number seen between own joined born ask got before after each = none between (λ x h. h) (entries_of_some between)
    where
      numbers : List ℕ
      numbers = numbers_of number joined

      call : Entry A G
      call = entry number ask got

      kept_length : (n : ℕ) → length (entries_of n (seen ++ between)) ≡ length (entries_of n seen) → entries_of n between ≡ []
      kept_length n e = empty (entries_of n between) (omega (arith, e, ap length (entries_of-append n seen between), length-append (entries_of n seen) (entries_of n between)))

      own_none : entries_of number between ≡ []
      own_none = kept_length number (omega (
        arith,
        ap length (entries_of-same number (seen ++ between) ask got),
        length-append (entries_of number (seen ++ between)) (call ∷ []),
        ap length after.own_is,
        length-append own (call ∷ []),
        ap length before.own_is,
      ))

      joined_none : (n : ℕ) → Contains (map number_of joined) n → entries_of n between ≡ []
      joined_none n c = let other : number ≢ n = λ e. distinct_first number (map number_of joined) after.different (subst (Contains (map number_of joined)) (sym e) c) in
          let old = each_has (λ (d : Ended A G). (entries_of d.number seen ≡ d.own) × (entries_of d.number ((seen ++ between) ++ call ∷ []) ≡ d.own)) number_of joined n
          (each_pair joined (each_from_all _ joined before.joined_are) (each_from_all _ joined after.joined_are)) c in
          kept_length n (omega (
            arith,
            ap length (entries_of-other n (seen ++ between) number ask got other),
            ap length (subst (λ (m : ℕ). entries_of m seen ≡ old.0.own) old.2 old.1.0),
            ap length (subst (λ (m : ℕ). entries_of m ((seen ++ between) ++ call ∷ []) ≡ old.0.own) old.2 old.1.1),
          ))
        where
          each_pair : (ds : List (Ended A G)) → AllByRecursion (λ d. entries_of d.number seen ≡ d.own) ds → AllByRecursion (λ d. entries_of d.number ((seen ++ between) ++ call ∷ []) ≡ d.own) ds
              → AllByRecursion (λ d. (entries_of d.number seen ≡ d.own) × (entries_of d.number ((seen ++ between) ++ call ∷ []) ≡ d.own)) ds
          each_pair [] a b = tt
          each_pair (d ∷ ds) a b = ((a.0, b.0), each_pair ds a.1 b.1)

      number_none : (n : ℕ) → Contains numbers n → entries_of n between ≡ []
      number_none n c = ⊎_elim (λ (e : number ≡ n). subst (λ (m : ℕ). entries_of m between ≡ []) e own_none) (λ t. joined_none n t) (contains_cases (map number_of joined) n number c)

      known : (x : Entry A G) → Contains between x → Contains numbers x.seat
      known x c = All-contains (λ e. Contains numbers e.seat) ((seen ++ between) ++ call ∷ []) x (after.all_known each)
          (Contains-append_left (seen ++ between) (call ∷ []) x (Contains-append_right seen between x c))

      none : (xs : List (Entry A G)) → ((x : Entry A G) → Contains xs x → Contains between x) → AllByRecursion (λ e. entries_of e.seat between ≡ [] → ⊥) xs → xs ≡ []
      none [] inside some = refl
      none (x ∷ xs) inside some = absurd (some.0 (number_none x.seat (known x (inside x (contains_first xs x x refl)))))

module _ {X A G : Type 0} where
  -- the next call of a seat that has joined all others comes right after what it had seen
  pub next_call : (v w : View X A G) (ask : A) (got : G) → IsWholeView v → IsWholeView w → AddsView v w ask got → HasEachNumber v.number v.ended v.born → w.seen ≡ v.seen ++ entry v.number ask got ∷ []
  next_call v w ask got before after adds each = let call : Entry A G = entry v.number ask got in let whole = subst IsWholeView adds.1 after in
      let none : adds.0 ≡ [] = none_between v.number v.seen adds.0 v.own v.ended v.born ask got before.0 whole.0 each in
      ap (λ (u : View X A G). u.seen) adds.1 ∙ (ap (λ (l : List (Entry A G)). (v.seen ++ l) ++ call ∷ []) none ∙ ap (λ (l : List (Entry A G)). l ++ call ∷ []) (append-nil v.seen))

-- what follows from two facts of what was answered
pub both_if_ok : {T E : Type 0} (r : Result T E) (P Q R : T → Type 0) → ((x : T) → P x → Q x → R x) → IfOk r P → IfOk r Q → IfOk r R
both_if_ok (Ok x) P Q R f p q = f x p q
both_if_ok (Err e) P Q R f p q = tt

module _ {O X A G : Type 0} where
  -- a seat that has taken in another had a different number
  pub numbers_differ : (me : Me O (View X A G)) (cs : List (ℕ × O)) (v w : View X A G) → me ≡ (settled_view (merged_view v w), cs) → IsWholeView me.0 → v.number ≢ w.number
  numbers_differ me cs v w e whole same = let all : IsWholeView (settled_view (merged_view v w)) = subst (λ (m : Me O (View X A G)). IsWholeView m.0) e whole in
      let joined : List (Ended A G) = v.ended ++ (w.ended ++ ended w.number w.own ∷ []) in
      let here : Contains (map number_of joined) v.number = subst (λ (l : List ℕ). Contains l v.number) (sym (map-append number_of v.ended (w.ended ++ ended w.number w.own ∷ [])))
      (Contains-append_right (map number_of v.ended) (map number_of (w.ended ++ ended w.number w.own ∷ [])) v.number
      (subst (λ (l : List ℕ). Contains l v.number) (sym (map-append number_of w.ended (ended w.number w.own ∷ [])))
      (Contains-append_right (map number_of w.ended) (w.number ∷ []) v.number (contains_first [] v.number w.number (sym same))))) in
      distinct_first v.number (map number_of joined) all.0.different here
