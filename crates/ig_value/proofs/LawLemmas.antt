-- The laws as they are stated for callers, at the 32 levels that a value may have.
use Rattle.std.proofs.Common.{◌≡◌, ℕ, zero, suc, ◌+◌, ◌≤◌, List, [], ◌∷◌, ◌++◌, length, map, Ok, Err, refl, sym, ap, subst, ◌∙◌, ◌<◌, ◌^◌, arith, inl, inr, ◌⊎◌}
use Rattle.std.specs.List.{flat_map, sum_by, AllByRecursion}
use Rattle.std.proofs.lemmas.List.{append_cancel_right}
use Rattle.std.proofs.lemmas.List.Sums.{sum_by-cons}
use Rattle.ig_base.specs.Numbers.{AreBytes}
use Rattle.ig_value.specs.declared.value.Value.{Value, out-Value}
use Rattle.ig_value.specs.declared.value.Value.TheOpen.{Value-F}
use Rattle.ig_value.specs.Table.{content, parts}
use Rattle.ig_value.specs.Spells.{Spells}
use Rattle.ig_value.specs.Stops.{Stops}
use Rattle.ig_value.specs.Canon.{Canon, IsSendable}
use Rattle.ig_value.specs.Limits.{Fits, FitsTo, FitsPart, Depth, Nodes, part_nodes, children, greatest}
use Rattle.ig_value.specs.Reading.{Fault, Read, value_at, reading}
use Rattle.ig_value.specs.Laws.{BeginsWithValue, HasStop, EveryInputIsDecided, OnePrefixSpells, OneStop, NoStopAfterValue, ReadIsSpelled, SpelledIsRead, ReadingStopsRightly, StopIsRead, SpelledFits, CanonSpells, CanonIsShortest, CanonTellsApart, ByteForEachNode, NodesInsideCount, FitsIsShallow, FitsAtItsDepth}
use Rattle.ig_value.proofs.AgreesLemmas.{ok_is, err_is}
use Rattle.ig_value.proofs.ValueLemmas.{value_agrees}
use Rattle.ig_value.proofs.FoldLemmas.{Depth_out, Nodes_out}
use Rattle.ig_value.proofs.SpelledLemmas.{spelled_least, spelled_fits, fits_spelled, spelled_nodes, fits_depth}

-- what reading gave
decided_by : (s : List ℕ) → AreBytes s → (r : Read Value) → value_at 32 s ≡ r → BeginsWithValue s ⊎ HasStop s
unfolding Spells Stops
decided_by s bytes (Ok x) e = let t = (value_agrees 32).takes s x.0 x.1 bytes e in inl (record { prefix = t.prefix; rest = x.1; value = x.0; whole = t.whole; right = t.right })
decided_by s bytes (Err f) e = let h = (value_agrees 32).halts s f.0 f.1 bytes e in inr (record { at = h.at; cause = f.1; wrong = h.wrong })

pub every_input_is_decided : EveryInputIsDecided
every_input_is_decided s bytes = decided_by s bytes (value_at 32 s) refl

pub one_prefix_spells : OnePrefixSpells
unfolding Spells
one_prefix_spells a b x y v w p q e =
    let left : value_at 32 (a ++ x) ≡ Ok (v, x) = (value_agrees 32).again a v x p in
    let right : value_at 32 (b ++ y) ≡ Ok (w, y) = (value_agrees 32).again b w y q in
    let same = ok_is (v, x) (w, y) (sym left ∙ ap (value_at 32) e ∙ right) in
    let rest : x ≡ y = ap (λ (z : Value × List ℕ). z.1) same in
    (append_cancel_right a b y (ap (λ (l : List ℕ). a ++ l) (sym rest) ∙ e), ap (λ (z : Value × List ℕ). z.0) same)

pub one_stop : OneStop
unfolding Stops
one_stop s p q c d v w =
    let left = (value_agrees 32).halted s p c v in
    let right = (value_agrees 32).halted s q d w in
    let same = err_is {A = Value × List ℕ} (left.left, c) (right.left, d) (sym left.is ∙ right.is) in
    (omega (arith, left.there, right.there, ap (λ (z : Fault). z.0) same), ap (λ (z : Fault). z.1) same)

pub no_stop_after_value : NoStopAfterValue
unfolding Spells Stops
no_stop_after_value a x v p c h w =
    let left : value_at 32 (a ++ x) ≡ Ok (v, x) = (value_agrees 32).again a v x h in
    let right = (value_agrees 32).halted (a ++ x) p c w in
    let both = sym left ∙ right.is in cc

pub read_is_spelled : ReadIsSpelled
unfolding reading Spells
read_is_spelled s rest v bytes is = let t = (value_agrees 32).takes s v rest bytes is in (t.prefix, t.whole, t.right)

pub spelled_is_read : SpelledIsRead
unfolding reading Spells
spelled_is_read prefix rest v h = (value_agrees 32).again prefix v rest h

pub reading_stops_rightly : ReadingStopsRightly
unfolding reading Stops
reading_stops_rightly s left c bytes is = let h = (value_agrees 32).halts s left c bytes is in (h.at, h.there, h.wrong)

pub stop_is_read : StopIsRead
unfolding reading Stops
stop_is_read s at c stops = let h = (value_agrees 32).halted s at c stops in (h.left, h.there, h.is)

pub spelled_values_fit : SpelledFits
unfolding Spells Fits
spelled_values_fit s v h = spelled_fits 32 s v h

pub canon_spells : CanonSpells
unfolding Spells Fits
canon_spells v fits sendable = fits_spelled 32 v fits sendable

pub canon_is_shortest : CanonIsShortest
unfolding Spells
canon_is_shortest s v h = spelled_least 32 s v h

pub canon_tells_apart : CanonTellsApart
canon_tells_apart v w f g sendable e =
    let other : IsSendable w = subst (λ (l : List ℕ). length l < 2 ^ 31) e sendable in
    (one_prefix_spells (Canon v) (Canon w) [] [] v w (canon_spells v f sendable) (canon_spells w g other) (ap (λ (l : List ℕ). l ++ []) e)).1

pub byte_for_each_node : ByteForEachNode
unfolding Spells
byte_for_each_node s v h = spelled_nodes 32 s v h

-- ---- the nodes of the values inside

pairs_sum : {X : Type 0} (h : X → ℕ) (ps : List (X × X)) → sum_by h (flat_map (λ p. p.0 ∷ p.1 ∷ []) ps) ≡ sum_by (λ p. h p.0 + h p.1) ps
pairs_sum h [] = refl
pairs_sum h (p ∷ ps) =
    let rest = flat_map (λ p. p.0 ∷ p.1 ∷ []) ps in
    omega (arith, sum_by-cons h p.0 (p.1 ∷ rest), sum_by-cons h p.1 rest, sum_by-cons (λ p. h p.0 + h p.1) p ps, pairs_sum h ps)

children_sum : {X : Type 0} (h : X → ℕ) (x : Value-F X) → sum_by h (children x) ≤ part_nodes h (content (parts x).0) (parts x).1
children_sum h (Value-F.Objects type xs) = omega arith
children_sum h (Value-F.Collection kind xs) = omega arith
children_sum h (Value-F.Map kind ps) = omega (arith, pairs_sum h ps)
children_sum h (Value-F.Enums type xs) = omega arith
children_sum h (Value-F.Object o) = omega arith
children_sum h _ = omega arith

pub nodes_inside_count : NodesInsideCount
nodes_inside_count v = omega (arith, Nodes_out v, children_sum Nodes (out-Value v))

-- ---- limits at another depth

all_greatest : (n : ℕ) (vs : List Value) → greatest (map Depth vs) ≤ n → AllByRecursion (λ v. Depth v ≤ n) vs
all_greatest n [] le = tt
all_greatest n (v ∷ vs) le = (omega arith, all_greatest n vs (omega arith))

all_refit : {X : Type 0} (F G D : X → Type 0) → ((x : X) → F x → D x → G x) → (xs : List X) → AllByRecursion F xs → AllByRecursion D xs → AllByRecursion G xs
all_refit F G D one [] f d = tt
all_refit F G D one (x ∷ xs) f d = (one x f.0 d.0, all_refit F G D one xs f.1 d.1)

pairs_refit : {X : Type 0} (F G D : X → Type 0) → ((x : X) → F x → D x → G x) → (ps : List (X × X)) → AllByRecursion (λ p. F p.0 × F p.1) ps → AllByRecursion D (flat_map (λ p. p.0 ∷ p.1 ∷ []) ps) → AllByRecursion (λ p. G p.0 × G p.1) ps
pairs_refit F G D one [] f d = tt
pairs_refit F G D one (p ∷ ps) f d = ((one p.0 f.0.0 d.0, one p.1 f.0.1 d.1.0), pairs_refit F G D one ps f.1 d.1.1)

layer_refit : {X : Type 0} (F G D : X → Type 0) → ((x : X) → F x → D x → G x) → (x : Value-F X) → FitsPart F (content (parts x).0) (parts x).1 → AllByRecursion D (children x) → FitsPart G (content (parts x).0) (parts x).1
layer_refit F G D one (Value-F.Objects type xs) f d = (f.0, (f.1.0, (tt, all_refit F G D one xs f.1.1.1 d)))
layer_refit F G D one (Value-F.Collection kind xs) f d = (f.0, (f.1.0, all_refit F G D one xs f.1.1 d))
layer_refit F G D one (Value-F.Map kind ps) f d = (f.0, (f.1.0, pairs_refit F G D one ps f.1.1 d))
layer_refit F G D one (Value-F.Enums type xs) f d = (f.0, (f.1.0, (tt, all_refit F G D one xs f.1.1.1 d)))
layer_refit F G D one (Value-F.Object o) f d = record { head = f.head; few = f.few; fields = all_refit F G D one o.fields f.fields d }
layer_refit F G D one _ f d = f

pub fits_at_its_depth : FitsAtItsDepth
fits_at_its_depth zero n v f le = absurd f
fits_at_its_depth (suc m) zero v f le = absurd (omega (arith, Depth_out v))
fits_at_its_depth (suc m) (suc n) v f le =
    layer_refit (FitsTo m) (FitsTo n) (λ w. Depth w ≤ n) (λ w g d. fits_at_its_depth m n w g d) (out-Value v) f
    (all_greatest n (children (out-Value v)) (omega (arith, Depth_out v)))

pub fits_is_shallow : FitsIsShallow
fits_is_shallow levels v f = fits_depth levels v f
