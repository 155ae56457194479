use Rattle.std.proofs.Common.{◌≡◌, ◌<◌, ◌==◌, ℕ, true, false, [], Some, length, refl, ap, sym, ◌∙◌, inl, inr, arith}
use Rattle.std.proofs.Math.Nat.{eq-or-lt_of_le}
use Rattle.std.proofs.lemmas.Bool.Decides.{nat_tests}
use Rattle.std.proofs.lemmas.List.{nil_from_length}
use Rattle.std.proofs.lemmas.Option.{slice_get_read, slice_get_within}
use Rattle.std.specs.List.{slice_get}
use Rattle.ig_caches.proofs.start.first_empty.Goals as goal

pub returns-then-is_empty-clause-some : goal.returns-then-is_empty-clause-some
returns-then-is_empty-clause-some c =
    let test : true ≡ (length c.as_str.result.now == 0) = c.if-is_empty.ensures in
    let none : length c.as_str.result.now ≡ 0 = grind (arith, nat_tests) in
    let empty : c.index-names-at.result ≡ [] = sym c.as_str.ensures ∙ nil_from_length c.as_str.result.now none in
    record {
      here = slice_get_read c.args.names.now (length c.args.names.now) c.loop-at.at c.index-names-at.result refl c.loop-at-test.true c.index-names-at.is ∙ ap Some empty;
      none_before = c.loop-at.invariant;
    }

pub loop-at-preserved : goal.loop-at-preserved
loop-at-preserved c = λ k less is.
    let here : slice_get c.args.names.now c.loop-at.at ≡ Some c.index-names-at.result =
    slice_get_read c.args.names.now (length c.args.names.now) c.loop-at.at c.index-names-at.result refl c.loop-at-test.true c.index-names-at.is in
    elim (eq-or-lt_of_le {n = k} {m = c.loop-at.at} (omega (arith, less))) [
      | inl last ↦
          let one : Some c.index-names-at.result ≡ Some [] = sym here ∙ ap (slice_get c.args.names.now) (sym last) ∙ is in
          let empty : c.index-names-at.result ≡ [] = cc in
          let none : length c.as_str.result.now ≡ 0 = ap length (c.as_str.ensures ∙ empty) in
          let never : false ≡ true = c.if-is_empty.ensures ∙ ap (λ (n : ℕ). n == 0) none in
          cc
      | inr before ↦ c.loop-at.invariant k before is
    ]

pub returns-clause-none : goal.returns-clause-none
returns-clause-none c = λ k is.
    let within : k < length c.args.names.now = slice_get_within c.args.names.now k [] is in
    c.loop-at.invariant k (omega (arith, c.loop-at-test.false)) is
