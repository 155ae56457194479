use Rattle.std.proofs.Common.{◌≡◌, ◌<◌, ◌++◌, ◌+◌, ℕ, List, [], ◌∷◌, length, vec_len, ap, ap₂, sym, subst, ◌∙◌, rules, arith}
use Rattle.std.proofs.Math.Numerals.{suc-eq-add-one}
use Rattle.std.proofs.lemmas.List.{map_push, length-map}
use Rattle.ig_caches.specs.Starts.{CanStart}
use Rattle.ig_shards.specs.declared.shard_rows.ShardRows.{ShardRows}
use Rattle.ig_shards.specs.Parts.{Part, together, AreAll}
use Rattle.ig_shards.specs.PartView.{part_of, parts_of}
use Rattle.ig_shards.proofs.FreshLemmas.{fresh_part, fresh_parts, fresh_push, fresh_length, fresh_together, all_fresh}
use Rattle.ig_shards.proofs.shards.Shards.start.Goals as goal

pub loop-number-init : goal.loop-number-init
loop-number-init c = record {
  names = search rules;
  can = λ some. absurd (omega (arith, some));
  made = search rules;
}

pub loop-number-preserved : goal.loop-number-preserved
loop-number-preserved c =
    let names : List (List ℕ) = c.args.names.items in
    let shards : ℕ = c.args.shards in
    let number : ℕ = c.loop-number.number in
    let next : number ≡ 0 + number = omega arith in
    let is : c.new-names.result ≡ names = c.new-names.ensures in
    let part : part_of c.in_ok-part.part ≡ fresh_part names shards number =
    c.in_ok-part.ensures.fresh ∙ ap (λ (ns : List (List ℕ)). fresh_part ns shards number) is in
    record {
      names = c.loop-number.invariant.names;
      can = λ some. subst CanStart is c.in_ok-part.ensures.starts;
      made = ap parts_of c.in-Ok.ensures.items ∙ map_push part_of c.loop-number.parts.items c.in_ok-part.part
          ∙ ap₂ (λ (ps : List Part) (p : Part). ps ++ p ∷ []) c.loop-number.invariant.made (part ∙ ap (fresh_part names shards) next)
          ∙ fresh_push names shards 0 number ∙ ap (fresh_parts names shards 0) (suc-eq-add-one number);
    }

pub invariant_of-result : goal.invariant_of-result
invariant_of-result c =
    let names : List (List ℕ) = c.args.names.items in
    let shards : ℕ = c.args.shards in
    let items : List ShardRows = c.loop-number.parts.items in
    let all : c.loop-number.number ≡ shards = omega (arith, c.loop-number-test.false, c.loop-number.auto.number-end) in
    let made : parts_of items ≡ fresh_parts names shards 0 shards = c.loop-number.invariant.made ∙ ap (fresh_parts names shards 0) all in
    let counted : vec_len c.loop-number.parts ≡ length items = search rules in
    let count : vec_len c.loop-number.parts ≡ shards =
    counted ∙ sym (length-map items part_of) ∙ ap length made ∙ fresh_length names shards 0 shards in
    subst (λ (n : ℕ). AreAll n (parts_of items)) (sym count)
    (subst (AreAll shards) (sym made) (all_fresh names shards c.requires.some c.requires.few))

pub returns-clause-starts : goal.returns-clause-starts
returns-clause-starts c =
    let some : 0 < c.loop-number.number = omega (arith, c.loop-number-test.false, c.requires.some) in
    c.loop-number.invariant.can some

pub returns-clause-fresh : goal.returns-clause-fresh
returns-clause-fresh c =
    let names : List (List ℕ) = c.args.names.items in
    let shards : ℕ = c.args.shards in
    let all : c.loop-number.number ≡ shards = omega (arith, c.loop-number-test.false, c.loop-number.auto.number-end) in
    ap together (c.loop-number.invariant.made ∙ ap (fresh_parts names shards 0) all) ∙ fresh_together names shards c.requires.some
