use Rattle.std.proofs.Common.{◌≡◌, ℕ, List, get_or, set, sym, ap, subst}
use Rattle.ig_caches.specs.declared.call.Call.{Call}
use Rattle.ig_caches.specs.declared.call.Call.TheVariants.{Names}
use Rattle.ig_caches.specs.RunsOn.{RunsOn}
use Rattle.ig_shards.specs.declared.shard_rows.ShardRows.{ShardRows}
use Rattle.ig_shards.specs.declared.touch.Touched.{Touched}
use Rattle.ig_shards.specs.declared.touch.Touched.TheVariants as touched
use Rattle.ig_shards.specs.Touches.{touches}
use Rattle.ig_shards.specs.Parts.{together, AreAll}
use Rattle.ig_shards.specs.PartView.{part_of, parts_of}
use Rattle.ig_shards.specs.RunsOnParts.{AreThose, AreTouched}
use Rattle.ig_shards.proofs.CreationLemmas.{names_in_all}
use Rattle.ig_shards.proofs.FirstLemmas.{run_first}
use Rattle.ig_shards.proofs.OneShardLemmas.{several_all, needs_all, run_one}
use Rattle.ig_shards.proofs.run.run_on.Goals as goal

pub returns-in-Names : goal.returns-in-Names
returns-in-Names c =
    let old : List ShardRows = c.args.parts.now in
    let first : ShardRows = get_or old 0 c.index-parts-0.result in
    let at : first ≡ get_or old 0 first = ap (get_or old 0) c.index-parts-0.is in
    let left : List ShardRows = set old 0 c.run.new.self in
    let all : (shards : ℕ) → AreTouched shards c.args.call (parts_of old) → AreAll shards (parts_of old) =
    λ shards those. subst (λ (call : Call). AreTouched shards call (parts_of old)) c.in-Names.is those in
    let ran : RunsOn Names (together (parts_of old)) c.run.result (together (parts_of left)) × (parts_of left ≡ parts_of old) =
    run_first c.requires.touched.0 old first (all c.requires.touched.0 c.requires.touched.1) at Names c.run.new.self c.run.result c.run.ensures.number c.run.ensures.shards c.run.ensures.runs
    (λ like rest alike. names_in_all (part_of first) rest) in
    record {
      runs = subst (λ (call : Call). RunsOn call (together (parts_of old)) c.run.result (together (parts_of left))) (sym c.in-Names.is) ran.0;
      touched = λ shards those. subst (λ (call : Call). AreTouched shards call (parts_of left)) (sym c.in-Names.is) (subst (AreAll shards) (sym ran.1) (all shards those));
    }

pub returns-in-Some : goal.returns-in-Some
returns-in-Some c = record {
  runs = c.run_on_rows.ensures.runs;
  touched = λ shards those.
      let all : touches c.args.call shards ≡ touched.All = several_all c.args.call shards c.in-Some.ensures.some.0 in
      subst (λ (t : Touched). AreThose shards t (parts_of c.run_on_rows.new.parts)) (sym all)
      (c.run_on_rows.ensures.all shards (subst (λ (t : Touched). AreThose shards t (parts_of c.args.parts.now)) all those));
}

pub returns-in-None : goal.returns-in-None
returns-in-None c =
    let old : List ShardRows = c.args.parts.now in
    let first : ShardRows = get_or old 0 c.index-parts-0-in-None.result in
    let at : first ≡ get_or old 0 first = ap (get_or old 0) c.index-parts-0-in-None.is in
    let left : List ShardRows = set old 0 c.run-in-None.new.self in
    let one : (shards : ℕ) → touches c.args.call shards ≡ touched.All → ⊥ =
    λ shards. needs_all c.args.call shards c.in-None.ensures.none c.in_default.not-Names c.in_default.not-Create c.in_default.not-GetOrCreate c.in_default.not-Destroy in
    let ran : (shards : ℕ) → AreTouched shards c.args.call (parts_of old)
    → RunsOn c.args.call (together (parts_of old)) c.run-in-None.result (together (parts_of left)) × AreTouched shards c.args.call (parts_of left) =
    λ shards those. run_one shards first c.run-in-None.new.self c.args.call c.run-in-None.result c.run-in-None.ensures.number c.run-in-None.ensures.shards c.run-in-None.ensures.runs old at (one shards) those in
    record { runs = (ran c.requires.touched.0 c.requires.touched.1).0; touched = λ shards those. (ran shards those).1 }
