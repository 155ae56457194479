use Rattle.std.proofs.Common.{◌≡◌, true, ℕ, List, ◌++◌, [], ◌∷◌, cond, ap, sym, subst, ◌∙◌}
use Rattle.std.proofs.lemmas.Bool.{cond-true}
use Rattle.std.proofs.lemmas.List.{append_assoc}
use Rattle.ig_value.specs.Canon.{Canon}
use Rattle.ig_caches.specs.declared.call.Pair.{Pair}
use Rattle.ig_caches.specs.Reserved.{has_key}
use Rattle.ig_caches.specs.Rows.{Rows, has_row, with_row, with_rows}
use Rattle.ig_caches.proofs.ReserveLemmas.{named_in, written_keeps}
use Rattle.ig_shards.proofs.MarkLemmas.{written_push}
use Rattle.ig_shards.proofs.spread_rows.SpreadRows.write_all.Goals as goal

pub loop-pair-preserved : goal.loop-pair-preserved
loop-pair-preserved c =
    let pair : Pair = c.in-Some.pair in
    let before : List Pair = c.loop-pair.yielded in
    let old : Rows = c.args.self.now.1 in
    let now : Rows = with_rows old before in
    let all : before ++ pair ∷ c.next.new.self.rest.items ≡ c.args.pairs.items = ap (λ (ps : List Pair). before ++ ps) (sym c.in-Some.ensures.steps.0) ∙ c.loop-pair.invariant.items in
    let named : has_key c.args.pairs.items (Canon pair.key) ≡ true = subst (λ (ps : List Pair). has_key ps (Canon pair.key) ≡ true) all (named_in before c.next.new.self.rest.items pair) in
    let there : has_row now pair.key ≡ true = written_keeps before old (Canon pair.key) (c.requires.stand (Canon pair.key) named) in
    record {
      rows = c.replace.ensures ∙ ap (λ (v : ℕ × Rows). (v.0, cond (has_row v.1 pair.key) (with_row v.1 pair) v.1)) c.loop-pair.invariant.rows
          ∙ ap (λ (r : Rows). (c.args.self.now.0, r)) (cond-true (has_row now pair.key) (with_row now pair) now there ∙ sym (written_push before pair old));
      items = append_assoc before (pair ∷ []) c.next.new.self.rest.items ∙ all;
    }
