use Rattle.std.proofs.Common.{◌≡◌, ◌<◌, ◌≢◌, ◌∙◌, length, string_bytes, sym, arith}
use Rattle.std.proofs.lemmas.Bool.{eqb-false}
use Rattle.ignite_thin.proofs.WordsLemmas.{are_names_each}
use Rattle.ignite_thin.proofs.words.are_cache_names.Goals as goal

pub returns : goal.returns
returns c =
    let some = eqb-false (length c.args.words.now) 0 (sym c.is_empty.ensures ∙ c.if-is_empty.false) in
    c.each_is_name.ensures ∙ sym (are_names_each string_bytes c.args.words.now (omega (arith, some)) (omega (arith, c.if-words-gt-NAMES.false)))
