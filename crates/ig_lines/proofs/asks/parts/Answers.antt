use Rattle.std.proofs.Common.{rules, ℕ, List}
use Rattle.ig_text.specs.ReaderAnswers.{Fails}
use Rattle.ig_lines.specs.ReadLine.{ask_of_word}
use Rattle.ig_lines.specs.declared.word.Word.TheVariants as word
use Rattle.ig_lines.proofs.AskLemmas.{asks_read, asks_stop, cache_id_at, all_at, parts_ids}
use Rattle.ig_lines.proofs.asks.parts.Goals as goal

pub returns-in_err-caches : goal.returns-in_err-caches
returns-in_err-caches c =
    let s : List ℕ = c.args.text.now in
    let fails : Fails c.in_err-caches.field-0.0 (ask_of_word word.Parts s) = asks_stop word.Parts (all_at cache_id_at) parts_ids s c.in_err-caches.field-0.0 c.in_err-caches.ensures in
    search rules

pub returns : goal.returns
returns c = asks_read word.Parts (all_at cache_id_at) parts_ids c.args.text.now c.in_ok-caches.rest.now c.in_ok-caches.caches c.in_ok-caches.ensures
