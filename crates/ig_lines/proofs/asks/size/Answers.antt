use Rattle.std.proofs.Common.{rules, ◌≡◌, ℕ, ℤ, List, w32, to_z, of_z, sym, ap, ◌∙◌}
use Rattle.ig_text.specs.DescriptionText.{adjacent_at}
use Rattle.ig_text.specs.ReaderAnswers.{Fails}
use Rattle.ig_caches.specs.declared.call.Call.TheVariants as calls
use Rattle.ig_text.proofs.ReadsLemmas.{done}
use Rattle.ig_lines.specs.Arguments.{small, argument_at}
use Rattle.ig_lines.specs.Commands.{run}
use Rattle.ig_lines.specs.ReadLine.{ask_of_word}
use Rattle.ig_lines.specs.declared.word.Word.TheVariants as word
use Rattle.ig_lines.proofs.AskLemmas.{asks_read, asks_stop, both_read, first_stops, second_stops, cache_id_at, all_at, size_ids}
use Rattle.ig_lines.proofs.asks.size.Goals as goal

pub returns-in_err-cache : goal.returns-in_err-cache
returns-in_err-cache c =
    let s : List ℕ = c.args.text.now in
    let fails : Fails c.in_err-cache.field-0.0 (ask_of_word word.Size s) =
    asks_stop word.Size (adjacent_at cache_id_at (all_at (argument_at small))) size_ids s c.in_err-cache.field-0.0 (first_stops cache_id_at (all_at (argument_at small)) s c.in_err-cache.field-0.0 c.in_err-cache.ensures) in
    search rules

pub returns-in_err-modes : goal.returns-in_err-modes
returns-in_err-modes c =
    let s : List ℕ = c.args.text.now in
    let fails : Fails c.in_err-modes.field-0.0 (ask_of_word word.Size s) =
    asks_stop word.Size (adjacent_at cache_id_at (all_at (argument_at small))) size_ids s c.in_err-modes.field-0.0
    (second_stops cache_id_at (all_at (argument_at small)) s c.in_ok-cache.rest.now c.in_ok-cache.cache c.in_err-modes.field-0.0 c.in_ok-cache.ensures c.in_err-modes.ensures) in
    search rules

pub returns : goal.returns
returns c =
    let s : List ℕ = c.args.text.now in
    let rest : List ℕ = c.in_ok-modes.rest.now in
    let id : to_z w32 (of_z w32 c.in_ok-cache.cache) ≡ c.in_ok-cache.cache = search rules in
    asks_read word.Size (adjacent_at cache_id_at (all_at (argument_at small))) size_ids s rest (c.in_ok-cache.cache, c.in_ok-modes.modes)
    (both_read cache_id_at (all_at (argument_at small)) s c.in_ok-cache.rest.now rest c.in_ok-cache.cache c.in_ok-modes.modes c.in_ok-cache.ensures c.in_ok-modes.ensures)
    ∙ ap (λ (l : List ℕ). done (run (calls.Size c.in_ok-cache.cache l), rest)) (sym (c.new-modes.ensures ∙ c.into_std.ensures))
    ∙ ap (λ (i : ℤ). done (run (calls.Size i c.new-modes.result), rest)) (sym id)
