use Rattle.std.proofs.Common.{rules, ◌≡◌, ℕ, ℤ, List, w32, to_z, of_z, sym, ap, ◌∙◌}
use Rattle.ig_text.specs.DescriptionText.{adjacent_at}
use Rattle.ig_text.specs.ReaderAnswers.{Fails}
use Rattle.ig_caches.specs.declared.request.Request.TheVariants as request
use Rattle.ig_text.proofs.ReadsLemmas.{done}
use Rattle.ig_lines.specs.Arguments.{page, argument_at}
use Rattle.ig_lines.specs.ReadLine.{ask_of_word}
use Rattle.ig_lines.specs.declared.line.LineAsk.TheVariants as asks
use Rattle.ig_lines.specs.declared.word.Word.TheVariants as word
use Rattle.ig_lines.proofs.AskLemmas.{asks_read, asks_stop, both_read, first_stops, second_stops, cache_id_at, scan_ids}
use Rattle.ig_lines.proofs.asks.scan.Goals as goal

pub returns-in_err-cache : goal.returns-in_err-cache
returns-in_err-cache c =
    let s : List ℕ = c.args.text.now in
    let fails : Fails c.in_err-cache.field-0.0 (ask_of_word word.Scan s) =
    asks_stop word.Scan (adjacent_at cache_id_at (argument_at page)) scan_ids s c.in_err-cache.field-0.0 (first_stops cache_id_at (argument_at page) s c.in_err-cache.field-0.0 c.in_err-cache.ensures) in
    search rules

pub returns-in_err-page : goal.returns-in_err-page
returns-in_err-page c =
    let s : List ℕ = c.args.text.now in
    let fails : Fails c.in_err-page.field-0.0 (ask_of_word word.Scan s) =
    asks_stop word.Scan (adjacent_at cache_id_at (argument_at page)) scan_ids s c.in_err-page.field-0.0
    (second_stops cache_id_at (argument_at page) s c.in_ok-cache.rest.now c.in_ok-cache.cache c.in_err-page.field-0.0 c.in_ok-cache.ensures c.in_err-page.ensures) in
    search rules

pub returns : goal.returns
returns c =
    let s : List ℕ = c.args.text.now in
    let rest : List ℕ = c.in_ok-page.rest.now in
    let id : to_z w32 (of_z w32 c.in_ok-cache.cache) ≡ c.in_ok-cache.cache = search rules in
    let size : to_z w32 (of_z w32 c.in_ok-page.page) ≡ c.in_ok-page.page = search rules in
    asks_read word.Scan (adjacent_at cache_id_at (argument_at page)) scan_ids s rest (c.in_ok-cache.cache, c.in_ok-page.page)
    (both_read cache_id_at (argument_at page) s c.in_ok-cache.rest.now rest c.in_ok-cache.cache c.in_ok-page.page c.in_ok-cache.ensures c.in_ok-page.ensures)
    ∙ ap (λ (i : ℤ). done (asks.Ask (request.Scan i c.in_ok-page.page), rest)) (sym id)
    ∙ ap (λ (n : ℤ). done (asks.Ask (request.Scan (to_z w32 (of_z w32 c.in_ok-cache.cache)) n), rest)) (sym size)
