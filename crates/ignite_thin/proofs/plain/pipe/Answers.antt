use Rattle.std.proofs.Common.{◌≡◌, ◌∙◌, List, [], ℕ, Option, map, string_bytes, refl, sym, ap, subst}
use Rattle.ig_caches.specs.PlainCaches.{PlainCaches, fresh_caches}
use Rattle.ig_caches.specs.Starts.{CanStart, IsStartFault}
use Rattle.ig_session.specs.StandsAlone.{StandsAlone}
use Rattle.ignite_thin.specs.Plain.{RunsPipe, RunsPipeWords}
use Rattle.ignite_thin.proofs.PlainLemmas.{named, not_started, pipe_none, pipe_runs}
use Rattle.ignite_thin.proofs.plain.pipe.Goals as goal

pub returns-in_default : goal.returns-in_default
returns-in_default g c = subst (λ (n : Option (List (List ℕ))). RunsPipe n (g.S.Source.source c.args.source.now) (g.S.Source.source c.args.source.now) (g.K.Sink.sink c.args.sink.now) (g.K.Sink.sink c.args.sink.now) 1) c.in_default.ensures
    (record { status_is = refl; source_is = refl; sink_is = refl })

pub returns-in_default-names_of : goal.returns-in_default-names_of
returns-in_default-names_of g c = named (map string_bytes c.args.words.now) (map string_bytes c.in-Some.names.now) (g.S.Source.source c.args.source.now) (g.S.Source.source c.args.source.now) (g.K.Sink.sink c.args.sink.now) (g.K.Sink.sink c.args.sink.now) 5 c.in-Some.ensures
    (pipe_none (map string_bytes c.in-Some.names.now) (g.S.Source.source c.args.source.now) (g.K.Sink.sink c.args.sink.now))

pub returns-in-Err : goal.returns-in-Err
returns-in-Err g c =
    let fault : IsStartFault (map string_bytes c.in-Some.names.now) c.in-Err.fault = subst (λ (n : List (List ℕ)). IsStartFault n c.in-Err.fault) c.in-Ok.ensures c.in-Err.ensures.fault in
    let runs = not_started (map string_bytes c.args.words.now) (map string_bytes c.in-Some.names.now) (g.S.Source.source c.args.source.now) (g.K.Sink.sink c.args.sink.now) c.in-Err.fault c.in-Some.ensures fault in
    subst (λ (n : ℕ). RunsPipeWords (map string_bytes c.args.words.now) (g.S.Source.source c.args.source.now) (g.S.Source.source c.args.source.now) (g.K.Sink.sink c.args.sink.now) (g.K.Sink.sink c.args.sink.now) n) (sym c.start_status.ensures) runs

-- contracts see shards as the plain caches that they are together
same : PlainCaches → PlainCaches
same c = c

pub returns-in-Ok-start : goal.returns-in-Ok-start
unfolding same
returns-in-Ok-start g c =
    let names : List (List ℕ) = map string_bytes c.in-Some.names.now in
    let stood : StandsAlone same c.new-caller.result (fresh_caches names) [] =
    subst (λ (start : PlainCaches). StandsAlone same c.new-caller.result start []) (c.in-Ok-start.ensures.fresh ∙ ap fresh_caches c.in-Ok.ensures) c.new-caller.ensures in
    let can : CanStart names = subst CanStart c.in-Ok.ensures c.in-Ok-start.ensures.starts in
    named (map string_bytes c.args.words.now) names (g.S.Source.source c.args.source.now) (g.S.Source.source c.serve_ends.new.source) (g.K.Sink.sink c.args.sink.now) (g.K.Sink.sink c.serve_ends.new.sink) c.end_status.result c.in-Some.ensures
    (pipe_runs same c.new-caller.result c.serve_ends.new.caller names (g.S.Source.source c.args.source.now) (g.S.Source.source c.serve_ends.new.source) (g.K.Sink.sink c.args.sink.now) (g.K.Sink.sink c.serve_ends.new.sink) c.serve_ends.result c.end_status.result stood can c.serve_ends.ensures.served c.end_status.ensures)
