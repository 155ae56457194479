use Rattle.std.proofs.Common.{map, string_bytes, sym, subst, ◌∙◌}
use Rattle.std.specs.Prelude.{Bool}
use Rattle.ignite_thin.specs.Plain.{RunsCommand}
use Rattle.ignite_thin.proofs.DecodeLemmas.{runs_decode}
use Rattle.ignite_thin.proofs.plain.run_plain.Goals as goal

pub returns-then-is_decode : goal.returns-then-is_decode
returns-then-is_decode g c =
    subst (λ (b : Bool). RunsCommand b (map string_bytes c.args.words.now) (g.S.Source.source c.args.source.now) (g.S.Source.source c.decode.new.source) (g.K.Sink.sink c.args.sink.now) (g.K.Sink.sink c.decode.new.sink) c.decode_status.result)
    (sym c.if-is_decode.true ∙ c.is_decode.ensures)
    (runs_decode (g.S.Source.source c.args.source.now) (g.S.Source.source c.decode.new.source) (g.K.Sink.sink c.args.sink.now) (g.K.Sink.sink c.decode.new.sink) c.decode.result c.decode_status.result c.decode.ensures c.decode_status.ensures)

pub returns : goal.returns
returns g c =
    subst (λ (b : Bool). RunsCommand b (map string_bytes c.args.words.now) (g.S.Source.source c.args.source.now) (g.S.Source.source c.pipe.new.source) (g.K.Sink.sink c.args.sink.now) (g.K.Sink.sink c.pipe.new.sink) c.pipe.result)
    (sym c.if-is_decode.false ∙ c.is_decode.ensures) c.pipe.ensures
