use Rattle.std.proofs.Common.{◌≡◌, ℕ, suc, List, ◌∷◌, map, refl, sym, ap, ◌∙◌}
use Rattle.ig_encode.specs.declared.measure.Measure.{Measure}
use Rattle.ig_encode.specs.declared.span.Span.{Span}
use Rattle.ig_base.specs.Headers.{header_bytes}
use Rattle.ig_value.specs.Canon.{Canon}
use Rattle.ig_encode.specs.MeasureOutput.{measure_after, count_after, hashing_start}
use Rattle.ig_encode.specs.Spans.{span_of, canonical_header}
use Rattle.ig_encode.proofs.SpanLemmas.{only_counted, header_len, fresh_hashing}
use Rattle.ig_encode.proofs.object.measure_header.Goals as goal

pub returns-in-None : goal.returns-in-None
returns-in-None c =
    let head = header_bytes (canonical_header c.args.object.now.bits c.args.object.now.type_id c.args.object.now.shape (map Canon c.args.object.now.fields)) in
    only_counted c.args.out.now (record { length = c.count_more.new.length; digest = c.args.out.now.digest }) (103 ∷ head) c.in-None.is
    (c.count_more.ensures ∙ ap (λ n. count_after c.args.out.now.length (suc n)) (sym (header_len (canonical_header c.args.object.now.bits c.args.object.now.type_id c.args.object.now.shape (map Canon c.args.object.now.fields))))) refl

pub header_of-header-requires : goal.header_of-header-requires
header_of-header-requires c =
    let is : c.args.span.now ≡ span_of hashing_start c.args.object.now.shape c.args.object.now.fields =
    c.requires ∙ ap (λ (m : Measure). span_of m c.args.object.now.shape c.args.object.now.fields) (fresh_hashing c.args.out.now _ c.in-Some.is) in
    record { fields = ap (λ (z : Span). z.fields) is; width = ap (λ (z : Span). z.last.width) is }

pub returns-in-Some : goal.returns-in-Some
returns-in-Some c =
    ap (λ (t : Measure × List ℕ). t.0) c.put_header.ensures ∙ ap (λ (l : List ℕ). measure_after c.args.out.now (103 ∷ l)) c.header_of-header.ensures
