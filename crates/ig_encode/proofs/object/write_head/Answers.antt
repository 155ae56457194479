use Rattle.std.proofs.Common.{List, ℕ, ◌∷◌, ap, ◌∙◌, arith}
use Rattle.ig_base.specs.Headers.{header_bytes}
use Rattle.ig_encode.specs.declared.window.Window.{Window}
use Rattle.ig_encode.specs.WindowOutput.{window_after}
use Rattle.ig_encode.proofs.ExtentLemmas.{filled_whole, from_start}
use Rattle.ig_encode.proofs.SpanLemmas.{header_len}
use Rattle.ig_encode.proofs.object.write_head.Goals as goal

pub returns : goal.returns
returns c =
    let header = c.header_of.result in
    ap (λ (t : Window × List ℕ). t.1) c.put_header.ensures
    ∙ ap (λ (w : Window). (window_after w c.args.head.now (103 ∷ header_bytes header)).1) (from_start c.from-window.result c.from-window.ensures.skip c.from-window.ensures.filled)
    ∙ filled_whole c.args.head.now (103 ∷ header_bytes header) (omega (arith, header_len header, c.requires.room)) ∙ ap (λ (l : List ℕ). 103 ∷ l) c.header_of.ensures
