use Rattle.std.proofs.Common.{◌≡◌, ◌++◌, List, ℕ, ap, ◌∙◌, w64}
use Rattle.std.specs.Int.{to_be_bytes}
use Rattle.std.proofs.lemmas.Result.{on_ok_weaker}
use Rattle.ig_text.specs.Tokens.{groups_text}
use Rattle.ig_text.proofs.put.NodeIdPutText.put.Goals as goal

pub returns : goal.returns
returns c =
    on_ok_weaker c.put_uuid.result
    (λ e. e ∙ ap (λ (l : List ℕ). c.args.out.now ++ l) (ap (λ (l : List ℕ). groups_text l c.to_be_bytes-2.result) c.to_be_bytes.ensures
    ∙ ap (λ (l : List ℕ). groups_text (to_be_bytes w64 c.args.self.now.most) l) c.to_be_bytes-2.ensures)) c.put_uuid.ensures
