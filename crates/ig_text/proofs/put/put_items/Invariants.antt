use Rattle.std.proofs.Common.{◌≡◌, ◌++◌, ◌∷◌, drop}
use Rattle.ig_text.specs.Tokens.{comma, until_text}
use Rattle.ig_text.proofs.put.put_items.Given as goal

abbrev pub invariant-loop-item : goal.invariant-loop-item
invariant-loop-item g l = l.out ++ until_text l.close (λ y. comma ∷ g.T.PutText.text y) (drop l.item-index l.rest) ≡ l.initial.out ++ until_text l.close (λ y. comma ∷ g.T.PutText.text y) l.rest
