use Rattle.std.proofs.Common.{◌∙◌, ap, List, ℕ, ◌++◌, sym, refl}
use Rattle.ig_wire.specs.Heads.{head_bytes, head_of}
use Rattle.ig_wire.specs.declared.head.ReplyHead.{ReplyHead}
use Rattle.ig_wire.proofs.AgreeLemmas.{ok_is}
use Rattle.ig_wire.proofs.HeadLemmas.{head_read}
use Rattle.ig_wire.proofs.laws.one_head.Goals as goal

pub returns-clause-written : goal.returns-clause-written
returns-clause-written c v head rest is = (head_read v).again (head_bytes v head) head rest (is, refl)

pub returns-clause-spelled : goal.returns-clause-spelled
returns-clause-spelled c v body rest head bytes e =
    let t = (head_read v).takes body head rest bytes e in
    (t.right.0, t.whole ∙ ap (λ (l : List ℕ). l ++ rest) t.right.1)

abbrev beside : ReplyHead → List ℕ → ReplyHead × List ℕ
beside head rest = (head, rest)

pub returns-clause-apart : goal.returns-clause-apart
returns-clause-apart c v a b x y is_a is_b e =
    let first = (head_read v).again (head_bytes v a) a x (is_a, refl) in
    let second = (head_read v).again (head_bytes v b) b y (is_b, refl) in
    let same = ok_is (beside a x) (beside b y) (sym first ∙ ap (head_of v) e ∙ second) in
    (ap (λ (z : ReplyHead × List ℕ). z.0) same, ap (λ (z : ReplyHead × List ℕ). z.1) same)

pub returns-clause-stops : goal.returns-clause-stops
returns-clause-stops c v body left bytes e = let h = (head_read v).halts body left bytes e in (h.at, h.there, h.wrong)

pub returns-clause-stopped : goal.returns-clause-stopped
returns-clause-stopped c v body at w = let h = (head_read v).halted body at w in (h.left, h.there, h.is)
