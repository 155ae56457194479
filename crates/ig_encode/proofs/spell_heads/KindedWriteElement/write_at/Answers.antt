use Rattle.std.proofs.Common.{pos, length, ◌≡◌, ◌+◌, arith}
use Rattle.std.specs.Int.{w8, w32}
use Rattle.ig_base.specs.Numbers.{LE}
use Rattle.ig_encode.specs.HeadBytes.{wide_count}
use Rattle.ig_encode.proofs.OutputLemmas.{spliced_next}
use Rattle.ig_encode.proofs.spell_heads.KindedWriteElement.write_at.Goals as goal

pub returns : goal.returns
returns c =
    let four : length (LE w32 (pos c.args.self.now.items)) ≡ 4 = wide_count (record { items = c.args.self.now.items }) in
    spliced_next c.args.into.now c.args.at (c.args.at + 4) (LE w32 (pos c.args.self.now.items)) (LE w8 c.args.self.now.kind) c.write_count.new.into c.write_at.new.into
    (omega (arith, four, c.requires)) (omega (arith, four)) c.write_count.ensures c.write_at.ensures
