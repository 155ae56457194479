use Rattle.ig_value.specs.Table.{byte_of}
use Rattle.ig_value.specs.Canon.{optional_bytes}
use Rattle.ig_encode.proofs.MarkLemmas.{items_resumed}
use Rattle.ig_encode.proofs.items.put_from.Goals as goal

pub returns : goal.returns
returns g c = λ byte.
    items_resumed (optional_bytes (byte_of c.args.inner) g.T.Spell.bytes) byte c.args.parts.now c.args.step c.args.out.now c.args.into.now (c.put_each_optional.new.out, c.put_each_optional.new.into) c.requires c.put_each_optional.ensures
