-- The texts that refuse a hello.
use Rattle.std.specs.Prelude.{ℕ, List, codes}
use Rattle.ig_wire.specs.declared.hello.HelloFault.{HelloFault}
use Rattle.ig_wire.specs.declared.hello.HelloFault.TheVariants.{NotHello, Version, ClientCode, Credentials}

abbrev pub fault_text : HelloFault → List ℕ
fault_text (NotHello byte) = codes "not a handshake"
fault_text (Version version) = codes "unsupported version"
fault_text (ClientCode byte) = codes "unsupported client code"
fault_text (Credentials place) = codes "malformed handshake"
