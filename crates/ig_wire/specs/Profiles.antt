-- The texts that refuse a request for what isn't served.
use Rattle.std.specs.Prelude.{ℕ, List, codes}
use Rattle.ig_wire.specs.declared.ask.Profile.{Profile}
use Rattle.ig_wire.specs.declared.ask.Profile.TheVariants.{NullItem, EmptyName, Filter, PageSize, Partition}

abbrev pub profile_text : Profile → List ℕ
profile_text NullItem = codes "null key or value"
profile_text EmptyName = codes "empty cache name"
profile_text Filter = codes "filter not supported"
profile_text PageSize = codes "page size below 1"
profile_text Partition = codes "partition scan not supported"
