use Rattle.ig_caches.proofs.ScanLemmas.{rows_stand, scans_whole}
use Rattle.ig_caches.proofs.laws.scans_are_whole.Goals as goal

pub returns : goal.returns
returns c = record { keyed = rows_stand; scans = scans_whole }
