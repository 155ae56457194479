use Rattle.std.proofs.Common.{rules}
use Rattle.ig_turn.proofs.CallLemmas.{commits_call}
use Rattle.ig_turn.proofs.desk.Desk.commit.Goals as goal

pub fetch_add-requires : goal.fetch_add-requires
fetch_add-requires g c = (search rules, search rules, commits_call _ _ _ _ _ _ _ _ _ _ c.requires.holds.0 c.requires.holds.1 c.requires.holds.2 c.requires.made)

pub returns-clause-committed : goal.returns-clause-committed
returns-clause-committed g c = (c.fetch_add.ensures.2 _ _ _ _ c.requires.holds.0 c.requires.made).0

pub returns-clause-whole : goal.returns-clause-whole
returns-clause-whole g c = (c.fetch_add.ensures.2 _ _ _ _ c.requires.holds.0 c.requires.made).1
