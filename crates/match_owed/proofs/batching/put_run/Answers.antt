use Rattle.std.proofs.Common.{length}
use Rattle.match_owed.proofs.BatchLemmas.{entries_below}
use Rattle.match_owed.proofs.batching.put_run.Goals as goal

pub claims_of-requires : goal.claims_of-requires
claims_of-requires c = entries_below c.args.asked.now c.args.at c.args.end c.in_ok-wanted.wanted (length c.args.forest.now.entries) c.requires.entries c.in_ok-wanted.ensures
