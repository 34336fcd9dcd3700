use Rattle.std.proofs.Common.{List}
use Rattle.match_owed.proofs.DischargeLemmas.{takes_list}
use Rattle.match_owed.proofs.owed.discharge_list.Goals as goal

pub returns : goal.returns
returns c = takes_list c.args.mark c.args.lists.now c.args.at c.list_at.result.now c.args.log.now c.discharge_claims.new.log c.list_at.ensures c.discharge_claims.ensures
