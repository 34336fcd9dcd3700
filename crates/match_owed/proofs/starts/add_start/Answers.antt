use Rattle.match_owed.specs.Starts.{lists}
use Rattle.match_owed.proofs.starts.add_start.Goals as goal

pub returns-in_ok-push-in-Some-clause-ok : goal.returns-in_ok-push-in-Some-clause-ok
returns-in_ok-push-in-Some-clause-ok c = lists c.in-Some.ensures.some c.in_ok-push-in-Some.ensures.ok
