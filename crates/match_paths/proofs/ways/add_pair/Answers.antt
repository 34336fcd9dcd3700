use Rattle.match_paths.proofs.PairLemmas.{pair_way, no_pair}
use Rattle.match_paths.proofs.ways.add_pair.Goals as goal

pub returns-in_ok-add_way-in-Some-clause-ok : goal.returns-in_ok-add_way-in-Some-clause-ok
returns-in_ok-add_way-in-Some-clause-ok c = pair_way c.args.number c.args.occurrence.now c.args.other.now c.args.nodes.now c.add_way.new.nodes c.args.entries.now c.add_way.new.entries c.in-Some.begin c.in-Some.ensures.some c.in_ok-add_way-in-Some.ensures.ok

pub returns-in-None-clause-ok : goal.returns-in-None-clause-ok
returns-in-None-clause-ok c = no_pair c.growth_law.ensures c.entry_law.ensures c.args.number c.args.occurrence.now c.args.other.now c.args.nodes.now c.args.entries.now c.len-nodes.ensures.trees c.len-entries.ensures.each c.in-None.ensures.none
