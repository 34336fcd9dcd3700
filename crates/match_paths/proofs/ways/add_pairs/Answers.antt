use Rattle.match_paths.proofs.PairLemmas.{pairs_none, pairs_next, pairs_all}
use Rattle.match_paths.proofs.ways.add_pairs.Goals as goal

pub loop-j-init : goal.loop-j-init
loop-j-init c = pairs_none c.args.number c.args.all.now c.args.occurrence.now c.growth_law.ensures c.entry_law.ensures c.args.nodes.now c.args.entries.now c.len-nodes.ensures.trees c.len-entries.ensures.each

pub loop-j-preserved : goal.loop-j-preserved
loop-j-preserved c = pairs_next c.args.number c.args.all.now c.args.occurrence.now c.growth_law.ensures c.entry_law.ensures c.loop-j.j c.occurrence_at.result.now c.args.nodes.now c.loop-j.nodes c.add_pair.new.nodes c.args.entries.now c.loop-j.entries c.add_pair.new.entries c.occurrence_at.ensures c.len-same.ensures.each c.loop-j.invariant c.in_ok-add_pair.ensures.ok

pub returns-clause-ok : goal.returns-clause-ok
returns-clause-ok c = pairs_all c.args.number c.args.all.now c.args.occurrence.now c.loop-j.j c.args.nodes.now c.loop-j.nodes c.args.entries.now c.loop-j.entries c.loop-j-test.false c.loop-j.invariant
