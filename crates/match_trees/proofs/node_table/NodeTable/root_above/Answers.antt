use Rattle.match_trees.proofs.NodeLemmas.{path_none, path_up, above_within}
use Rattle.match_trees.proofs.node_table.NodeTable.root_above.Goals as goal

pub loop-above-init : goal.loop-above-init
loop-above-init g c = record { within = c.requires; path = path_none c.args.self.now c.args.node c.requires }

pub loop-above-preserved : goal.loop-above-preserved
loop-above-preserved g c = record {
  within = above_within c.args.self.now c.in-Some.above c.loop-above.top c.len-len.ensures.trees c.in-Some.ensures;
  path = path_up c.args.self.now c.in-Some.above c.loop-above.top c.args.node c.loop-above.invariant.path.0 c.len-len.ensures.trees c.in-Some.ensures c.loop-above.invariant.path.1;
}

pub loop-above-smaller : goal.loop-above-smaller
loop-above-smaller g c = c.len-len.ensures.trees.later c.in-Some.above c.loop-above.top c.in-Some.ensures
