use Rattle.std.proofs.Common.{sym, subst}
use Rattle.match_trees.specs.Index.{GrewEmpty}
use Rattle.match_trees.proofs.IndexLemmas.{grew_none, grew_more}
use Rattle.match_trees.proofs.index.grow.Goals as goal

pub loop-turn-init : goal.loop-turn-init
loop-turn-init c = grew_none c.args.lists.now.items

pub loop-turn-preserved : goal.loop-turn-preserved
loop-turn-preserved c = subst (GrewEmpty c.args.lists.now.items) (sym c.in_ok-push.ensures.items) (grew_more c.args.lists.now.items c.loop-turn.lists.items c.new.result c.new.ensures c.loop-turn.invariant)
