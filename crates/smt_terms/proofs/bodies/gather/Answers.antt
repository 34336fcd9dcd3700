use Rattle.std.proofs.Common.{◌+◌}
use Rattle.smt_terms.specs.Cursor.{word_at, trees_from}
use Rattle.smt_terms.proofs.CheckLemmas.{weighs_token, weighs_list}
use Rattle.smt_terms.proofs.bodies.gather.Goals as goal

pub loop-patterns-smaller-in-Token : goal.loop-patterns-smaller-in-Token
loop-patterns-smaller-in-Token c = weighs_token c.args.tree.now (word_at c.args.tree.now c.loop-patterns.at) (trees_from c.args.tree.now c.loop-patterns.at) (trees_from c.args.tree.now (c.loop-patterns.at + 1)) c.in-Token.ensures.is

pub loop-patterns-smaller : goal.loop-patterns-smaller
loop-patterns-smaller c = weighs_list c.args.tree.now (word_at c.args.tree.now c.loop-patterns.at) _ (trees_from c.args.tree.now (c.loop-patterns.at + 1)) (trees_from c.args.tree.now c.loop-patterns.at) (trees_from c.args.tree.now c.in-List.after) c.in-List.ensures.is
