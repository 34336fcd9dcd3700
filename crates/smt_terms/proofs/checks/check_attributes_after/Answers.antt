use Rattle.std.proofs.Common.{◌+◌}
use Rattle.smt_terms.specs.Cursor.{word_at, trees_from}
use Rattle.smt_terms.proofs.CheckLemmas.{weighs_token, weighs_list}
use Rattle.smt_terms.proofs.checks.check_attributes_after.Goals as goal

pub loop-valued-smaller-in-Token : goal.loop-valued-smaller-in-Token
loop-valued-smaller-in-Token c = weighs_token c.args.tree.now (word_at c.args.tree.now c.loop-valued.at) (trees_from c.args.tree.now c.loop-valued.at) (trees_from c.args.tree.now (c.loop-valued.at + 1)) c.in-Token.ensures.is

pub loop-valued-smaller : goal.loop-valued-smaller
loop-valued-smaller c = weighs_list c.args.tree.now (word_at c.args.tree.now c.loop-valued.at) _ (trees_from c.args.tree.now (c.loop-valued.at + 1)) (trees_from c.args.tree.now c.loop-valued.at) (trees_from c.args.tree.now c.in-List.after) c.in-List.ensures.is
