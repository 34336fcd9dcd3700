use Rattle.std.proofs.Common.{◌+◌, ◌∙◌}
use Rattle.smt_terms.specs.Cursor.{word_at, trees_from}
use Rattle.smt_terms.specs.Reading.{other_sort}
use Rattle.smt_terms.specs.Terms.{list_value}
use Rattle.smt_commands.specs.Commands.{other_sorts}
use Rattle.smt_commands.proofs.Sorts.{sorts_next, sorts_refused, sorts_of_token, sorts_of_list, weighs_token, weighs_list}
use Rattle.smt_commands.proofs.parts.other_sorts_at.Goals as goal

pub returns-in-Err : goal.returns-in-Err
returns-in-Err c draft =
    let trees = trees_from c.args.tree.now c.loop-sorts.at in
    let rest = trees_from c.args.tree.now (c.loop-sorts.at + 1) in
    sorts_refused (other_sort c.args.state.now c.args.missing trees) (other_sorts c.args.state.now c.args.missing trees) (other_sorts c.args.state.now c.args.missing rest) (sorts_of_token c.args.state.now c.args.missing trees rest (word_at c.args.tree.now c.loop-sorts.at) c.in-Token.ensures.is)
    c.in-Err.stop c.loop-sorts.sorts.items (other_sorts c.args.state.now c.args.missing (trees_from c.args.tree.now c.args.i)) draft (c.loop-sorts.invariant draft) (c.in-Err.ensures draft)

pub loop-sorts-smaller-in-Token : goal.loop-sorts-smaller-in-Token
loop-sorts-smaller-in-Token c = weighs_token c.args.tree.now (word_at c.args.tree.now c.loop-sorts.at) (trees_from c.args.tree.now c.loop-sorts.at) (trees_from c.args.tree.now (c.loop-sorts.at + 1)) c.in-Token.ensures.is

pub loop-sorts-preserved-in-Token : goal.loop-sorts-preserved-in-Token
loop-sorts-preserved-in-Token c draft =
    let trees = trees_from c.args.tree.now c.loop-sorts.at in
    let rest = trees_from c.args.tree.now (c.loop-sorts.at + 1) in
    sorts_next (other_sort c.args.state.now c.args.missing trees) (other_sorts c.args.state.now c.args.missing trees) (other_sorts c.args.state.now c.args.missing rest) (sorts_of_token c.args.state.now c.args.missing trees rest (word_at c.args.tree.now c.loop-sorts.at) c.in-Token.ensures.is)
    c.loop-sorts.sorts.items c.push.new.self.items c.in-Ok.sort draft (c.in-Ok.ensures draft) c.in_ok-push-in-Ok.ensures.items ∙ c.loop-sorts.invariant draft

pub returns-in-Err-other_sort_at : goal.returns-in-Err-other_sort_at
returns-in-Err-other_sort_at c draft =
    let trees = trees_from c.args.tree.now c.loop-sorts.at in
    let rest = trees_from c.args.tree.now c.in-List.after in
    let inner = trees_from c.args.tree.now (c.loop-sorts.at + 1) in
    sorts_refused (other_sort c.args.state.now c.args.missing trees) (other_sorts c.args.state.now c.args.missing trees) (other_sorts c.args.state.now c.args.missing rest) (sorts_of_list c.args.state.now c.args.missing trees rest inner (word_at c.args.tree.now c.loop-sorts.at) (list_value (word_at c.args.tree.now c.loop-sorts.at) inner) c.in-List.ensures.is)
    c.in-Err-other_sort_at.stop c.loop-sorts.sorts.items (other_sorts c.args.state.now c.args.missing (trees_from c.args.tree.now c.args.i)) draft (c.loop-sorts.invariant draft) (c.in-Err-other_sort_at.ensures draft)

pub loop-sorts-smaller : goal.loop-sorts-smaller
loop-sorts-smaller c =
    let inner = trees_from c.args.tree.now (c.loop-sorts.at + 1) in
    weighs_list c.args.tree.now (word_at c.args.tree.now c.loop-sorts.at) (list_value (word_at c.args.tree.now c.loop-sorts.at) inner) inner (trees_from c.args.tree.now c.loop-sorts.at) (trees_from c.args.tree.now c.in-List.after) c.in-List.ensures.is

pub loop-sorts-preserved : goal.loop-sorts-preserved
loop-sorts-preserved c draft =
    let trees = trees_from c.args.tree.now c.loop-sorts.at in
    let rest = trees_from c.args.tree.now c.in-List.after in
    let inner = trees_from c.args.tree.now (c.loop-sorts.at + 1) in
    sorts_next (other_sort c.args.state.now c.args.missing trees) (other_sorts c.args.state.now c.args.missing trees) (other_sorts c.args.state.now c.args.missing rest) (sorts_of_list c.args.state.now c.args.missing trees rest inner (word_at c.args.tree.now c.loop-sorts.at) (list_value (word_at c.args.tree.now c.loop-sorts.at) inner) c.in-List.ensures.is)
    c.loop-sorts.sorts.items c.push-in-Ok-other_sort_at.new.self.items c.in-Ok-other_sort_at.sort draft (c.in-Ok-other_sort_at.ensures draft) c.in_ok-push-in-Ok-other_sort_at.ensures.items ∙ c.loop-sorts.invariant draft
