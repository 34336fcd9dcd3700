use Rattle.std.proofs.Common.{rules, None, Some, ◌<◌, ◌^◌, ◌∙◌, ap, sym}
use Rattle.std.proofs.lemmas.Option.{slice_get-get_or}
use Rattle.match_trees.specs.Trees.{IsRoot}
use Rattle.match_trees.proofs.NodeLemmas.{place_small, not_passed}
use Rattle.match_trees.proofs.node_table.NodeTable.root_number.Goals as goal

pub overflow_cast-result : goal.overflow_cast-result
overflow_cast-result g c =
    let few : c.loop-number.number < 2 ^ 32 = place_small c.args.self.now None c.nexts-other-items.result.now c.loop-number.number c.len-len.ensures.trees c.len-len.ensures.few c.nexts-other-items.ensures.exact c.loop-number-test.true in
    search rules

pub returns-then-other-root : goal.returns-then-other-root
returns-then-other-root g c = (c.nexts-other-items.result.now, c.nexts-other-items.ensures.exact, sym (slice_get-get_or c.nexts-other-items.result.now c.loop-number.number 0 c.loop-number-test.true ∙ ap Some c.if-other-root.true))

pub unreachable-requires : goal.unreachable-requires
unreachable-requires g c = not_passed (IsRoot c.args.self.now) c.nexts-other-items.result.now c.args.root c.loop-number.number c.nexts-other-items.ensures.exact c.requires c.loop-number-test.false c.loop-number.invariant
