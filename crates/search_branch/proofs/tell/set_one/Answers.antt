use Rattle.std.proofs.Common.{ap}
use Rattle.formula_table.specs.Formulas.{Formulas}
use Rattle.search_values.specs.Kept.{given_of}
use Rattle.search_branch.proofs.LiteralLemmas.{tells_set}
use Rattle.search_branch.proofs.ToldLemmas.{set_is_other, known_is_leaf}
use Rattle.search_branch.proofs.tell.set_one.Goals as goal

pub returns-then-is_set-clause-tells : goal.returns-then-is_set-clause-tells
returns-then-is_set-clause-tells c =
    tells_set c.args.stack.now.graph.standing c.args.stack.now.formulas.nodes (given_of c.args.values.now) c.args.n
    c.requires.kinds c.value.result c.value.ensures
    (λ unset. set_is_other c.value.result c.is_set.result c.is_set.ensures c.if-is_set.true unset)

pub set_leaf-requires-clause-leaf : goal.set_leaf-requires-clause-leaf
set_leaf-requires-clause-leaf c =
    known_is_leaf c.args.stack.now.formulas.nodes (given_of c.args.values.now) c.graph.result.now.standing c.args.n
    c.node.result.now c.formulas.result.now.nodes c.leaf_truth-truth.result c.requires.kinds
    (ap (λ (formulas : Formulas). formulas.nodes) c.formulas.ensures) c.node.ensures c.leaf_truth-truth.ensures.truth
    (λ unset. set_is_other c.leaf_truth-truth.result c.is_set-2.result c.is_set-2.ensures c.if-is_set-2.true unset)
