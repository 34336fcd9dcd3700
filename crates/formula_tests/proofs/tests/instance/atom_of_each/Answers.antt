use Rattle.formula_tests.proofs.EachLemmas.{each_formula}
use Rattle.formula_tests.proofs.tests.instance.atom_of_each.Goals as goal

pub finish-requires : goal.finish-requires
finish-requires c = each_formula c.new-draft.result c.row.new.self c.row-2.new.self c.node.new.self c.forall.new.self c.node-2.new.self c.in_ok-x.x c.in_ok-row.row c.in_ok-body.body c.in_ok-index.index c.in_ok-root.root c.in_ok-args.args c.new-triggers.result
    c.new-draft.ensures c.in_ok-x.ensures.ok c.in_ok-args.ensures c.in_ok-row.ensures.ok c.in_ok-body.ensures.ok c.new-triggers.ensures c.in_ok-index.ensures.number c.in_ok-index.ensures.ok c.in_ok-root.ensures.ok
