use Rattle.formula_tests.proofs.TestLemmas.{constant_formula}
use Rattle.formula_tests.proofs.tests.entry.atom.Goals as goal

pub finish-requires : goal.finish-requires
finish-requires c = constant_formula c.in_ok-args.args c.new-draft.result c.row.new.self c.node.new.self c.in_ok-row.row c.in_ok-root.root c.in_ok-args.ensures c.new-draft.ensures c.in_ok-row.ensures.ok c.in_ok-root.ensures.ok
