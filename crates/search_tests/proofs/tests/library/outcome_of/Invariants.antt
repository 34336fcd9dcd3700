use Rattle.formula_assert.specs.Tables.{AreTables}
use Rattle.formula_assert.specs.Exactly.{AreExact}
use Rattle.search_tests.proofs.tests.library.outcome_of.Given as goal

abbrev pub invariant-loop-formula : goal.invariant-loop-formula
invariant-loop-formula l = AreTables l.stack × AreExact l.stack
