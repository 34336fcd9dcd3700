use Rattle.std.proofs.Common.{sym, subst}
use Rattle.formula_assert.specs.Exactly.{AreExact}
use Rattle.formula_assert.specs.Tables.{AreTables}
use Rattle.search_tests.proofs.tests.library.outcome_of.Goals as goal

pub loop-formula-init : goal.loop-formula-init
loop-formula-init c = (
  subst AreTables (sym c.in_ok-stack.ensures) (c.tables_law.ensures.start 100 100),
  subst AreExact (sym c.in_ok-stack.ensures) (c.exactly_law.ensures.start 100 100),
)

pub loop-formula-preserved : goal.loop-formula-preserved
loop-formula-preserved c = (
  c.tables_law.ensures.asserted _ _ _ c.root-formula.ensures.formula c.loop-formula.invariant.0 c.in_ok-assert.ensures.ok,
  c.exactly_law.ensures.asserted _ _ _ c.loop-formula.invariant.0 c.loop-formula.invariant.1 c.in_ok-assert.ensures.ok,
)

pub check-requires : goal.check-requires
check-requires c = record { exact = c.loop-formula.invariant.1.present }
