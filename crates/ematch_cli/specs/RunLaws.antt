-- The laws of the crates below that a run stands on.
use Rattle.std.specs.Prelude.{◌≡◌, ◌≢◌, ℕ}
use Rattle.em_outside.specs.declared.limits.Limits.{Limits}
use Rattle.formula_draft.specs.Draft.{Formula, IsFormula}
use Rattle.formula_table.specs.declared.enter_fault.EnterFault.{EnterFault}
use Rattle.formula_table.specs.declared.enter_fault.EnterFault.TheVariants.{Memory}
use Rattle.formula_assert.specs.Assertions.{Assertions, no_assertions, pushed, popped}
use Rattle.formula_assert.specs.AssertFormula.{AssertsFormula, StopsAssert}
use Rattle.formula_assert.specs.Exactly.{AreExact}
use Rattle.formula_assert.specs.Tables.{AreTables}
use Rattle.smt_names.specs.Names.{at_start}
use Rattle.smt_commands.specs.SessionLaws.{IsSound, KeepsSound}
use Rattle.search_laws.specs.Laws.{HasOneVerdict}

-- the terms and the formulas stay tables
pub record StaysTables : Type 0 where
  pub starts : (terms nodes : ℕ) → AreTables (no_assertions terms nodes)
  pub opened : (now : Assertions) → AreTables now → AreTables (pushed now)
  pub ended : (now : Assertions) → AreTables now → AreTables (popped now)
  pub asserted : (formula : Formula) (before after : Assertions) → IsFormula formula → AreTables before →
      AssertsFormula formula before after → AreTables after

-- what is held stays exactly what is asserted
pub record StaysExact : Type 0 where
  pub starts : (terms nodes : ℕ) → AreExact (no_assertions terms nodes)
  pub opened : (now : Assertions) → AreExact now → AreExact (pushed now)
  pub ended : (now : Assertions) → AreExact now → AreExact (popped now)
  pub asserted : (formula : Formula) (before after : Assertions) → AreTables before → AreExact before →
      AssertsFormula formula before after → AreExact after

-- a formula is asserted in one way, and then not refused, and it is refused in one way, but for want of memory
pub record AssertsInOneWay : Type 0 where
  pub once : (formula : Formula) (before one other : Assertions) → IsFormula formula → AreTables before →
      AssertsFormula formula before one → AssertsFormula formula before other → one ≡ other
  pub not_both : (formula : Formula) (before one other : Assertions) (fault : EnterFault) → IsFormula formula →
      AreTables before → (fault ≢ Memory) → AssertsFormula formula before one →
      StopsAssert formula before other fault → ⊥
  pub alike : (formula : Formula) (before one other : Assertions) (fault also : EnterFault) → IsFormula formula →
      AreTables before → (fault ≢ Memory) → (also ≢ Memory) → StopsAssert formula before one fault →
      StopsAssert formula before other also → (fault ≡ also) × (one ≡ other)

-- sessions begin right and stay so, what is asserted stays made of tables and exact, a formula is asserted in one way,
-- and a search ends in one way
pub record RunLaws : Type 0 where
  pub starts : (limits : Limits) → IsSound (at_start limits)
  pub keeps : KeepsSound
  pub tables : StaysTables
  pub exact : StaysExact
  pub asserts : AssertsInOneWay
  pub verdict : HasOneVerdict
