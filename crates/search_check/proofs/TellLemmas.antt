-- What a verdict tells of finite assignments.
use Rattle.std.proofs.Common.{ℕ, length, Ok, Err}
use Rattle.std.specs.Prelude.{Result, IfOk}
use Rattle.graph_terms.specs.Terms.{IsTable}
use Rattle.graph_meaning.specs.Standing.{terms_of}
use Rattle.formula_table.specs.Formulas.{Formulas}
use Rattle.formula_assert.specs.Held.{Held}
use Rattle.formula_assert.specs.Exactly.{HoldsExactly}
use Rattle.formula_assert.specs.Stands.{IsTableOver}
use Rattle.search_laws.specs.Laws.{IsInOrder, UnsatRefutes, SatSatisfies}
use Rattle.search_check.specs.declared.outcome.Outcome.{Outcome}
use Rattle.search_check.specs.declared.outcome.Outcome.TheVariants.{Unsat, Sat, Unknown}
use Rattle.search_check.specs.Verdicts.{IsVerdictOf, TellsOfAssignments}

module _ (formulas : Formulas) (now : Held) (terms : IsTable (terms_of now.graph.standing))
    (over : IsTableOver (length (terms_of now.graph.standing)) formulas)
    (unsat_refutes : UnsatRefutes) (sat_satisfies : SatSatisfies) where
  in_order : HoldsExactly formulas now → IsInOrder formulas now
  in_order exactly = record { terms = terms; table = over.table; stand = over.terms; exactly = exactly }

  pub told : (rounds : ℕ) (outcome : Outcome) → IsVerdictOf rounds formulas now outcome →
      HoldsExactly formulas now → TellsOfAssignments formulas now outcome
  told rounds Unsat verdict exactly = unsat_refutes rounds formulas now (in_order exactly) verdict
  told rounds (Sat kept) verdict exactly = λ predicates sorts.
      let way = sat_satisfies rounds formulas now verdict.0 kept.leaders predicates (in_order exactly) verdict.1
      verdict.2.0 sorts in
      (way.assigns, λ n asserted. way.satisfies n (way.among n asserted))
  told rounds (Unknown why kept) verdict exactly = tt

  pub told_of : {E : Type 0} (rounds : ℕ) (result : Result Outcome E) → HoldsExactly formulas now →
      IfOk result (IsVerdictOf rounds formulas now) → IfOk result (TellsOfAssignments formulas now)
  told_of rounds (Ok outcome) exactly verdict = told rounds outcome verdict exactly
  told_of rounds (Err refused) exactly verdict = tt
