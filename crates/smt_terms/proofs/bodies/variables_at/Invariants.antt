use Rattle.std.proofs.Common.{◌≡◌}
use Rattle.formula_draft.specs.Draft.{Draft}
use Rattle.smt_terms.specs.Terms.{variables_from}
use Rattle.smt_terms.specs.Cursor.{trees_from}
use Rattle.smt_terms.specs.Machine.{weight}
use Rattle.smt_terms.proofs.ForallLemmas.{behind_variables}
use Rattle.smt_terms.proofs.bodies.variables_at.Given as goal

-- the variables so far and those of the bindings that are left are those of all
abbrev pub invariant-loop-variables : goal.invariant-loop-variables
invariant-loop-variables l = (draft : Draft) → behind_variables l.variables.items (variables_from l.state l.index (trees_from l.tree l.at) draft) ≡ variables_from l.state 0 (trees_from l.tree l.i) draft

abbrev pub decreases-loop-variables : goal.decreases-loop-variables
decreases-loop-variables l = weight l.tree (trees_from l.tree l.at)
