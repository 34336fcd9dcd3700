use Rattle.std.proofs.Common.{◌≡◌, []}
use Rattle.formula_draft.specs.Draft.{Draft}
use Rattle.smt_terms.specs.Reading.{bindings_after}
use Rattle.smt_terms.specs.Cursor.{trees_from}
use Rattle.smt_terms.specs.Machine.{weight}
use Rattle.smt_terms.proofs.checks.check_names.Given as goal

-- what is left to check is the whole
abbrev pub invariant-loop-names : goal.invariant-loop-names
invariant-loop-names l = (draft : Draft) → bindings_after l.names (trees_from l.tree l.at) draft ≡ bindings_after [] (trees_from l.tree l.i) draft

abbrev pub decreases-loop-names : goal.decreases-loop-names
decreases-loop-names l = weight l.tree (trees_from l.tree l.at)
