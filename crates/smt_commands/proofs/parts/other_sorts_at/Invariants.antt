use Rattle.std.proofs.Common.{◌≡◌}
use Rattle.formula_draft.specs.Draft.{Draft}
use Rattle.smt_terms.specs.Cursor.{trees_from}
use Rattle.smt_terms.specs.Machine.{weight}
use Rattle.smt_commands.specs.Commands.{other_sorts}
use Rattle.smt_commands.proofs.Sorts.{behind_sorts}
use Rattle.smt_commands.proofs.parts.other_sorts_at.Given as goal

-- the sorts so far and those of the trees that are left are those of all
abbrev pub invariant-loop-sorts : goal.invariant-loop-sorts
invariant-loop-sorts l = (draft : Draft) → behind_sorts l.sorts.items (other_sorts l.state l.missing (trees_from l.tree l.at) draft) ≡ other_sorts l.state l.missing (trees_from l.tree l.i) draft

abbrev pub decreases-loop-sorts : goal.decreases-loop-sorts
decreases-loop-sorts l = weight l.tree (trees_from l.tree l.at)
