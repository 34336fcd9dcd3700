use Rattle.std.proofs.Common.{◌≡◌, []}
use Rattle.formula_draft.specs.Draft.{Draft}
use Rattle.smt_terms.specs.Terms.{body_of}
use Rattle.smt_terms.specs.Bodies.{attributes_at}
use Rattle.smt_terms.specs.Cursor.{trees_from}
use Rattle.smt_terms.specs.Machine.{weight}
use Rattle.smt_terms.proofs.bodies.read_body.Given as goal

-- the body from here on is that of the whole
abbrev pub invariant-loop-alloc : goal.invariant-loop-alloc
invariant-loop-alloc l = (draft : Draft) → body_of (attributes_at l.tree l.patterns.items) (trees_from l.tree l.at) draft ≡ body_of [] (trees_from l.tree l.i) draft

abbrev pub decreases-loop-alloc : goal.decreases-loop-alloc
decreases-loop-alloc l = weight l.tree (trees_from l.tree l.at)
