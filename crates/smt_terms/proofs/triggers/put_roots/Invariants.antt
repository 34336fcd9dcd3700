use Rattle.std.proofs.Common.{◌≡◌}
use Rattle.smt_terms.specs.Terms.{pattern_roots}
use Rattle.smt_terms.specs.Cursor.{trees_from}
use Rattle.smt_terms.specs.Machine.{scope_of, weight}
use Rattle.smt_terms.proofs.TriggerLemmas.{behind_items}
use Rattle.smt_terms.proofs.triggers.put_roots.Given as goal

-- the roots so far and those of the patterns that are left are those of all
abbrev pub invariant-loop-roots : goal.invariant-loop-roots
invariant-loop-roots l = record {
  rest : behind_items l.roots.items (pattern_roots (scope_of l.context.state.now l.context.inside l.bound) (trees_from l.context.tree.now l.i) l.draft) ≡ pattern_roots (scope_of l.context.state.now l.context.inside l.fn.bound) (trees_from l.context.tree.now l.at) l.fn.draft;
  bound : l.bound ≡ l.fn.bound;
}

abbrev pub decreases-loop-roots : goal.decreases-loop-roots
decreases-loop-roots l = weight l.context.tree.now (trees_from l.context.tree.now l.i)
