use Rattle.std.proofs.Common.{◌≡◌, reverse}
use Rattle.smt_terms.specs.Terms.{value}
use Rattle.smt_terms.specs.Cursor.{trees_from}
use Rattle.smt_terms.specs.Machine.{scope_of, rest_of, work_of, base_of}
use Rattle.smt_terms.proofs.elaborate.elaborate_term.Given as goal

-- what is left to do from here is the value of the whole
abbrev pub invariant-loop-stop : goal.invariant-loop-stop
invariant-loop-stop l = record {
  same : value l.missing (scope_of l.context.state.now l.context.inside l.fn.bound) (trees_from l.context.tree.now l.at) l.fn.draft ≡ rest_of l.context.tree.now l.context.state.now l.context.inside l.missing l.frames.items l.bound l.i l.draft;
  base : base_of (reverse l.frames.items) l.bound ≡ l.fn.bound;
}

abbrev pub decreases-loop-stop : goal.decreases-loop-stop
decreases-loop-stop l = work_of l.context.tree.now l.frames.items l.i
