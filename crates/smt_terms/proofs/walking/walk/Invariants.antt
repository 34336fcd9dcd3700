use Rattle.std.proofs.Common.{◌≡◌, ◌≤◌, reverse}
use Rattle.smt_terms.specs.Machine.{rest_of, work_of, base_of}
use Rattle.smt_terms.proofs.walking.walk.Given as goal

-- what is left to do from here is what was to do
abbrev pub invariant-loop-stop : goal.invariant-loop-stop
invariant-loop-stop l = record {
  same : rest_of l.context.tree.now l.context.state.now l.context.inside l.missing l.fn.frames.items l.fn.bound l.from l.fn.draft ≡ rest_of l.context.tree.now l.context.state.now l.context.inside l.missing l.frames.items l.bound l.i l.draft;
  base : base_of (reverse l.frames.items) l.bound ≡ base_of (reverse l.fn.frames.items) l.fn.bound;
  no_more : work_of l.context.tree.now l.frames.items l.i ≤ work_of l.context.tree.now l.fn.frames.items l.from;
}

abbrev pub decreases-loop-stop : goal.decreases-loop-stop
decreases-loop-stop l = work_of l.context.tree.now l.frames.items l.i
