use Rattle.search_branch.specs.Steps.{branch_of}
use Rattle.search_branch.proofs.BranchLemmas.{lost_step}
use Rattle.search_branch.proofs.branch_values.BranchValues.next_step.Goals as goal

pub returns-then-self-clause-step : goal.returns-then-self-clause-step
returns-then-self-clause-step c now struck right = lost_step now struck c.args.self.now right c.if-self.true

pub returns-clause-within : goal.returns-clause-within
returns-clause-within c now struck right =
    c.next_of.ensures.within now.formulas (branch_of now struck) right.table (right.current c.if-self.false).given
