use Rattle.std.proofs.Common.{ℕ, ◌+◌, ◌≤◌, ◌∙◌}
use Rattle.search_values.specs.Kept.{given_of}
use Rattle.search_branch.proofs.TellLemmas.{keeps_more, told_more}
use Rattle.search_branch.proofs.ToldLemmas.{still_waits}
use Rattle.search_branch.proofs.tell.set_from.Goals as goal

pub loop-n-preserved : goal.loop-n-preserved
loop-n-preserved c =
    let tells = c.in_ok-set_one.ensures.tells in
    let standing = c.args.stack.now.graph.standing in
    let nodes = c.args.stack.now.formulas.nodes in
    record {
      kinds = tells.sets.kinds ∙ c.loop-n.invariant.kinds;
      told = told_more (λ (m : ℕ). c.loop-n.n ≤ m) (λ (m : ℕ). c.loop-n.n + 1 ≤ m) standing nodes c.loop-n.n
          (given_of c.loop-n.values) (given_of c.set_one.new.values)
          (λ m waits other. still_waits c.loop-n.n m waits other) tells c.loop-n.invariant.told;
      keeps = keeps_more standing nodes c.loop-n.n (given_of c.args.values.now) (given_of c.loop-n.values)
          (given_of c.set_one.new.values) c.loop-n.invariant.keeps tells;
      saved = c.in_ok-set_one.ensures.saved ∙ c.loop-n.invariant.saved;
    }
