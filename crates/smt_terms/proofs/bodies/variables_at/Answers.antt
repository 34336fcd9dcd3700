use Rattle.smt_terms.proofs.ForallLemmas.{weighs_binding}
use Rattle.smt_terms.proofs.bodies.variables_at.Goals as goal

pub loop-variables-smaller : goal.loop-variables-smaller
loop-variables-smaller c = weighs_binding c.args.tree.now c.loop-variables.at c.in-Some.binding.name c.in-Some.binding.behind c.in-Some.ensures
