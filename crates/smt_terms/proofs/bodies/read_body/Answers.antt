use Rattle.smt_terms.proofs.ForallLemmas.{weighs_annotated}
use Rattle.smt_terms.proofs.bodies.read_body.Goals as goal

pub loop-alloc-smaller : goal.loop-alloc-smaller
loop-alloc-smaller c = weighs_annotated c.args.tree.now c.loop-alloc.at c.loop-alloc-test.ensures
