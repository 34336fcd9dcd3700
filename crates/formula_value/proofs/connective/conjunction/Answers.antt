use Rattle.formula_value.proofs.ConnectiveLemmas.{all_of-more}
use Rattle.formula_value.proofs.connective.conjunction.Goals as goal

pub loop-part-preserved : goal.loop-part-preserved
loop-part-preserved c = all_of-more c.args.values.now c.args.parts.now c.requires c.loop-part.part-index
    c.loop-part-test.true c.loop-part.all c.both-all.result c.loop-part.invariant c.both-all.ensures
