use Rattle.formula_value.proofs.ConnectiveLemmas.{some_of-more}
use Rattle.formula_value.proofs.connective.disjunction.Goals as goal

pub loop-part-preserved : goal.loop-part-preserved
loop-part-preserved c = some_of-more c.args.values.now c.args.parts.now c.requires c.loop-part.part-index
    c.loop-part-test.true c.loop-part.some c.either-some.result c.loop-part.invariant c.either-some.ensures
