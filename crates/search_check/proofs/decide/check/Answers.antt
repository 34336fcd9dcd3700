use Rattle.formula_assert.specs.Assertions.{held_of}
use Rattle.search_check.proofs.TellLemmas.{told_of}
use Rattle.search_check.proofs.decide.check.Goals as goal

pub back_to-requires : goal.back_to-requires
back_to-requires g c = (c.args.stack.now, c.mark-mark.ensures, c.search-outcome.ensures.levels)

pub returns-clause-same : goal.returns-clause-same
returns-clause-same g c = c.back_to.ensures c.args.stack.now c.mark-mark.ensures c.search-outcome.ensures.levels

pub returns-clause-tells : goal.returns-clause-tells
returns-clause-tells g c =
    told_of c.args.stack.now.formulas (held_of c.args.stack.now) c.depth-rules.ensures.rules.lawful.whole.table
    c.depth-rules.ensures.rules.formulas c.unsat_law.ensures c.sat_law.ensures c.args.rounds c.search-outcome.result
    c.requires.exact c.search-outcome.ensures.verdict
