use Rattle.formula_assert.proofs.LevelLemmas.{same_levels, over_levels, both_levels}
use Rattle.formula_assert.proofs.StandLemmas.{levels_stand}
use Rattle.formula_assert.proofs.laws.over_law.Goals as goal

pub returns-clause-same : goal.returns-clause-same
returns-clause-same c = same_levels

pub returns-clause-over : goal.returns-clause-over
returns-clause-over c = over_levels

pub returns-clause-both : goal.returns-clause-both
returns-clause-both c = both_levels

pub returns-clause-stands : goal.returns-clause-stands
returns-clause-stands c = levels_stand
