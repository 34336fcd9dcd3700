use Rattle.std.proofs.Common.{◌∙◌}
use Rattle.search_values.specs.Kept.{given_of}
use Rattle.search_branch.proofs.StruckLemmas.{strikes_more}
use Rattle.search_branch.proofs.tell.strike_each.Goals as goal

pub loop-i-preserved : goal.loop-i-preserved
loop-i-preserved c = record {
  strikes = strikes_more c.args.struck.now c.loop-i.i (0, 0) (given_of c.args.values.now) (given_of c.loop-i.values)
      (given_of c.strike.new.self) c.loop-i-test.true c.in_ok-strike.ensures.ok c.loop-i.invariant.strikes;
  saved = c.in_ok-strike.ensures.saved ∙ c.loop-i.invariant.saved;
}
