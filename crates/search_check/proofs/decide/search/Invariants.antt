use Rattle.search_check.specs.UnderWay.{IsSearching}
use Rattle.search_check.proofs.decide.search.Given as goal

abbrev pub invariant-loop-step : goal.invariant-loop-step
invariant-loop-step g l = IsSearching l.fn.rounds l.fn.stack l.stack l.search
