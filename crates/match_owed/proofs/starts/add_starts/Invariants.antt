use Rattle.match_owed.specs.Starts.{Lists}
use Rattle.match_owed.proofs.starts.add_starts.Given as goal

abbrev pub invariant-loop-start : goal.invariant-loop-start
invariant-loop-start l = Lists l.trigger l.number l.start l.fn.entries l.entries
