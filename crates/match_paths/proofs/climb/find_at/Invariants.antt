use Rattle.match_paths.proofs.ClimbLemmas.{FindsFirst}
use Rattle.match_paths.proofs.climb.find_at.Given as goal

abbrev pub invariant-loop-number : goal.invariant-loop-number
invariant-loop-number l = FindsFirst l.entries l.node l.root l.number-items l.number-index l.fn.claims l.claims
