use Rattle.std.proofs.Common.{◌≡◌, ◌++◌, take}
use Rattle.search_watch.specs.Chains.{chain_at}
use Rattle.search_watch.proofs.watch.gather.Given as goal

abbrev pub invariant-loop-i : goal.invariant-loop-i
invariant-loop-i l = l.found.items ≡ l.fn.found.items ++ take l.i (chain_at l.chains l.leader)
