use Rattle.std.proofs.Common.{◌≡◌, [], take}
use Rattle.search_laws.specs.Branch.{foralls_among}
use Rattle.search_check.proofs.live.has_live.Given as goal

abbrev pub invariant-loop-n : goal.invariant-loop-n
invariant-loop-n l = foralls_among l.stack.formulas.nodes (take l.n-index l.stack.asserted) ≡ []
