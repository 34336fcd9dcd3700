use Rattle.std.proofs.Common.{◌≡◌, ◌++◌, take}
use Rattle.smt_terms.proofs.giving.bind_all.Given as goal

-- the names so far are bound
abbrev pub invariant-loop-b : goal.invariant-loop-b
invariant-loop-b l = l.bound ≡ l.initial.bound ++ take l.b-index l.more
