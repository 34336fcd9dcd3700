use Rattle.std.proofs.Common.{◌≡◌, ◌++◌, take, reverse}
use Rattle.formula_assert.proofs.assert_nodes.push_conjuncts.Given as goal

-- the last parts were put
abbrev pub invariant-loop-i : goal.invariant-loop-i
invariant-loop-i l = l.work.items ≡ l.initial.work.items ++ take l.i (reverse l.parts)
