use Rattle.std.proofs.Common.{◌≡◌, ◌++◌, take}
use Rattle.formula_assert.proofs.assertion_graph.put_unions.Given as goal

-- the first unions were put
abbrev pub invariant-loop-i : goal.invariant-loop-i
invariant-loop-i l = l.into.items ≡ l.fn.into.items ++ take l.i l.unions
