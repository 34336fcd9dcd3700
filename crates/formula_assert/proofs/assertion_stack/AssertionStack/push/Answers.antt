use Rattle.std.proofs.Common.{◌<◌, ◌+◌, ◌^◌, List, [], ◌∷◌, ◌++◌, length, ap, ◌∙◌, arith}
use Rattle.formula_assert.specs.declared.level.Level.{Level}
use Rattle.formula_assert.proofs.StackLemmas.{stack_pushed}
use Rattle.formula_assert.proofs.assertion_stack.AssertionStack.push.Goals as goal

pub invariant_of-self-2 : goal.invariant_of-self-2
invariant_of-self-2 c =
    let room : length c.self.inside.levels.items + 1 < 2 ^ 32 = omega (arith, c.len.ensures, c.if-len-ge-MOST_LEVELS.false) in
    stack_pushed c.self.inside.graph c.push.new.self c.self.inside.formulas c.self.inside.asserted c.self.inside.levels.items c.push_reserved.new.self.items
    (record { nodes = c.len-2.result; foralls = c.foralls.result; asserted = c.len-3.result })
    (c.push_reserved.ensures.items ∙ ap (λ (list : List Level). list ++ record { nodes = c.len-2.result; foralls = c.foralls.result; asserted = c.len-3.result } ∷ []) c.reserve.ensures.items) c.self.invariant c.len-2.ensures.table c.in_ok-push.ensures.ok c.len-2.ensures.value c.foralls.ensures c.len-3.ensures room
