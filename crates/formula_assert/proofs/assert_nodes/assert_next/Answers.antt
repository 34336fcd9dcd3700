use Rattle.std.proofs.Common.{sym, ap₂, ◌∙◌, true≢false}
use Rattle.formula_assert.specs.Held.{held}
use Rattle.formula_assert.specs.WorkList.{held_now}
use Rattle.formula_assert.proofs.NewsLemmas.{lists_same}
use Rattle.formula_assert.proofs.assert_nodes.assert_next.Goals as goal

pub returns-clause-ok : goal.returns-clause-ok
returns-clause-ok g c = held_now {node = c.node-node.result.now} (λ has. true≢false (sym (c.has.ensures.1 has) ∙ c.if-has.false)) c.node-node.ensures (ap₂ held c.in_ok-do_operations.ensures.ok c.in_ok-put.ensures.ok) c.in_ok-push_conjuncts.ensures

pub returns-then-has-clause-unions : goal.returns-then-has-clause-unions
returns-then-has-clause-unions g c = lists_same (g.G.AssertionGraph.state c.args.graph.now).standing c.args.unions.now.items
