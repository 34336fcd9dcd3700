use Rattle.std.proofs.Common.{refl, arith}
use Rattle.formula_value.proofs.DifferLemmas.{apart_at, joined_at}
use Rattle.formula_value.proofs.leaf.are_kept_apart.Goals as goal

pub returns-then-are_joined : goal.returns-then-are_joined
returns-then-are_joined g c = (
  λ yes. apart_at (g.G.ClassGraph.standing c.args.graph.now) c.args.facts.now c.args.left c.args.right
      c.as_slice-lefts.result.now c.as_slice-rights.result.now c.loop-i.invariant.lefts c.loop-i.invariant.rights
      c.loop-i.i c.requires.facts.paired c.loop-i-test.true (c.are_joined.ensures.0 c.if-are_joined.true),
  λ kept. refl,
)

pub returns : goal.returns
returns g c = (
  λ impossible. cc impossible,
  λ kept.
      let at = joined_at (g.G.ClassGraph.standing c.args.graph.now) c.args.facts.now c.args.left c.args.right
      c.as_slice-lefts.result.now c.as_slice-rights.result.now c.loop-i.invariant.lefts
      c.loop-i.invariant.rights kept in
      let test = c.loop-i-test.false in
      let within = at.1 in
      absurd (c.loop-i.invariant.none at.0 (omega arith) at.2),
)
