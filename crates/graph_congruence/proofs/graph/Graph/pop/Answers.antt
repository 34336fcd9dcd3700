use Rattle.std.proofs.Common.{ap, arith}
use Rattle.graph_meaning.specs.Standing.{levels_of}
use Rattle.graph_meaning.specs.State.{GraphState}
use Rattle.graph_congruence.proofs.graph.Graph.pop.Goals as goal

pub invariant_of-self : goal.invariant_of-self
invariant_of-self c = record {
  starts = c.self-2.invariant.starts;
  levels = c.self-2.invariant.levels;
  live = c.self-2.invariant.live;
  apart = c.self-2.invariant.apart;
  room = omega (arith, c.self.invariant.room, c.self.invariant.levels, ap (λ (g : GraphState). levels_of g.standing) c.self.view_is, c.self-2.invariant.levels, ap (λ (g : GraphState). levels_of g.standing) c.self-2.view_is, c.drop_level.ensures.level);
}
