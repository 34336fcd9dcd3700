use Rattle.std.proofs.Common.{length, ap, arith}
use Rattle.graph_classes.specs.History.{now}
use Rattle.graph_congruence.proofs.LastLemmas.{triggers_at_most}
use Rattle.graph_congruence.proofs.graph.GraphClassGraph.triggers.Goals as goal

pub overflow_cast-result : goal.overflow_cast-result
overflow_cast-result c = omega (arith, c.len.ensures, c.self.inside.live.ok.0, ap length c.self.invariant.live, triggers_at_most (now c.self.inside.classes).log, c.len-standing.ensures, c.len-standing.type_inv)
