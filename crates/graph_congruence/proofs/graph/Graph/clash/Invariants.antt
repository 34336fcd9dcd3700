use Rattle.graph_congruence.specs.Clash.{NoneSame}
use Rattle.graph_congruence.proofs.graph.Graph.clash.Given as goal

abbrev pub invariant-loop-i : goal.invariant-loop-i
invariant-loop-i l = NoneSame l.self.standing l.self-inside.apart.items l.i
