use Rattle.std.proofs.Common.{◌-◌, ◌<◌, drop}
use Rattle.graph_meaning.specs.Standing.{terms_of}
use Rattle.em_printing.proofs.TreeSizes.{AreCounted}
use Rattle.em_printing.proofs.printed.+left_after.Given as goal

abbrev pub decreases-left_after : goal.decreases-left_after
decreases-left_after g l = l.most

abbrev pub invariant-loop-i : goal.invariant-loop-i
invariant-loop-i g l = (l.left < l.most) × AreCounted (terms_of (g.G.ClassGraph.standing l.graph)) l.args (drop l.i l.args) (l.most - 1 - l.left)
