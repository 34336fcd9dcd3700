use Rattle.match_owed.specs.Giving.{GivesAll}
use Rattle.match_owed.specs.Due.{IsDueStart}
use Rattle.match_owed.proofs.GiveLemmas.{Below}
use Rattle.match_owed.proofs.owed.Owed.on_live.Given as goal

abbrev pub invariant-loop-start : goal.invariant-loop-start
invariant-loop-start g l = GivesAll (Below (IsDueStart (g.G.ClassGraph.standing l.graph) l.trigger) l.start) l.fn.self l.self
