use Rattle.graph_meaning.specs.Questions.{HasSymbol}
use Rattle.match_owed.specs.Giving.{GivesAll}
use Rattle.match_owed.proofs.GiveLemmas.{AtTerm, Below}
use Rattle.match_owed.proofs.owed.Owed.give_terms.Given as goal

abbrev pub invariant-loop-k : goal.invariant-loop-k
invariant-loop-k g l = GivesAll (Below (AtTerm (HasSymbol (g.G.ClassGraph.standing l.graph) l.symbol) l.trigger l.start) l.k) l.fn.self l.self
