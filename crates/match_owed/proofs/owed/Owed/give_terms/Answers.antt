use Rattle.graph_meaning.specs.Questions.{HasSymbol}
use Rattle.match_owed.specs.Due.{IsOfTerms}
use Rattle.match_owed.proofs.GiveLemmas.{AtTerm, all_terms, at_term, below_all, below_next, below_none, below_some, has_it, some_none}
use Rattle.match_owed.proofs.owed.Owed.give_terms.Goals as goal

pub loop-k-init : goal.loop-k-init
loop-k-init g c = below_none (AtTerm (HasSymbol (g.G.ClassGraph.standing c.args.graph.now) c.args.symbol) c.args.trigger c.args.start) c.args.self.now

pub loop-k-preserved : goal.loop-k-preserved
loop-k-preserved g c = below_next (AtTerm (HasSymbol (g.G.ClassGraph.standing c.args.graph.now) c.args.symbol) c.args.trigger c.args.start) c.loop-k.k
    (at_term (HasSymbol (g.G.ClassGraph.standing c.args.graph.now) c.args.symbol) c.args.trigger c.args.start c.loop-k.k c.in-Some.root c.in-Some.ensures c.in_ok-give-in-Some.ensures.ok) c.loop-k.invariant

pub returns-in-None-clause-ok : goal.returns-in-None-clause-ok
returns-in-None-clause-ok g c = all_terms (HasSymbol (g.G.ClassGraph.standing c.args.graph.now) c.args.symbol) c.args.trigger c.args.start c.loop-k.k c.in-None.ensures c.loop-k.invariant

pub returns-in-None-clause-some : goal.returns-in-None-clause-some
returns-in-None-clause-some g c = (all_terms (HasSymbol (g.G.ClassGraph.standing c.args.graph.now) c.args.symbol) c.args.trigger c.args.start c.loop-k.k c.in-None.ensures c.loop-k.invariant).some

pub returns-in_err-give-in-Some-clause-some : goal.returns-in_err-give-in-Some-clause-some
returns-in_err-give-in-Some-clause-some g c = below_some (AtTerm (HasSymbol (g.G.ClassGraph.standing c.args.graph.now) c.args.symbol) c.args.trigger c.args.start) (IsOfTerms (g.G.ClassGraph.standing c.args.graph.now) c.args.trigger c.args.start c.args.symbol) c.loop-k.k
    (λ j claim le at. (at.0, at.1, has_it (HasSymbol (g.G.ClassGraph.standing c.args.graph.now) c.args.symbol) c.args.trigger c.args.start j claim.root at.2))
    (some_none (AtTerm (HasSymbol (g.G.ClassGraph.standing c.args.graph.now) c.args.symbol) c.args.trigger c.args.start c.loop-k.k) c.loop-k.self c.give.new.self c.in_err-give-in-Some.ensures.err) c.loop-k.invariant

pub returns-clause-some : goal.returns-clause-some
returns-clause-some g c = below_all (AtTerm (HasSymbol (g.G.ClassGraph.standing c.args.graph.now) c.args.symbol) c.args.trigger c.args.start) (IsOfTerms (g.G.ClassGraph.standing c.args.graph.now) c.args.trigger c.args.start c.args.symbol) c.loop-k.k
    (λ j claim at. (at.0, at.1, has_it (HasSymbol (g.G.ClassGraph.standing c.args.graph.now) c.args.symbol) c.args.trigger c.args.start j claim.root at.2)) c.loop-k.invariant
