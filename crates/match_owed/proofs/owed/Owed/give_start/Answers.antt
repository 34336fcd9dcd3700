use Rattle.match_owed.proofs.DueLemmas.{gives_start, some_start, gives_no_start}
use Rattle.match_owed.proofs.owed.Owed.give_start.Goals as goal

pub returns-in_ok-give_terms-in-Some-clause-ok : goal.returns-in_ok-give_terms-in-Some-clause-ok
returns-in_ok-give_terms-in-Some-clause-ok g c = gives_start (g.G.ClassGraph.standing c.args.graph.now) c.args.trigger c.trigger.result.now c.trigger.ensures.trigger c.args.start c.in-Some.symbol c.in-Some.ensures.some c.in_ok-give_terms-in-Some.ensures.ok

pub returns-in_ok-give_terms-in-Some-clause-some : goal.returns-in_ok-give_terms-in-Some-clause-some
returns-in_ok-give_terms-in-Some-clause-some g c = some_start (g.G.ClassGraph.standing c.args.graph.now) c.args.trigger c.trigger.result.now c.trigger.ensures.trigger c.args.start c.in-Some.symbol c.in-Some.ensures.some c.in_ok-give_terms-in-Some.ensures.some

pub returns-in_err-give_terms-in-Some-clause-some : goal.returns-in_err-give_terms-in-Some-clause-some
returns-in_err-give_terms-in-Some-clause-some g c = some_start (g.G.ClassGraph.standing c.args.graph.now) c.args.trigger c.trigger.result.now c.trigger.ensures.trigger c.args.start c.in-Some.symbol c.in-Some.ensures.some c.in_err-give_terms-in-Some.ensures.some

pub returns-in-None-clause-ok : goal.returns-in-None-clause-ok
returns-in-None-clause-ok g c = gives_no_start (g.G.ClassGraph.standing c.args.graph.now) c.args.trigger c.trigger.result.now c.trigger.ensures.trigger c.args.start c.in-None.ensures.none c.args.self.now
