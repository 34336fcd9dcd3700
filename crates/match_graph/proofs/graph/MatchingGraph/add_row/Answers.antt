use Rattle.std.proofs.Common.{◌≡◌, sym, subst}
use Rattle.graph_terms.specs.Terms.{term_row}
use Rattle.graph_terms.specs.TermEntry.{AddGrows}
use Rattle.graph_meaning.specs.Standing.{terms_of}
use Rattle.graph_meaning.specs.State.{GraphState}
use Rattle.match_forest.specs.Forest.{Serves}
use Rattle.match_graph.specs.GraphTerms.{with_terms}
use Rattle.match_graph.proofs.EntryLemmas.{added_row, added_triggers}
use Rattle.match_graph.proofs.graph.MatchingGraph.add_row.Goals as goal

pub invariant_of-self-2 : goal.invariant_of-self-2
invariant_of-self-2 c =
    let added = c.in_ok-added.added in
    subst (Serves c.self.inside.forest) (sym (added_triggers c.self.inside.graph c.add.new.self (term_row c.args.symbol c.args.args.now) added.term added.unions added.fresh c.in_ok-added.ensures.added)) c.self.invariant

pub returns-clause-ok : goal.returns-clause-ok
returns-clause-ok c =
    let added = c.in_ok-added.added in
    subst (λ (graph : GraphState). AddGrows (terms_of graph.standing) graph.limit (terms_of c.add.new.self.standing) (λ more. c.add.new.self ≡ with_terms graph more) (term_row c.args.symbol c.args.args.now) added.term) c.self.view_is
    (added_row c.self.inside.graph c.add.new.self (term_row c.args.symbol c.args.args.now) added.term added.unions added.fresh c.in_ok-added.ensures.added c.add.ensures.within)
