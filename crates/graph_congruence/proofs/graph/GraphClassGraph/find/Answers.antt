use Rattle.std.proofs.Common.{◌∙◌, ap, subst, List, IfNone}
use Rattle.graph_terms.specs.declared.term_row.TermRow.{TermRow}
use Rattle.graph_terms.specs.Terms.{term_row, IsAbsent}
use Rattle.graph_meaning.specs.Standing.{terms_of}
use Rattle.graph_meaning.specs.State.{GraphState}
use Rattle.graph_congruence.proofs.graph.GraphClassGraph.find.Goals as goal

pub returns-clause-absent : goal.returns-clause-absent
returns-clause-absent c =
    let P : List TermRow → Type 0 = λ rows. IfNone c.find.result (IsAbsent rows (term_row c.args.symbol c.args.args.now)) in
    subst P (c.self.invariant.starts.good.terms ∙ ap (λ (g : GraphState). terms_of g.standing) c.self.view_is) c.find.ensures.absent
