use Rattle.std.proofs.Common.{IfNone, subst, ap, ◌∙◌}
use Rattle.graph_terms.specs.Terms.{term_row, IsAbsent}
use Rattle.graph_meaning.specs.Standing.{terms_of}
use Rattle.graph_meaning.specs.State.{GraphState}
use Rattle.graph_plain.proofs.graph.PlainGraphClassGraph.find.Goals as goal

pub returns-clause-absent : goal.returns-clause-absent
returns-clause-absent c =
    subst (λ rows. IfNone c.find.result (IsAbsent rows (term_row c.args.symbol c.args.args.now))) (c.self.invariant.kept.terms ∙ ap (λ (s : GraphState). terms_of s.standing) c.self.view_is) c.find.ensures.absent
