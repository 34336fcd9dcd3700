-- What a graph that gained terms keeps, and that gains add up.
use Rattle.std.proofs.Common.{◌≡◌, List, [], ◌∷◌, ◌++◌, refl, sym, ap, ◌∙◌, append-nil, append_assoc}
use Rattle.graph_terms.specs.declared.term_row.TermRow.{TermRow}
use Rattle.graph_meaning.proofs.LawfulLaws.{terms_of-push}
use Rattle.graph_meaning.specs.Standing.{terms_of}
use Rattle.graph_meaning.specs.State.{GraphState, state_after}
use Rattle.match_graph.specs.GraphTerms.{adding, with_terms}

-- the terms of a graph that gained some are the old ones and those
pub terms-with_terms : (graph : GraphState) (rows : List TermRow) →
    terms_of (with_terms graph rows).standing ≡ terms_of graph.standing ++ rows
terms-with_terms graph [] = sym (append-nil (terms_of graph.standing))
terms-with_terms graph (row ∷ rows) =
    terms-with_terms (state_after graph (adding row)) rows
    ∙ ap (λ (terms : List TermRow). terms ++ rows) (terms_of-push graph.standing graph.done (adding row))
    ∙ append_assoc (terms_of graph.standing) (row ∷ []) rows

-- it may have as many terms as before
pub limit-with_terms : (graph : GraphState) (rows : List TermRow) → (with_terms graph rows).limit ≡ graph.limit
limit-with_terms graph [] = refl
limit-with_terms graph (row ∷ rows) = limit-with_terms (state_after graph (adding row)) rows

-- some terms and then some more are all of them
pub with_terms-both : (graph : GraphState) (rows more : List TermRow) →
    with_terms graph (rows ++ more) ≡ with_terms (with_terms graph rows) more
with_terms-both graph [] more = refl
with_terms-both graph (row ∷ rows) more = with_terms-both (state_after graph (adding row)) rows more
