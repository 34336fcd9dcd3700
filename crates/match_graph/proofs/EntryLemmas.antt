-- A row that is entered into a graph as a term.
use Rattle.std.proofs.Common.{◌≡◌, ℕ, ◌+◌, ◌≤◌, List, [], ◌∷◌, ◌++◌, length, Bool, Some, sym, ap, subst, ◌∙◌, append-nil, arith}
use Rattle.std.specs.Prelude.{slice_get}
use Rattle.std.proofs.lemmas.List.{length-append}
use Rattle.graph_terms.specs.declared.term_row.TermRow.{TermRow}
use Rattle.graph_meaning.specs.declared.op.Op.TheVariants.{Add}
use Rattle.graph_meaning.specs.declared.union.Union.{Union}
use Rattle.graph_terms.specs.TermEntry.{AddGrows}
use Rattle.graph_meaning.proofs.LawfulLaws.{terms_of-push, triggers_of-push}
use Rattle.graph_terms.proofs.ListLaws.{slice_get-push}
use Rattle.graph_meaning.specs.Standing.{terms_of, triggers_of}
use Rattle.graph_meaning.specs.State.{GraphState, state_after}
use Rattle.graph_congruence.specs.Operations.{Adds, new_row, old_row}
use Rattle.match_graph.specs.GraphTerms.{with_terms}

-- a row that was entered stands: it is the last term, and the graph grew by it, or it stood and nothing grew
pub added_row : (graph later : GraphState) (row : TermRow) (term : ℕ) (unions : List Union) (fresh : Bool) → Adds graph later row term unions fresh → length (terms_of later.standing) ≤ later.limit
    → AddGrows (terms_of graph.standing) graph.limit (terms_of later.standing) (λ more. later ≡ with_terms graph more) row term
added_row graph later row term unions fresh (new_row absent at is _) within =
    let rows : terms_of later.standing ≡ terms_of graph.standing ++ row ∷ [] = ap (λ (g : GraphState). terms_of g.standing) is ∙ terms_of-push graph.standing graph.done (Add row.symbol row.args) in
    let longer : length (terms_of later.standing) ≡ length (terms_of graph.standing) + 1 = ap length rows ∙ length-append (terms_of graph.standing) (row ∷ []) in
    let limit : later.limit ≡ graph.limit = ap (λ (g : GraphState). g.limit) is in
    let last : slice_get (terms_of later.standing) term ≡ Some row =
    subst (λ (n : ℕ). slice_get (terms_of later.standing) n ≡ Some row) (sym at)
    (subst (λ (list : List TermRow). slice_get list (length (terms_of graph.standing)) ≡ Some row) (sym rows) (slice_get-push (terms_of graph.standing) row)) in
    AddGrows.new_row last absent (omega arith) is
added_row graph later row term unions fresh (old_row stands is _) within = AddGrows.old_row stands is

-- the live triggers are those before
pub added_triggers : (graph later : GraphState) (row : TermRow) (term : ℕ) (unions : List Union) (fresh : Bool) → Adds graph later row term unions fresh → triggers_of later.standing ≡ triggers_of graph.standing
added_triggers graph later row term unions fresh (new_row absent at is _) =
    let pushed : triggers_of (state_after graph (Add row.symbol row.args)).standing ≡ triggers_of graph.standing ++ [] = triggers_of-push graph.standing graph.done (Add row.symbol row.args) in
    ap (λ (g : GraphState). triggers_of g.standing) is ∙ pushed ∙ append-nil (triggers_of graph.standing)
added_triggers graph later row term unions fresh (old_row stands is _) = ap (λ (g : GraphState). triggers_of g.standing) is
