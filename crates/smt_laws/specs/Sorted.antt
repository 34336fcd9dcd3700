-- Which nodes are formulas, as the functions are declared.
use Rattle.std.specs.Prelude.{ℕ, List, map}
use Rattle.formula_draft.specs.declared.draft_row.DraftRow.{DraftRow}
use Rattle.formula_draft.specs.declared.draft_node.DraftNode.{DraftNode}
use Rattle.formula_draft.specs.declared.draft_forall.DraftForall.{DraftForall}
use Rattle.formula_draft.specs.Sorted as sorted
use Rattle.smt_names.specs.Names.{Declared}

-- the sorts of a declared function
abbrev pub as_signature : Declared → sorted.Signature
as_signature f = record { arguments = f.arguments; sort = f.sort }

-- the sorts of the declared functions
abbrev pub signatures_of : List Declared → List sorted.Signature
signatures_of functions = map as_signature functions

-- the node is a formula, sorted as the functions are declared
abbrev pub IsTruth : List Declared → (variables : List ℕ) → List DraftRow → List DraftNode → List DraftForall → ℕ →
    Type 0
IsTruth functions variables rows nodes foralls n =
    sorted.IsTruth (signatures_of functions) variables rows nodes foralls n
