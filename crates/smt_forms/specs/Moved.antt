-- An application of a definition: its rows and nodes in order, with the arguments put in.
use Rattle.std.specs.Prelude.{ℕ, List, [], ◌∷◌, ◌++◌, map, get_or, option_map}
use Rattle.smt_text.specs.declared.token.Place.{Place}
use Rattle.formula_draft.specs.declared.draft_row.DraftRow.{DraftRow}
use Rattle.formula_draft.specs.declared.draft_row.DraftRow.TheVariants.{Var, App}
use Rattle.formula_draft.specs.declared.draft_node.DraftNode.{DraftNode}
use Rattle.formula_draft.specs.declared.draft_node.DraftNode.TheVariants.{Equal, Atom, And, Or, Forall}
use Rattle.smt_names.specs.declared.value.Value.{Value}
use Rattle.smt_names.specs.declared.value.Value.TheVariants.{Term, Formula}
use Rattle.smt_names.specs.Value.{row_of}
use Rattle.smt_names.specs.Making.{Making, gives, ◌>>=◌, row, node}
use Rattle.smt_names.specs.Names.{Defined}

-- the numbers at these places
abbrev pub moved_numbers : List ℕ → List ℕ → List ℕ
moved_numbers moved numbers = map (λ n. get_or moved n 0) numbers

-- a row, by the rows of the arguments and those that the rows before it became
abbrev pub moved_row : List ℕ → List ℕ → Place → DraftRow → Making ℕ
moved_row args rows at (Var i) = gives (get_or args i 0)
moved_row args rows at (App symbol xs) = row at (App symbol (moved_numbers rows xs))

abbrev pub moved_rows : List ℕ → List ℕ → Place → List DraftRow → Making (List ℕ)
moved_rows args rows at [] = gives rows
moved_rows args rows at (next ∷ others) = do
  r ← moved_row args rows at next
  moved_rows args (rows ++ r ∷ []) at others

-- a node, by what the rows and the nodes before it became
abbrev pub moved_node : List ℕ → List ℕ → DraftNode → DraftNode
moved_node rows nodes (Equal positive a b) = Equal positive (get_or rows a 0) (get_or rows b 0)
moved_node rows nodes (Atom positive a) = Atom positive (get_or rows a 0)
moved_node rows nodes (And parts) = And (moved_numbers nodes parts)
moved_node rows nodes (Or parts) = Or (moved_numbers nodes parts)
moved_node rows nodes (Forall i) = Forall i

abbrev pub moved_nodes : List ℕ → List ℕ → Place → List DraftNode → Making (List ℕ)
moved_nodes rows nodes at [] = gives nodes
moved_nodes rows nodes at (next ∷ others) = do
  n ← node at (moved_node rows nodes next)
  moved_nodes rows (nodes ++ n ∷ []) at others

abbrev pub moved_value : List ℕ → List ℕ → Value → Value
moved_value rows nodes (Term r sort) = Term (get_or rows r 0) sort
moved_value rows nodes (Formula n c) = Formula (get_or nodes n 0) (option_map (λ m. get_or nodes m 0) c)

abbrev pub unfolded : Place → Defined → List Value → Making Value
unfolded at d args = do
  rows ← moved_rows (map row_of args) [] at d.rows
  nodes ← moved_nodes rows [] at d.nodes
  gives (moved_value rows nodes d.value)
