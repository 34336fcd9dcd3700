-- The rows of patterns, and what is refused as a pattern.
use Rattle.std.specs.Prelude.{ℕ, Bool, true, false, nat_le, [], get_or, Option, Some, None}
use Rattle.smt_text.specs.declared.token.Place.{Place}
use Rattle.graph_trigger.specs.Trigger.{most_size}
use Rattle.formula_draft.specs.declared.draft_row.DraftRow.{DraftRow}
use Rattle.formula_draft.specs.declared.draft_row.DraftRow.TheVariants.{Var, App}
use Rattle.formula_draft.specs.declared.draft_node.DraftNode.{DraftNode}
use Rattle.formula_draft.specs.declared.draft_node.DraftNode.TheVariants.{Atom, And}
use Rattle.smt_names.specs.declared.value.Value.{Value}
use Rattle.smt_names.specs.declared.value.Value.TheVariants.{Term, Formula}
use Rattle.smt_names.specs.declared.refusal.Refusal.TheVariants.{PatternIsVariable, PatternHasConnective}
use Rattle.smt_names.specs.declared.refusal.Refusal.TheVariants.{PatternTooLarge}
use Rattle.smt_names.specs.Making.{Making, gives, ◌>>=◌, ◌>>◌, must_hold, refuse}
use Rattle.smt_patterns.specs.Patterns.{size_of}

-- the row of a positive atom
abbrev pub positive_row : DraftNode → Option ℕ
positive_row (Atom true r) = Some r
positive_row itself = None

-- the row of an atom, which must be there
abbrev pub atom_row : Place → Option ℕ → Making ℕ
atom_row at None = refuse PatternHasConnective at
atom_row at (Some r) = gives r

-- the row of a term, which must not be a variable
abbrev pub no_variable : Place → ℕ → DraftRow → Making ℕ
no_variable at r (Var index) = refuse PatternIsVariable at
no_variable at r (App symbol args) = gives r

-- the row of a pattern whose value is this
abbrev pub root_of : Place → Value → Making ℕ
root_of at (Term r sort) draft = no_variable at r (get_or draft.rows r (Var 0)) draft
root_of at (Formula n c) draft = atom_row at (positive_row (get_or draft.nodes n (And []))) draft

-- no more symbols and variables than a pattern may have, counted as a tree
abbrev pub small_enough : Place → ℕ → Making (Unit {0})
small_enough at r draft = must_hold (nat_le (size_of draft.rows r) most_size) PatternTooLarge at draft

-- the row of a pattern whose value is this, which must be small enough
abbrev pub small_root : Place → Value → Making ℕ
small_root at v = do
  r ← root_of at v
  small_enough at r
  gives r

-- whether a row is a variable
abbrev pub is_no_application : DraftRow → Bool
is_no_application (Var index) = true
is_no_application (App symbol args) = false
