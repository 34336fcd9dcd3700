-- The standing assertions of a script.
use Rattle.std.specs.Prelude.{ℕ, List, [], ◌∷◌}
use Rattle.graph_meaning.specs.declared.op.Op.TheVariants.{Push, Pop}
use Rattle.graph_meaning.specs.State.{GraphState, first_state, state_after}
use Rattle.formula_table.specs.Formulas.{Formulas, no_formulas}
use Rattle.formula_assert.specs.Held.{Held, held}

-- the formulas and the asserted nodes as they stood when a level was opened
pub record Saved : Type 0 where
  pub formulas : Formulas
  pub asserted : List ℕ

-- the graph, the formulas, the numbers of the asserted nodes in the order in which they were asserted, and what was
-- saved for each open level, the innermost first
pub record Assertions : Type 0 where
  pub graph : GraphState
  pub formulas : Formulas
  pub asserted : List ℕ
  pub saved : List Saved

-- the graph and the asserted nodes
abbrev pub held_of : Assertions → Held
held_of now = held now.graph now.asserted

-- nothing is asserted, where there may be so many terms and nodes
abbrev pub no_assertions : ℕ → ℕ → Assertions
no_assertions terms nodes = record {
  graph = first_state terms;
  formulas = no_formulas nodes;
  asserted = [];
  saved = [];
}

-- a level is opened: the graph opens one, and the rest is saved
abbrev pub pushed : Assertions → Assertions
pushed now = record now {
  graph = state_after now.graph Push;
  saved = record { formulas = now.formulas; asserted = now.asserted } ∷ now.saved;
}

-- the graph ends its last level, and what was saved for the innermost level is given back
abbrev pub restored : Assertions → List Saved → Assertions
restored now [] = now
restored now (level ∷ saved) = record {
  graph = state_after now.graph Pop;
  formulas = level.formulas;
  asserted = level.asserted;
  saved = saved;
}

-- the innermost level ends, if one is open
abbrev pub popped : Assertions → Assertions
popped now = restored now now.saved
