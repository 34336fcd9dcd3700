-- What an `AssertionStack` keeps true of its fields.
use Rattle.std.specs.Prelude.{ℕ, ◌<◌, ◌≤◌, ◌^◌, List, [], ◌∷◌, length, map, take, reverse}
use Rattle.graph_meaning.specs.Standing.{terms_of}
use Rattle.graph_meaning.specs.State.{GraphState}
use Rattle.formula_table.specs.Formulas.{Formulas, NodesStand, first_formulas}
use Rattle.formula_assert.specs.declared.level.Level.{Level}
use Rattle.formula_assert.specs.declared.assertion_stack.AssertionStack.TheInside.{Inside}
use Rattle.formula_assert.specs.Assertions.{Saved, Assertions}
use Rattle.formula_assert.specs.Stands.{AreSaved}

-- what stood when the level was opened, of what stands
abbrev pub saved_of : Formulas → List ℕ → Level → Saved
saved_of formulas asserted level = record {
  formulas = first_formulas level.nodes level.foralls formulas;
  asserted = take level.asserted asserted;
}

-- the assertions with these levels, of which the innermost is the last
abbrev pub assertions_with : GraphState → Formulas → List ℕ → List Level → Assertions
assertions_with graph formulas asserted levels = record {
  graph = graph;
  formulas = formulas;
  asserted = asserted;
  saved = map (saved_of formulas asserted) (reverse levels);
}

-- the assertions that the fields hold
abbrev pub assertions_of : Inside → Assertions
assertions_of inside = assertions_with inside.graph inside.formulas inside.asserted inside.levels.items

-- so many nodes, foralls and asserted nodes stand, and from the innermost level to the outermost ever fewer did
abbrev pub Fall : ℕ → ℕ → ℕ → List Level → Type 0
Fall nodes foralls asserted [] = Unit {0}
Fall nodes foralls asserted (level ∷ levels) = (level.nodes ≤ nodes) × (level.foralls ≤ foralls) ×
    (level.asserted ≤ asserted) × Fall level.nodes level.foralls level.asserted levels

-- the terms of the nodes stand, and so they did in each level
pub record IsStackOf (graph : GraphState) (formulas : Formulas) (asserted : List ℕ) (levels : List Level) : Type 0
  where
    pub fall : Fall (length formulas.nodes) (length formulas.foralls) (length asserted) (reverse levels)
    pub terms_stand : NodesStand (length (terms_of graph.standing)) formulas.nodes
    pub saved_stand : AreSaved graph.standing (map (saved_of formulas asserted) (reverse levels))
    pub few : length levels < 2 ^ 32

-- what the fields keep true
abbrev pub IsStack : Inside → Type 0
IsStack inside = IsStackOf inside.graph inside.formulas inside.asserted inside.levels.items
