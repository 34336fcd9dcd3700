-- What holds of the standing assertions.
use Rattle.std.specs.Prelude.{◌≡◌, ℕ, ◌+◌, List, [], ◌∷◌, length}
use Rattle.std.specs.List.{before_last}
use Rattle.graph_meaning.specs.declared.done.Done.{Done}
use Rattle.graph_meaning.specs.Standing.{is_push, levels_of, terms_of}
use Rattle.graph_meaning.specs.Lawful.{IsLawful}
use Rattle.formula_table.specs.Formulas.{Formulas, IsFormulaTable, NodesStand}
use Rattle.formula_assert.specs.Assertions.{Saved, Assertions}

-- a table of formulas over so many terms
pub record IsTableOver (count : ℕ) (formulas : Formulas) : Type 0 where
  pub table : IsFormulaTable formulas
  pub terms : NodesStand count formulas.nodes

-- for each level of the graph formulas were saved, and they are over the terms that stood when it was opened
abbrev pub AreSaved : List Done → List Saved → Type 0
AreSaved standing [] = levels_of standing ≡ 0
AreSaved standing (level ∷ saved) = (levels_of standing ≡ length saved + 1) ×
    IsTableOver (length (terms_of (before_last is_push standing))) level.formulas ×
    AreSaved (before_last is_push standing) saved

-- the graph is lawful, the formulas are over its terms, and so were those of each level
pub record AreAssertions (now : Assertions) : Type 0 where
  pub lawful : IsLawful now.graph.standing
  pub formulas : IsTableOver (length (terms_of now.graph.standing)) now.formulas
  pub saved : AreSaved now.graph.standing now.saved
