-- What stands is made of tables: of terms, and of formulas over them.
use Rattle.std.specs.Prelude.{List, [], ◌∷◌, length}
use Rattle.std.specs.List.{before_last}
use Rattle.graph_meaning.specs.declared.done.Done.{Done}
use Rattle.graph_meaning.specs.Standing.{is_push, terms_of}
use Rattle.graph_terms.specs.Terms.{IsTable}
use Rattle.formula_assert.specs.Assertions.{Saved, Assertions}
use Rattle.formula_assert.specs.Stands.{IsTableOver}

-- the terms were a table when each level was opened, and the formulas one over them
abbrev pub WereTables : List Done → List Saved → Type 0
WereTables standing [] = Unit {0}
WereTables standing (level ∷ saved) = IsTable (terms_of (before_last is_push standing)) ×
    IsTableOver (length (terms_of (before_last is_push standing))) level.formulas ×
    WereTables (before_last is_push standing) saved

-- the terms are a table and the formulas one over them, now and as they stood when each level was opened
pub record AreTables (now : Assertions) : Type 0 where
  pub terms : IsTable (terms_of now.graph.standing)
  pub formulas : IsTableOver (length (terms_of now.graph.standing)) now.formulas
  pub saved : WereTables now.graph.standing now.saved
