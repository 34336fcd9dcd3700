-- Rounds of instances.
use Rattle.std.specs.Prelude.{ℕ, ◌<◌, List, length, All, Contains}
use Rattle.graph_trigger.specs.declared.trigger.Trigger.{Trigger}
use Rattle.graph_meaning.specs.declared.op.Op.TheVariants.{Live}
use Rattle.match_store.specs.declared.instance.Instance.{Instance}
use Rattle.formula_table.specs.Formulas.{Formulas}
use Rattle.formula_table.specs.Instance.{HasVariables}
use Rattle.formula_assert.specs.Held.{Held}
use Rattle.formula_assert.specs.Assertions.{Assertions}
use Rattle.formula_assert.specs.AssertInstance.{TermsStand}
use Rattle.formula_assert.specs.Exactly.{operations_in, IsOfAsserted}
use Rattle.search_laws.specs.Path.{Path}
use Rattle.search_branch.specs.Steps.{branch_of}

-- the path where this stands and these places are struck, with these instances done and so many entered by each round
abbrev pub path_at : Assertions → List (ℕ × ℕ) → List Instance → List ℕ → Path
path_at now struck done spent =
    record { formulas = now.formulas; branch = branch_of now struck; done = done; spent = spent }

-- the tuple has a term for each variable of the forall, and its terms stand
pub record CanEnter (now : Assertions) (instance : Instance) : Type 0 where
  pub variables : HasVariables now.formulas instance.forall (length instance.tuple)
  pub terms : TermsStand now instance.tuple

-- the asserted nodes stand in the table, and each live trigger comes from an asserted forall
pub record LivesAreAsserted (formulas : Formulas) (now : Held) : Type 0 where
  pub nodes : All (λ n. n < length formulas.nodes) now.asserted
  pub lives : (trigger : Trigger) → Contains (operations_in now.graph.standing) (Live trigger) →
      IsOfAsserted formulas now (Live trigger)
