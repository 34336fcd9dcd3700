-- Where a search stands on its way.
use Rattle.std.specs.Prelude.{ℕ, List, [], ◌∷◌, ◌++◌}
use Rattle.match_store.specs.declared.instance.Instance.{Instance}
use Rattle.formula_table.specs.Formulas.{Formulas}
use Rattle.formula_assert.specs.Held.{Held}
use Rattle.search_laws.specs.Branch.{Branch, first_branch}

-- the formulas, the branch, the instances that are done, and how many each round on the way entered
pub record Path : Type 0 where
  pub formulas : Formulas
  pub branch : Branch
  pub done : List Instance
  pub spent : List ℕ

-- the search of what is held begins: nothing is struck, nothing is done, and no round is spent
abbrev pub first_path : Formulas → Held → Path
first_path formulas now = record { formulas = formulas; branch = first_branch now; done = []; spent = [] }

-- the same with this branch
abbrev pub with_branch : Path → Branch → Path
with_branch path branch = record path { branch = branch }

-- a round more is spent, which entered so many instances
abbrev pub after_round : Path → ℕ → Path
after_round path count = record path { spent = path.spent ++ count ∷ [] }
