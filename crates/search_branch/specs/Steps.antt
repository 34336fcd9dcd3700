-- The next step of a search.
use Rattle.std.specs.Prelude.{ℕ, ◌<◌, List}
use Rattle.formula_table.specs.Formulas.{Formulas}
use Rattle.formula_assert.specs.Assertions.{Assertions, held_of}
use Rattle.search_laws.specs.Branch.{Branch}
use Rattle.search_laws.specs.Closing.{Conflict, IsUnit, IsFirstUnit, IsSplit, HasNoOpen}
use Rattle.search_branch.specs.declared.step.Step.{Step}
use Rattle.search_branch.specs.declared.step.Step.TheVariants.{Lost, Assert, Split, WayOut}

-- the branch of what stands, with these places struck
abbrev pub branch_of : Assertions → List (ℕ × ℕ) → Branch
branch_of now struck = record { held = held_of now; struck = struck }

-- nothing in the branch cannot be true together
abbrev pub HasNoConflict : Formulas → Branch → Type 0
HasNoConflict formulas branch = Conflict formulas branch → ⊥

-- there is no unit in the branch
abbrev pub HasNoUnit : Formulas → Branch → Type 0
HasNoUnit formulas branch = (n part : ℕ) → IsUnit formulas branch n part → ⊥

-- the next step: there is a conflict, or a first unit, or a disjunction to split, or nothing is open
abbrev pub IsStep : Formulas → Branch → Step → Type 0
IsStep formulas branch Lost = Conflict formulas branch
IsStep formulas branch (Assert part) = HasNoConflict formulas branch × (n : ℕ) × IsFirstUnit formulas branch n part
IsStep formulas branch (Split n place part) = HasNoConflict formulas branch × HasNoUnit formulas branch ×
    IsSplit formulas branch n place part
IsStep formulas branch WayOut = HasNoConflict formulas branch × HasNoUnit formulas branch × HasNoOpen formulas branch

-- the part that the step asserts is below the bound
abbrev pub IsWithin : ℕ → Step → Type 0
IsWithin bound Lost = Unit {0}
IsWithin bound (Assert part) = part < bound
IsWithin bound (Split n place part) = part < bound
IsWithin bound WayOut = Unit {0}
