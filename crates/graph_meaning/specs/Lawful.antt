-- Which operations may be done, and what a standing list keeps to.
use Rattle.std.specs.Prelude.{ℕ, ◌<◌, ◌≤◌, List, length, take, Contains, All}
use Rattle.graph_meaning.specs.declared.op.Op.{Op}
use Rattle.graph_meaning.specs.declared.op.Op.TheVariants.{Add, Merge, Differ, Live, Push, Pop}
use Rattle.graph_meaning.specs.declared.done.Done.{Done}
use Rattle.graph_terms.specs.declared.term_row.TermRow.{TermRow}
use Rattle.graph_terms.specs.Terms.{most_args, term_row, IsAbsent, IsTable}
use Rattle.graph_meaning.specs.Standing.{terms_of, merges_of, differs_of, triggers_of, levels_of}
use Rattle.graph_trigger.specs.Trigger.{IsValid}

-- the row is new, and its few arguments are terms
abbrev pub AllowsRow : List TermRow → ℕ → List ℕ → Type 0
AllowsRow rows symbol args = All (λ arg. arg < length rows) args × (length args ≤ most_args) ×
    IsAbsent rows (term_row symbol args)

-- both numbers are below the bound
abbrev pub AreBelow : ℕ → ℕ → ℕ → Type 0
AreBelow bound left right = (left < bound) × (right < bound)

-- the operation may be done next: the terms that it names stand, its row is new, its trigger is valid, and a Pop has
-- its Push
abbrev pub Allows : List Done → Op → Type 0
Allows standing (Add symbol args) = AllowsRow (terms_of standing) symbol args
Allows standing (Merge left right) = AreBelow (length (terms_of standing)) left right
Allows standing (Differ left right) = AreBelow (length (terms_of standing)) left right
Allows standing (Live trigger) = IsValid trigger
Allows standing Push = Unit {0}
Allows standing Pop = 0 < levels_of standing

-- the ends of each pair are below the number
abbrev pub EndsBelow : List (ℕ × ℕ) → ℕ → Type 0
EndsBelow pairs bound = (s t : ℕ) → Contains pairs (s, t) → AreBelow bound s t

-- the terms are a table, equations and disequations are between terms, and live triggers are valid
pub record KeepsRules (standing : List Done) : Type 0 where
  pub table : IsTable (terms_of standing)
  pub ends : EndsBelow (merges_of standing) (length (terms_of standing))
  pub different_ends : EndsBelow (differs_of standing) (length (terms_of standing))
  pub triggers : All IsValid (triggers_of standing)

-- it keeps to the rules, and so did each front of it: an operation names terms that stood when it came
pub record IsLawful (standing : List Done) : Type 0 where
  pub whole : KeepsRules standing
  pub fronts : (k : ℕ) → KeepsRules (take k standing)
