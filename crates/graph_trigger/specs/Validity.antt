-- What is tested of a trigger, one fact after another.
use Rattle.std.specs.Prelude.{◌≡◌, ◌≢◌, ◌⊎◌, ℕ, ◌<◌, ◌≤◌, List, length, slice_get, Some, All, Contains}
use Rattle.graph_terms.specs.Terms.{most_args}
use Rattle.graph_trigger.specs.declared.pattern_row.PatternRow.{PatternRow}
use Rattle.graph_trigger.specs.declared.pattern_row.PatternRow.TheVariants.{Var, App}
use Rattle.graph_trigger.specs.Trigger.{most_size, HasSize, IsApplication}

-- the row at the place names earlier rows, or a variable that there is
abbrev pub FitsRow : ℕ → ℕ → PatternRow → Type 0
FitsRow variables place (Var index) = index < variables
FitsRow variables place (App symbol parts) = (length parts ≤ most_args) × All (λ part. part < place) parts

abbrev pub FitRows : ℕ → List PatternRow → Type 0
FitRows variables rows = (place : ℕ) (row : PatternRow) → slice_get rows place ≡ Some row →
    FitsRow variables place row

-- each row names earlier rows
abbrev pub NameEarlier : List PatternRow → Type 0
NameEarlier rows = (row symbol : ℕ) (parts : List ℕ) → slice_get rows row ≡ Some (App symbol parts) →
    All (λ part. part < row) parts

-- no earlier row is equal to the row at the place
abbrev pub IsNewRow : List PatternRow → ℕ → Type 0
IsNewRow rows place = (earlier : ℕ) → earlier < place → slice_get rows earlier ≢ slice_get rows place

abbrev pub AreNew : List PatternRow → Type 0
AreNew rows = (place : ℕ) → place < length rows → IsNewRow rows place

abbrev pub AreApplications : List PatternRow → List ℕ → Type 0
AreApplications rows roots = (i root : ℕ) → slice_get roots i ≡ Some root → IsApplication rows root

-- the row is a part of an application
abbrev pub IsPart : List PatternRow → ℕ → Type 0
IsPart rows row = (above symbol : ℕ) × (parts : List ℕ) × (slice_get rows above ≡ Some (App symbol parts)) ×
    Contains parts row

-- the row is a root or a part of an application
abbrev pub IsReached : List PatternRow → List ℕ → ℕ → Type 0
IsReached rows roots row = Contains roots row ⊎ IsPart rows row

abbrev pub AreReached : List PatternRow → List ℕ → Type 0
AreReached rows roots = (row : ℕ) → row < length rows → IsReached rows roots row

-- a row is this variable
abbrev pub VariableStands : List PatternRow → ℕ → Type 0
VariableStands rows index = (row : ℕ) × (slice_get rows row ≡ Some (Var index))

abbrev pub HaveVariables : List PatternRow → ℕ → Type 0
HaveVariables rows variables = (index : ℕ) → index < variables → VariableStands rows index

-- the size of the row's pattern as a tree, which is at most so much
pub record IsSize (rows : List PatternRow) (row most size : ℕ) : Type 0 where
  pub size_is : HasSize rows row size
  pub fits : size ≤ most

-- the row's pattern is larger than that
pub record IsLarge (rows : List PatternRow) (row most : ℕ) : Type 0 where
  pub size : ℕ
  pub size_is : HasSize rows row size
  pub past : most < size

abbrev pub AreSmall : List PatternRow → List ℕ → Type 0
AreSmall rows roots = (i root size : ℕ) → slice_get roots i ≡ Some root → HasSize rows root size → size ≤ most_size
