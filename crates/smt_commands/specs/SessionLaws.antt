-- What stands in a session is right, and every command keeps it so.
use Rattle.std.specs.Prelude.{◌≡◌, ℕ, ◌≤◌, List, [], ◌∷◌, length, take, reverse, Ok, All}
use Rattle.smt_text.specs.Word.{Word}
use Rattle.formula_draft.specs.Draft.{Formula, IsFormula}
use Rattle.smt_names.specs.declared.level.Level.{Level}
use Rattle.smt_names.specs.Names.{State, Declared, Defined}
use Rattle.smt_laws.specs.Sorted.{IsTruth}
use Rattle.smt_laws.specs.Sound.{AreDeclared}
use Rattle.smt_commands.specs.declared.command.Command.TheVariants.{Assert}
use Rattle.smt_commands.specs.Commands.{Answer, elaborate}

-- the sorts of a function are Bool or among so many
pub record FunctionIsWithin (sorts : ℕ) (f : Declared) : Type 0 where
  pub arguments : All (λ sort. sort ≤ sorts) f.arguments
  pub value : f.sort ≤ sorts

-- and so are those of a definition
pub record DefinitionIsWithin (sorts : ℕ) (d : Defined) : Type 0 where
  pub parameters : All (λ sort. sort ≤ sorts) d.parameters
  pub value : d.sort ≤ sorts

-- functions and definitions name only sorts that stand
pub record AreWithin (sorts : ℕ) (functions : List Declared) (definitions : List Defined) : Type 0 where
  pub functions_are : All (FunctionIsWithin sorts) functions
  pub definitions_are : All (DefinitionIsWithin sorts) definitions

-- no more stood when the level was opened than stands, what stood then was right by itself and named only sorts that
-- stood then, and so it is with the levels before it, the innermost first
abbrev pub AreSoundLevels : (sorts : ℕ) → List Declared → List Defined → List Level → Type 0
AreSoundLevels sorts functions definitions [] = Unit {0}
AreSoundLevels sorts functions definitions (level ∷ levels) =
    (level.sorts ≤ sorts) × (level.functions ≤ length functions) × (level.definitions ≤ length definitions)
    × AreDeclared (take level.functions functions) (take level.definitions definitions)
    × AreWithin level.sorts (take level.functions functions) (take level.definitions definitions)
    × AreSoundLevels level.sorts (take level.functions functions) (take level.definitions definitions) levels

-- the functions and definitions are right and name only sorts that stand, and so did those of each open level
pub record IsSound (state : State) : Type 0 where
  pub declared : AreDeclared state.functions state.definitions
  pub within : AreWithin (length state.sorts) state.functions state.definitions
  pub levels : AreSoundLevels (length state.sorts) state.functions state.definitions (reverse state.levels)

-- where the command asserts a formula, the formula is a formula, sorted as the functions are declared
abbrev pub AssertsTruth : Answer → Type 0
AssertsTruth answer = (formula : Formula) → answer.command ≡ Assert formula → IsFormula formula ×
    IsTruth answer.state.functions [] formula.rows formula.nodes formula.foralls formula.root

-- every command that is answered keeps the state right, and what it asserts is a formula
abbrev pub KeepsSound : Type 0
KeepsSound = (state : State) (words : List Word) (answer : Answer) → IsSound state →
    elaborate state words ≡ Ok answer → IsSound answer.state × AssertsTruth answer
