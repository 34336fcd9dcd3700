-- Values of literals by which terms are equal and which are kept apart.
use Rattle.std.specs.Prelude.{ℕ, ◌⊎◌, List, Contains}
use Rattle.formula_truth.specs.declared.truth.Truth.{Truth}
use Rattle.formula_truth.specs.declared.truth.Truth.TheVariants.{Yes, No, Unset}

-- a difference has one end in the class of each of the two terms
abbrev pub AreKeptApart : (ℕ → ℕ → Type 0) → List (ℕ × ℕ) → ℕ → ℕ → Type 0
AreKeptApart same differs s t =
    (a : ℕ) × (b : ℕ) × Contains differs (a, b) × ((same a s × same b t) ⊎ (same a t × same b s))

-- the value of an equation of two terms: Yes where they are equal, No where they are kept apart
abbrev pub IsEquationValue : (ℕ → ℕ → Type 0) → List (ℕ × ℕ) → ℕ → ℕ → Truth → Type 0
IsEquationValue same differs s t Yes = same s t
IsEquationValue same differs s t No = (same s t → ⊥) × AreKeptApart same differs s t
IsEquationValue same differs s t Unset = (same s t → ⊥) × (AreKeptApart same differs s t → ⊥)

-- the value of an atom: Yes where its term is equal to that of true, 0, and No where to that of false, 1
abbrev pub IsAtomValue : (ℕ → ℕ → Type 0) → ℕ → Truth → Type 0
IsAtomValue same t Yes = same t 0
IsAtomValue same t No = (same t 0 → ⊥) × same t 1
IsAtomValue same t Unset = (same t 0 → ⊥) × (same t 1 → ⊥)

-- a difference has equal ends
abbrev pub Clashes : (ℕ → ℕ → Type 0) → List (ℕ × ℕ) → Type 0
Clashes same differs = (a : ℕ) × (b : ℕ) × Contains differs (a, b) × same a b
