-- What a matcher found.
use Rattle.std.specs.Prelude.{◌≡◌, ℕ, ◌+◌, ◌⊎◌, List, [], ◌∷◌, ◌++◌, Option, Some}
use Rattle.match_machine.specs.Answers.{Answered}
use Rattle.match_pool.specs.declared.findings.Findings.{Findings}
use Rattle.match_pool.specs.Once.{items_of}
use Rattle.match_pool.specs.Weights.{weigh}

-- what the numbers of the items weigh that were answered or starved
abbrev pub weight : (ℕ → ℕ) → Findings → ℕ
weight h found = weigh h (items_of found.answers.items) + weigh h found.starved.items

-- the number is one more of the starved
pub record Starves (number : ℕ) (old new : Findings) : Type 0 where
  pub answers : new.answers.items ≡ old.answers.items
  pub starved : new.starved.items ≡ old.starved.items ++ number ∷ []

-- there is one answer more
pub record Gains (answer : Answered) (old new : Findings) : Type 0 where
  pub answers : new.answers.items ≡ old.answers.items ++ answer ∷ []
  pub starved : new.starved.items ≡ old.starved.items

-- the answer was put, or the number is starved
abbrev pub Puts : ℕ → Option Answered → Findings → Findings → Type 0
Puts number answer old new = Starves number old new ⊎ ((one : Answered) × (answer ≡ Some one) × Gains one old new)

-- the item with the number is starved, or has such an answer
abbrev pub TakesOn : (Answered → Type 0) → ℕ → Findings → Findings → Type 0
TakesOn P number old new = Starves number old new ⊎ ((one : Answered) × (one.item ≡ number) × P one ×
    Gains one old new)
