use Rattle.std.proofs.Common.{◌≡◌, ◌∷◌, [], ℕ, List, None, refl}
use Rattle.em_words.specs.Number.{number_in}
use Rattle.em_words.proofs.laws.hyphen_law.Goals as goal

no_number : (least most : ℕ) (rest : List ℕ) → number_in least most (45 ∷ rest) ≡ None
no_number least most [] = refl
no_number least most (b ∷ bs) = refl

pub returns-clause-number : goal.returns-clause-number
returns-clause-number c = no_number

pub returns-clause-command : goal.returns-clause-command
returns-clause-command c = λ rest count. refl
