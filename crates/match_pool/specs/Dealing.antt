-- The rule of a deque: what is in it and what was taken from it is what was pushed, each number as often.
use Rattle.std.specs.Prelude.{◌≡◌, ℕ, ◌+◌, List, []}
use mathlib.Core.Option.{some}
use lib.ListN.{get_elem?}
use Rattle.match_pool.specs.declared.share.Share.{Share}
use Rattle.match_pool.specs.Weights.{weigh}

abbrev pub share : ℕ → List ℕ → List ℕ → Share
share parts pushed taken = record { parts = parts; pushed = pushed; taken = taken }

-- who has no part of the right to know has pushed and taken nothing
abbrev pub IsIdle : Share → Type 0
IsIdle v = v.parts ≡ 0 → (v.pushed ≡ []) × (v.taken ≡ [])

-- there are two parts, and each number was pushed as often as it was taken and is there
abbrev pub Dealt : List ℕ → List Share → Type 0
Dealt items views =
    (weigh (λ v. v.parts) views ≡ 2)
    × ((h : ℕ → ℕ) → weigh (λ v. weigh h v.pushed) views ≡ weigh (λ v. weigh h v.taken) views + weigh h items)
    × ((seat : ℕ) (v : Share) → get_elem? views seat ≡ some v → IsIdle v)

-- who has both parts knows that each number was taken as often as it was pushed
abbrev pub IsAllTaken : Share → Type 0
IsAllTaken v = v.parts ≡ 2 → (h : ℕ → ℕ) → weigh h v.pushed ≡ weigh h v.taken
