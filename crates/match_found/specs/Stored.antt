-- Stored matches, and their lists.
use Rattle.std.specs.Prelude.{◌≡◌, ℕ, ◌<◌, ◌↔◌, List, [], ◌∷◌, ◌++◌, length, map, set, get_or, All, Contains}
use Rattle.graph_meaning.specs.declared.done.Done.{Done}
use Rattle.graph_meaning.specs.Match.{InOrder}
use Rattle.graph_meaning.specs.Same.{IsLeader}
use Rattle.graph_meaning.specs.Standing.{terms_of, triggers_of}
use Rattle.match_laws.specs.Due.{Stored}
use Rattle.match_laws.specs.StepLaw.{AreSame}
use Rattle.match_found.specs.declared.stored_tuple.StoredTuple.{StoredTuple}

-- each tuple under the number of its trigger
abbrev pub stored_of : List StoredTuple → Stored
stored_of tuples = map (λ one. (one.trigger, one.tuple)) tuples

-- each tuple is of a live trigger and of terms that stand
abbrev pub AreStanding : List Done → Stored → Type 0
AreStanding standing stored = (number : ℕ) (tuple : List ℕ) → Contains stored (number, tuple) →
    (number < length (triggers_of standing)) × All (λ term. term < length (terms_of standing)) tuple

-- the leaders of the terms, place by place
pub record AreLeadersOf (standing : List Done) (terms leaders : List ℕ) : Type 0 where
  pub same : AreSame standing terms leaders
  pub led : All (λ term. IsLeader standing term term) leaders

-- a tuple that is stored for the trigger has these leaders
abbrev pub IsListed : List Done → Stored → ℕ → List ℕ → Type 0
IsListed standing stored number leaders = (tuple : List ℕ) × Contains stored (number, tuple) ×
    AreLeadersOf standing tuple leaders

-- a list for each live trigger, with exactly the leaders of its stored tuples, in any order
pub record HaveStored (standing : List Done) (stored : Stored) (lists : List (List (List ℕ))) : Type 0 where
  pub each_trigger : length lists ≡ length (triggers_of standing)
  pub exact : (n : ℕ) (leaders : List ℕ) → n < length (triggers_of standing) →
      Contains (get_or lists n []) leaders ↔ IsListed standing stored n leaders

-- the same, in lexicographic order, each once
pub record ListsStored (standing : List Done) (stored : Stored) (lists : List (List (List ℕ))) : Type 0 where
  pub have : HaveStored standing stored lists
  pub in_order : (n : ℕ) → n < length (triggers_of standing) → InOrder (get_or lists n [])

-- the leaders of the tuple came last in the list at the place
pub record PutsLeaders (standing : List Done) (at : ℕ) (tuple : List ℕ) (old new : List (List (List ℕ))) : Type 0
  where
    pub leaders : List ℕ
    pub are : AreLeadersOf standing tuple leaders
    pub is : new ≡ set old at (get_or old at [] ++ leaders ∷ [])

-- in the place of one list came one with the same tuples, in order
pub record ArrangesAt (at : ℕ) (old new : List (List (List ℕ))) : Type 0 where
  pub list : List (List ℕ)
  pub is : new ≡ set old at list
  pub in_order : InOrder list
  pub same : (tuple : List ℕ) → Contains list tuple ↔ Contains (get_or old at []) tuple

-- each list has the same tuples as before, and the first ones are in order
pub record ArrangesEach (many : ℕ) (old new : List (List (List ℕ))) : Type 0 where
  pub each : length new ≡ length old
  pub in_order : (n : ℕ) → n < many → InOrder (get_or new n [])
  pub same : (n : ℕ) (tuple : List ℕ) → n < length old → Contains (get_or new n []) tuple ↔
      Contains (get_or old n []) tuple
