-- Matches under the foralls of their triggers.
use Rattle.std.specs.Prelude.{◌≡◌, ℕ, ◌↔◌, List, ◌∷◌, All, Contains}
use Rattle.graph_meaning.specs.declared.done.Done.{Done}
use Rattle.graph_meaning.specs.Match.{InOrder, IsMatch}
use Rattle.graph_meaning.specs.Same.{IsLeader}
use Rattle.graph_meaning.specs.Standing.{triggers_of}
use Rattle.graph_trigger.specs.declared.trigger.Trigger.{Trigger}
use Rattle.match_store.specs.declared.instance.Instance.{Instance}
use Rattle.match_store.specs.DoneInstances.{AreSameEach}

-- the forall of one of the triggers, and then a match of that trigger
pub record IsMatchKey (standing : List Done) (triggers : List Trigger) (key : List ℕ) : Type 0 where
  pub trigger : Trigger
  pub among : Contains triggers trigger
  pub tuple : List ℕ
  pub is_key : key ≡ trigger.forall ∷ tuple
  pub matches : IsMatch standing trigger tuple

-- exactly these, in any order
abbrev pub HaveMatches : List Done → List Trigger → List (List ℕ) → Type 0
HaveMatches standing triggers keys = (key : List ℕ) → Contains keys key ↔ IsMatchKey standing triggers key

-- exactly those of the live triggers, in order, each once
pub record AreCandidates (standing : List Done) (keys : List (List ℕ)) : Type 0 where
  pub in_order : InOrder keys
  pub exact : HaveMatches standing (triggers_of standing) keys

-- the forall of the instance, and then the leaders of its terms
pub record IsLeaderKey (standing : List Done) (instance : Instance) (key : List ℕ) : Type 0 where
  pub leaders : List ℕ
  pub is_key : key ≡ instance.forall ∷ leaders
  pub same : AreSameEach standing instance.tuple leaders
  pub led : All (λ term. IsLeader standing term term) leaders

-- that of a done instance
abbrev pub IsDoneKey : List Done → List Instance → List ℕ → Type 0
IsDoneKey standing done key = (instance : Instance) × Contains done instance × IsLeaderKey standing instance key

-- exactly those of the done instances
abbrev pub AreDoneKeys : List Done → List Instance → List (List ℕ) → Type 0
AreDoneKeys standing done keys = (key : List ℕ) → Contains keys key ↔ IsDoneKey standing done key

-- of the candidates exactly those that are not done, in order
pub record AreLeft (done candidates keys : List (List ℕ)) : Type 0 where
  pub in_order : InOrder keys
  pub exact : (key : List ℕ) → Contains keys key ↔ (Contains candidates key × (Contains done key → ⊥))
