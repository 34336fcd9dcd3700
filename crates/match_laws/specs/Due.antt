-- What is stored of the matches, and what is owed.
use Rattle.std.specs.Prelude.{◌≡◌, ◌⊎◌, ℕ, List, slice_get, Some, Contains}
use Rattle.graph_trigger.specs.declared.trigger.Trigger.{Trigger}
use Rattle.graph_meaning.specs.declared.claim.Claim.{Claim}
use Rattle.graph_meaning.specs.declared.done.Done.{Done}
use Rattle.graph_meaning.specs.Standing.{triggers_of}
use Rattle.graph_meaning.specs.Match.{IsItemMatch, IsMatch}
use Rattle.graph_meaning.specs.Justified.{Justified}
use Rattle.match_laws.specs.StepLaw.{AreSame, MatchedBefore}

-- tuples, each under the number of its trigger
abbrev pub Stored : Type 0
Stored = List (ℕ × List ℕ)

-- the tuple is stored for the trigger, up to classes
abbrev pub IsStored : List Done → Stored → ℕ → List ℕ → Type 0
IsStored standing stored number binding = (tuple : List ℕ) × Contains stored (number, tuple) ×
    AreSame standing tuple binding

-- a claim that is owed has the match
abbrev pub IsOwed : List Done → List Claim → ℕ → Trigger → List ℕ → Type 0
IsOwed standing owed number trigger binding = (claim : Claim) × Contains owed claim × (claim.trigger ≡ number) ×
    IsItemMatch standing trigger claim.start claim.root binding

-- each match of a live trigger is stored or owed
abbrev pub IsComplete : List Done → List Claim → Stored → Type 0
IsComplete standing owed stored = (number : ℕ) (trigger : Trigger) (binding : List ℕ) →
    slice_get (triggers_of standing) number ≡ Some trigger → IsMatch standing trigger binding →
    IsStored standing stored number binding ⊎ IsOwed standing owed number trigger binding

-- the tuple is a match of the live trigger, up to classes
abbrev pub IsSoundTuple : List Done → ℕ → List ℕ → Type 0
IsSoundTuple standing number tuple = (trigger : Trigger) × (binding : List ℕ) ×
    (slice_get (triggers_of standing) number ≡ Some trigger) × IsMatch standing trigger binding ×
    AreSame standing tuple binding

-- each stored tuple is a match, up to classes
abbrev pub IsSound : List Done → Stored → Type 0
IsSound standing stored = (number : ℕ) (tuple : List ℕ) → Contains stored (number, tuple) →
    IsSoundTuple standing number tuple

-- each claim that is owed has a reason that came after the base
abbrev pub AreJustified : List Done → List Done → List Claim → Type 0
AreJustified base standing owed = (claim : Claim) → Contains owed claim → Justified base standing claim

-- each match of an item now was there before, or a claim that came since has it
abbrev pub Covers : List Done → List Done → List Claim → Type 0
Covers before now came = (number : ℕ) (trigger : Trigger) (start root : ℕ) (binding : List ℕ) →
    slice_get (triggers_of now) number ≡ Some trigger → IsItemMatch now trigger start root binding →
    MatchedBefore before now number trigger start root binding ⊎ IsOwed now came number trigger binding

-- the matches that the claim had are stored
abbrev pub IsAnswered : List Done → Stored → Claim → Type 0
IsAnswered standing stored claim = (trigger : Trigger) (binding : List ℕ) →
    slice_get (triggers_of standing) claim.trigger ≡ Some trigger →
    IsItemMatch standing trigger claim.start claim.root binding → Contains stored (claim.trigger, binding)

-- what is stored in the one is stored in the other
abbrev pub StaysStored : Stored → Stored → Type 0
StaysStored old new = (number : ℕ) (tuple : List ℕ) → Contains old (number, tuple) → Contains new (number, tuple)

-- what is owed in the one is owed in the other
abbrev pub StaysOwed : List Claim → List Claim → Type 0
StaysOwed old new = (claim : Claim) → Contains old claim → Contains new claim
