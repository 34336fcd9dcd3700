-- Which claims are due for a term and for a trigger.
use Rattle.std.specs.Prelude.{◌≡◌, ℕ, List, Some, slice_get, Contains}
use Rattle.graph_meaning.specs.declared.claim.Claim.{Claim}
use Rattle.graph_meaning.specs.declared.done.Done.{Done}
use Rattle.graph_meaning.specs.Questions.{HasSymbol}
use Rattle.match_trees.specs.EntryList.{entry_of}
use Rattle.match_laws.specs.Given.{IsOnSymbol}
use Rattle.match_owed.specs.Starts.{StartList}

-- the claims of a term: of each live trigger, at each start whose pattern has the term's symbol
abbrev pub IsDueTerm : List Done → ℕ → Claim → Type 0
IsDueTerm standing term claim = (claim.root ≡ term) × IsOnSymbol standing claim

-- the claims of a live trigger: at each start, each term with the symbol of its pattern
abbrev pub IsDueTrigger : List Done → ℕ → Claim → Type 0
IsDueTrigger standing trigger claim = (claim.trigger ≡ trigger) × IsOnSymbol standing claim

-- those of one start
abbrev pub IsDueStart : List Done → ℕ → ℕ → Claim → Type 0
IsDueStart standing trigger start claim = (claim.start ≡ start) × IsDueTrigger standing trigger claim

-- the claim of a trigger and a start, at a term with the symbol
abbrev pub IsOfTerms : List Done → ℕ → ℕ → ℕ → Claim → Type 0
IsOfTerms standing trigger start symbol claim = (claim.trigger ≡ trigger) × (claim.start ≡ start) ×
    HasSymbol standing symbol claim.root

-- the claim of the entry with one of the numbers, at the term
abbrev pub IsOfEntries : StartList → List ℕ → ℕ → Claim → Type 0
IsOfEntries starts numbers term claim = (claim.root ≡ term) × ((number : ℕ) × Contains numbers number ×
    (slice_get starts.list.entries number ≡ Some (entry_of claim.trigger claim.start)))
