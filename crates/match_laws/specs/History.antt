-- What is done to a standing list, its owed claims and its stored tuples, with levels.
use Rattle.std.specs.Prelude.{◌≡◌, ◌+◌, ◌≤◌, ◌⊎◌, ◌↔◌, ℕ, List, [], ◌∷◌, ◌++◌, length, slice_get, Some, Contains}
use Rattle.graph_trigger.specs.declared.trigger.Trigger.{Trigger}
use Rattle.graph_meaning.specs.declared.claim.Claim.{Claim}
use Rattle.graph_meaning.specs.declared.done.Done.{Done}
use Rattle.graph_meaning.specs.declared.union.Union.{Union}
use Rattle.graph_meaning.specs.Standing.{terms_of, triggers_of}
use Rattle.graph_meaning.specs.Lawful.{IsLawful}
use Rattle.graph_meaning.specs.Match.{IsMatch}
use Rattle.graph_meaning.specs.Justified.{Justified}
use Rattle.graph_meaning.specs.Unions.{ListsUnions}
use Rattle.match_laws.specs.Given.{IsGiven}
use Rattle.match_laws.specs.OwedLaw.{HasJustified}
use Rattle.match_laws.specs.Due.{Stored, IsComplete, IsSound, AreJustified, Covers, IsAnswered, StaysStored, StaysOwed}

-- the standing list, the standing list of the last time that all was answered, the claims owed and the tuples stored
pub record Seen : Type 0 where
  pub base : List Done
  pub standing : List Done
  pub owed : List Claim
  pub stored : Stored

-- each match is stored or owed, each claim owed has a reason that came after the base, and each stored tuple is a match
pub record Holds (seen : Seen) : Type 0 where
  pub lawful : IsLawful seen.standing
  pub since : List Done
  pub front : seen.standing ≡ seen.base ++ since
  pub complete : IsComplete seen.standing seen.owed seen.stored
  pub justified : AreJustified seen.base seen.standing seen.owed
  pub sound : IsSound seen.standing seen.stored

-- the operations that come give the claims that they justify, and no other
pub record Gives (old : Seen) (later : List Done) (owed' : List Claim) : Type 0 where
  pub lawful : IsLawful (old.standing ++ later)
  pub stay : StaysOwed old.owed owed'
  pub come : HasJustified old.standing (old.standing ++ later) owed'
  pub only : (claim : Claim) → Contains owed' claim →
      Contains old.owed claim ⊎ Justified old.standing (old.standing ++ later) claim

-- answers of a front of the standing list are taken: what they answered may go, what came since the front stays
pub record Answers (old : Seen) (owed' : List Claim) (stored' : Stored) : Type 0 where
  pub before : List Done
  pub later : List Done
  pub front : old.standing ≡ before ++ later
  pub came : List Claim
  pub covers : Covers before old.standing came
  pub stay : StaysOwed came owed'
  pub only : StaysOwed owed' old.owed
  pub answered : (claim : Claim) → Contains old.owed claim → Contains owed' claim ⊎ IsAnswered before stored' claim
  pub kept : StaysStored old.stored stored'
  pub matches : (number : ℕ) (tuple : List ℕ) → Contains stored' (number, tuple) →
      Contains old.stored (number, tuple) ⊎ ((trigger : Trigger) ×
      (slice_get (triggers_of before) number ≡ Some trigger) × IsMatch before trigger tuple)

-- one step: the base is the standing list where all is answered, what it was at the push after a pop, and else it stays
pub data Step : Seen → List Seen → Seen → List Seen → Type 0 where
  operates : {old : Seen} {levels : List Seen} {later : List Done} {owed' : List Claim} → Gives old later owed' →
      Step old levels (record old { standing = old.standing ++ later; owed = owed' }) levels
  answers : {old : Seen} {levels : List Seen} {owed' : List Claim} {stored' : Stored} → Answers old owed' stored' →
      Step old levels (record old { owed = owed'; stored = stored' }) levels
  settles : {old : Seen} {levels : List Seen} {stored' : Stored} → Answers old [] stored' →
      Step old levels (record { base = old.standing; standing = old.standing; owed = []; stored = stored' }) levels
  pushes : {old : Seen} {levels : List Seen} {later : List Done} {owed' : List Claim} → Gives old later owed' →
      Step old levels (record old { standing = old.standing ++ later; owed = owed' }) (old ∷ levels)
  pops : {old level : Seen} {levels : List Seen} → Step old (level ∷ levels) level levels

-- steps, one after another
pub data Steps : Seen → List Seen → Seen → List Seen → Type 0 where
  none : {seen : Seen} {levels : List Seen} → Steps seen levels seen levels
  then : {old mid new : Seen} {levels levels' levels'' : List Seen} → Steps old levels mid levels' →
      Step mid levels' new levels'' → Steps old levels new levels''

-- where nothing was done
abbrev pub first_seen : Seen
first_seen = record { base = []; standing = []; owed = []; stored = [] }

-- the same of what was there at each open push
pub data AllHold : List Seen → Type 0 where
  no_level : AllHold []
  level_holds : {level : Seen} {levels : List Seen} → Holds level → AllHold levels → AllHold (level ∷ levels)

-- one step keeps it, now and at each open push
abbrev pub StepHolds : Type 0
StepHolds = (old new : Seen) (levels levels' : List Seen) → Step old levels new levels' → Holds old →
    AllHold levels → Holds new × AllHold levels'

-- after any steps it holds
abbrev pub HistoryLaw : Type 0
HistoryLaw = (new : Seen) (levels : List Seen) → Steps first_seen [] new levels → Holds new × AllHold levels

-- an operation gives what it is to give, where what is owed after it is what was owed before and what `IsGiven` names
abbrev pub GivesLaw : Type 0
GivesLaw = (old : Seen) (later : List Done) (unions : List Union) (owed' : List Claim) →
    IsLawful (old.standing ++ later) →
    length (terms_of (old.standing ++ later)) ≤ length (terms_of old.standing) + 1 →
    ListsUnions old.standing (old.standing ++ later) unions →
    ((claim : Claim) → Contains owed' claim ↔
    (Contains old.owed claim ⊎ IsGiven old.standing (old.standing ++ later) unions claim)) → Gives old later owed'
