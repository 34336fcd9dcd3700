-- What an `Owed` is seen as: a log of what happened to claims.
use Rattle.std.specs.Prelude.{◌≡◌, ◌-◌, ◌<◌, ◌≤◌, ◌↔◌, ◌⊎◌, ℕ, true, false, min, Option, Some, None}
use Rattle.std.specs.Prelude.{List, [], ◌∷◌, ◌++◌, length, take, slice_get, Contains}
use Rattle.graph_meaning.specs.declared.claim.Claim.{Claim}
use Rattle.match_owed.specs.declared.event.Event.{Event}

-- what happened to claims; how long this log was at each open push, where the last operation began, and where the batch
-- that is out was taken; and the claims of each item of that batch
pub record OwedLog : Type 0 where
  pub log : List Event
  pub levels : List ℕ
  pub begun : Option ℕ
  pub batch : Option ℕ
  pub items : List (List Claim)

-- nothing happened
abbrev pub no_work : OwedLog
no_work = record { log = []; levels = []; begun = None; batch = None; items = [] }

abbrev pub gave : Claim → Event
gave claim = record { claim = claim; gives = true }

abbrev pub discharged : Claim → Event
discharged claim = record { claim = claim; gives = false }

-- the claim was given, and not discharged since
pub record Owes (log : List Event) (claim : Claim) : Type 0 where
  pub place : ℕ
  pub given : slice_get log place ≡ Some (gave claim)
  pub since : (later : ℕ) → place < later → slice_get log later ≡ Some (discharged claim) → ⊥

-- the claim was given there, and nothing happened to it later
pub record IsLastGift (log : List Event) (claim : Claim) (place : ℕ) : Type 0 where
  pub given : slice_get log place ≡ Some (gave claim)
  pub after : (later : ℕ) (event : Event) → place < later → slice_get log later ≡ Some event →
      event.claim ≡ claim → ⊥

-- no claim stands at two places
abbrev pub IsEachOnce : List Claim → Type 0
IsEachOnce claims = (i j : ℕ) (claim : Claim) → slice_get claims i ≡ Some claim → slice_get claims j ≡ Some claim → i ≡ j

-- exactly the claims that are owed, each once
pub record AreOwed (log : List Event) (claims : List Claim) : Type 0 where
  pub once : IsEachOnce claims
  pub exact : (claim : Claim) → Contains claims claim ↔ Owes log claim

-- so many claims are owed
abbrev pub CountsOwed : List Event → ℕ → Type 0
CountsOwed log count = (claims : List Claim) × AreOwed log claims × (length claims ≡ count)

-- the claim was given at the mark or later
abbrev pub CameAnew : List Event → ℕ → Claim → Type 0
CameAnew log mark claim = (place : ℕ) × (mark ≤ place) × (slice_get log place ≡ Some (gave claim))

-- events came last, or none
abbrev pub Grows : List Event → List Event → Type 0
Grows old new = (more : List Event) × (new ≡ old ++ more)

-- of these claims those that had not come anew since the mark are owed no more, and no other claim was owed or came
pub record TakesOff (mark : ℕ) (IsTaken : Claim → Type 0) (old new : List Event) : Type 0 where
  pub grows : Grows old new
  pub only : (claim : Claim) → Owes new claim → Owes old claim
  pub left : (claim : Claim) → Owes old claim → Owes new claim ⊎ IsTaken claim
  pub stays : (claim : Claim) → Owes old claim → CameAnew old mark claim → Owes new claim
  pub goes : (claim : Claim) → IsTaken claim → Owes new claim → CameAnew old mark claim
  pub anew : (claim : Claim) → CameAnew new mark claim → CameAnew old mark claim

-- the same but for the log
pub record SameButLog (old new : OwedLog) : Type 0 where
  pub levels : new.levels ≡ old.levels
  pub begun : new.begun ≡ old.begun
  pub batch : new.batch ≡ old.batch
  pub items : new.items ≡ old.items

-- the mark, or the other where that is earlier
abbrev pub earlier_mark : Option ℕ → ℕ → Option ℕ
earlier_mark (Some taken) mark = Some (min taken mark)
earlier_mark None mark = None

-- a level opened at the end of the log
abbrev pub pushed : OwedLog → OwedLog
pushed state = record state { levels = state.levels ++ length state.log ∷ []; begun = None }

-- the last level was closed, which began at the mark: the log is what it was there
abbrev pub popped : OwedLog → ℕ → OwedLog
popped state mark = record {
  log = take mark state.log;
  levels = take (length state.levels - 1) state.levels;
  begun = None;
  batch = earlier_mark state.batch mark;
  items = state.items;
}

-- a level is open, or something is owed
abbrev pub IsBusy : OwedLog → Type 0
IsBusy state = (0 < length state.levels) ⊎ ((claim : Claim) × Owes state.log claim)

-- no level is open, and nothing is owed
pub record IsIdle (state : OwedLog) : Type 0 where
  pub no_level : length state.levels ≡ 0
  pub nothing : (claim : Claim) → Owes state.log claim → ⊥

-- the batch ended; the log was cleared where no level is open and nothing is owed, and else it stays
pub data GivesBack (old new : OwedLog) : Type 0 where
  stays : IsBusy old → new ≡ record old { begun = None; batch = None; items = [] } → GivesBack old new
  clears : IsIdle old → new ≡ no_work → GivesBack old new
