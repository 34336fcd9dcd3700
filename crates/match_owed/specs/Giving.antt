-- Claims that are given.
use Rattle.std.specs.Prelude.{◌≡◌, ◌⊎◌, ℕ, Some}
use Rattle.graph_meaning.specs.declared.claim.Claim.{Claim}
use Rattle.match_owed.specs.OwedLog.{OwedLog, Owes, CameAnew, Grows, SameButLog}

-- a batch is out, and the claim was given since it was taken
abbrev pub IsAnew : OwedLog → Claim → Type 0
IsAnew state claim = (mark : ℕ) × (state.batch ≡ Some mark) × CameAnew state.log mark claim

-- claims were given, and only such that are due: what was owed is owed, what had come anew has, and nothing else changed
pub record GivesSome (IsDue : Claim → Type 0) (old new : OwedLog) : Type 0 where
  pub grows : Grows old.log new.log
  pub stays : (claim : Claim) → Owes old.log claim → Owes new.log claim
  pub only : (claim : Claim) → Owes new.log claim → Owes old.log claim ⊎ IsDue claim
  pub anew_stays : (claim : Claim) → IsAnew old claim → IsAnew new claim
  pub anew_only : (claim : Claim) → IsAnew new claim → IsAnew old claim ⊎ IsDue claim
  pub rest : SameButLog old new

-- each claim that is due was given: it is owed, and came anew where a batch is out
pub record GivesAll (IsDue : Claim → Type 0) (old new : OwedLog) : Type 0 where
  pub some : GivesSome IsDue old new
  pub owed : (claim : Claim) → IsDue claim → Owes new.log claim
  pub anew : (claim : Claim) (mark : ℕ) → IsDue claim → old.batch ≡ Some mark → CameAnew new.log mark claim

-- the claim is owed, and came anew where a batch is out
pub record HasCome (state : OwedLog) (claim : Claim) : Type 0 where
  pub owed : Owes state.log claim
  pub anew : (mark : ℕ) → state.batch ≡ Some mark → CameAnew state.log mark claim
