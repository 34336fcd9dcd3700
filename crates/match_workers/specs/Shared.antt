-- Types that threads may share.
use Rattle.std.specs.Prelude.{ℕ}
use denote.RattleType.{RattleType}
use denote.Param.Send.{Common}

-- what a reference to a value of the type holds is the same for every thread; it is what `Sync` says of the type
abbrev pub IsShared : RattleType → Type 0
IsShared R = (x : R.Denot) (b o : ℕ) → Common (R.shr_at x b o)
