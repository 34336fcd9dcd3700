use Rattle.std.proofs.Common.{◌≡◌, take}
use Rattle.formula_table.specs.Entry.{numbered}
use Rattle.formula_table.proofs.enter_foralls.numbered_triggers.Given as goal

-- the triggers so far have their numbers
abbrev pub invariant-loop-place : goal.invariant-loop-place
invariant-loop-place l = l.made ≡ numbered l.number 0 (take l.place l.triggers)
