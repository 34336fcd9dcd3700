use Rattle.std.proofs.Common.{◌≡◌, drop}
use Rattle.smt_names.specs.Names.{number_from}
use Rattle.smt_terms.proofs.numbers.number_of.Given as goal

-- the digits that are left give the whole number
abbrev pub invariant-loop-digit : goal.invariant-loop-digit
invariant-loop-digit l = number_from l.number (drop l.digit-index l.digits) ≡ number_from 0 l.digits
