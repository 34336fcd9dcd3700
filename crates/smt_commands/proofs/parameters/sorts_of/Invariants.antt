use Rattle.std.proofs.Common.{◌≡◌, take}
use Rattle.smt_terms.specs.Scopes.{sorts_of}
use Rattle.smt_commands.proofs.parameters.sorts_of.Given as goal

abbrev pub invariant-loop-name : goal.invariant-loop-name
invariant-loop-name l = l.sorts.items ≡ sorts_of (take l.name-index l.bound)
