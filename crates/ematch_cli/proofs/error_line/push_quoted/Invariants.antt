use Rattle.std.proofs.Common.{◌≡◌, ◌++◌, drop}
use Rattle.ematch_cli.specs.ErrorLine.{quoted}
use Rattle.ematch_cli.proofs.error_line.push_quoted.Given as goal

abbrev pub invariant-loop-i : goal.invariant-loop-i
invariant-loop-i l = l.text.items ++ quoted (drop l.i l.name) ≡ l.fn.text.items ++ quoted l.name
