use Rattle.std.proofs.Common.{◌≤◌, take}
use Rattle.match_trees.specs.Growth.{Leads}
use Rattle.match_trees.proofs.node_table.NodeTable.put_way.Given as goal

abbrev pub invariant-loop-i : goal.invariant-loop-i
invariant-loop-i g l = record { some : 1 ≤ l.i; leads : Leads l.fn.self l.self (take l.i l.way) l.end }
