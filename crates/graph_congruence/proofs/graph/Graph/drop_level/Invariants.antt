use Rattle.std.proofs.Common.{◌≡◌, ◌+◌, length, cond}
use Rattle.std.specs.List.{before_last}
use Rattle.graph_meaning.specs.Standing.{is_push, levels_of}
use Rattle.graph_congruence.proofs.graph.Graph.drop_level.Given as goal

abbrev pub invariant-loop-opened : goal.invariant-loop-opened
invariant-loop-opened l = record {
  left : cond l.opened l.self.standing (before_last is_push l.self.standing) ≡ before_last is_push l.fn.self.standing;
  levels : levels_of l.self.standing + cond l.opened 1 0 ≡ levels_of l.fn.self.standing;
  done : l.self.done ≡ l.fn.self.done;
  limit : l.self.limit ≡ l.fn.self.limit;
}

abbrev pub decreases-loop-opened : goal.decreases-loop-opened
decreases-loop-opened l = length l.self.standing
