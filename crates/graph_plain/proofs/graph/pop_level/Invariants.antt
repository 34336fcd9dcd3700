use Rattle.std.proofs.Common.{◌≡◌, length, vec_len}
use Rattle.std.specs.List.{before_last}
use Rattle.graph_meaning.specs.Standing.{is_push, levels_of, terms_of}
use Rattle.graph_plain.proofs.graph.pop_level.Given as goal

abbrev pub invariant-loop-done : goal.invariant-loop-done
invariant-loop-done l = (before_last is_push l.standing.items ≡ before_last is_push l.initial.standing.items) × (l.terms ≡ length (terms_of l.standing.items)) × (levels_of l.standing.items ≡ levels_of l.initial.standing.items)

abbrev pub decreases-loop-done : goal.decreases-loop-done
decreases-loop-done l = vec_len l.standing
