use Rattle.std.proofs.Common.{◌≡◌, take, map, slice_index, ◌∷◌}
use Rattle.graph_classes.proofs.signing.signature.Given as goal

abbrev pub invariant-loop-arg : goal.invariant-loop-arg
invariant-loop-arg l = l.key.items ≡ l.fn.row.symbol ∷ map (slice_index l.labels) (take l.arg-index l.row.args)
