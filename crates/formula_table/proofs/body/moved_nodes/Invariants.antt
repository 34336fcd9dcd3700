use Rattle.std.specs.Prelude.{slice_index}
use Rattle.formula_table.specs.Body.{renamed_node}
use Rattle.formula_table.proofs.BodyLemmas.{AreMovedBelow}
use Rattle.formula_table.proofs.body.moved_nodes.Given as goal

-- the nodes so far were moved
abbrev pub invariant-loop-n : goal.invariant-loop-n
invariant-loop-n l = AreMovedBelow (renamed_node (slice_index l.row_places) (slice_index l.node_places)) l.formula.nodes l.kept l.n-index l.nodes.items
