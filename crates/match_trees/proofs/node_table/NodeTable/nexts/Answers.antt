use Rattle.std.proofs.Common.{◌≡◌, ◌<◌, All, length, slice_get, Some, subst}
use Rattle.graph_meaning.specs.Questions.{AreAll}
use Rattle.match_trees.specs.Trees.{Trees}
use Rattle.match_trees.specs.NodesInside.{trees_of}
use Rattle.match_trees.proofs.NodeLemmas.{all_at, all_within}
use Rattle.match_trees.proofs.node_table.NodeTable.nexts.Goals as goal

pub returns-clause-exact : goal.returns-clause-exact
returns-clause-exact g c =
    subst (λ (t : Trees g.row.L.Denot). AreAll (λ n. slice_get t.above n ≡ Some c.args.at) c.places.result.now) c.self.view_is
    (all_at c.self.inside.after c.key_of.result c.args.at c.places.result.now c.key_of.ensures c.places.ensures)

pub returns-clause-within : goal.returns-clause-within
returns-clause-within g c =
    subst (λ (t : Trees g.row.L.Denot). All (λ node. node < length t.labels) c.places.result.now) c.self.view_is
    (all_within (trees_of c.self.inside) c.args.at c.places.result.now c.self.invariant.trees
    (all_at c.self.inside.after c.key_of.result c.args.at c.places.result.now c.key_of.ensures c.places.ensures))
