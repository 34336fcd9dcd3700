use Rattle.std.proofs.Common.{◌≡◌, ◌∙◌, ◌-◌, ◌≤◌, length, ap, ap₂, sym, subst, arith}
use Rattle.std.proofs.lemmas.List.{length-take-le}
use Rattle.match_trees.specs.Trees.{Trees, AreTrees, trees_front}
use Rattle.match_trees.proofs.NodeLemmas.{pop_is, front_sound, kept_trees}
use Rattle.match_trees.proofs.node_table.NodeTable.pop.Given as given
use Rattle.match_trees.proofs.node_table.NodeTable.pop.Goals as goal

many : (g : given.Over) (c : goal.After-pop g) → c.len-nodes.result ≡ length c.self.inside.labels.items
many g c = omega (arith, c.len-nodes.ensures, c.self.inside.labels.ok)

new_is : (g : given.Over) (c : goal.After-pop g) → kept_trees c.pop.new.self c.truncate.new.self.items ≡ trees_front (c.len-nodes.result - 1) (kept_trees c.self.inside.after c.self.inside.labels.items)
new_is g c = ap₂ kept_trees c.pop.ensures c.truncate.ensures.items ∙ pop_is c.self.inside.after c.self.inside.labels.items c.len-nodes.result c.self.invariant.trees (many g c)

pub invariant_of-self : goal.invariant_of-self
invariant_of-self g c =
    let fewer : c.len-nodes.result - 1 ≤ length c.self.inside.labels.items = omega (arith, many g c) in
    let len = ap length c.truncate.ensures.items ∙ length-take-le (c.len-nodes.result - 1) c.self.inside.labels.items fewer in
    record {
      trees = subst AreTrees (sym (new_is g c)) (front_sound (c.len-nodes.result - 1) (kept_trees c.self.inside.after c.self.inside.labels.items) c.self.invariant.trees fewer);
      few = omega (arith, len, fewer, c.self.invariant.few);
    }

pub returns : goal.returns
returns g c = new_is g c ∙ ap (λ n. trees_front (n - 1) (kept_trees c.self.inside.after c.self.inside.labels.items)) (many g c) ∙ ap (λ (t : Trees g.row.L.Denot). trees_front (length t.labels - 1) t) c.self.view_is
