use Rattle.std.proofs.Common.{◌≡◌, ◌∙◌, ◌<◌, ◌∷◌, [], ℕ, length, slice_get, Some, IfSome, ap, ap₂, sym, subst, arith, length-append}
use Rattle.match_trees.specs.Trees.{Trees, AreTrees, with_node}
use Rattle.match_trees.proofs.NodeLemmas.{push_is, with_sound, kept_trees}
use Rattle.match_trees.proofs.node_table.NodeTable.push.Goals as goal

pub invariant_of-self-in-Ok : goal.invariant_of-self-in-Ok
invariant_of-self-in-Ok g c =
    let keys = c.self.inside.after in
    let labels = c.self.inside.labels.items in
    let trees = kept_trees keys labels in
    let new_is : kept_trees c.push-2.new.self c.push.new.self.items ≡ with_node trees c.args.at c.args.label = ap₂ kept_trees c.in-Ok.ensures.ok c.in_ok-push.ensures.items ∙ push_is keys labels c.key_of-key.result c.args.at c.args.label c.key_of-key.ensures in
    let below = subst (λ (t : Trees g.row.L.Denot). IfSome c.args.at (λ node. node < length t.labels)) (sym c.self.view_is) c.requires.at in
    let none = subst (λ (t : Trees g.row.L.Denot). (n : ℕ) → slice_get t.above n ≡ Some c.args.at → slice_get t.labels n ≡ Some c.args.label → ⊥) (sym c.self.view_is) c.requires.differs in
    let len = ap length c.in_ok-push.ensures.items ∙ length-append labels (c.args.label ∷ []) in
    record {
      trees = subst AreTrees (sym new_is) (with_sound trees c.args.at c.args.label c.self.invariant.trees below none);
      few = omega (arith, len, c.len-nodes.ensures, c.if-nodes.false, c.self.inside.labels.ok);
    }
