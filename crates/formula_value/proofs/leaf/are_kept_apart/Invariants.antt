use Rattle.std.proofs.Common.{◌≡◌, ◌<◌, ℕ, slice_index}
use Rattle.formula_value.specs.Value.{AreJoined, known_with}
use Rattle.formula_value.proofs.leaf.are_kept_apart.Given as goal

abbrev pub invariant-loop-i : goal.invariant-loop-i
invariant-loop-i g l = record {
  lefts : l.lefts ≡ l.facts.differ_left;
  rights : l.rights ≡ l.facts.differ_right;
  none : (k : ℕ) → k < l.i → AreJoined (known_with (g.G.ClassGraph.standing l.graph) l.facts) (slice_index l.lefts k)
      (slice_index l.rights k) l.left l.right → ⊥;
}
