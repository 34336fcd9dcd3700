use Rattle.std.proofs.Common.{ℕ, List, subst, sym}
use Rattle.search_values.specs.KeptInside.{AreLevels}
use Rattle.search_values.proofs.LevelLemmas.{levels_push}
use Rattle.search_values.proofs.node_values.NodeValues.push.Goals as goal

pub invariant_of-self-2 : goal.invariant_of-self-2
invariant_of-self-2 c =
    let P : List ℕ → Type 0 = λ levels. AreLevels c.self.inside.wiring c.self.inside.noted levels in
    record { right = c.self.invariant.right; levels = subst P (sym c.in_ok-push.ensures.items) (levels_push c.self.inside.wiring c.self.inside.noted c.self.inside.levels.items c.mark-mark.result c.mark-mark.ensures c.self.invariant.right c.self.invariant.levels) }
