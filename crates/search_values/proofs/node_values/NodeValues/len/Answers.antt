use Rattle.std.proofs.Common.{subst}
use Rattle.search_values.specs.Kept.{Kept, IsStacked}
use Rattle.search_values.proofs.LevelLemmas.{stacked}
use Rattle.search_values.proofs.node_values.NodeValues.len.Goals as goal

pub returns-clause-stacked : goal.returns-clause-stacked
returns-clause-stacked c =
    let K : Kept → Type 0 = λ k. IsStacked k in
    subst K c.self.view_is (stacked c.self.inside.wiring c.self.inside.noted c.self.inside.levels.items c.self.invariant.right c.self.invariant.levels)
