use Rattle.std.proofs.Common.{sym, subst, ◌-◌}
use Rattle.match_trees.specs.Index.{IsIndexed}
use Rattle.match_trees.proofs.IndexLemmas.{indexed_pop}
use Rattle.match_trees.proofs.index.Index.pop.Goals as goal

pub invariant_of-self : goal.invariant_of-self
invariant_of-self c =
    subst (IsIndexed c.pop.new.self.items) (sym c.pop_at.ensures) (indexed_pop c.pop.new.self.items c.self.inside.lists.items c.in-Some.key (subst (λ keys. IsIndexed keys c.self.inside.lists.items) c.in-Some.ensures.items c.self.invariant))
