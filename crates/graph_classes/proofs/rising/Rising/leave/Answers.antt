use Rattle.std.proofs.Common.{AllPairs, List, ℕ, ◌<◌, subst, sym}
use Rattle.graph_classes.proofs.RisingLemmas.{AllPairs-remove}
use Rattle.graph_classes.proofs.rising.Rising.leave.Goals as goal

pub invariant_of-self : goal.invariant_of-self
invariant_of-self c =
    let P : List ℕ → Type 0 = λ xs. AllPairs (λ a b. a < b) xs in
    subst P (sym c.remove-item.ensures.items) (AllPairs-remove c.self.inside.items.items c.args.at (rw (← c.len.ensures.value) c.if-at-len.true) c.self.invariant)
