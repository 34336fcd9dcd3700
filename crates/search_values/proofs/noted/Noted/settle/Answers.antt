use Rattle.std.proofs.Common.{ℕ, List, subst}
use Rattle.search_values.specs.History.{now}
use Rattle.search_values.specs.Settled.{IsSettledBut, WaitsIn}
use Rattle.search_values.proofs.SettleLemmas.{settled_pop}
use Rattle.search_values.proofs.noted.Noted.settle.Goals as goal

pub tell-requires-clause-settled : goal.tell-requires-clause-settled
tell-requires-clause-settled c =
    let P : List ℕ → Type 0 = λ work. IsSettledBut (WaitsIn c.args.wiring.now work) c.args.wiring.now (now c.loop-n.self) in
    settled_pop c.args.wiring.now (now c.loop-n.self) c.pop.new.self.items c.in-Some.n c.len-count.ensures.wired (subst P c.in-Some.ensures.items c.loop-n.invariant.settled)
