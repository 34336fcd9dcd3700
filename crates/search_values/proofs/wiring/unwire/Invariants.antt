use Rattle.std.proofs.Common.{◌-◌, ℕ, List, length}
use Rattle.search_values.specs.declared.up.Up.{Up}
use Rattle.search_values.specs.WiresUps.{WiresUps}
use Rattle.search_values.proofs.wiring.unwire.Given as goal

abbrev pub invariant-loop-k : goal.invariant-loop-k
invariant-loop-k l = (base : ℕ → List Up) (n : ℕ) → WiresUps base (length l.fn.ups.items) l.fn.ups.items l.parts n l.count → WiresUps base (length l.fn.ups.items) l.ups.items l.parts n (l.count - l.k)
