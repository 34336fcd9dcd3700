use Rattle.std.proofs.Common.{◌≡◌, ◌++◌, take}
use Rattle.search_watch.specs.Chains.{slot_at, chain_at, with_list}
use Rattle.search_watch.proofs.chains.Chains.append.Given as goal

abbrev pub invariant-loop-i : goal.invariant-loop-i
invariant-loop-i l = l.self ≡ with_list l.fn.self (slot_at l.fn.self l.kept) (chain_at l.fn.self l.kept ++ take l.i (chain_at l.fn.self l.moved))
