use Rattle.std.proofs.Common.{arith}
use Rattle.match_pool.proofs.Deals.{takes, finds}
use Rattle.match_pool.proofs.matcher.pop_own.Goals as goal

pub pop_as-requires : goal.pop_as-requires
pop_as-requires c = record {
  fifo = λ _. takes _ _ c.requires.part;
  lifo = λ h. absurd (omega (arith, c.requires.fifo));
  empty = finds _ _;
}
