use Rattle.std.proofs.Common.{ℕ, nat_le, sym, ap, arith}
use Rattle.graph_trigger.specs.Trigger.{most_size}
use Rattle.smt_patterns.proofs.SizeLemmas.{size_past}
use Rattle.smt_patterns.proofs.sizes.is_small.Goals as goal

pub returns-then-row-rows : goal.returns-then-row-rows
returns-then-row-rows c = sym (ap (λ (n : ℕ). nat_le n most_size) (size_past c.args.draft.now.rows c.args.row (omega (arith, c.rows.ensures, c.if-row-rows.true))))
