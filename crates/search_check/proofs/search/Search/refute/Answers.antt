use Rattle.std.proofs.Common.{take}
use Rattle.search_check.proofs.UnderWayLemmas.{second_refuted}
use Rattle.search_check.proofs.search.Search.refute.Goals as goal

pub returns-clause-ok : goal.returns-clause-ok
returns-clause-ok c rounds start again =
    let places = take c.args.aside.struck c.args.self.now.struck.items in
    second_refuted c.over_law.ensures.over c.over_law.ensures.both rounds start c.args.stack.now
    c.args.self.now.asides.items places c.args.self.now.done c.args.self.now.spent.items c.args.self.now.values c.args.aside again c.refute.new.stack
    c.strike.new.struck.items c.refute.new.self c.refute.ensures.more c.in_ok-refute.ensures.refutes
    c.in_ok-strike.ensures (c.in_ok-refute.ensures.values places again.is_half.right) c.in_ok-refute.ensures.level
