use Rattle.search_check.proofs.UnderWayLemmas.{begins}
use Rattle.search_check.proofs.search.Search.new.Goals as goal

pub returns : goal.returns
returns c rounds = begins rounds c.args.stack.now c.new-asides.result.items c.new-struck.result.items
    c.new-done.result c.new-spent.result.items c.in_ok-values.values
    (c.over_law.ensures.same c.args.stack.now) c.new-asides.ensures.items c.new-struck.ensures.items
    c.new-done.ensures c.new-spent.ensures.items c.in_ok-values.ensures c.requires
