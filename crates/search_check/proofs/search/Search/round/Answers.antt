use Rattle.std.proofs.lemmas.Result.{err_from_is_err_and}
use Rattle.search_check.proofs.RoundLemmas.{ends_past, round_entered}
use Rattle.search_check.proofs.search.Search.round.Goals as goal

pub enter_all-requires-clause-values : goal.enter_all-requires-clause-values
enter_all-requires-clause-values c = (c.args.self.now.struck.items, c.requires.places, c.requires.values)

pub returns-in_err-enter_all-clause-limit : goal.returns-in_err-enter_all-clause-limit
returns-in_err-enter_all-clause-limit c =
    let p = err_from_is_err_and c.from_residual.result c.from_residual.ensures.1 in
    rw (p.1, p.2)
    (λ rounds start more searching is. ends_past rounds start c.args.stack.now c.args.self.now.asides.items
    c.args.self.now.struck.items c.args.self.now.done c.args.self.now.spent.items c.args.self.now.values searching
    c.requires.step c.requires.live c.args.instances.now c.in_err-enter_all.field-0.0 c.requires.new more
    (c.in_err-enter_all.ensures.limit is c.args.self.now.struck.items c.args.self.now.spent.items))

pub returns-clause-ok : goal.returns-clause-ok
returns-clause-ok c rounds start more searching = round_entered rounds start c.args.stack.now
    c.args.self.now.asides.items c.args.self.now.struck.items c.args.self.now.done c.args.self.now.spent.items
    c.args.self.now.values searching c.requires.step c.requires.live c.enter_all.new.stack c.enter_all.new.done
    c.enter_all.ensures.levels c.over_law.ensures.both c.args.instances.now c.requires.some c.requires.new more
    (c.in_ok-enter_all.ensures.ok c.args.self.now.struck.items c.args.self.now.spent.items)
    c.push_count.new.spent.items c.in_ok-push_count.ensures c.enter_all.new.values
    (c.in_ok-enter_all.ensures.values c.args.self.now.struck.items c.requires.places c.requires.values)
    c.in_ok-enter_all.ensures.level
