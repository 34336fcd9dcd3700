use Rattle.search_watch.proofs.DifferLemmas.{both_below, difference_watched}
use Rattle.search_watch.proofs.watch.Watch.add_difference.Goals as goal

pub returns-in-Ok-clause-watched : goal.returns-in-Ok-clause-watched
returns-in-Ok-clause-watched c = λ world unions a b watched leads_left leads_right.
    difference_watched world unions c.args.self.now c.try_difference.new.self c.args.d a b c.args.left c.args.right c.in-Ok.ensures.literals c.in-Ok.ensures.differs
    c.requires.left c.requires.right watched leads_left leads_right

pub returns-in-Ok-clause-items : goal.returns-in-Ok-clause-items
returns-in-Ok-clause-items c = λ count lt below.
    both_below c.args.self.now.differs.chains c.try_difference.new.self.differs.chains c.args.left c.args.right c.args.d count c.requires.left c.requires.right c.in-Ok.ensures.differs lt below
