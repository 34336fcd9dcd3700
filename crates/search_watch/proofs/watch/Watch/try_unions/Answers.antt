use Rattle.search_watch.proofs.WatchLemmas.{items_trans, looks_step}
use Rattle.search_watch.proofs.NotedLemmas.{back_trans}
use Rattle.search_watch.proofs.watch.Watch.try_unions.Goals as goal

pub loop-k-preserved : goal.loop-k-preserved
loop-k-preserved c = record {
  watched = λ world watched led. c.in_ok-after_union.ensures.watched world (c.loop-k.invariant.watched world watched led) led;
  looks = λ world watched led. looks_step world c.args.unions.now c.loop-k.k c.loop-k.literals.items c.loop-k.differs.items c.after_union.new.literals.items c.after_union.new.differs.items
      c.in_ok-after_union.ensures.literals c.in_ok-after_union.ensures.differs (c.loop-k.invariant.looks world watched led) (c.in_ok-after_union.ensures.looks world (c.loop-k.invariant.watched world watched led) led);
  literals_below = λ count below all. c.in_ok-after_union.ensures.literals_below count (c.loop-k.invariant.items.literals count below) (c.loop-k.invariant.literals_below count below all);
  differs_below = λ count below all. c.in_ok-after_union.ensures.differs_below count (c.loop-k.invariant.items.differs count below) (c.loop-k.invariant.differs_below count below all);
  items = items_trans c.args.self.now c.loop-k.self c.after_union.new.self c.loop-k.invariant.items c.in_ok-after_union.ensures.items;
  back = back_trans c.args.self.now c.loop-k.self c.after_union.new.self c.loop-k.invariant.back c.in_ok-after_union.ensures.back;
}

pub after_union-requires-clause-watched : goal.after_union-requires-clause-watched
after_union-requires-clause-watched c = (c.requires.0, c.loop-k.invariant.watched c.requires.0 c.requires.1 c.requires.2, c.requires.2)

pub returns-in_err-after_union-clause-back : goal.returns-in_err-after_union-clause-back
returns-in_err-after_union-clause-back c = back_trans c.args.self.now c.loop-k.self c.after_union.new.self c.loop-k.invariant.back c.in_err-after_union.ensures.back
