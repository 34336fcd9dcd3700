use Rattle.std.proofs.Common.{refl}
use Rattle.search_watch.proofs.NotedLemmas.{noted_none, noted_trans}
use Rattle.search_watch.proofs.watch.Watch.try_difference.Goals as goal

pub returns-clause-back : goal.returns-clause-back
returns-clause-back c = record {
  literals = noted_none c.args.self.now.literals c.args.self.now.literals refl refl;
  differs = noted_trans c.args.self.now.differs c.put.new.self c.put-2.new.self c.in_ok-put.ensures.noted c.put-2.ensures.noted;
}
