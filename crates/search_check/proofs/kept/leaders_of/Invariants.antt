use Rattle.search_check.proofs.KeptLemmas.{AreFirstLeaders}
use Rattle.search_check.proofs.kept.leaders_of.Given as goal

abbrev pub invariant-loop-term : goal.invariant-loop-term
invariant-loop-term l = AreFirstLeaders l.graph.standing l.term l.leaders.items
