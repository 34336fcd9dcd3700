use Rattle.std.proofs.Common.{List, length, subst, sym, arith}
use Rattle.graph_terms.proofs.ListLaws.{element_at}
use Rattle.graph_meaning.specs.declared.claim.Claim.{Claim}
use Rattle.match_owed.proofs.BatchLemmas.{JoinsTo, joins_next, joins_all, joins_none}
use Rattle.match_owed.proofs.batching.joined.Goals as goal

pub put_run-requires-clause-order : goal.put_run-requires-clause-order
put_run-requires-clause-order c =
    let first = element_at c.args.asked.now c.loop-at.at (omega (arith, c.loop-at-test.true)) in
    (c.run_end-end.ensures first.0 first.1).after

pub put_run-requires-clause-within : goal.put_run-requires-clause-within
put_run-requires-clause-within c =
    let first = element_at c.args.asked.now c.loop-at.at (omega (arith, c.loop-at-test.true)) in
    (c.run_end-end.ensures first.0 first.1).within

pub loop-at-preserved : goal.loop-at-preserved
loop-at-preserved c =
    let first = element_at c.args.asked.now c.loop-at.at (omega (arith, c.loop-at-test.true)) in
    let run = c.run_end-end.ensures first.0 first.1 in
    (run.within, joins_next c.args.forest.now c.args.asked.now c.requires.in_order c.loop-at.at c.run_end-end.result first.0 run c.loop-at.batch c.put_run.new.batch c.loop-at.lists.items c.put_run.new.lists.items c.in_ok-put_run.ensures c.loop-at.invariant.1)

pub returns-clause-joins : goal.returns-clause-joins
returns-clause-joins c = joins_all c.args.forest.now c.args.asked.now c.loop-at.at c.loop-at.batch c.loop-at.lists.items (omega (arith, c.loop-at-test.false)) c.loop-at.invariant.1
