use Rattle.match_owed.proofs.StartLemmas.{lists_none, lists_next}
use Rattle.match_owed.proofs.starts.add_starts.Goals as goal

pub loop-start-init : goal.loop-start-init
loop-start-init c = lists_none c.entry_law.ensures c.args.trigger.now c.args.number c.args.entries.now c.len-entries.ensures.each

pub loop-start-preserved : goal.loop-start-preserved
loop-start-preserved c = lists_next c.entry_law.ensures c.args.trigger.now c.args.number c.loop-start.start c.args.entries.now c.loop-start.entries c.add_start.new.entries c.loop-start.invariant c.in_ok-add_start.ensures.ok
