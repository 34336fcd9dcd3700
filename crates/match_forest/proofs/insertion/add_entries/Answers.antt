use Rattle.match_forest.proofs.ForestLemmas.{enters_none, enters_more}
use Rattle.match_forest.proofs.insertion.add_entries.Goals as goal

pub loop-start-init : goal.loop-start-init
loop-start-init c = enters_none c.growth_law.ensures c.entry_law.ensures c.args.nodes.now c.args.entries.now c.args.trigger.now c.args.number c.len-nodes.ensures.trees c.len-entries.ensures.each

pub loop-start-preserved : goal.loop-start-preserved
loop-start-preserved c = enters_more c.growth_law.ensures c.entry_law.ensures c.args.nodes.now c.loop-start.nodes c.add_entry.new.nodes c.args.entries.now c.loop-start.entries c.add_entry.new.entries c.args.trigger.now c.args.number c.loop-start.start c.loop-start.invariant c.in_ok-add_entry.ensures.ok
