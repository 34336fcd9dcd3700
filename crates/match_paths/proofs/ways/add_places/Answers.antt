use Rattle.match_paths.proofs.PairLemmas.{places_none, places_next, places_all}
use Rattle.match_paths.proofs.ways.add_places.Goals as goal

pub loop-i-init : goal.loop-i-init
loop-i-init c = places_none c.args.number c.args.trigger.now c.args.all.now c.growth_law.ensures c.entry_law.ensures c.args.nodes.now c.args.entries.now c.len-nodes.ensures.trees c.len-entries.ensures.each

pub loop-i-preserved : goal.loop-i-preserved
loop-i-preserved c = places_next c.args.number c.args.trigger.now c.args.all.now c.growth_law.ensures c.entry_law.ensures c.loop-i.i c.occurrence_at.result.now c.args.nodes.now c.loop-i.nodes c.add_place.new.nodes c.args.entries.now c.loop-i.entries c.add_place.new.entries c.occurrence_at.ensures c.len-same.ensures.each c.loop-i.invariant c.in_ok-add_place.ensures.ok

pub returns-clause-ok : goal.returns-clause-ok
returns-clause-ok c = places_all c.args.number c.args.trigger.now c.args.all.now c.loop-i.i c.args.nodes.now c.loop-i.nodes c.args.entries.now c.loop-i.entries c.loop-i-test.false c.loop-i.invariant
