use Rattle.std.proofs.Common.{◌∙◌, ap, Some, sym, arith}
use Rattle.match_paths.proofs.PairLemmas.{application_way, variable_ways, root_way, no_row_way, some_links}
use Rattle.match_paths.proofs.ways.add_place.Goals as goal

pub returns-then-occurrence-len-clause-ok : goal.returns-then-occurrence-len-clause-ok
returns-then-occurrence-len-clause-ok c = no_row_way c.growth_law.ensures c.entry_law.ensures c.args.number c.args.trigger.now c.args.all.now c.args.occurrence.now c.args.nodes.now c.args.entries.now c.len-nodes.ensures.trees c.len-entries.ensures.each (omega (arith, c.if-occurrence-len.true, c.len.ensures))

pub returns-in-None-clause-ok : goal.returns-in-None-clause-ok
returns-in-None-clause-ok c = root_way c.growth_law.ensures c.entry_law.ensures c.args.number c.args.trigger.now c.args.all.now c.args.occurrence.now c.args.nodes.now c.args.entries.now c.len-nodes.ensures.trees c.len-entries.ensures.each (sym c.first.ensures ∙ c.in-None.is)

pub returns-in_ok-add_way-in-App-clause-ok : goal.returns-in_ok-add_way-in-App-clause-ok
returns-in_ok-add_way-in-App-clause-ok c = application_way c.args.number c.args.trigger.now c.args.all.now c.args.occurrence.now c.args.nodes.now c.add_way.new.nodes c.args.entries.now c.add_way.new.entries c.in-App.symbol c.in-App.args (c.get.ensures ∙ ap Some c.in-App.is) (some_links c.args.occurrence.now.links c.in-Some.field-0 (sym c.first.ensures ∙ c.in-Some.is)) c.in_ok-add_way-in-App.ensures.ok

pub returns-in_ok-add_pairs-in-Var-clause-ok : goal.returns-in_ok-add_pairs-in-Var-clause-ok
returns-in_ok-add_pairs-in-Var-clause-ok c = variable_ways c.args.number c.args.trigger.now c.args.all.now c.args.occurrence.now c.args.nodes.now c.add_pairs.new.nodes c.args.entries.now c.add_pairs.new.entries c.in-Var.index (c.get.ensures ∙ ap Some c.in-Var.is) (some_links c.args.occurrence.now.links c.in-Some.field-0 (sym c.first.ensures ∙ c.in-Some.is)) c.in_ok-add_pairs-in-Var.ensures.ok
