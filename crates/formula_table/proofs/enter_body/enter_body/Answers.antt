use Rattle.std.proofs.Common.{[]}
use Rattle.formula_table.proofs.NodeLemmas.{table_grows, table_stops}
use Rattle.formula_table.proofs.InstanceLemmas.{some_body, no_foralls_entered, names_first}
use Rattle.formula_table.proofs.enter_body.enter_body.Goals as goal

pub returns-in-Ok-clause-ok : goal.returns-in-Ok-clause-ok
returns-in-Ok-clause-ok g c =
    let old = c.args.table.now in
    let is = some_body old c.len-kept_nodes.ensures.table c.args.forall g.body c.requires.0 in
    table_grows g.body c.args.terms.now old old c.enter_body_nodes.new.table [] (no_foralls_entered is.0 g.body is.1 old) c.in-Ok.number c.in-Ok.ensures.ok

pub cut-requires-clause-named : goal.cut-requires-clause-named
cut-requires-clause-named g c = names_first c.args.table.now c.enter_body_nodes.new.table c.len-kept_nodes.ensures.table c.enter_body_nodes.ensures.grows c.len-kept_nodes.result c.foralls-kept_foralls.result c.len-kept_nodes.ensures.value c.foralls-kept_foralls.ensures

pub returns-in-Err-clause-fault : goal.returns-in-Err-clause-fault
returns-in-Err-clause-fault g c =
    let old = c.args.table.now in
    let is = some_body old c.len-kept_nodes.ensures.table c.args.forall g.body c.requires.0 in
    table_stops g.body c.args.terms.now old old [] (no_foralls_entered is.0 g.body is.1 old) c.in-Err.fault c.in-Err.ensures.fault
