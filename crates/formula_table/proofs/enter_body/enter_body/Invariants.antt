use Rattle.formula_table.proofs.enter_body.enter_body.Given as goal

abbrev pub ghost-enter_body_nodes : goal.ghost-enter_body_nodes
ghost-enter_body_nodes g a = g.body
