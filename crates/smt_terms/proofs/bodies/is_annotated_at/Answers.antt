use Rattle.smt_terms.specs.Cursor.{trees_from}
use Rattle.smt_terms.proofs.ForallLemmas.{not_annotated, sees_annotated}
use Rattle.smt_terms.proofs.bodies.is_annotated_at.Goals as goal

pub returns-in-None : goal.returns-in-None
returns-in-None c = not_annotated (trees_from c.args.tree.now c.args.i) c.in-None.ensures

pub returns-in-Some : goal.returns-in-Some
returns-in-Some c = sees_annotated c.args.tree.now c.args.i c.in-Some.binding.name c.in-Some.binding.behind c.has_bang.result c.has_bang.ensures c.in-Some.ensures
