use Rattle.std.proofs.Common.{ap}
use Rattle.smt_terms.specs.Reading.{Reading, no_binding}
use Rattle.smt_terms.specs.Cursor.{word_at, trees_from}
use Rattle.smt_terms.proofs.CheckLemmas.{refuses_at}
use Rattle.smt_terms.proofs.ForallLemmas.{no_binding_none}
use Rattle.smt_terms.proofs.bodies.check_no_binding.Goals as goal

pub returns-in-None : goal.returns-in-None
returns-in-None c draft = no_binding_none c.args.refusal (trees_from c.args.tree.now c.args.i) draft c.in-None.ensures

pub returns-in-Some : goal.returns-in-Some
returns-in-Some c draft = refuses_at c.at.result c.args.refusal c.place_at.result (word_at c.args.tree.now c.in-Some.binding.name).place _ c.at.ensures c.place_at.ensures
    (ap (λ (t : Reading). no_binding c.args.refusal t draft) c.in-Some.ensures.is)
