use Rattle.std.proofs.Common.{List, ℕ, subst}
use Rattle.formula_table.specs.Formulas.{Formulas}
use Rattle.search_values.specs.Kept.{given_of}
use Rattle.search_branch.specs.Given.{AreForallValues}
use Rattle.search_branch.specs.Told.{KeepsLeaves, AreAsserted}
use Rattle.search_branch.proofs.AssertLemmas.{tells_all}
use Rattle.search_branch.proofs.tell.tell_start.Goals as goal

pub returns : goal.returns
returns c =
    let old = given_of c.args.values.now in
    let mid = given_of c.set_from.new.values in
    let new = given_of c.assert_new.new.values in
    record {
      tells = tells_all c.args.stack.now old mid new c.in_ok-set_from.ensures.keeps c.in_ok-set_from.ensures.told
          (subst (λ (formulas : Formulas). KeepsLeaves formulas.nodes mid new) c.formulas.ensures
          c.in_ok-assert_new.ensures.keeps)
          (subst (λ (listed : List ℕ). AreAsserted listed new) c.asserted.ensures c.in_ok-assert_new.ensures.asserted)
          (subst (λ (formulas : Formulas). AreForallValues formulas.nodes new) c.formulas.ensures
          c.in_ok-assert_new.ensures.foralls);
    }
