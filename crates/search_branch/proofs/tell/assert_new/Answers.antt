use Rattle.std.proofs.Common.{◌≡◌, length, take, get_or, sym, subst, ◌+◌, ◌≤◌, ◌∙◌, arith}
use Rattle.std.proofs.lemmas.Option.{slice_get-get_or, get_or_from_slice_get}
use Rattle.search_values.specs.Kept.{Kept, given_of}
use Rattle.search_branch.proofs.AssertLemmas.{AreToldOf, told_one, told_none, told_whole}
use Rattle.search_branch.proofs.tell.assert_new.Goals as goal
use Rattle.search_branch.proofs.tell.assert_new.Goals.{then-n-len+in_ok-assert_node, else-n-len}

pub loop-i-preserved : goal.loop-i-preserved
loop-i-preserved c =
    let nodes = c.args.formulas.now.nodes in
    let asserted = c.args.asserted.now in
    let first = given_of c.args.values.now in
    let i = c.loop-i.i in
    let n = get_or asserted i 0 in
    let at = slice_get-get_or asserted i 0 c.loop-i-test.true in
    let is = sym (get_or_from_slice_get asserted i n n at) in
    record {
      within = omega (arith, c.loop-i-test.true);
      told = elim c.if-n-len.branch [
        | then-n-len+in_ok-assert_node w ↦
            subst (λ (values : Kept). AreToldOf nodes (take (i + 1) asserted) first (given_of values)) (sym w.values-is)
            (told_one nodes asserted i n w.node.result.now first (given_of c.loop-i.values)
            (given_of w.assert_node.new.values) c.loop-i-test.true is w.node.ensures w.in_ok-assert_node.ensures.asserts
            c.loop-i.invariant.told)
        | else-n-len w ↦
            subst (λ (values : Kept). AreToldOf nodes (take (i + 1) asserted) first (given_of values)) (sym w.values-is)
            (told_none nodes asserted i n first (given_of c.loop-i.values) c.loop-i-test.true is
            (omega (arith, w.if-n-len.false, c.len.ensures)) c.loop-i.invariant.told)
      ];
      saved = elim c.if-n-len.branch [
        | then-n-len+in_ok-assert_node w ↦
            subst (λ (values : Kept). values.saved ≡ c.args.values.now.saved) (sym w.values-is)
            (w.in_ok-assert_node.ensures.saved ∙ c.loop-i.invariant.saved)
        | else-n-len w ↦
            subst (λ (values : Kept). values.saved ≡ c.args.values.now.saved) (sym w.values-is)
            c.loop-i.invariant.saved
      ];
    }

pub returns-clause-asserted : goal.returns-clause-asserted
returns-clause-asserted c =
    told_whole c.args.asserted.now c.loop-i.i (given_of c.loop-i.values)
    (let all : length c.args.asserted.now ≤ c.loop-i.i = omega (arith, c.loop-i-test.false) in all)
    c.loop-i.invariant.told.told
