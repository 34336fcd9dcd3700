use Rattle.std.proofs.Common.{ℕ, length, subst}
use Rattle.formula_table.specs.Entry.{BecomesForall}
use Rattle.formula_table.proofs.ForallLaws.{becomes_forall}
use Rattle.formula_table.proofs.enter_foralls.enter_forall.Goals as goal

pub push_forall-requires : goal.push_forall-requires
push_forall-requires c =
    let drafted = c.forall_at.result.now in
    let fits = c.requires.formula.lawful.foralls_fit c.args.index drafted c.forall_at.ensures in
    let n = length c.args.table.now.foralls in
    becomes_forall c.args.formula.now c.requires.formula.lawful n drafted c.in_ok-forall.forall fits
    (subst (λ (k : ℕ). BecomesForall c.args.formula.now k drafted c.in_ok-forall.forall) c.foralls-number.ensures c.in_ok-forall.ensures)
