use Rattle.std.proofs.Common.{◌<◌, ◌+◌, ◌++◌, ◌∷◌, [], ℕ, List, length, get_or, Some, false, sym, ap, subst, ◌∙◌, arith}
use Rattle.std.proofs.lemmas.Option.{slice_get-get_or, same_Some}
use Rattle.formula_table.specs.Formulas.{GrowsTable}
use Rattle.formula_table.proofs.ForallLemmas.{ForallsSoFar, foralls_none, foralls_next, foralls_grow}
use Rattle.formula_table.proofs.enter_foralls.enter_foralls.Goals as goal

pub loop-index-init : goal.loop-index-init
loop-index-init c = subst (λ (numbers : List ℕ). ForallsSoFar c.args.formula.now c.args.table.now c.args.table.now numbers 0) (sym c.new-numbers.ensures.items) (foralls_none c.args.formula.now c.args.table.now)

pub returns-in_err-number-clause-grows : goal.returns-in_err-number-clause-grows
returns-in_err-number-clause-grows c = subst (GrowsTable c.args.table.now) (sym c.in_err-number.ensures.err) (foralls_grow c.args.formula.now c.args.table.now c.loop-index.table c.loop-index.numbers.items c.loop-index.index c.loop-index.invariant)

pub returns-in_err-push_number-clause-grows : goal.returns-in_err-push_number-clause-grows
returns-in_err-push_number-clause-grows c =
    let marks = c.args.reached.now in
    let n = c.loop-index.index in
    let within : n < length marks = omega (arith, c.requires.reached.len, c.foralls-index-end.ensures, c.loop-index-test.true) in
    let known = slice_get-get_or marks n false within in
    foralls_grow c.args.formula.now c.args.table.now c.enter_forall.new.table (c.loop-index.numbers.items ++ c.in_ok-number.number ∷ []) (n + 1)
    (foralls_next c.args.formula.now c.args.table.now c.loop-index.table c.enter_forall.new.table c.loop-index.numbers.items c.in_ok-number.number n (get_or marks n false) c.loop-index.invariant
    (λ is. c.requires.reached.only n (known ∙ ap Some is), λ reach. same_Some _ _ (sym known ∙ c.requires.reached.each n reach))
    c.in_ok-number.ensures.ok)

pub loop-index-preserved : goal.loop-index-preserved
loop-index-preserved c =
    let marks = c.args.reached.now in
    let n = c.loop-index.index in
    let within : n < length marks = omega (arith, c.requires.reached.len, c.foralls-index-end.ensures, c.loop-index-test.true) in
    let known = slice_get-get_or marks n false within in
    subst (λ (numbers : List ℕ). ForallsSoFar c.args.formula.now c.args.table.now c.enter_forall.new.table numbers (n + 1)) (sym c.in_ok-push_number.ensures)
    (foralls_next c.args.formula.now c.args.table.now c.loop-index.table c.enter_forall.new.table c.loop-index.numbers.items c.in_ok-number.number n (get_or marks n false) c.loop-index.invariant
    (λ is. c.requires.reached.only n (known ∙ ap Some is), λ reach. same_Some _ _ (sym known ∙ c.requires.reached.each n reach))
    c.in_ok-number.ensures.ok)

pub returns-clause-grows : goal.returns-clause-grows
returns-clause-grows c = foralls_grow c.args.formula.now c.args.table.now c.loop-index.table c.loop-index.numbers.items c.loop-index.index c.loop-index.invariant
