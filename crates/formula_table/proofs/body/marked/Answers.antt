use Rattle.std.proofs.Common.{◌<◌, ◌+◌, false, length, get_or, sym, subst, arith}
use Rattle.std.proofs.lemmas.Option.{slice_get-get_or}
use Rattle.formula_table.proofs.BodyLemmas.{AreMarkedBelow, marked_next, marked_all}
use Rattle.formula_table.proofs.body.marked.Goals as goal

pub loop-n-preserved : goal.loop-n-preserved
loop-n-preserved c =
    let marks = c.args.marks.now in
    let n = c.loop-n.n in
    let within : n < length marks = omega (arith, c.requires, c.loop-n-test.true) in
    subst (AreMarkedBelow marks (n + 1)) (sym c.in_ok-push_marked.ensures)
    (marked_next marks n (get_or marks n false) c.loop-n.kept.items (slice_get-get_or marks n false within) c.loop-n.invariant)

pub returns-clause-all : goal.returns-clause-all
returns-clause-all c = marked_all c.args.marks.now c.loop-n.n c.loop-n.kept.items (omega (arith, c.requires, c.loop-n-test.false)) c.loop-n.invariant
