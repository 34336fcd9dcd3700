use Rattle.std.proofs.Common.{ℕ, sym, ap, subst, ◌∙◌}
use Rattle.smt_patterns.specs.Patterns.{marked}
use Rattle.smt_patterns.specs.Places.{places_below}
use Rattle.smt_patterns.proofs.ReachLemmas.{Passed, passed_none, passed_next, passed_all}
use Rattle.smt_patterns.proofs.marks.reach.Goals as goal

pub loop-n-init : goal.loop-n-init
loop-n-init c =
    let rows = c.args.draft.now.rows in
    let roots = c.args.roots.now in
    subst (λ (n : ℕ). Passed rows roots c.mark_all.new.places.items n) (sym c.rows-rows.ensures) (passed_none rows roots c.mark_all.new.places.items λ marks long are.
    c.in_ok-mark_all.ensures marks (long ∙ sym c.rows-rows.ensures) (c.new-places.ensures.items ∙ are ∙ ap (λ (n : ℕ). places_below n marks) (sym c.rows-rows.ensures))
    ∙ ap (λ (n : ℕ). places_below n (marked roots marks)) c.rows-rows.ensures)

pub loop-n-preserved : goal.loop-n-preserved
loop-n-preserved c = passed_next c.args.draft.now.rows c.args.roots.now c.loop-n.places.items c.loop-n.left c.loop-n.invariant c.in-Some.n c.mark_args.new.places.items
    (λ marks all within are. c.in-Some.ensures marks all within (c.as_slice.ensures.value ∙ are)) c.in_ok-mark_args.ensures

pub returns : goal.returns
returns c = passed_all c.args.draft.now.rows c.args.roots.now c.loop-n.places.items c.loop-n.left c.loop-n.invariant
    (λ marks all within are. c.in_default.ensures marks all within (c.as_slice.ensures.value ∙ are))
