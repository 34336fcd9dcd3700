use Rattle.std.proofs.Common.{ℕ, false, [], sym, subst, ◌∙◌}
use Rattle.formula_draft.specs.Draft.{IsFormula, finished}
use Rattle.smt_terms.specs.Cursor.{trees_from}
use Rattle.smt_commands.proofs.Asserting.{from_start, reads_formula}
use Rattle.smt_commands.proofs.terms.assert_term.Goals as goal

pub finish-formula-requires : goal.finish-formula-requires
finish-formula-requires c = subst (λ (n : ℕ). IsFormula (finished c.sorted_value_at.new.draft n)) (sym c.node.ensures)
    (reads_formula c.formula_law.ensures c.args.state.now c.args.tree.now c.args.i c.args.head c.sorted_value_at.new.draft c.in_ok-value.value c.requires
    (sym (from_start c.args.state.now (record { in_forall = false; in_definition = false }) c.new-bound.result [] c.limits-limits.result c.new-draft.result c.args.head 0 (trees_from c.args.tree.now c.args.i) c.limits-limits.ensures c.new-bound.ensures c.new-draft.ensures) ∙ c.in_ok-value.ensures))
