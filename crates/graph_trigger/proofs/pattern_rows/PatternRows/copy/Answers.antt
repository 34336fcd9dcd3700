use Rattle.std.proofs.Common.{◌++◌, ◌∷◌, [], ap₂, sym, ◌∙◌}
use Rattle.graph_terms.proofs.ListLaws.{take-slice_get}
use Rattle.graph_trigger.proofs.pattern_rows.PatternRows.copy.Goals as goal

pub loop-i-preserved : goal.loop-i-preserved
loop-i-preserved c = c.in_ok-push.ensures.ok ∙ ap₂ (λ rows row. rows ++ row ∷ []) c.loop-i.invariant c.in_ok-copy.ensures ∙ sym (take-slice_get c.args.self.now c.loop-i.i c.get.result.now c.get.ensures)
