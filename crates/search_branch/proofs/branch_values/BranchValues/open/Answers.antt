use Rattle.std.proofs.Common.{[], ◌∷◌, ◌++◌, sym, ap, ◌∙◌, append-nil}
use Rattle.search_values.specs.Kept.{Kept}
use Rattle.search_branch.proofs.branch_values.BranchValues.open.Goals as goal

pub returns-clause-over : goal.returns-clause-over
returns-clause-over c = record {
  each = c.len-nodes.ensures.stacked.nodes;
  more = [];
  parts = ap (λ (kept : Kept). kept.parts) c.in_ok-push.ensures.ok ∙ sym (append-nil c.args.self.now.values.parts);
  saved = ap (λ (kept : Kept). kept.saved) c.in_ok-push.ensures.ok;
  mark = c.mark-mark.result;
  marks = c.push_reserved.ensures.items ∙ ap (λ xs. xs ++ c.mark-mark.result ∷ []) c.reserve.ensures.items;
  is_mark = c.mark-mark.ensures;
  back = c.can_go_back_further.ensures.itself c.args.self.now.watch;
}
