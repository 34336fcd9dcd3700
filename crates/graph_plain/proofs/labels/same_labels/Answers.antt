use Rattle.std.proofs.Common.{get_or, ap, sym, ◌∙◌, true≢false, arith}
use Rattle.std.proofs.lemmas.List.{get_or-map}
use Rattle.graph_plain.specs.Labels.{label_of}
use Rattle.graph_plain.proofs.labels.same_labels.Goals as goal

pub returns-then-labels-left : goal.returns-then-labels-left
returns-then-labels-left c =
    let label = label_of c.args.labels.now in
    let i = c.loop-i.i in (
      λ h. absurd (true≢false (sym h)),
      λ same. absurd (c.if-labels-left.true
          (sym (get_or-map label c.args.left.now i 0 0 c.loop-i-test.true) ∙ ap (λ labels. get_or labels i 0) same ∙ get_or-map label c.args.right.now i 0 0 (omega arith))),
    )
