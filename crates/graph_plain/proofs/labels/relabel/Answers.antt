use Rattle.std.proofs.Common.{◌∙◌, ap, set, arith, get_or, length, ◌<◌}
use Rattle.graph_terms.proofs.ListLaws.{get_or-any}
use Rattle.std.proofs.lemmas.List.Edits.{map_over_more}
use Rattle.graph_plain.specs.Labels.{renamed_label}
use Rattle.graph_plain.proofs.labels.relabel.Goals as goal

pub loop-label-preserved : goal.loop-label-preserved
loop-label-preserved c =
    let i = c.loop-label.label-index in
    let before = c.loop-label.labels in
    let below : i < length before = omega arith in
    ap (set before i) c.renamed.ensures
    ∙ map_over_more (renamed_label c.args.gone c.args.kept) c.args.labels.now before i (get_or before i 0) (omega arith) c.loop-label.invariant (get_or-any before i 0 _ below)
