use Rattle.std.proofs.Common.{rules, ◌≡◌, ◌∙◌, ap, ◌++◌, ◌∷◌, []}
use Rattle.std.proofs.lemmas.Option.{slice_get_within}
use Rattle.graph_terms.specs.Terms.{term_row}
use Rattle.graph_classes.specs.declared.change.Change.TheVariants.{Added}
use Rattle.graph_classes.specs.State.{with_row, before_change}
use Rattle.graph_classes.specs.History.{now, notes}
use Rattle.graph_classes.proofs.HistoryLemmas.{one_more, row_undone}
use Rattle.graph_classes.proofs.classes.Classes.add_row.Goals as goal

pub returns-clause-history : goal.returns-clause-history
returns-clause-history c =
    let row = term_row c.args.symbol c.args.args.now in
    let done : now c.keep.new.self ≡ with_row (now c.args.self.now) row c.len-term.result = search rules in
    let noted : notes c.keep.new.self ≡ notes c.args.self.now ++ Added ∷ [] = search rules in
    one_more c.args.self.now c.keep.new.self Added noted (ap (λ s. before_change s Added) done ∙ row_undone (now c.args.self.now) row c.len-term.result (slice_get_within c.args.self.now.parts.rows.rows 1 (term_row 1 []) c.len-term.ensures.table.false_row))
