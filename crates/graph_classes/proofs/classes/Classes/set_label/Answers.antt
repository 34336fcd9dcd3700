use Rattle.std.proofs.Common.{rules, ap, ◌∙◌, slice_set}
use Rattle.graph_classes.specs.declared.change.Change.TheVariants.{Labelled}
use Rattle.graph_classes.specs.History.{now}
use Rattle.graph_classes.proofs.HistoryLemmas.{kept_history, kept_err, set-back}
use Rattle.graph_classes.proofs.classes.Classes.set_label.Goals as goal

pub returns-clause-err : goal.returns-clause-err
returns-clause-err c = kept_err c.keep.result c.args.self.now c.keep.new.self (record (now c.args.self.now) { labels = slice_set c.args.self.now.parts.labels.items c.args.term c.args.label }) (Labelled c.args.term c.index-old.result.now) (ap (λ ls. record (now c.args.self.now) { labels = ls }) (ap (slice_set (slice_set c.args.self.now.parts.labels.items c.args.term c.args.label) c.args.term) c.index-old.ensures ∙ set-back c.args.self.now.parts.labels.items c.args.term c.args.label c.index-old.result.now)) (search rules)

pub returns-clause-history : goal.returns-clause-history
returns-clause-history c = kept_history c.keep.result c.args.self.now c.keep.new.self (record (now c.args.self.now) { labels = slice_set c.args.self.now.parts.labels.items c.args.term c.args.label }) (Labelled c.args.term c.index-old.result.now) (ap (λ ls. record (now c.args.self.now) { labels = ls }) (ap (slice_set (slice_set c.args.self.now.parts.labels.items c.args.term c.args.label) c.args.term) c.index-old.ensures ∙ set-back c.args.self.now.parts.labels.items c.args.term c.args.label c.index-old.result.now)) (search rules) (search rules)
