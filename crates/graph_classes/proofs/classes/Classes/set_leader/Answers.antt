use Rattle.std.proofs.Common.{rules, ap, ◌∙◌, slice_set}
use Rattle.graph_classes.specs.declared.change.Change.TheVariants.{Led}
use Rattle.graph_classes.specs.History.{now}
use Rattle.graph_classes.proofs.HistoryLemmas.{kept_history, kept_err, set-back}
use Rattle.graph_classes.proofs.classes.Classes.set_leader.Goals as goal

pub returns-clause-err : goal.returns-clause-err
returns-clause-err c = kept_err c.keep.result c.args.self.now c.keep.new.self (record (now c.args.self.now) { leaders = slice_set c.args.self.now.parts.leaders.items c.args.label c.args.leader }) (Led c.args.label c.index-old.result.now) (ap (λ ls. record (now c.args.self.now) { leaders = ls }) (ap (slice_set (slice_set c.args.self.now.parts.leaders.items c.args.label c.args.leader) c.args.label) c.index-old.ensures ∙ set-back c.args.self.now.parts.leaders.items c.args.label c.args.leader c.index-old.result.now)) (search rules)

pub returns-clause-history : goal.returns-clause-history
returns-clause-history c = kept_history c.keep.result c.args.self.now c.keep.new.self (record (now c.args.self.now) { leaders = slice_set c.args.self.now.parts.leaders.items c.args.label c.args.leader }) (Led c.args.label c.index-old.result.now) (ap (λ ls. record (now c.args.self.now) { leaders = ls }) (ap (slice_set (slice_set c.args.self.now.parts.leaders.items c.args.label c.args.leader) c.args.label) c.index-old.ensures ∙ set-back c.args.self.now.parts.leaders.items c.args.label c.args.leader c.index-old.result.now)) (search rules) (search rules)
