use Rattle.std.proofs.Common.{rules, ap, ◌++◌, ◌∷◌, []}
use Rattle.graph_classes.specs.declared.change.Change.TheVariants.{Logged}
use Rattle.graph_classes.specs.History.{now}
use Rattle.graph_classes.proofs.HistoryLemmas.{kept_history}
use Rattle.graph_classes.proofs.TableLemmas.{take_all_but_last}
use Rattle.graph_classes.proofs.classes.Classes.enter_done.Goals as goal

pub returns-clause-history : goal.returns-clause-history
returns-clause-history c = kept_history c.keep.result c.args.self.now c.keep.new.self (record (now c.args.self.now) { log = c.args.self.now.parts.log ++ c.args.done ∷ [] }) Logged
    (ap (λ log. record (now c.args.self.now) { log = log }) (take_all_but_last c.args.self.now.parts.log c.args.done)) (search rules) (search rules)
