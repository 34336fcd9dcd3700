use Rattle.std.proofs.Common.{rules, ap, ◌++◌, ◌∷◌, []}
use Rattle.graph_classes.specs.declared.change.Change.TheVariants.{Signed}
use Rattle.graph_classes.specs.History.{now}
use Rattle.graph_classes.proofs.HistoryLemmas.{kept_history}
use Rattle.graph_classes.proofs.TableLemmas.{take_all_but_last}
use Rattle.graph_classes.proofs.classes.Classes.enter_signature.Goals as goal

pub returns-clause-history : goal.returns-clause-history
returns-clause-history c = kept_history c.keep.result c.args.self.now c.keep.new.self (record (now c.args.self.now) { table = c.args.self.now.parts.table ++ (c.args.key.items, c.args.term) ∷ [] }) (Signed) (ap (λ t. record (now c.args.self.now) { table = t }) (take_all_but_last c.args.self.now.parts.table (c.args.key.items, c.args.term))) (search rules) (search rules)
