use Rattle.graph_classes.specs.History.{now}
use Rattle.graph_classes.proofs.SigningLemmas.{on_ok}
use Rattle.graph_classes.proofs.OperationLemmas.{Follows-logged, IsGood-logged, good_either}
use Rattle.graph_classes.proofs.classes.Classes.log_op.Goals as goal

pub returns-clause-ok : goal.returns-clause-ok
returns-clause-ok c = on_ok c.enter_done.result (λ e. Follows-logged (now c.args.self.now) (now c.enter_done.new.self) c.args.serial c.args.op c.requires.no_rows e) c.enter_done.ensures.ok

pub returns-clause-good : goal.returns-clause-good
returns-clause-good c = good_either c.enter_done.result (now c.args.self.now) (now c.enter_done.new.self) c.requires.good
    (on_ok c.enter_done.result (λ e. IsGood-logged (now c.args.self.now) (now c.enter_done.new.self) c.args.serial c.args.op c.requires.no_rows e c.requires.good c.requires.allowed c.requires.no_merges) c.enter_done.ensures.ok)
    c.enter_done.ensures.err
