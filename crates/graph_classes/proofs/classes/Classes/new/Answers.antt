use Rattle.graph_classes.specs.History.{now}
use Rattle.graph_classes.proofs.FirstLemmas.{IsGood-listed, log_listed, limit_listed}
use Rattle.graph_classes.proofs.classes.Classes.new.Goals as goal

pub returns-clause-good : goal.returns-clause-good
returns-clause-good c = IsGood-listed c.args.limit (now c.in_ok-classes.classes) (now c.list_term.new.self) (now c.list_member.new.self) (now c.list_term-2.new.self) (now c.list_member-2.new.self) c.in_ok-classes.ensures c.in_ok-list_term.ensures.ok c.in_ok-list_member.ensures.more c.in_ok-list_member.ensures.listed c.in_ok-list_term-2.ensures.ok c.in_ok-list_member-2.ensures.more c.in_ok-list_member-2.ensures.listed c.requires

pub returns-clause-log : goal.returns-clause-log
returns-clause-log c = log_listed c.args.limit (now c.in_ok-classes.classes) (now c.list_term.new.self) (now c.list_member.new.self) (now c.list_term-2.new.self) (now c.list_member-2.new.self) c.in_ok-classes.ensures c.in_ok-list_term.ensures.ok c.in_ok-list_member.ensures.more c.in_ok-list_member.ensures.listed c.in_ok-list_term-2.ensures.ok c.in_ok-list_member-2.ensures.more c.in_ok-list_member-2.ensures.listed

pub returns-clause-limit : goal.returns-clause-limit
returns-clause-limit c = limit_listed c.args.limit (now c.in_ok-classes.classes) (now c.list_term.new.self) (now c.list_member.new.self) (now c.list_term-2.new.self) (now c.list_member-2.new.self) c.in_ok-classes.ensures c.in_ok-list_term.ensures.ok c.in_ok-list_member.ensures.more c.in_ok-list_member.ensures.listed c.in_ok-list_term-2.ensures.ok c.in_ok-list_member-2.ensures.more c.in_ok-list_member-2.ensures.listed
