use Rattle.ematch_cli.proofs.Exits.{nothing_read}
use Rattle.ematch_cli.proofs.script.answer_script.Goals as goal

pub returns-in_default-clause-answers : goal.returns-in_default-clause-answers
returns-in_default-clause-answers g c = nothing_read c.args.task c.args.limits.now (g.I.Source.left c.args.input.now) (g.O.Sink.written c.args.out.now)

pub returns-in_default-new-clause-answers : goal.returns-in_default-new-clause-answers
returns-in_default-new-clause-answers g c = nothing_read c.args.task c.args.limits.now (g.I.Source.left c.args.input.now) (g.O.Sink.written c.args.out.now)
