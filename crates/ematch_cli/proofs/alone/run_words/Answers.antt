use Rattle.em_words.specs.Work.{work_alone}
use Rattle.ematch_cli.proofs.Leaving.{nothing_left, nothing_taken}
use Rattle.ematch_cli.proofs.alone.run_words.Goals as goal

pub returns-in-Err-clause-leaves : goal.returns-in-Err-clause-leaves
returns-in-Err-clause-leaves g c = nothing_left (work_alone c.args.words.now) (λ work. work) c.args.limits.now (g.I.Source.left c.args.input.now) (g.O.Sink.written c.args.out.now)

pub returns-in-Err-clause-unread : goal.returns-in-Err-clause-unread
returns-in-Err-clause-unread g c = nothing_taken (work_alone c.args.words.now) (λ work. work) c.args.input.now
