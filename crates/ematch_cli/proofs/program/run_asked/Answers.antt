use Rattle.em_words.specs.Asked.{asked_of}
use Rattle.ematch_cli.proofs.Leaving.{nothing_left, nothing_taken}
use Rattle.ematch_cli.proofs.program.run_asked.Goals as goal

pub returns-in-Err-clause-leaves : goal.returns-in-Err-clause-leaves
returns-in-Err-clause-leaves g c = nothing_left (asked_of c.args.words.now) (λ a. a.work) c.args.limits.now (g.I.Source.left c.args.input.now) (g.O.Sink.written c.args.out.now)

pub returns-in-Err-clause-unread : goal.returns-in-Err-clause-unread
returns-in-Err-clause-unread g c = nothing_taken (asked_of c.args.words.now) (λ a. a.work) c.args.input.now
