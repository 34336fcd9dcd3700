use Rattle.em_generated.proofs.PutsLaws.{puts_then, puts_stop}
use Rattle.em_generated.proofs.Pieces.{link_is}
use Rattle.em_generated.proofs.script.write_link.Goals as goal

pub returns-in_err-first-clause-puts : goal.returns-in_err-first-clause-puts
returns-in_err-first-clause-puts g c = puts_stop _ _ c.in_err-first.ensures.puts c.from_residual.ensures.1 (link_is c.args.index)

pub returns-clause-puts : goal.returns-clause-puts
returns-clause-puts g c = puts_then _ c.in_ok-first.ensures.puts c.put_number-2.ensures.puts (link_is c.args.index)
