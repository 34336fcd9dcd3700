use Rattle.em_generated.proofs.PutsLaws.{puts_then, puts_stop}
use Rattle.em_generated.proofs.Pieces.{union_is}
use Rattle.em_generated.proofs.script.write_union.Goals as goal

pub returns-in_err-first-clause-puts : goal.returns-in_err-first-clause-puts
returns-in_err-first-clause-puts g c = puts_stop _ _ c.in_err-first.ensures.puts c.from_residual.ensures.1 (union_is c.args.left c.args.right)

pub returns-clause-puts : goal.returns-clause-puts
returns-clause-puts g c = puts_then _ c.in_ok-first.ensures.puts c.put_number-2.ensures.puts (union_is c.args.left c.args.right)
