use Rattle.std.proofs.Common.{refl}
use Rattle.em_generated.proofs.PutsLaws.{puts_then, puts_stop}
use Rattle.em_generated.proofs.Pieces.{square_is}
use Rattle.em_generated.proofs.script.write_square.Goals as goal

pub returns-in_err-first-clause-puts : goal.returns-in_err-first-clause-puts
returns-in_err-first-clause-puts g c = puts_stop _ _ c.in_err-first.ensures.puts c.from_residual.ensures.1 (square_is c.args.index)

pub returns-in_err-second-clause-puts : goal.returns-in_err-second-clause-puts
returns-in_err-second-clause-puts g c = puts_then _ c.in_ok-first.ensures.puts
    (puts_stop _ _ c.in_err-second.ensures.puts c.from_residual-in_err-second.ensures.1 refl) (square_is c.args.index)

pub returns-clause-puts : goal.returns-clause-puts
returns-clause-puts g c = puts_then _ c.in_ok-first.ensures.puts
    (puts_then _ c.in_ok-second.ensures.puts c.put_number-3.ensures.puts refl) (square_is c.args.index)
