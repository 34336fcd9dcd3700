use Rattle.std.proofs.Common.{refl}
use Rattle.em_generated.proofs.PutsLaws.{puts_then, puts_stop}
use Rattle.em_generated.proofs.Lines.{led}
use Rattle.em_generated.proofs.Pieces.{opening_is, foralls_is}
use Rattle.em_generated.proofs.script.write_base.Goals as goal

pub returns-in_err-opened-clause-puts : goal.returns-in_err-opened-clause-puts
returns-in_err-opened-clause-puts g c = puts_stop _ _ c.in_err-opened.ensures c.from_residual.ensures.1 (led _ opening_is)

pub returns-in_err-declared-clause-puts : goal.returns-in_err-declared-clause-puts
returns-in_err-declared-clause-puts g c = puts_then _ c.in_ok-opened.ensures
    (puts_stop _ _ c.in_err-declared.ensures.puts c.from_residual-in_err-declared.ensures.1 refl) (led _ opening_is)

pub returns-in_err-given-clause-puts : goal.returns-in_err-given-clause-puts
returns-in_err-given-clause-puts g c = puts_then _ c.in_ok-opened.ensures
    (puts_then _ c.in_ok-declared.ensures.puts
    (puts_stop _ _ c.in_err-given.ensures c.from_residual-in_err-given.ensures.1 (led _ foralls_is)) refl) (led _ opening_is)

pub returns-clause-puts : goal.returns-clause-puts
returns-clause-puts g c = puts_then _ c.in_ok-opened.ensures
    (puts_then _ c.in_ok-declared.ensures.puts
    (puts_then _ c.in_ok-given.ensures c.write_squares.ensures.puts (led _ foralls_is)) refl) (led _ opening_is)
