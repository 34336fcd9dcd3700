use Rattle.std.proofs.Common.{refl}
use Rattle.em_generated.proofs.PutsLaws.{puts_then, puts_stop}
use Rattle.em_generated.proofs.Lines.{led, followed}
use Rattle.em_generated.proofs.Pieces.{deeper_is, closing_is}
use Rattle.em_generated.proofs.script.write_levels.Goals as goal

pub returns-in_err-first : goal.returns-in_err-first
returns-in_err-first g c = puts_stop _ _ c.in_err-first.ensures c.from_residual.ensures.1 (led _ deeper_is)

pub returns-in_err-linked : goal.returns-in_err-linked
returns-in_err-linked g c = puts_then _ c.in_ok-first.ensures
    (puts_stop _ _ c.in_err-linked.ensures.puts c.from_residual-in_err-linked.ensures.1 refl) (led _ deeper_is)

pub returns-in_err-second : goal.returns-in_err-second
returns-in_err-second g c = puts_then _ c.in_ok-first.ensures
    (puts_then _ c.in_ok-linked.ensures.puts
    (puts_stop _ _ c.in_err-second.ensures c.from_residual-in_err-second.ensures.1 (led _ deeper_is)) refl) (led _ deeper_is)

pub returns-in_err-joined : goal.returns-in_err-joined
returns-in_err-joined g c = puts_then _ c.in_ok-first.ensures
    (puts_then _ c.in_ok-linked.ensures.puts
    (puts_then _ c.in_ok-second.ensures
    (puts_stop _ _ c.in_err-joined.ensures.puts c.from_residual-in_err-joined.ensures.1 refl) (led _ deeper_is)) refl) (led _ deeper_is)

pub returns : goal.returns
returns g c = puts_then _ c.in_ok-first.ensures
    (puts_then _ c.in_ok-linked.ensures.puts
    (puts_then _ c.in_ok-second.ensures
    (puts_then _ c.in_ok-joined.ensures.puts c.put-3.ensures (followed _ closing_is)) (led _ deeper_is)) refl) (led _ deeper_is)
