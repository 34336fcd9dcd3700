use Rattle.std.proofs.Common.{refl}
use Rattle.std.proofs.lemmas.Result.{err_from_is_err_and}
use Rattle.em_generated.proofs.PutsLaws.{puts_then, puts_stop, puts_front}
use Rattle.em_generated.proofs.Pieces.{script_is}
use Rattle.em_generated.specs.GeneratedScript.{script_text}
use Rattle.em_generated.proofs.script.write_script.Goals as goal

pub returns-in_err-gone-clause-within : goal.returns-in_err-gone-clause-within
returns-in_err-gone-clause-within g c =
    let stopped = puts_front (puts_stop (script_text c.args.count) _ c.in_err-gone.ensures.puts refl (script_is c.args.count)) in
    let p = err_from_is_err_and c.from_residual.result c.from_residual.ensures.1 in rw (p.1, p.2) stopped.0

pub returns-in_err-gone-clause-front : goal.returns-in_err-gone-clause-front
returns-in_err-gone-clause-front g c =
    let stopped = puts_front (puts_stop (script_text c.args.count) _ c.in_err-gone.ensures.puts refl (script_is c.args.count)) in
    let p = err_from_is_err_and c.from_residual.result c.from_residual.ensures.1 in rw (p.1, p.2) stopped.1

pub returns-in-Ok-clause-ok : goal.returns-in-Ok-clause-ok
returns-in-Ok-clause-ok g c =
    let put = puts_then (script_text c.args.count) c.in_ok-gone.ensures.puts c.in-Ok.ensures (script_is c.args.count) in put.whole.1

pub returns-in-Err-clause-within : goal.returns-in-Err-clause-within
returns-in-Err-clause-within g c =
    let stopped = puts_front (puts_then (script_text c.args.count) c.in_ok-gone.ensures.puts c.in-Err.ensures (script_is c.args.count)) in stopped.0

pub returns-in-Err-clause-front : goal.returns-in-Err-clause-front
returns-in-Err-clause-front g c =
    let stopped = puts_front (puts_then (script_text c.args.count) c.in_ok-gone.ensures.puts c.in-Err.ensures (script_is c.args.count)) in stopped.1
