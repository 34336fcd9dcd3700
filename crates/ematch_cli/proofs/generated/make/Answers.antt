use Rattle.std.proofs.Common.{take, drop, refl, sym}
use Rattle.std.proofs.lemmas.List.{take-append-drop}
use Rattle.em_generated.specs.GeneratedScript.{script_text}
use Rattle.ematch_cli.specs.Output.{Finished, last}
use Rattle.ematch_cli.proofs.generated.make.Goals as goal

pub returns-in-Ok-clause-stands : goal.returns-in-Ok-clause-stands
returns-in-Ok-clause-stands g c = (last (script_text c.args.count) Finished, refl, refl, c.in-Ok.ensures.ok)

pub returns-in-Err-clause-stands : goal.returns-in-Err-clause-stands
returns-in-Err-clause-stands g c = (
  take c.in-Err.field-0.gone (script_text c.args.count),
  (drop c.in-Err.field-0.gone (script_text c.args.count), sym (take-append-drop c.in-Err.field-0.gone (script_text c.args.count))),
  c.in-Err.ensures.front,
)
