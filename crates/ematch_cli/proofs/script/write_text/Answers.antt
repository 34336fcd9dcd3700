use Rattle.std.proofs.Common.{take, drop, sym}
use Rattle.std.proofs.lemmas.List.{take-append-drop}
use Rattle.ematch_cli.proofs.script.write_text.Goals as goal

pub returns-in-Err-clause-front : goal.returns-in-Err-clause-front
returns-in-Err-clause-front g c =
    (c.in-Err.ensures.cause.failed, (take c.in-Err.field-0.gone c.args.text.now, (drop c.in-Err.field-0.gone c.args.text.now, sym (take-append-drop c.in-Err.field-0.gone c.args.text.now)), c.in-Err.ensures.front))
