use Rattle.std.proofs.Common.{take, drop, sym, ◌∙◌, inr}
use Rattle.std.proofs.lemmas.List.{take-append-drop}
use Rattle.ematch_cli.proofs.program.report.Goals as goal

pub returns-in-Err : goal.returns-in-Err
returns-in-Err g c =
    inr (
      c.in-Err.ensures.cause.failed,
      (
        take c.in-Err.field-0.gone c.text_of.result.now,
        (drop c.in-Err.field-0.gone c.text_of.result.now, sym c.text_of.ensures ∙ sym (take-append-drop c.in-Err.field-0.gone c.text_of.result.now)),
        c.in-Err.ensures.front,
      ),
    )
