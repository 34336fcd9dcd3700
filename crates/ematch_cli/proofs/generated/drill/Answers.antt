use Rattle.std.proofs.Common.{List, ℕ, subst, ◌∙◌}
use Rattle.em_outside.specs.Bytes.{Appended}
use Rattle.ematch_cli.specs.Counting.{StandsCounted}
use Rattle.ematch_cli.proofs.Leaving.{drilled}
use Rattle.ematch_cli.proofs.generated.drill.Goals as goal

pub returns-in-Ok-script_bytes-clause-stands : goal.returns-in-Ok-script_bytes-clause-stands
returns-in-Ok-script_bytes-clause-stands g c =
    drilled c.args.limits.now c.args.count (g.O.Sink.written c.args.out.now) (g.O.Sink.written c.write_text.new.out) (g.O.Sink.written c.count_script.new.out) c.count_script.result
    (subst (λ (text : List ℕ). Appended (g.O.Sink.written c.args.out.now) (g.O.Sink.written c.write_text.new.out) text) (c.as_slice.ensures.value ∙ c.in-Ok.ensures) c.if-not-write_text.ensures.whole)
    (subst (λ (script : List ℕ). StandsCounted c.args.limits.now script (g.O.Sink.written c.write_text.new.out) (g.O.Sink.written c.count_script.new.out) c.count_script.result) c.in-Ok-script_bytes.ensures c.count_script.ensures.stands)
