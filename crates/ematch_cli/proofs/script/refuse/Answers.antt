use Rattle.std.proofs.Common.{take, drop, refl, sym, inl, inr}
use Rattle.std.proofs.lemmas.List.{take-append-drop}
use Rattle.ematch_cli.proofs.script.refuse.Goals as goal

pub returns-in-Ok-clause-writes : goal.returns-in-Ok-clause-writes
returns-in-Ok-clause-writes g c = record { is = inl refl; whole = λ _. c.in-Ok.ensures.all; front = λ no. absurd (no refl) }

pub returns-in-Err-clause-writes : goal.returns-in-Err-clause-writes
returns-in-Err-clause-writes g c = record {
  is = inr (inl refl);
  whole = λ error. cc;
  front = λ _. (
    take c.in-Err.field-0.gone c.args.line.now,
    (drop c.in-Err.field-0.gone c.args.line.now, sym (take-append-drop c.in-Err.field-0.gone c.args.line.now)),
    c.in-Err.ensures.front,
  );
}
