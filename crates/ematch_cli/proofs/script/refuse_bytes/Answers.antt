use Rattle.std.proofs.Common.{[], refl, inr}
use Rattle.em_outside.proofs.BytesLaws.{Appended-none}
use Rattle.ematch_cli.proofs.script.refuse_bytes.Goals as goal

pub returns-in-Ok-clause-writes : goal.returns-in-Ok-clause-writes
returns-in-Ok-clause-writes g c = rw (c.as_slice.ensures.value, c.in-Ok.ensures) at c.refuse.ensures.writes

pub returns-in-Err-clause-writes : goal.returns-in-Err-clause-writes
returns-in-Err-clause-writes g c = record {
  is = inr (inr refl);
  whole = λ error. cc;
  front = λ _. ([], (_, refl), Appended-none _);
}
