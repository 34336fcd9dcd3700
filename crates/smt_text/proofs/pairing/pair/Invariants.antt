use Rattle.std.proofs.Common.{◌≡◌}
use Rattle.smt_text.specs.Pairing.{token_kinds, bare, Paired}
use Rattle.smt_text.proofs.pairing.pair.Given as goal

abbrev pub invariant-loop-i : goal.invariant-loop-i
invariant-loop-i l = record {
  paired : Paired (token_kinds l.fn.tokens) l.tokens l.lefts.items l.i;
  same : bare l.tokens ≡ bare l.fn.tokens;
}
