use Rattle.std.proofs.Common.{◌∙◌, ap, Some, sym}
use Rattle.match_paths.proofs.PairLemmas.{pair_begins}
use Rattle.match_paths.proofs.ways.begin_for.Goals as goal

pub returns-in-Some-Above-clause-some : goal.returns-in-Some-Above-clause-some
returns-in-Some-Above-clause-some c = pair_begins c.args.occurrence.now c.args.other.now c.in-Some-Above.symbol c.in-Some-Above.place c.is_same_place.result c.if-other-occurrence.false c.if-is_same_place.false c.is_same_place.ensures.1 (sym c.in-Some-Above.ensures ∙ ap Some c.in-Some-Above.field-0-is)
