use Rattle.std.proofs.Common.{arith}
use Rattle.std.proofs.lemmas.Grind.{common_steps}
use Rattle.std.proofs.lemmas.Option.{gets}
use Rattle.match_trees.proofs.index.Index.place.Goals as goal

pub returns : goal.returns
returns c = (c.places.result.now, c.places.ensures, grind (arith, common_steps, gets))
