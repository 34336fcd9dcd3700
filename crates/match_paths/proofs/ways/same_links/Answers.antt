use Rattle.std.proofs.lemmas.Slice.Eq.{slice_eq-Decides}
use Rattle.match_paths.proofs.PairLemmas.{link_decides}
use Rattle.match_paths.proofs.ways.same_links.Goals as goal

pub returns : goal.returns
returns c = slice_eq-Decides link_decides c.args.one.now c.args.other.now c.eq.result c.eq.ensures
