use Rattle.std.proofs.Common.{rules}
use Rattle.std.proofs.lemmas.Fn.{dedup_same}
use Rattle.graph_meaning.specs.Order.{same_list}
use Rattle.graph_meaning.proofs.arrange.keep_one.Goals as goal

pub returns : goal.returns
returns c = dedup_same _ same_list _ (λ x y b f' x' y' k. search rules) _ _ c.dedup_by.ensures.filtered
