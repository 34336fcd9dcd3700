use Rattle.std.proofs.Common.{◌∙◌, ap}
use Rattle.graph_classes.proofs.lists.Lists.enter.Goals as goal

pub enter_new-requires : goal.enter_new-requires
enter_new-requires c = ap (λ ls. ls c.args.place) c.in-None.ensures.none ∙ c.in-None.ensures.none_there
