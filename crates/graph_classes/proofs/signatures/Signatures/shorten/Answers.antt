use Rattle.std.proofs.Common.{◌∙◌, ap, length, take, ◌-◌}
use Rattle.graph_classes.proofs.TableLemmas.{shown_shorter}
use Rattle.graph_classes.proofs.signatures.Signatures.shorten.Goals as goal

pub returns : goal.returns
returns c = shown_shorter c.self.inside.entries.entries c.pop.new.self.entries c.pop.result c.pop.ensures.entries c.pop.ensures.found.1
    ∙ ap (λ t. take (length t - 1) t) c.self.view_is
