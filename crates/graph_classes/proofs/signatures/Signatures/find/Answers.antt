use Rattle.std.proofs.Common.{◌∙◌, ap}
use Rattle.graph_classes.specs.Table.{found}
use Rattle.graph_classes.proofs.TableLemmas.{lookup_shown}
use Rattle.graph_classes.proofs.signatures.Signatures.find.Goals as goal

pub returns : goal.returns
returns c = c.copied.ensures ∙ c.get.ensures.value ∙ lookup_shown c.args.key.now c.self.inside.entries.entries ∙ ap (λ t. found t c.args.key.now) c.self.view_is
