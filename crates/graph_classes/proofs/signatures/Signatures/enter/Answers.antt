use Rattle.std.proofs.Common.{◌∙◌, ap, ◌∷◌, [], ◌++◌}
use Rattle.graph_classes.specs.Table.{found, shown_entries}
use Rattle.graph_classes.proofs.TableLemmas.{lookup_shown, shown-append}
use Rattle.indexmap.proofs.CallerLemmas.{insert_entry-new}
use Rattle.graph_classes.proofs.signatures.Signatures.enter.Goals as goal

pub returns-clause-ok : goal.returns-clause-ok
returns-clause-ok c =
    let none = lookup_shown c.args.key.items c.self.inside.entries.entries ∙ ap (λ t. found t c.args.key.items) c.self.view_is ∙ c.requires in
    ap shown_entries (c.in_ok-insert.ensures.entries ∙ insert_entry-new _ c.self.inside.entries c.args.key c.args.term none)
    ∙ shown-append c.self.inside.entries.entries _
    ∙ ap (λ t. t ++ (c.args.key.items, c.args.term) ∷ []) c.self.view_is
