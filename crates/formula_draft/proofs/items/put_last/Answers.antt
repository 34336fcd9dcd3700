use Rattle.std.proofs.Common.{ℕ, Bool, Vec, nat_eq, ◌∙◌}
use Rattle.std.specs.declared.alloc.Global.{Global}
use Rattle.std.specs.Cmp.Lexicographic.{pointwise}
use Rattle.indexmap.proofs.CallerLemmas.{insert_entry-new}
use Rattle.formula_draft.proofs.ItemLaws.{missed}
use Rattle.formula_draft.proofs.items.put_last.Goals as goal

pub returns-clause-ok : goal.returns-clause-ok
returns-clause-ok g c =
    let eq : Vec ℕ Global → Vec ℕ Global → Bool = λ x y. pointwise nat_eq x.items y.items in
    c.in_ok-insert.ensures.entries ∙ insert_entry-new eq c.args.items.now c.args.key c.args.item (missed c.args.key c.args.item c.args.items.now.entries c.requires)
