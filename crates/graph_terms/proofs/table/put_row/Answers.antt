use Rattle.std.proofs.Common.{◌≡◌, ℕ, Bool, ◌∷◌, ◌++◌, [], List, Vec, None, nat_eq, ap, sym, subst, ◌∙◌}
use Rattle.std.specs.declared.alloc.Global.{Global}
use Rattle.std.specs.Map.{lookup}
use Rattle.std.specs.Cmp.Lexicographic.{pointwise}
use Rattle.indexmap.proofs.CallerLemmas.{insert_entry-new}
use Rattle.graph_terms.specs.Terms.{term_row}
use Rattle.graph_terms.proofs.TableLemmas.{lookup-absent}
use Rattle.graph_terms.proofs.table.put_row.Goals as goal

pub returns-clause-ok : goal.returns-clause-ok
returns-clause-ok c =
    let rows = c.args.rows.now in
    let key = c.in_ok-key.key in
    let row = term_row c.args.symbol c.args.args.now in
    let eq : Vec ℕ Global → Vec ℕ Global → Bool = λ x y. pointwise nat_eq x.items y.items in
    let missing : List ℕ → Type 0 = λ items. lookup (λ (k : Vec ℕ Global). pointwise nat_eq items k.items) rows.entries ≡ None in
    let none = subst missing (sym c.in_ok-key.ensures) (lookup-absent rows.entries row c.requires.keyed c.requires.absent) in (
      key,
      c.in_ok-key.ensures,
      c.in_ok-insert.ensures.entries
          ∙ insert_entry-new eq rows key _ none
          ∙ ap (λ args. rows.entries ++ (key, term_row c.args.symbol args) ∷ []) c.in_ok-args_kept.ensures,
    )
