use Rattle.std.proofs.Common.{◌<◌, List, ℕ, length, All, subst, sym, ◌∙◌}
use Rattle.std.specs.Prelude.{slice_index}
use Rattle.std.proofs.lemmas.List.Elements.{All-map}
use Rattle.formula_table.proofs.enter_rows.add_term.Goals as goal

pub add-requires-clause-terms : goal.add-requires-clause-terms
add-requires-clause-terms g c =
    let rows = g.E.TermEntry.rows c.args.terms.now in
    subst (λ (args : List ℕ). All (λ arg. arg < length rows) args) (sym (c.as_slice.ensures.value ∙ c.in_ok-args.ensures)) (All-map (λ arg. arg < length rows) (slice_index c.args.numbers.now) c.args.args.now c.requires.stand)
