use Rattle.std.proofs.Common.{◌≡◌, ◌<◌, ◌≤◌, ℕ, List, [], length, Some, All, Contains, ap, subst, sym, ◌∙◌, true≢false}
use Rattle.std.specs.Prelude.{slice_index}
use Rattle.std.proofs.lemmas.Option.{slice_get-get_or}
use Rattle.std.proofs.lemmas.List.Elements.{All-weaker, All-contains, All-contains_itself}
use Rattle.graph_terms.specs.Terms.{most_args}
use Rattle.graph_terms.specs.TermEntry.{AddGrows}
use Rattle.formula_draft.specs.declared.draft_row.DraftRow.TheVariants.{App}
use Rattle.formula_draft.specs.Reach.ReachesRow.{argument}
use Rattle.formula_table.specs.Entry.{entered_row}
use Rattle.formula_table.specs.EntryInside.{RowGrows, StopsTerm}
use Rattle.formula_table.specs.InOrder.PutsNext.{nothing}
use Rattle.formula_table.proofs.EntryLemmas.{variable_entered, row_reached, ok_map, fault_map, row_added, stops_row}
use Rattle.formula_table.proofs.enter_rows.enter_row.Goals as goal

pub returns-then-not-reached-clause-ok : goal.returns-then-not-reached-clause-ok
returns-then-not-reached-clause-ok g c = ([], g.met.E.TermEntry.grown_none c.args.terms.now, nothing (λ row becomes. true≢false (sym (c.requires.reached.1 (row_reached (g.F.RowList.formula c.args.formula.now) c.args.tuple.now (g.E.TermEntry.rows c.args.terms.now) c.args.numbers.now (length c.args.numbers.now) row becomes)) ∙ c.if-not-reached.true)))

pub add_term-requires-clause-named : goal.add_term-requires-clause-named
add_term-requires-clause-named g c =
    let at = c.row.ensures ∙ ap Some c.in-App.is in
    subst (λ (args : List ℕ). All (λ arg. arg < length c.args.numbers.now) args) (sym c.as_slice.ensures) (c.requires.formula.lawful.rows_fit (length c.args.numbers.now) (App c.in-App.symbol c.in-App.args) at).args

pub add_term-requires-clause-stand : goal.add_term-requires-clause-stand
add_term-requires-clause-stand g c =
    let at = c.row.ensures ∙ ap Some c.in-App.is in
    let rows = g.E.TermEntry.rows c.args.terms.now in
    let fits = c.requires.formula.lawful.rows_fit (length c.args.numbers.now) (App c.in-App.symbol c.in-App.args) at in
    subst (λ (args : List ℕ). All (λ arg. slice_index c.args.numbers.now arg < length rows) args) (sym c.as_slice.ensures)
    (All-weaker (Contains c.in-App.args) (λ arg. slice_index c.args.numbers.now arg < length rows)
    (λ arg is. c.requires.stand arg (All-contains (λ a. a < length c.args.numbers.now) c.in-App.args arg fits.args is) (argument (c.requires.reached.0 c.if-not-reached.false) at is))
    c.in-App.args (All-contains_itself c.in-App.args))

pub add_term-requires-clause-few : goal.add_term-requires-clause-few
add_term-requires-clause-few g c =
    let at = c.row.ensures ∙ ap Some c.in-App.is in
    subst (λ (args : List ℕ). length args ≤ most_args) (sym c.as_slice.ensures) (c.requires.formula.lawful.rows_fit (length c.args.numbers.now) (App c.in-App.symbol c.in-App.args) at).few

pub returns-in-App-clause-ok : goal.returns-in-App-clause-ok
returns-in-App-clause-ok g c =
    let at = c.row.ensures ∙ ap Some c.in-App.is in
    let old = g.E.TermEntry.rows c.args.terms.now in
    let new = g.E.TermEntry.rows c.add_term.new.terms in
    let limit = g.E.TermEntry.limit c.args.terms.now in
    let grown = g.E.TermEntry.grown c.args.terms.now c.add_term.new.terms in
    let numbers = c.args.numbers.now in
    ok_map (AddGrows old limit new grown (entered_row numbers c.in-App.symbol c.as_slice.result.now)) (RowGrows grown (g.F.RowList.formula c.args.formula.now) c.args.tuple.now old limit numbers) c.add_term.result
    (λ term adds. row_added (g.F.RowList.formula c.args.formula.now) c.args.tuple.now old new limit grown numbers c.in-App.symbol c.in-App.args (c.requires.reached.0 c.if-not-reached.false) at
    (λ more grew. (g.met.E.TermEntry.grown_rows c.args.terms.now c.add_term.new.terms more grew).0)
    term (subst (λ (args : List ℕ). AddGrows old limit new grown (entered_row numbers c.in-App.symbol args) term) c.as_slice.ensures adds))
    c.add_term.ensures.ok

pub returns-in-App-clause-fault : goal.returns-in-App-clause-fault
returns-in-App-clause-fault g c =
    let at = c.row.ensures ∙ ap Some c.in-App.is in
    let rows = g.E.TermEntry.rows c.args.terms.now in
    let limit = g.E.TermEntry.limit c.args.terms.now in
    let numbers = c.args.numbers.now in
    fault_map _ _ c.add_term.result
    (λ fault stops. stops_row (g.F.RowList.formula c.args.formula.now) c.args.tuple.now rows limit numbers _ _ c.in-App.symbol c.in-App.args (c.requires.reached.0 c.if-not-reached.false) at fault
    (subst (λ (args : List ℕ). StopsTerm rows limit (c.add_term.new.terms ≡ c.args.terms.now) (g.E.TermEntry.refused c.args.terms.now c.add_term.new.terms) (entered_row numbers c.in-App.symbol args) fault) c.as_slice.ensures stops))
    c.add_term.ensures.fault

pub returns-in-Var-clause-ok : goal.returns-in-Var-clause-ok
returns-in-Var-clause-ok g c =
    let at = c.row.ensures ∙ ap Some c.in-Var.is in
    let reach = c.requires.reached.0 c.if-not-reached.false in
    let within = c.requires.formula.below (length c.args.numbers.now) c.in-Var.index reach at in
    variable_entered (g.F.RowList.formula c.args.formula.now) c.args.tuple.now (g.E.TermEntry.rows c.args.terms.now) c.requires.tuple (g.E.TermEntry.limit c.args.terms.now) _ (g.met.E.TermEntry.grown_none c.args.terms.now) c.args.numbers.now c.in-Var.index (slice_index c.args.tuple.now c.in-Var.index) reach at (slice_get-get_or c.args.tuple.now c.in-Var.index 0 within)
