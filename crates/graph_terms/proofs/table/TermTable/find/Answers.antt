use Rattle.std.proofs.Common.{List, ℕ, Vec, Option, nat_eq, position, subst, sym, ap, ◌∙◌}
use Rattle.std.specs.declared.alloc.Global.{Global}
use Rattle.std.specs.Map.{keys_of, lookup}
use Rattle.std.specs.Cmp.Lexicographic.{pointwise}
use Rattle.graph_terms.specs.Terms.{term_row, HasRow, IsAbsent}
use Rattle.graph_terms.proofs.TableLemmas.{found_row, absent_row, absent-long, not_some}
use Rattle.graph_terms.proofs.table.TermTable.find.Goals as goal

pub returns-then-args-clause-absent : goal.returns-then-args-clause-absent
returns-then-args-clause-absent c =
    subst (λ table. IsAbsent table.rows (term_row c.args.symbol c.args.args.now)) c.self.view_is
    (absent-long _ c.args.symbol c.args.args.now c.self.invariant.is_table c.if-args.true)

pub returns-in-Some-clause-found : goal.returns-in-Some-clause-found
returns-in-Some-clause-found c =
    let entries = c.self.inside.rows.entries in
    let at_key : List ℕ → Option ℕ = λ key. position (λ (k : Vec ℕ Global). pointwise nat_eq key k.items) (keys_of entries) in
    subst (λ table. HasRow table.rows c.in-Some.term (term_row c.args.symbol c.args.args.now)) c.self.view_is
    (found_row entries c.self.invariant.keyed c.args.symbol c.args.args.now c.in-Some.term
    (ap at_key (sym c.write_key.ensures) ∙ sym c.in-Some.ensures.index))

pub returns-in-None-clause-absent : goal.returns-in-None-clause-absent
returns-in-None-clause-absent c =
    let entries = c.self.inside.rows.entries in
    let at_key : List ℕ → Option _ = λ key. lookup (λ (k : Vec ℕ Global). pointwise nat_eq key k.items) entries in
    subst (λ table. IsAbsent table.rows (term_row c.args.symbol c.args.args.now)) c.self.view_is
    (absent_row entries c.self.invariant.keyed c.args.symbol c.args.args.now
    (ap at_key (sym c.write_key.ensures) ∙ not_some _ (sym c.in-None.ensures.found)))
