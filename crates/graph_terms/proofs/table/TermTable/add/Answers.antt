use Rattle.std.proofs.Common.{◌<◌, ◌∷◌, [], length, All, subst, sym, ap, ◌∙◌, arith}
use Rattle.std.specs.Map.{values_of}
use Rattle.std.proofs.lemmas.List.{length-append}
use Rattle.graph_terms.specs.Terms.{term_row, IsAbsent, Table}
use Rattle.graph_terms.proofs.TableLemmas.{Takes-push, IsKeyed-puts, IsTable-puts, values_of-push}
use Rattle.graph_terms.proofs.table.TermTable.add.Goals as goal

pub invariant_of-self-2 : goal.invariant_of-self-2
invariant_of-self-2 c =
    let entries = c.self.inside.rows.entries in
    let new = c.put_row.new.rows.entries in
    let row = term_row c.args.symbol c.args.args.now in
    let puts = c.in_ok-put_row.ensures.ok in
    let is = ap (λ (t : Table). t.rows) c.self.view_is in
    let limit = ap (λ (t : Table). t.limit) c.self.view_is in
    record {
      keyed = IsKeyed-puts entries new row c.self.invariant.keyed puts;
      is_table = IsTable-puts entries new row puts
          (subst (λ rows. All (λ arg. arg < length rows) c.args.args.now) (sym is) c.requires.terms) c.requires.few
          (subst (λ rows. IsAbsent rows row) (sym is) c.in_default.ensures.absent) c.self.invariant.is_table;
      within = omega (arith, ap length (ap values_of puts.2 ∙ values_of-push entries (puts.0, row)), length-append (values_of entries) (row ∷ []), ap length is, limit, c.len-term.ensures.value, c.if-term-self.false);
      least = c.self.invariant.least;
      fits = c.self.invariant.fits;
    }

pub returns-clause-ok : goal.returns-clause-ok
returns-clause-ok c =
    Takes-push c.args.self.now c.self.inside.rows.entries c.put_row.new.rows.entries (term_row c.args.symbol c.args.args.now) c.self.inside.limit c.len-term.result
    (ap (λ (t : Table). t.rows) c.self.view_is) c.in_ok-put_row.ensures.ok c.in_default.ensures.absent (ap (λ (t : Table). t.limit) c.self.view_is) c.len-term.ensures.value (omega arith)
