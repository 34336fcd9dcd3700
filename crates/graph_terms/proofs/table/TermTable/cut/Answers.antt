use Rattle.std.proofs.Common.{arith, sym, ap, subst, ◌∙◌, take, length}
use Rattle.std.proofs.lemmas.List.{length-take}
use Rattle.std.specs.Map.{values_of}
use Rattle.graph_terms.specs.Terms.{IsTable}
use Rattle.graph_terms.specs.Entries.{IsKeyed}
use Rattle.graph_terms.proofs.TableLemmas.{IsKeyed-take, values_of-take}
use Rattle.graph_terms.proofs.TableLaws.{IsTable-take}
use Rattle.graph_terms.proofs.table.TermTable.cut.Goals as goal

pub invariant_of-self : goal.invariant_of-self
invariant_of-self c =
    let entries = c.self.inside.rows.entries in
    let cut = c.truncate.ensures.entries in
    let rows = ap values_of cut ∙ values_of-take c.args.len entries in
    record {
      keyed = subst IsKeyed (sym cut) (IsKeyed-take c.args.len entries c.self.invariant.keyed);
      is_table = subst IsTable (sym rows) (IsTable-take c.args.len _ c.requires.first c.self.invariant.is_table);
      within = omega (arith, ap length rows, length-take c.args.len (values_of entries), c.self.invariant.within);
      least = c.self.invariant.least;
      fits = c.self.invariant.fits;
    }

pub returns-clause-rows : goal.returns-clause-rows
returns-clause-rows c =
    ap values_of c.truncate.ensures.entries ∙ values_of-take c.args.len c.self.inside.rows.entries ∙ ap (λ table. take c.args.len table.rows) c.self.view_is
