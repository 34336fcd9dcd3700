use Rattle.std.proofs.Common.{[], ◌∷◌, List, length, sym, ap, subst, arith}
use Rattle.std.proofs.lemmas.List.{length-append}
use Rattle.formula_table.specs.declared.table_forall.TableForall.{TableForall}
use Rattle.formula_table.specs.Formulas.{Formulas, IsFormulaTable, IsForallOf}
use Rattle.formula_table.specs.TableInside.{table_of}
use Rattle.formula_table.proofs.TableLemmas.{IsFormulaTable-forall}
use Rattle.formula_table.proofs.formula_table.FormulaTable.push_forall.Goals as goal

pub invariant_of-self-2 : goal.invariant_of-self-2
invariant_of-self-2 c =
    let inside = c.self.inside in
    let grew = c.in_ok-push_last.ensures.ok in
    let fits = subst (λ (table : Formulas). IsForallOf (length table.foralls) c.args.forall) (sym c.self.view_is) c.requires in
    record {
      keyed = c.self.invariant.keyed;
      is_table = subst (λ (foralls : List TableForall). IsFormulaTable (record (table_of inside) { foralls = foralls })) (sym grew) (IsFormulaTable-forall (table_of inside) c.self.invariant.is_table c.args.forall fits);
      limit_fits = c.self.invariant.limit_fits;
      foralls_fit = omega (arith, ap length grew, length-append inside.foralls.items (c.args.forall ∷ []), c.len-n.ensures, c.if-n.false);
    }
