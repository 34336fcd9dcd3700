use Rattle.std.proofs.Common.{◌≤◌, List, length, sym, ap, ap₂, subst, ◌∙◌, arith}
use Rattle.std.proofs.lemmas.List.{length-take}
use Rattle.std.specs.Map.{values_of}
use Rattle.formula_table.specs.declared.node.Node.{Node}
use Rattle.formula_table.specs.declared.table_forall.TableForall.{TableForall}
use Rattle.formula_draft.specs.Items.{AreKeyed}
use Rattle.formula_table.specs.Node.{entered_key}
use Rattle.formula_table.specs.Formulas.{Formulas, IsFormulaTable, NamesFirst, first_formulas}
use Rattle.formula_table.specs.TableInside.{table_of}
use Rattle.formula_draft.proofs.ItemLaws.{values_of-take, AreKeyed-take}
use Rattle.formula_table.proofs.TableLemmas.{IsFormulaTable-first}
use Rattle.formula_table.proofs.formula_table.FormulaTable.cut.Goals as goal

pub invariant_of-self : goal.invariant_of-self
invariant_of-self c =
    let inside = c.self.inside in
    let nodes = ap values_of c.truncate.ensures.entries ∙ values_of-take c.args.nodes inside.nodes.entries in
    let made : List Node → List TableForall → Formulas = λ nodes foralls. record { nodes = nodes; foralls = foralls; limit = inside.limit } in
    let named = subst (λ (table : Formulas). NamesFirst table c.args.nodes c.args.foralls) (sym c.self.view_is) c.requires.named in
    let stand = subst (λ (table : Formulas). c.args.foralls ≤ length table.foralls) (sym c.self.view_is) c.requires.foralls in
    record {
      keyed = subst (AreKeyed entered_key) (sym c.truncate.ensures.entries) (AreKeyed-take entered_key c.args.nodes inside.nodes.entries c.self.invariant.keyed);
      is_table = subst IsFormulaTable (sym (ap₂ made nodes c.truncate-2.ensures.items)) (IsFormulaTable-first (table_of inside) c.args.nodes c.args.foralls c.self.invariant.is_table named stand);
      limit_fits = c.self.invariant.limit_fits;
      foralls_fit = omega (arith, ap length c.truncate-2.ensures.items, length-take c.args.foralls inside.foralls.items, c.self.invariant.foralls_fit);
    }

pub returns : goal.returns
returns c =
    let inside = c.self.inside in
    let nodes = ap values_of c.truncate.ensures.entries ∙ values_of-take c.args.nodes inside.nodes.entries in
    let made : List Node → List TableForall → Formulas = λ nodes foralls. record { nodes = nodes; foralls = foralls; limit = inside.limit } in
    ap₂ made nodes c.truncate-2.ensures.items ∙ ap (first_formulas c.args.nodes c.args.foralls) c.self.view_is
