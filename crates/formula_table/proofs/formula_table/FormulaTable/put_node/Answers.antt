use Rattle.std.proofs.Common.{ℕ, List, sym, ap, subst, ◌∙◌, arith}
use Rattle.std.specs.Option.{option_map}
use Rattle.std.specs.Map.{values_of}
use Rattle.std.proofs.lemmas.Map.Entries.{length-values_of}
use Rattle.formula_table.specs.declared.node.Node.{Node}
use Rattle.formula_draft.specs.Items.{with_item, same_key, Puts}
use Rattle.formula_table.specs.Node.{same_entered, entered_key}
use Rattle.formula_table.specs.Formulas.{Formulas, FitsTable, RefusesEntered, with_entered}
use Rattle.formula_table.specs.TableInside.{table_of}
use Rattle.formula_table.specs.declared.enter_fault.EnterFault.TheVariants.{NodesFull}
use Rattle.formula_draft.proofs.SameLaws.{absent}
use Rattle.formula_draft.proofs.ItemLaws.{item_put, item_full, full_cases, AreKeyed-put}
use Rattle.formula_table.proofs.Same.{entered_by_keys, entered_told}
use Rattle.formula_table.proofs.TableLemmas.{IsFormulaTable-node}
use Rattle.formula_table.proofs.formula_table.FormulaTable.put_node.Goals as goal

pub put-requires : goal.put-requires
put-requires c = omega (arith, length-values_of c.self.inside.nodes.entries, c.self.invariant.is_table.within)

pub returns-in-None-clause-fault : goal.returns-in-None-clause-fault
returns-in-None-clause-fault c =
    let entries = c.self.inside.nodes.entries in
    let nodes = values_of entries in
    let limit = c.self.inside.limit in
    let puts = subst (Puts (with_item same_key limit (c.in_ok-key.key, c.args.node) entries) entries c.put.new.items.entries) c.in-None.is c.in_ok-put.ensures.ok in
    let full = full_cases same_entered limit c.args.node nodes (item_full entered_key same_entered entered_by_keys limit c.in_ok-key.key c.args.node entries c.self.invariant.keyed c.in_ok-key.ensures puts.0) in
    subst (λ (table : Formulas). RefusesEntered c.args.node table NodesFull) c.self.view_is (absent same_entered entered_told c.args.node nodes full.0, omega (arith, full.1, c.self.invariant.is_table.within))

pub invariant_of-self-in-Some : goal.invariant_of-self-in-Some
invariant_of-self-in-Some c =
    let entries = c.self.inside.nodes.entries in
    let after = c.put.new.items.entries in
    let put = subst (Puts (with_item same_key c.self.inside.limit (c.in_ok-key.key, c.args.node) entries) entries after) c.in-Some.is c.in_ok-put.ensures.ok in
    record {
      keyed = AreKeyed-put entered_key c.self.inside.limit c.in_ok-key.key c.args.node entries c.self.invariant.keyed c.in_ok-key.ensures c.in-Some.n after put;
      is_table = IsFormulaTable-node (table_of c.self.inside) c.self.invariant.is_table c.args.node (subst (λ (table : Formulas). FitsTable table c.args.node) (sym c.self.view_is) c.requires) c.in-Some.n (values_of after)
          (item_put entered_key same_entered entered_by_keys c.self.inside.limit c.in_ok-key.key c.args.node entries c.self.invariant.keyed c.in_ok-key.ensures c.in-Some.n after put);
      limit_fits = c.self.invariant.limit_fits;
      foralls_fit = c.self.invariant.foralls_fit;
    }

pub returns-in-Some-clause-ok : goal.returns-in-Some-clause-ok
returns-in-Some-clause-ok c =
    let entries = c.self.inside.nodes.entries in
    let after = c.put.new.items.entries in
    let put = subst (Puts (with_item same_key c.self.inside.limit (c.in_ok-key.key, c.args.node) entries) entries after) c.in-Some.is c.in_ok-put.ensures.ok in
    ap (with_entered c.args.node) (sym c.self.view_is)
    ∙ ap (option_map (λ (put : ℕ × List Node). (put.0, record (table_of c.self.inside) { nodes = put.1 }))) (item_put entered_key same_entered entered_by_keys c.self.inside.limit c.in_ok-key.key c.args.node entries c.self.invariant.keyed c.in_ok-key.ensures c.in-Some.n after put)
