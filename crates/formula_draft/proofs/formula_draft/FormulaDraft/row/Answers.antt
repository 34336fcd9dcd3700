use Rattle.std.proofs.Common.{ℕ, List, sym, ap, subst, ◌∙◌, arith}
use Rattle.std.specs.Option.{option_map}
use Rattle.std.specs.Map.{values_of}
use Rattle.std.proofs.lemmas.Map.Entries.{length-values_of}
use Rattle.formula_draft.specs.declared.draft_row.DraftRow.{DraftRow}
use Rattle.formula_draft.specs.Items.{with_item, same_key, Puts}
use Rattle.formula_draft.specs.DraftRow.{same_row, row_key}
use Rattle.formula_draft.specs.Draft.{with_row}
use Rattle.formula_draft.specs.DraftInside.{draft_of}
use Rattle.formula_draft.proofs.ItemLaws.{item_put, item_full, AreKeyed-put, within-put}
use Rattle.formula_draft.proofs.SameLaws.{row_by_keys}
use Rattle.formula_draft.proofs.formula_draft.FormulaDraft.row.Goals as goal

pub put-requires : goal.put-requires
put-requires c = omega (arith, length-values_of c.self.inside.rows.entries, c.self.invariant.rows_within)

pub returns-in-None-clause-fault : goal.returns-in-None-clause-fault
returns-in-None-clause-fault c =
    let entries = c.self.inside.rows.entries in
    let puts = subst (Puts (with_item same_key c.self.inside.most_rows (c.in_ok-key.key, c.args.row) entries) entries c.put.new.items.entries) c.in-None.is c.in_ok-put.ensures.ok in
    ap (with_row c.args.row) (sym c.self.view_is)
    ∙ ap (option_map (λ (put : ℕ × List DraftRow). (put.0, record (draft_of c.self.inside) { rows = put.1 }))) (item_full row_key same_row row_by_keys c.self.inside.most_rows c.in_ok-key.key c.args.row entries c.self.invariant.rows_keyed c.in_ok-key.ensures puts.0)

pub invariant_of-self-in-Some : goal.invariant_of-self-in-Some
invariant_of-self-in-Some c =
    let entries = c.self.inside.rows.entries in
    let after = c.put.new.items.entries in
    let put = subst (Puts (with_item same_key c.self.inside.most_rows (c.in_ok-key.key, c.args.row) entries) entries after) c.in-Some.is c.in_ok-put.ensures.ok in
    record {
      rows_keyed = AreKeyed-put row_key c.self.inside.most_rows c.in_ok-key.key c.args.row entries c.self.invariant.rows_keyed c.in_ok-key.ensures c.in-Some.n after put;
      nodes_keyed = c.self.invariant.nodes_keyed;
      rows_within = within-put same_row c.self.inside.most_rows c.args.row (values_of entries) c.self.invariant.rows_within c.in-Some.n (values_of after) (item_put row_key same_row row_by_keys c.self.inside.most_rows c.in_ok-key.key c.args.row entries c.self.invariant.rows_keyed c.in_ok-key.ensures c.in-Some.n after put);
      nodes_within = c.self.invariant.nodes_within;
      rows_fit = c.self.invariant.rows_fit;
      nodes_fit = c.self.invariant.nodes_fit;
      foralls_fit = c.self.invariant.foralls_fit;
    }

pub returns-in-Some-clause-ok : goal.returns-in-Some-clause-ok
returns-in-Some-clause-ok c =
    let entries = c.self.inside.rows.entries in
    let after = c.put.new.items.entries in
    let put = subst (Puts (with_item same_key c.self.inside.most_rows (c.in_ok-key.key, c.args.row) entries) entries after) c.in-Some.is c.in_ok-put.ensures.ok in
    ap (with_row c.args.row) (sym c.self.view_is)
    ∙ ap (option_map (λ (put : ℕ × List DraftRow). (put.0, record (draft_of c.self.inside) { rows = put.1 }))) (item_put row_key same_row row_by_keys c.self.inside.most_rows c.in_ok-key.key c.args.row entries c.self.invariant.rows_keyed c.in_ok-key.ensures c.in-Some.n after put)
