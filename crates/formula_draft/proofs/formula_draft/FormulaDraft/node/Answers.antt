use Rattle.std.proofs.Common.{ℕ, List, sym, ap, subst, ◌∙◌, arith}
use Rattle.std.specs.Option.{option_map}
use Rattle.std.specs.Map.{values_of}
use Rattle.std.proofs.lemmas.Map.Entries.{length-values_of}
use Rattle.formula_draft.specs.declared.draft_node.DraftNode.{DraftNode}
use Rattle.formula_draft.specs.Items.{with_item, same_key, Puts}
use Rattle.formula_draft.specs.DraftNode.{same_node, node_key}
use Rattle.formula_draft.specs.Draft.{with_node}
use Rattle.formula_draft.specs.DraftInside.{draft_of}
use Rattle.formula_draft.proofs.ItemLaws.{item_put, item_full, AreKeyed-put, within-put}
use Rattle.formula_draft.proofs.SameLaws.{node_by_keys}
use Rattle.formula_draft.proofs.formula_draft.FormulaDraft.node.Goals as goal

pub put-requires : goal.put-requires
put-requires c = omega (arith, length-values_of c.self.inside.nodes.entries, c.self.invariant.nodes_within)

pub returns-in-None-clause-fault : goal.returns-in-None-clause-fault
returns-in-None-clause-fault c =
    let entries = c.self.inside.nodes.entries in
    let puts = subst (Puts (with_item same_key c.self.inside.most_nodes (c.in_ok-key.key, c.args.node) entries) entries c.put.new.items.entries) c.in-None.is c.in_ok-put.ensures.ok in
    ap (with_node c.args.node) (sym c.self.view_is)
    ∙ ap (option_map (λ (put : ℕ × List DraftNode). (put.0, record (draft_of c.self.inside) { nodes = put.1 }))) (item_full node_key same_node node_by_keys c.self.inside.most_nodes c.in_ok-key.key c.args.node entries c.self.invariant.nodes_keyed c.in_ok-key.ensures puts.0)

pub invariant_of-self-in-Some : goal.invariant_of-self-in-Some
invariant_of-self-in-Some c =
    let entries = c.self.inside.nodes.entries in
    let after = c.put.new.items.entries in
    let put = subst (Puts (with_item same_key c.self.inside.most_nodes (c.in_ok-key.key, c.args.node) entries) entries after) c.in-Some.is c.in_ok-put.ensures.ok in
    record {
      nodes_keyed = AreKeyed-put node_key c.self.inside.most_nodes c.in_ok-key.key c.args.node entries c.self.invariant.nodes_keyed c.in_ok-key.ensures c.in-Some.n after put;
      rows_keyed = c.self.invariant.rows_keyed;
      nodes_within = within-put same_node c.self.inside.most_nodes c.args.node (values_of entries) c.self.invariant.nodes_within c.in-Some.n (values_of after) (item_put node_key same_node node_by_keys c.self.inside.most_nodes c.in_ok-key.key c.args.node entries c.self.invariant.nodes_keyed c.in_ok-key.ensures c.in-Some.n after put);
      rows_within = c.self.invariant.rows_within;
      rows_fit = c.self.invariant.rows_fit;
      nodes_fit = c.self.invariant.nodes_fit;
      foralls_fit = c.self.invariant.foralls_fit;
    }

pub returns-in-Some-clause-ok : goal.returns-in-Some-clause-ok
returns-in-Some-clause-ok c =
    let entries = c.self.inside.nodes.entries in
    let after = c.put.new.items.entries in
    let put = subst (Puts (with_item same_key c.self.inside.most_nodes (c.in_ok-key.key, c.args.node) entries) entries after) c.in-Some.is c.in_ok-put.ensures.ok in
    ap (with_node c.args.node) (sym c.self.view_is)
    ∙ ap (option_map (λ (put : ℕ × List DraftNode). (put.0, record (draft_of c.self.inside) { nodes = put.1 }))) (item_put node_key same_node node_by_keys c.self.inside.most_nodes c.in_ok-key.key c.args.node entries c.self.invariant.nodes_keyed c.in_ok-key.ensures c.in-Some.n after put)
