-- Small drafts, computed.
use Rattle.std.proofs.Common.{◌≡◌, ℕ, zero, suc, ◌<◌, true, List, [], ◌∷◌, length, slice_get, Some, All, sym, ap, subst, ◌∙◌, arith}
use Rattle.std.proofs.lemmas.Option.{none-some, same_Some, slice_get_within}
use Rattle.formula_draft.specs.declared.draft_row.DraftRow.{DraftRow}
use Rattle.formula_draft.specs.declared.draft_row.DraftRow.TheVariants.{Var, App}
use Rattle.formula_draft.specs.declared.draft_node.DraftNode.{DraftNode}
use Rattle.formula_draft.specs.declared.draft_node.DraftNode.TheVariants.{Atom}
use Rattle.formula_draft.specs.Draft.{Draft, FitsRow, FitsNode, IsClosed, IsDraft, IsFormula, empty_draft, finished, with_row, with_node}
use Rattle.formula_draft.proofs.DraftLaws.{row_stands_at, node_stands_at}
use Rattle.formula_draft.proofs.KeptLaws.{IsDraft-with_row, IsDraft-with_node}

-- no rows or arguments are named
pub none_named : (P : ℕ → Type 0) → All P []
none_named P = λ k d within. absurd (omega (arith, within))

pub one_named : (P : ℕ → Type 0) (n : ℕ) → P n → All P (n ∷ [])
one_named P n p zero d within = p
one_named P n p (suc k) d within = absurd (omega (arith, within))

-- a constant fits
constant_fits : (rows symbol : ℕ) (args : List ℕ) → args ≡ [] → FitsRow rows (App symbol args)
constant_fits rows symbol args none = subst (λ (xs : List ℕ). FitsRow rows (App symbol xs)) (sym none) (record { args = none_named (λ arg. arg < rows); few = omega arith })

-- the atom of a row that was put fits
atom_fits : (row : DraftRow) (old new : Draft) (n : ℕ) → with_row row old ≡ Some (n, new) → FitsNode (length new.rows) (length new.nodes) (length new.foralls) (Atom true n)
atom_fits row old new n put =
    let has = row_stands_at row old new n put in
    let within = slice_get_within has.0 n row has.2.stands in
    let rows : length new.rows ≡ length has.0 = ap (λ (draft : Draft). length draft.rows) has.1 in
    record {
      rows_stand = one_named (λ row. row < length new.rows) n (omega (arith, within, rows));
      parts_stand = none_named (λ part. part < length new.nodes);
      foralls_stand = none_named (λ k. k < length new.foralls);
    }

-- a node that was put stands
node_within : (node : DraftNode) (old new : Draft) (n : ℕ) → with_node node old ≡ Some (n, new) → n < length new.nodes
node_within node old new n put =
    let has = node_stands_at node old new n put in
    let within = slice_get_within has.0 n node has.2.stands in
    let nodes : length new.nodes ≡ length has.0 = ap (λ (draft : Draft). length draft.nodes) has.1 in
    omega (arith, within, nodes)

-- a constant is no variable
abbrev kind_of : DraftRow → ℕ
kind_of (Var index) = 0
kind_of (App symbol args) = 1

constant_alone : (args : List ℕ) (n index : ℕ) → slice_get (App 7 args ∷ []) n ≡ Some (Var index) → ⊥
constant_alone args zero index at = let same : App 7 args ≡ Var index = same_Some (App 7 args) (Var index) at in let kinds : 1 ≡ 0 = ap kind_of same in absurd (omega (arith, kinds))
constant_alone args (suc n) index at = none-some (Var index) at

-- the rows of a draft with a constant alone
constant_rows : (args : List ℕ) (draft new : Draft) (n : ℕ) → draft ≡ empty_draft 4 4 → with_row (App 7 args) draft ≡ Some (n, new) → new.rows ≡ App 7 args ∷ []
constant_rows args draft new n empty put =
    let made : with_row (App 7 args) (empty_draft 4 4) ≡ Some (n, new) = subst (λ (d : Draft). with_row (App 7 args) d ≡ Some (n, new)) empty put in
    let both : (0, record (empty_draft 4 4) { rows = App 7 args ∷ [] }) ≡ (n, new) = same_Some (0, record (empty_draft 4 4) { rows = App 7 args ∷ [] }) (n, new) made in
    sym (ap (λ (p : ℕ × Draft). p.1.rows) both)

-- a formula over a constant alone has no variables
constant_closed : (args : List ℕ) (draft new after : Draft) (n root : ℕ) (node : DraftNode) → draft ≡ empty_draft 4 4 → with_row (App 7 args) draft ≡ Some (n, new) → with_node node new ≡ Some (root, after) → IsClosed after.rows after.nodes root
constant_closed args draft new after n root node empty put_row put_node row index reach at =
    let rows : after.rows ≡ new.rows = ap (λ (d : Draft). d.rows) (node_stands_at node new after root put_node).1 in
    constant_alone args row index (subst (λ (list : List DraftRow). slice_get list row ≡ Some (Var index)) (rows ∙ constant_rows args draft new n empty put_row) at)

-- nothing is a draft
nothing_drafted : IsDraft (empty_draft 4 4)
nothing_drafted = record {
  lawful = record {
    rows_fit = λ n row at. absurd (none-some row at);
    rows_once = λ m n row at also. absurd (none-some row at);
    nodes_fit = λ n node at. absurd (none-some node at);
    nodes_once = λ m n node at also. absurd (none-some node at);
    foralls_fit = λ n forall at. absurd (none-some forall at);
  };
  rows_within = omega arith;
  nodes_within = omega arith;
}

-- the atom of a constant is a formula
pub constant_formula : (args : List ℕ) (draft new after : Draft) (n root : ℕ) → args ≡ [] → draft ≡ empty_draft 4 4 → with_row (App 7 args) draft ≡ Some (n, new) → with_node (Atom true n) new ≡ Some (root, after) → IsFormula (finished after root)
constant_formula args draft new after n root none empty put_row put_node =
    let first : IsDraft draft = subst IsDraft (sym empty) nothing_drafted in
    let second : IsDraft new = IsDraft-with_row draft first (App 7 args) (constant_fits (length draft.rows) 7 args none) n new put_row in
    let third : IsDraft after = IsDraft-with_node new second (Atom true n) (atom_fits (App 7 args) draft new n put_row) root after put_node in
    record {
      lawful = third.lawful;
      root_stands = node_within (Atom true n) new after root put_node;
      closed = constant_closed args draft new after n root (Atom true n) empty put_row put_node;
    }
