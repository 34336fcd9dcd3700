-- The formula that says the atom of a function of each x, computed.
use Rattle.std.proofs.Common.{◌≡◌, ℕ, zero, suc, ◌<◌, true, List, [], ◌∷◌, length, slice_get, Some, Contains, refl, sym, ap, subst, ◌∙◌, arith}
use Rattle.std.proofs.lemmas.Option.{none-some, same_Some}
use Rattle.graph_trigger.specs.declared.trigger.Trigger.{Trigger}
use Rattle.formula_draft.specs.declared.draft_row.DraftRow.{DraftRow}
use Rattle.formula_draft.specs.declared.draft_row.DraftRow.TheVariants.{Var, App}
use Rattle.formula_draft.specs.declared.draft_node.DraftNode.{DraftNode}
use Rattle.formula_draft.specs.declared.draft_node.DraftNode.TheVariants.{Atom, Forall}
use Rattle.formula_draft.specs.declared.draft_forall.DraftForall.{DraftForall}
use Rattle.formula_draft.specs.DraftNode.{rows_of, parts_of}
use Rattle.formula_draft.specs.Reach.{ReachesNode, ReachesRow}
use Rattle.formula_draft.specs.Reach.ReachesNode.{itself, part_of_it}
use Rattle.formula_draft.specs.Reach.ReachesRow.{named, argument}
use Rattle.formula_draft.specs.Draft.{Draft, Formula, FitsRow, FitsNode, FitsForall, IsFormula, draft_forall, empty_draft, finished, with_forall, with_row, with_node}
use Rattle.formula_tests.proofs.TestLemmas.{none_named, one_named}

abbrev rows_made : List DraftRow
rows_made = Var 0 ∷ App 7 (0 ∷ []) ∷ []

abbrev nodes_made : List DraftNode
nodes_made = Atom true 1 ∷ Forall 0 ∷ []

abbrev foralls_made : List DraftForall
foralls_made = draft_forall 1 0 [] ∷ []

abbrev formula_made : Formula
formula_made = record { rows = rows_made; nodes = nodes_made; foralls = foralls_made; root = 1 }

-- rows and nodes are told by their kinds
abbrev row_kind : DraftRow → ℕ
row_kind (Var index) = 0
row_kind (App symbol args) = 1

abbrev node_kind : DraftNode → ℕ
node_kind (Forall index) = 0
node_kind node = 1

nothing_in : (n : ℕ) → Contains {X = ℕ} [] n → ⊥
nothing_in n c = absurd (omega (arith, c.1))

-- from a node without parts nothing else is reached
alone : (nodes : List DraftNode) (start : ℕ) (x : DraftNode) → slice_get nodes start ≡ Some x → parts_of x ≡ [] → (n : ℕ) → ReachesNode nodes start n → n ≡ start
alone nodes start x at none n itself = refl
alone nodes start x at none n (part_of_it {node = node} above here c) =
    let same : node ≡ x = same_Some node x (sym here ∙ ap (slice_get nodes) (alone nodes start x at none _ above) ∙ at) in
    absurd (nothing_in n (subst (λ (parts : List ℕ). Contains parts n) (ap parts_of same ∙ none) c))

-- the root reaches no row
no_row : (row : ℕ) → ReachesRow rows_made nodes_made 1 row → ⊥
no_row row (named {node = node} reach here c) =
    let same : node ≡ Forall 0 = same_Some node (Forall 0) (sym here ∙ ap (slice_get nodes_made) (alone nodes_made 1 (Forall 0) refl refl _ reach)) in
    nothing_in row (subst (λ (rows : List ℕ). Contains rows row) (ap rows_of same) c)
no_row row (argument above here c) = no_row _ above

row_fits : (n : ℕ) (row : DraftRow) → slice_get rows_made n ≡ Some row → FitsRow n row
row_fits zero row at = subst (FitsRow 0) (same_Some (Var 0) row at) (record { args = none_named (λ arg. arg < 0); few = omega arith })
row_fits (suc zero) row at = subst (FitsRow 1) (same_Some (App 7 (0 ∷ [])) row at) (record { args = one_named (λ arg. arg < 1) 0 (omega arith); few = omega arith })
row_fits (suc (suc n)) row at = absurd (none-some row at)

rows_once : (m n : ℕ) (row : DraftRow) → slice_get rows_made m ≡ Some row → slice_get rows_made n ≡ Some row → m ≡ n
rows_once zero zero row at also = refl
rows_once zero (suc zero) row at also = let kinds : 0 ≡ 1 = ap row_kind (same_Some (Var 0) (App 7 (0 ∷ [])) (at ∙ sym also)) in absurd (omega (arith, kinds))
rows_once (suc zero) zero row at also = let kinds : 1 ≡ 0 = ap row_kind (same_Some (App 7 (0 ∷ [])) (Var 0) (at ∙ sym also)) in absurd (omega (arith, kinds))
rows_once (suc zero) (suc zero) row at also = refl
rows_once zero (suc (suc n)) row at also = absurd (none-some row also)
rows_once (suc zero) (suc (suc n)) row at also = absurd (none-some row also)
rows_once (suc (suc m)) n row at also = absurd (none-some row at)

node_fits : (n : ℕ) (node : DraftNode) → slice_get nodes_made n ≡ Some node → FitsNode 2 n 1 node
node_fits zero node at = subst (FitsNode 2 0 1) (same_Some (Atom true 1) node at) (record {
  rows_stand = one_named (λ row. row < 2) 1 (omega arith);
  parts_stand = none_named (λ part. part < 0);
  foralls_stand = none_named (λ n. n < 1);
})
node_fits (suc zero) node at = subst (FitsNode 2 1 1) (same_Some (Forall 0) node at) (record {
  rows_stand = none_named (λ row. row < 2);
  parts_stand = none_named (λ part. part < 1);
  foralls_stand = one_named (λ n. n < 1) 0 (omega arith);
})
node_fits (suc (suc n)) node at = absurd (none-some node at)

nodes_once : (m n : ℕ) (node : DraftNode) → slice_get nodes_made m ≡ Some node → slice_get nodes_made n ≡ Some node → m ≡ n
nodes_once zero zero node at also = refl
nodes_once zero (suc zero) node at also = let kinds : 1 ≡ 0 = ap node_kind (same_Some (Atom true 1) (Forall 0) (at ∙ sym also)) in absurd (omega (arith, kinds))
nodes_once (suc zero) zero node at also = let kinds : 0 ≡ 1 = ap node_kind (same_Some (Forall 0) (Atom true 1) (at ∙ sym also)) in absurd (omega (arith, kinds))
nodes_once (suc zero) (suc zero) node at also = refl
nodes_once zero (suc (suc n)) node at also = absurd (none-some node also)
nodes_once (suc zero) (suc (suc n)) node at also = absurd (none-some node also)
nodes_once (suc (suc m)) n node at also = absurd (none-some node at)

-- the body is an atom
no_forall_in : (n index : ℕ) → ReachesNode nodes_made 0 n → slice_get nodes_made n ≡ Some (Forall index) → ⊥
no_forall_in n index reach at =
    let same : Atom true 1 ≡ Forall index = same_Some (Atom true 1) (Forall index) (sym (ap (slice_get nodes_made) (alone nodes_made 0 (Atom true 1) refl refl n reach)) ∙ at) in
    let kinds : 1 ≡ 0 = ap node_kind same in absurd (omega (arith, kinds))

abbrev index_of : DraftRow → ℕ
index_of (Var index) = index
index_of (App symbol args) = 0

one_variable : (row index : ℕ) → slice_get rows_made row ≡ Some (Var index) → index < 1
one_variable zero index at = let same : 0 ≡ index = ap index_of (same_Some (Var 0) (Var index) at) in omega (arith, same)
one_variable (suc zero) index at = let kinds : 1 ≡ 0 = ap row_kind (same_Some (App 7 (0 ∷ [])) (Var index) at) in absurd (omega (arith, kinds))
one_variable (suc (suc row)) index at = absurd (none-some (Var index) at)

forall_fits : (n : ℕ) (forall : DraftForall) → slice_get foralls_made n ≡ Some forall → FitsForall rows_made nodes_made forall
forall_fits zero forall at = subst (FitsForall rows_made nodes_made) (same_Some (draft_forall 1 0 []) forall at) (record {
  few_variables = omega arith;
  body_stands = omega arith;
  no_forall = no_forall_in;
  below = λ row index reach here. one_variable row index here;
  triggers_fit = λ k d within. absurd (omega (arith, within));
})
forall_fits (suc n) forall at = absurd (none-some forall at)

made_is_formula : IsFormula formula_made
made_is_formula = record {
  lawful = record { rows_fit = row_fits; rows_once = rows_once; nodes_fit = node_fits; nodes_once = nodes_once; foralls_fit = forall_fits };
  root_stands = omega arith;
  closed = λ row index reach at. no_row row reach;
}

-- what a call put, where it is known
row_put : (row : DraftRow) (old known : Draft) (n k : ℕ) (new made : Draft) → old ≡ known → with_row row known ≡ Some (k, made) → with_row row old ≡ Some (n, new) → (n ≡ k) × (new ≡ made)
row_put row old known n k new made is so put =
    let same : (k, made) ≡ (n, new) = same_Some (k, made) (n, new) (sym so ∙ ap (with_row row) (sym is) ∙ put) in
    (sym (ap (λ (p : ℕ × Draft). p.0) same), sym (ap (λ (p : ℕ × Draft). p.1) same))

node_put : (node : DraftNode) (old known : Draft) (n k : ℕ) (new made : Draft) → old ≡ known → with_node node known ≡ Some (k, made) → with_node node old ≡ Some (n, new) → (n ≡ k) × (new ≡ made)
node_put node old known n k new made is so put =
    let same : (k, made) ≡ (n, new) = same_Some (k, made) (n, new) (sym so ∙ ap (with_node node) (sym is) ∙ put) in
    (sym (ap (λ (p : ℕ × Draft). p.0) same), sym (ap (λ (p : ℕ × Draft). p.1) same))

abbrev draft_at : List DraftRow → List DraftNode → List DraftForall → Draft
draft_at rows nodes foralls = record { rows = rows; nodes = nodes; foralls = foralls; most_rows = 4; most_nodes = 4 }

-- the calls of the test make it
pub each_formula : (d0 d1 d2 d3 d4 d5 : Draft) (x row body index root : ℕ) (args : List ℕ) (triggers : List Trigger) → d0 ≡ empty_draft 4 4 → with_row (Var 0) d0 ≡ Some (x, d1) → args ≡ x ∷ [] → with_row (App 7 args) d1 ≡ Some (row, d2) → with_node (Atom true row) d2 ≡ Some (body, d3)
    → triggers ≡ [] → index ≡ length d3.foralls → d4 ≡ with_forall (draft_forall 1 body triggers) d3 → with_node (Forall index) d4 ≡ Some (root, d5) → IsFormula (finished d5 root)
each_formula d0 d1 d2 d3 d4 d5 x row body index root args triggers empty put_x args_are put_row put_body none index_is put_forall put_root =
    let one = row_put (Var 0) d0 (empty_draft 4 4) x 0 d1 (draft_at (Var 0 ∷ []) [] []) empty refl put_x in
    let same_args : args ≡ 0 ∷ [] = args_are ∙ ap (λ (n : ℕ). n ∷ []) one.0 in
    let two = row_put (App 7 (0 ∷ [])) d1 (draft_at (Var 0 ∷ []) [] []) row 1 d2 (draft_at rows_made [] []) one.1 refl (subst (λ (xs : List ℕ). with_row (App 7 xs) d1 ≡ Some (row, d2)) same_args put_row) in
    let three = node_put (Atom true 1) d2 (draft_at rows_made [] []) body 0 d3 (draft_at rows_made (Atom true 1 ∷ []) []) two.1 refl (subst (λ (n : ℕ). with_node (Atom true n) d2 ≡ Some (body, d3)) two.0 put_body) in
    let index_zero : index ≡ 0 = index_is ∙ ap (λ (draft : Draft). length draft.foralls) three.1 in
    let four : d4 ≡ draft_at rows_made (Atom true 1 ∷ []) foralls_made = put_forall ∙ ap (λ (n : ℕ). with_forall (draft_forall 1 n triggers) d3) three.0
    ∙ ap (λ (list : List Trigger). with_forall (draft_forall 1 0 list) d3) none ∙ ap (with_forall (draft_forall 1 0 [])) three.1 in
    let five = node_put (Forall 0) d4 (draft_at rows_made (Atom true 1 ∷ []) foralls_made) root 1 d5 (draft_at rows_made nodes_made foralls_made) four refl (subst (λ (n : ℕ). with_node (Forall n) d4 ≡ Some (root, d5)) index_zero put_root) in
    subst (λ (n : ℕ). IsFormula (finished d5 n)) (sym five.0) (subst (λ (draft : Draft). IsFormula (finished draft 1)) (sym five.1) made_is_formula)
