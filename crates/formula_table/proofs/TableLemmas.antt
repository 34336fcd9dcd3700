-- What stays a table of formulas.
use Rattle.std.proofs.Common.{◌≡◌, ℕ, ◌<◌, ◌≤◌, List, [], ◌∷◌, length, take, Some, sym, subst, ⊎_elim, arith}
use Rattle.std.proofs.lemmas.List.{length-take, length-append}
use Rattle.std.proofs.lemmas.Option.{slice_get_within}
use Rattle.graph_terms.proofs.ListLaws.{slice_get-take, push_cases}
use Rattle.formula_table.specs.declared.node.Node.TheVariants.{Equal, Forall}
use Rattle.formula_table.specs.declared.node.Node.{Node}
use Rattle.formula_table.specs.declared.table_forall.TableForall.{TableForall}
use Rattle.formula_draft.specs.Items.{with_item}
use Rattle.formula_table.specs.Node.{same_entered}
use Rattle.formula_table.proofs.FormulaLaws.{IsFormulaTable-push}
use Rattle.formula_table.specs.Formulas.{Formulas, IsFormulaTable, IsForallOf, NamesFirst, FitsTable, first_formulas, with_foralls}
use Rattle.formula_draft.proofs.ItemLaws.{put_cases}
use Rattle.formula_draft.proofs.SameLaws.{absent}
use Rattle.formula_table.proofs.Same.{entered_told}

-- the first formulas of a table are a table
pub IsFormulaTable-first : (table : Formulas) (nodes foralls : ℕ) → IsFormulaTable table → NamesFirst table nodes foralls → foralls ≤ length table.foralls → IsFormulaTable (first_formulas nodes foralls table)
IsFormulaTable-first table nodes foralls is named stand = record {
  earlier = λ n node at. is.earlier n node (slice_get-take nodes table.nodes n node at);
  ascending = λ n left right positive at. is.ascending n left right positive (slice_get-take nodes table.nodes n (Equal positive left right) at);
  once = λ m n node at_m at_n. is.once m n node (slice_get-take nodes table.nodes m node at_m) (slice_get-take nodes table.nodes n node at_n);
  foralls_stand = λ n forall at.
      let within = slice_get_within (take nodes table.nodes) n (Forall forall) at in
      let below : n < nodes = omega (arith, length-take nodes table.nodes) in
      let first = named n forall below (slice_get-take nodes table.nodes n (Forall forall) at) in
      omega (arith, length-take foralls table.foralls);
  foralls = λ n forall at. is.foralls n forall (slice_get-take foralls table.foralls n forall at);
  within = omega (arith, length-take nodes table.nodes, is.within);
}

-- a table with a further forall is a table
pub IsFormulaTable-forall : (table : Formulas) → IsFormulaTable table → (new : TableForall) → IsForallOf (length table.foralls) new → IsFormulaTable (with_foralls (new ∷ []) table)
IsFormulaTable-forall table is new fits = record {
  earlier = is.earlier;
  ascending = is.ascending;
  once = is.once;
  foralls_stand = λ n forall at. let stood = is.foralls_stand n forall at in omega (arith, length-append table.foralls (new ∷ []));
  foralls = λ n forall at. ⊎_elim (is.foralls n forall) (λ p. subst (IsForallOf n) (sym p.1) (subst (λ (k : ℕ). IsForallOf k new) (sym p.0) fits)) (push_cases table.foralls new n forall at);
  within = is.within;
}

-- a table with a node is a table
pub IsFormulaTable-node : (table : Formulas) → IsFormulaTable table → (node : Node) → FitsTable table node → (n : ℕ) (after : List Node) → with_item same_entered table.limit node table.nodes ≡ Some (n, after) → IsFormulaTable (record table { nodes = after })
IsFormulaTable-node table is node fits = put_cases same_entered table.limit node table.nodes (λ _ after. IsFormulaTable (record table { nodes = after }))
    (λ _ _. is)
    (λ fresh room. IsFormulaTable-push table is node fits (absent same_entered entered_told node table.nodes fresh) room)
