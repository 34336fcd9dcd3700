-- What stays a table of formulas.
use Rattle.std.proofs.Common.{◌≡◌, ℕ, zero, suc, ◌+◌, ◌<◌, ◌⊎◌, List, [], ◌∷◌, ◌++◌, length}
use Rattle.std.proofs.Common.{slice_get, Some, All, sym, ap, subst, ◌∙◌, inl, inr, ⊎_elim, arith}
use Rattle.std.proofs.lemmas.List.{length-append}
use Rattle.std.proofs.lemmas.List.Elements.{All-nil}
use Rattle.graph_terms.proofs.ListLaws.{push_cases}
use Rattle.formula_table.specs.declared.node.Node.{Node}
use Rattle.formula_table.specs.declared.node.Node.TheVariants.{Equal, Atom, And, Or, Forall}
use Rattle.formula_table.specs.declared.table_forall.TableForall.{TableForall}
use Rattle.formula_table.specs.InOrder.{StandsNowhere}
use Rattle.formula_table.specs.Node.{children_of}
use Rattle.formula_table.specs.Formulas.{Formulas, IsFormulaTable, IsForallOf, FitsTable, with_foralls}

-- an element of two lists is one of the first, or one of the second behind it
pub append_cases : {X : Type 0} (xs ys : List X) (i : ℕ) (x : X) → slice_get (xs ++ ys) i ≡ Some x →
    (slice_get xs i ≡ Some x) ⊎ ((k : ℕ) × (i ≡ length xs + k) × (slice_get ys k ≡ Some x))
append_cases [] ys i x at = inr (i, omega arith, at)
append_cases (y ∷ xs) ys zero x at = inl at
append_cases (y ∷ xs) ys (suc i) x at = ⊎_elim inl (λ later. inr (later.0, omega (arith, later.1), later.2))
    (append_cases xs ys i x at)

fits_earlier : (table : Formulas) (node : Node) → FitsTable table node →
    All (λ part. part < length table.nodes) (children_of node)
fits_earlier table (Equal positive left right) fits = All-nil _
fits_earlier table (Atom positive term) fits = All-nil _
fits_earlier table (And parts) fits = fits
fits_earlier table (Or parts) fits = fits
fits_earlier table (Forall forall) fits = All-nil _

-- a table with a new node at its end is a table
pub IsFormulaTable-push : (table : Formulas) → IsFormulaTable table → (node : Node) → FitsTable table node →
    StandsNowhere table.nodes node → length table.nodes < table.limit →
    IsFormulaTable (record table { nodes = table.nodes ++ node ∷ [] })
IsFormulaTable-push table is node fits nowhere room = record {
  earlier = λ n x at. ⊎_elim (is.earlier n x) (λ p. subst (λ (y : Node). All (λ part. part < n) (children_of y))
      (sym p.1) (subst (λ (k : ℕ). All (λ part. part < k) (children_of node)) (sym p.0)
      (fits_earlier table node fits))) (push_cases table.nodes node n x at);
  ascending = λ n left right positive at. ⊎_elim (is.ascending n left right positive)
      (λ p. subst (FitsTable table) (sym p.1) fits) (push_cases table.nodes node n (Equal positive left right) at);
  once = λ m n x at_m at_n.
      ⊎_elim (λ old. ⊎_elim (is.once m n x old) (λ p. absurd (nowhere m (old ∙ ap Some p.1)))
      (push_cases table.nodes node n x at_n))
      (λ new. ⊎_elim (λ old. absurd (nowhere n (old ∙ ap Some new.1))) (λ p. new.0 ∙ sym p.0)
      (push_cases table.nodes node n x at_n))
      (push_cases table.nodes node m x at_m);
  foralls_stand = λ n forall at. ⊎_elim (is.foralls_stand n forall) (λ p. subst (FitsTable table) (sym p.1) fits)
      (push_cases table.nodes node n (Forall forall) at);
  foralls = is.foralls;
  within = omega (arith, room, length-append table.nodes (node ∷ []));
}

-- a table with further foralls is a table
pub IsFormulaTable-foralls : (table : Formulas) → IsFormulaTable table → (more : List TableForall) →
    ((k : ℕ) (forall : TableForall) → slice_get more k ≡ Some forall → IsForallOf (length table.foralls + k) forall) →
    IsFormulaTable (with_foralls more table)
IsFormulaTable-foralls table is more fit = record {
  earlier = is.earlier;
  ascending = is.ascending;
  once = is.once;
  foralls_stand = λ n forall at. let stood = is.foralls_stand n forall at in
      omega (arith, stood, length-append table.foralls more);
  foralls = λ n forall at. ⊎_elim (is.foralls n forall)
      (λ later. subst (λ (k : ℕ). IsForallOf k forall) (sym later.1) (fit later.0 forall later.2))
      (append_cases table.foralls more n forall at);
  within = is.within;
}
