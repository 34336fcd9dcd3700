-- What came is told, one after the other.
use Rattle.std.proofs.Common.{zero, suc, ◌≡◌, ◌⊎◌, inl, inr, ℕ, ◌+◌, ◌<◌, List, ◌∷◌, length, drop, get_or, Contains}
use Rattle.std.proofs.Common.{sym, ap, subst, ◌∙◌, arith}
use Rattle.std.proofs.lemmas.Bool.{cases_eq}
use Rattle.std.proofs.lemmas.List.{drop_more}
use Rattle.graph_meaning.specs.declared.done.Done.{Done}
use Rattle.formula_table.specs.declared.node.Node.{Node}
use Rattle.formula_table.specs.declared.node.Node.TheVariants.{Forall}
use Rattle.formula_truth.specs.declared.truth.Truth.{Truth}
use Rattle.formula_truth.specs.declared.truth.Truth.TheVariants.{Unset}
use Rattle.formula_value.specs.Holds.{HasNode}
use Rattle.search_values.specs.Given.{Given}
use Rattle.search_branch.specs.Given.{IsLeafTruth}
use Rattle.search_branch.specs.Told.{KeepsNodes, TellsLeaf, AreToldBut}

-- what is kept is kept where one leaf more is told
pub keeps_more : (standing : List Done) (nodes : List Node) (n : ℕ) (first second third : Given) →
    KeepsNodes nodes first second → TellsLeaf standing nodes n second third → KeepsNodes nodes first third
keeps_more standing nodes n first second third keeps tells = record {
  kinds = tells.sets.kinds ∙ keeps.kinds;
  parts = tells.sets.parts ∙ keeps.parts;
  foralls = λ m forall has. elim (cases_eq m n) [
    | inl same ↦
        ap third.leaf same ∙ tells.sets.here
        ∙ tells.stays forall (subst (λ (k : ℕ). HasNode nodes k (Forall forall)) same has)
        ∙ ap second.leaf (sym same) ∙ keeps.foralls m forall has
    | inr other ↦ tells.sets.others m other ∙ keeps.foralls m forall has
  ];
  asserted = λ m. tells.sets.asserted m ∙ keeps.asserted m;
  struck = λ m place. tells.sets.struck m place ∙ keeps.struck m place;
}

-- once a leaf is told it waits no more
pub told_more : (waits waits' : ℕ → Type 0) (standing : List Done) (nodes : List Node) (n : ℕ) (old new : Given) →
    ((m : ℕ) → waits m → (m ≡ n → ⊥) → waits' m) → TellsLeaf standing nodes n old new →
    AreToldBut waits standing nodes old → AreToldBut waits' standing nodes new
told_more waits waits' standing nodes n old new less tells told m node has =
    elim (cases_eq m n) [ inl same ↦ inl (here same) | inr other ↦ there other (told m node has) ]
  where
    at_n : HasNode nodes n node → IsLeafTruth standing node (old.leaf n) ⊎ ((old.leaf n ≡ Unset) × waits n) →
        IsLeafTruth standing node tells.truth
    at_n at (inl is) = tells.right node at (inl is)
    at_n at (inr unset) = tells.right node at (inr unset.0)

    here : m ≡ n → IsLeafTruth standing node (new.leaf m)
    here same =
        let at = subst (λ (k : ℕ). HasNode nodes k node) same has in
        let e : new.leaf m ≡ tells.truth = ap new.leaf same ∙ tells.sets.here in
        subst (λ (truth : Truth). IsLeafTruth standing node truth) (sym e) (at_n at (told n node at))

    there : (m ≡ n → ⊥) → IsLeafTruth standing node (old.leaf m) ⊎ ((old.leaf m ≡ Unset) × waits m) →
        IsLeafTruth standing node (new.leaf m) ⊎ ((new.leaf m ≡ Unset) × waits' m)
    there other (inl is) = inl (
        subst (λ (truth : Truth). IsLeafTruth standing node truth) (sym (tells.sets.others m other)) is
        )
    there other (inr unset) = inr (tells.sets.others m other ∙ unset.0, less m unset.1 other)

-- of a list another element is in the rest
in_rest : (x m : ℕ) (xs : List ℕ) → Contains (x ∷ xs) m → (m ≡ x → ⊥) → Contains xs m
in_rest x m xs (zero, lt, e) other = absurd (other (sym e))
in_rest x m xs (suc k, lt, e) other = (k, omega arith, e)

-- of the rest of a list another element is in the later rest
pub drop_waits : (xs : List ℕ) (i n m : ℕ) → i < length xs → n ≡ get_or xs i n → Contains (drop i xs) m →
    (m ≡ n → ⊥) → Contains (drop (i + 1) xs) m
drop_waits xs i n m lt is within other =
    in_rest n m (drop (i + 1) xs)
    (subst (λ (ys : List ℕ). Contains ys m)
    (drop_more xs i n lt ∙ ap (λ (x : ℕ). x ∷ drop (i + 1) xs) (sym is)) within)
    other
