-- What is reached from a formula.
use Rattle.std.proofs.Common.{◌≡◌, ℕ, List, [], ◌∷◌, slice_get, Some, Contains, refl, sym, ap, subst, ◌∙◌, zero, suc, ◌+◌, Bool, true, false, true≢false}
use Rattle.std.proofs.lemmas.Option.{none-some, same_Some}
use Rattle.graph_terms.proofs.ListLaws.{place_from_Contains}
use Rattle.formula_draft.specs.declared.draft_row.DraftRow.{DraftRow}
use Rattle.formula_draft.specs.declared.draft_row.DraftRow.TheVariants.{Var, App}
use Rattle.formula_draft.specs.declared.draft_node.DraftNode.{DraftNode}
use Rattle.formula_draft.specs.declared.draft_node.DraftNode.TheVariants.{Equal, Atom, And, Or, Forall}
use Rattle.formula_draft.specs.declared.draft_forall.DraftForall.{DraftForall}
use Rattle.formula_draft.specs.DraftRow.{args_of}
use Rattle.formula_draft.specs.DraftNode.{rows_of, parts_of}
use Rattle.formula_draft.specs.Reach.{ReachesNode, ReachesRow}
use Rattle.formula_draft.specs.Reach.ReachesNode.{itself, part_of_it}
use Rattle.formula_draft.specs.Reach.ReachesRow.{named, argument}
use Rattle.formula_draft.specs.Sorted.{Signature, HasSort, HaveSorts, IsPlain, ArePlain, IsTruth, AreTruths}
use Rattle.formula_draft.specs.Sorted.HasSort.{variable, application}

nothing_in : (x : ℕ) → Contains [] x → ⊥
nothing_in x c = let at = place_from_Contains [] x c in none-some x at.1

abbrev is_forall : DraftNode → Bool
is_forall (Forall index) = true
is_forall node = false

no_forall : (node : DraftNode) (index : ℕ) → is_forall node ≡ false → ◌≡◌ {A = DraftNode} (Forall index) node → ⊥
no_forall node index isnt same = true≢false (ap is_forall same ∙ isnt)

module _ (functions : List Signature) (variables : List ℕ) (rows : List DraftRow) where
  sorted_at : {args sorts : List ℕ} (i arg : ℕ) → HaveSorts functions variables rows args sorts → slice_get args i ≡ Some arg → (sort : ℕ) × HasSort functions variables rows arg sort
  sorted_at i arg HaveSorts.none at = absurd (none-some arg at)
  sorted_at zero arg (HaveSorts.more {row = row} {sort = sort} first rest) at = (sort, subst (λ k. HasSort functions variables rows k sort) (same_Some row arg at) first)
  sorted_at (suc i) arg (HaveSorts.more first rest) at = sorted_at i arg rest at

  -- the arguments of a row with a sort have sorts
  argument_sorted : (n arg sort : ℕ) (row : DraftRow) → slice_get rows n ≡ Some row → Contains (args_of row) arg → HasSort functions variables rows n sort → (found : ℕ) × HasSort functions variables rows arg found
  argument_sorted n arg sort row at is (variable {index = index} stands of) =
      absurd (nothing_in arg (subst (λ r. Contains (args_of r) arg) (same_Some row (Var index) (sym at ∙ stands)) is))
  argument_sorted n arg sort row at is (application place {args = args} stands of sorted) =
      let inside = subst (λ r. Contains (args_of r) arg) (same_Some row (App (place + 2) args) (sym at ∙ stands)) is in
      let here = place_from_Contains args arg inside in
      sorted_at here.0 arg sorted here.1

  module _ (nodes : List DraftNode) where
    plain_at : {ns : List ℕ} (i n : ℕ) → ArePlain functions variables rows nodes ns → slice_get ns i ≡ Some n → IsPlain functions variables rows nodes n
    plain_at i n ArePlain.none at = absurd (none-some n at)
    plain_at zero n (ArePlain.more {n = first} is rest) at = subst (λ k. IsPlain functions variables rows nodes k) (same_Some first n at) is
    plain_at (suc i) n (ArePlain.more is rest) at = plain_at i n rest at

    part_plain : (n part : ℕ) (node : DraftNode) → slice_get nodes n ≡ Some node → Contains (parts_of node) part → IsPlain functions variables rows nodes n → IsPlain functions variables rows nodes part
    part_plain n part node at is (IsPlain.equation {left = left} {right = right} {positive = positive} stands other l r) = absurd (nothing_in part (subst (λ x. Contains (parts_of x) part) (same_Some node (Equal positive left right) (sym at ∙ stands)) is))
    part_plain n part node at is (IsPlain.atom {row = row} {positive = positive} stands r) = absurd (nothing_in part (subst (λ x. Contains (parts_of x) part) (same_Some node (Atom positive row) (sym at ∙ stands)) is))
    part_plain n part node at is (IsPlain.each {parts = parts} stands ps) = let here = place_from_Contains parts part (subst (λ x. Contains (parts_of x) part) (same_Some node (And parts) (sym at ∙ stands)) is) in plain_at here.0 part ps here.1
    part_plain n part node at is (IsPlain.one {parts = parts} stands ps) = let here = place_from_Contains parts part (subst (λ x. Contains (parts_of x) part) (same_Some node (Or parts) (sym at ∙ stands)) is) in plain_at here.0 part ps here.1

    -- the rows that a plain node names have sorts
    plain_row : (n row : ℕ) (node : DraftNode) → slice_get nodes n ≡ Some node → Contains (rows_of node) row → IsPlain functions variables rows nodes n → (sort : ℕ) × HasSort functions variables rows row sort
    plain_row n row node at is (IsPlain.equation {left = left} {right = right} {sort = sort} {positive = positive} stands other l r) =
        let here = place_from_Contains (left ∷ right ∷ []) row (subst (λ x. Contains (rows_of x) row) (same_Some node (Equal positive left right) (sym at ∙ stands)) is) in
        sorted_at here.0 row (HaveSorts.more l (HaveSorts.more r HaveSorts.none)) here.1
    plain_row n row node at is (IsPlain.atom {row = atom} {positive = positive} stands r) =
        let here = place_from_Contains (atom ∷ []) row (subst (λ x. Contains (rows_of x) row) (same_Some node (Atom positive atom) (sym at ∙ stands)) is) in
        sorted_at here.0 row (HaveSorts.more r HaveSorts.none) here.1
    plain_row n row node at is (IsPlain.each {parts = parts} stands ps) = absurd (nothing_in row (subst (λ x. Contains (rows_of x) row) (same_Some node (And parts) (sym at ∙ stands)) is))
    plain_row n row node at is (IsPlain.one {parts = parts} stands ps) = absurd (nothing_in row (subst (λ x. Contains (rows_of x) row) (same_Some node (Or parts) (sym at ∙ stands)) is))

    pub foralls_none : (n index : ℕ) → slice_get nodes n ≡ Some (Forall index) → IsPlain functions variables rows nodes n → ⊥
    foralls_none n index at (IsPlain.equation {left = left} {right = right} {positive = positive} stands other l r) = no_forall (Equal positive left right) index refl (same_Some (Forall index) (Equal positive left right) (sym at ∙ stands))
    foralls_none n index at (IsPlain.atom {row = row} {positive = positive} stands r) = no_forall (Atom positive row) index refl (same_Some (Forall index) (Atom positive row) (sym at ∙ stands))
    foralls_none n index at (IsPlain.each {parts = parts} stands ps) = no_forall (And parts) index refl (same_Some (Forall index) (And parts) (sym at ∙ stands))
    foralls_none n index at (IsPlain.one {parts = parts} stands ps) = no_forall (Or parts) index refl (same_Some (Forall index) (Or parts) (sym at ∙ stands))

    module _ (start : ℕ) (is : IsPlain functions variables rows nodes start) where
      -- what is reached from a plain node is plain, and rows have sorts
      pub reached_plain : {n : ℕ} → ReachesNode nodes start n → IsPlain functions variables rows nodes n
      reached_plain itself = is
      reached_plain (part_of_it {n = n} {part = part} {node = node} above at of) = part_plain n part node at of (reached_plain above)

      pub reached_sorted : {row : ℕ} → ReachesRow rows nodes start row → (sort : ℕ) × HasSort functions variables rows row sort
      reached_sorted (named {n = n} {row = row} {node = node} above at of) = plain_row n row node at of (reached_plain above)
      reached_sorted (argument {n = n} {arg = arg} {row = row} above at of) = let had = reached_sorted above in argument_sorted n arg had.0 row at of had.1

      pub reaches_no_forall : (n index : ℕ) → ReachesNode nodes start n → slice_get nodes n ≡ Some (Forall index) → ⊥
      reaches_no_forall n index reach at = foralls_none n index at (reached_plain reach)

    module _ (foralls : List DraftForall) where
      truth_at : {ns : List ℕ} (i n : ℕ) → AreTruths functions variables rows nodes foralls ns → slice_get ns i ≡ Some n → IsTruth functions variables rows nodes foralls n
      truth_at i n AreTruths.none at = absurd (none-some n at)
      truth_at zero n (AreTruths.more {n = first} is rest) at = subst (λ k. IsTruth functions variables rows nodes foralls k) (same_Some first n at) is
      truth_at (suc i) n (AreTruths.more is rest) at = truth_at i n rest at

      part_truth : (n part : ℕ) (node : DraftNode) → slice_get nodes n ≡ Some node → Contains (parts_of node) part → IsTruth functions variables rows nodes foralls n → IsTruth functions variables rows nodes foralls part
      part_truth n part node at is (IsTruth.plain p) = IsTruth.plain (part_plain n part node at is p)
      part_truth n part node at is (IsTruth.each {parts = parts} stands ps) = let here = place_from_Contains parts part (subst (λ x. Contains (parts_of x) part) (same_Some node (And parts) (sym at ∙ stands)) is) in truth_at here.0 part ps here.1
      part_truth n part node at is (IsTruth.one {parts = parts} stands ps) = let here = place_from_Contains parts part (subst (λ x. Contains (parts_of x) part) (same_Some node (Or parts) (sym at ∙ stands)) is) in truth_at here.0 part ps here.1
      part_truth n part node at is (IsTruth.universal {index = index} stands of sorted) = absurd (nothing_in part (subst (λ x. Contains (parts_of x) part) (same_Some node (Forall index) (sym at ∙ stands)) is))

      truth_row : (n row : ℕ) (node : DraftNode) → slice_get nodes n ≡ Some node → Contains (rows_of node) row → IsTruth functions variables rows nodes foralls n → (sort : ℕ) × HasSort functions variables rows row sort
      truth_row n row node at is (IsTruth.plain p) = plain_row n row node at is p
      truth_row n row node at is (IsTruth.each {parts = parts} stands ps) = absurd (nothing_in row (subst (λ x. Contains (rows_of x) row) (same_Some node (And parts) (sym at ∙ stands)) is))
      truth_row n row node at is (IsTruth.one {parts = parts} stands ps) = absurd (nothing_in row (subst (λ x. Contains (rows_of x) row) (same_Some node (Or parts) (sym at ∙ stands)) is))
      truth_row n row node at is (IsTruth.universal {index = index} stands of sorted) = absurd (nothing_in row (subst (λ x. Contains (rows_of x) row) (same_Some node (Forall index) (sym at ∙ stands)) is))

      module _ (start : ℕ) (is : IsTruth functions variables rows nodes foralls start) where
        pub reached_truth : {n : ℕ} → ReachesNode nodes start n → IsTruth functions variables rows nodes foralls n
        reached_truth itself = is
        reached_truth (part_of_it {n = n} {part = part} {node = node} above at of) = part_truth n part node at of (reached_truth above)

        pub rows_sorted_from : {row : ℕ} → ReachesRow rows nodes start row → (sort : ℕ) × HasSort functions variables rows row sort
        rows_sorted_from (named {n = n} {row = row} {node = node} above at of) = truth_row n row node at of (reached_truth above)
        rows_sorted_from (argument {n = n} {arg = arg} {row = row} above at of) = let had = rows_sorted_from above in argument_sorted n arg had.0 row at of had.1
