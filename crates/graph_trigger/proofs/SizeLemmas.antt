-- Sizes of patterns, counted as trees.
use Rattle.std.proofs.Common.{◌≡◌, ℕ, zero, suc, ◌+◌, ◌<◌, ◌≤◌, List, [], ◌∷◌, ◌++◌, length, take, drop, ◌-◌, slice_get, Some, All, refl, sym, ap, ap₂, subst, ◌∙◌, add_assoc, arith}
use Rattle.std.proofs.lemmas.Option.{same_Some, slice_get_within, get_or_from_slice_get}
use Rattle.std.proofs.lemmas.List.{take_all, take-append-drop}
use Rattle.std.proofs.lemmas.List.Elements.{All-head, All-tail, All-weaker, All-drop}
use Rattle.graph_trigger.specs.declared.pattern_row.PatternRow.{PatternRow}
use Rattle.graph_trigger.specs.declared.pattern_row.PatternRow.TheVariants.{Var, App}
use Rattle.graph_trigger.specs.Trigger.{HasSize, HaveSize, variable, application, none, more}
use Rattle.graph_trigger.specs.Validity.{NameEarlier, IsSize, IsLarge}
use Rattle.graph_terms.proofs.ListLaws.{element_at, take-slice_get}

same_parts : (f g : ℕ) (ps qs : List ℕ) → App f ps ≡ App g qs → ps ≡ qs
same_parts f g ps qs same = cc

same_head : (x y : ℕ) (xs ys : List ℕ) → x ∷ xs ≡ y ∷ ys → x ≡ y
same_head x y xs ys same = cc

same_tail : (x y : ℕ) (xs ys : List ℕ) → x ∷ xs ≡ y ∷ ys → xs ≡ ys
same_tail x y xs ys same = cc

no_head : (x : ℕ) (xs : List ℕ) → [] ≡ x ∷ xs → ⊥
no_head x xs same = cc

no_variable : (index f : ℕ) (ps : List ℕ) → Var index ≡ App f ps → ⊥
no_variable index f ps same = cc

module _ (rows : List PatternRow) where
  -- the sizes of two lists add up
  pub HaveSize-append : {xs ys : List ℕ} {a b : ℕ} → HaveSize rows xs a → HaveSize rows ys b → HaveSize rows (xs ++ ys) (a + b)
  HaveSize-append {b = b} none second = subst (HaveSize rows _) (omega arith) second
  HaveSize-append {ys = ys} {b = b} (more {row} {size} {rest} {parts} first others) second = subst (HaveSize rows (row ∷ (parts ++ ys))) (sym (add_assoc size rest b)) (more first (HaveSize-append others second))

  -- rows that have sizes have one together
  have_size : (bound : ℕ) → ((row : ℕ) → row < bound → (size : ℕ) × HasSize rows row size) → (parts : List ℕ) → All (λ part. part < bound) parts → (size : ℕ) × HaveSize rows parts size
  have_size bound each [] below = (0, none)
  have_size bound each (part ∷ parts) below =
      let first = each part (All-head (λ p. p < bound) part parts below) in
      let rest = have_size bound each parts (All-tail (λ p. p < bound) part parts below) in
      (first.0 + rest.0, more first.1 rest.1)

  -- each row's pattern has a size
  pub has_size : NameEarlier rows → (bound : ℕ) → bound ≤ length rows → (row : ℕ) → row < bound → (size : ℕ) × HasSize rows row size
  has_size earlier zero within row below = absurd (omega arith)
  has_size earlier (suc bound) within row below = by (has_size earlier bound (omega arith)) (element_at rows row (omega arith)).0 (element_at rows row (omega arith)).1
    where
      by : ((part : ℕ) → part < bound → (size : ℕ) × HasSize rows part size) → (found : PatternRow) → slice_get rows row ≡ Some found → (size : ℕ) × HasSize rows row size
      by each (Var index) is = (1, variable is)
      by each (App symbol parts) is =
          let of_parts = have_size bound each parts (All-weaker (λ p. p < row) (λ p. p < bound) (λ p h. omega arith) parts (earlier row symbol parts is)) in
          (of_parts.0 + 1, application is of_parts.1)

  mutual
    -- and it has only one
    pub one_size : {row a b : ℕ} → HasSize rows row a → HasSize rows row b → a ≡ b
    one_size (variable is) (variable is') = refl
    one_size (variable is) (application is' each) = absurd (no_variable _ _ _ (same_Some _ _ (sym is ∙ is')))
    one_size (application is each) (variable is') = absurd (no_variable _ _ _ (same_Some _ _ (sym is' ∙ is)))
    one_size (application {symbol = f} {parts = ps} is each) (application {symbol = g} {parts = qs} is' each') = ap (λ n. n + 1) (one_sum each each' (same_parts f g ps qs (same_Some _ _ (sym is ∙ is'))))

    one_sum : {xs ys : List ℕ} {a b : ℕ} → HaveSize rows xs a → HaveSize rows ys b → xs ≡ ys → a ≡ b
    one_sum none none same = refl
    one_sum none (more first rest) same = absurd (no_head _ _ same)
    one_sum (more first rest) none same = absurd (no_head _ _ (sym same))
    one_sum (more {row} {size} {rest} {parts} first others) (more {row = row'} {size = size'} {rest = rest'} {parts = parts'} first' others') same =
        ap₂ (λ m n. m + n) (one_size first (subst (λ r. HasSize rows r size') (sym (same_head row row' parts parts' same)) first')) (one_sum others others' (same_tail row row' parts parts' same))

  -- a pattern has at least one symbol or variable
  size_positive : {row size : ℕ} → HasSize rows row size → 0 < size
  size_positive (variable is) = omega arith
  size_positive (application is each) = omega arith

  module _ (earlier : NameEarlier rows) (row most : ℕ) (stands : row < length rows) where
    size_of : (size : ℕ) × HasSize rows row size
    size_of = has_size earlier (length rows) (omega arith) row stands

    -- any pattern is larger than nothing
    pub IsLarge-zero : most ≡ 0 → IsLarge rows row most
    IsLarge-zero is = let positive = size_positive size_of.1 in record { size = size_of.0; size_is = size_of.1; past = omega arith }

    -- a variable counts one
    pub IsSize-variable : (index : ℕ) → slice_get rows row ≡ Some (Var index) → 0 < most → IsSize rows row most 1
    IsSize-variable index is some = record { size_is = variable is; fits = omega arith }

    -- an application with some of its parts counted
    module _ (symbol : ℕ) (parts : List ℕ) (is : slice_get rows row ≡ Some (App symbol parts)) (i size total : ℕ) (so_far : HaveSize rows (take i parts) total) (one_more : size ≡ total + 1) (fits : size ≤ most) where
      pub part_below : (part : ℕ) → slice_get parts i ≡ Some part → (part < row) × (part < length rows)
      part_below part at =
          let below = earlier row symbol parts is i part (slice_get_within parts i part at) in
          let less : part < row = subst (λ p. p < row) (get_or_from_slice_get parts i part part at) below in
          (less, omega arith)

      pub HaveSize-more : (part of_part : ℕ) → slice_get parts i ≡ Some part → HasSize rows part of_part → HaveSize rows (take (i + 1) parts) (total + (of_part + 0))
      HaveSize-more part of_part at counted = subst (λ ps. HaveSize rows ps (total + (of_part + 0))) (sym (take-slice_get parts i part at)) (HaveSize-append so_far (more counted none))

      -- a part is too large for what is left
      pub IsLarge-part : (part : ℕ) → slice_get parts i ≡ Some part → IsLarge rows part (most - size) → IsLarge rows row most
      IsLarge-part part at large =
          let rest = have_size row (λ p below. has_size earlier (length rows) (omega arith) p (omega arith)) (drop (i + 1) parts) (All-drop (λ p. p < row) (i + 1) parts (earlier row symbol parts is)) in
          let all : HaveSize rows parts ((total + (large.size + 0)) + rest.0) = subst (λ ps. HaveSize rows ps ((total + (large.size + 0)) + rest.0)) (take-append-drop (i + 1) parts) (HaveSize-append (HaveSize-more part large.size at large.size_is) rest.1) in
          let past = large.past in
          record { size = ((total + (large.size + 0)) + rest.0) + 1; size_is = application is all; past = omega arith }

      -- and the whole
      pub IsSize-all : length parts ≤ i → IsSize rows row most size
      IsSize-all all = record { size_is = subst (HasSize rows row) (sym one_more) (application is (subst (λ ps. HaveSize rows ps total) (take_all i parts all) so_far)); fits = fits }
