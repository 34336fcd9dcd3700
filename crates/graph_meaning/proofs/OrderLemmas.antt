-- Lists in order, each once.
use Rattle.std.proofs.Common.{◌≡◌, ◌↔◌, ℕ, List, [], ◌∷◌, true, Contains, refl, ap₂, arith}
use Rattle.std.specs.Ordering.{nat_cmp, ordering_then}
use Rattle.std.specs.Cmp.{eq_by_cmp_equiv}
use Rattle.std.specs.Cmp.Lexicographic.{slice_cmp}
use Rattle.std.specs.declared.cmp.Ordering.TheVariants.{Less, Equal, Greater}
use Rattle.std.specs.declared.cmp.Ordering.{Ordering}
use Rattle.std.proofs.lemmas.Map.Lookups.{exact_unsigned}
use Rattle.std.proofs.lemmas.Map.Views.{tells_apart}
use Rattle.graph_meaning.specs.Order.{same_list}
use Rattle.std.specs.List.{dedup}
use Rattle.std.specs.List.Sorted.{IsSorted, IsStrictlySortedBy}
use Rattle.std.proofs.lemmas.Cmp.{nat_list_cmp_total}
use Rattle.std.proofs.lemmas.List.Elements.{All-from_recursion}
use Rattle.std.proofs.lemmas.List.Kept.{AllPairs-cons, IsStrictlySortedBy-dedup, Contains-dedup, Contains-from_dedup}
use Rattle.graph_meaning.specs.Match.{InOrder}

-- a strictly sorted list is in order
pub in_order : (xs : List (List ℕ)) → IsStrictlySortedBy (slice_cmp nat_cmp) xs → InOrder xs
unfolding IsStrictlySortedBy
in_order [] sorted = λ i j d less below. absurd (omega (arith, below))
in_order (x ∷ xs) sorted = AllPairs-cons (λ a b. slice_cmp nat_cmp a b ≡ Less) x xs (All-from_recursion (λ y. slice_cmp nat_cmp x y ≡ Less) xs sorted.0) (in_order xs sorted.1)

pub order_of_dedup : (xs : List (List ℕ)) → IsSorted (slice_cmp nat_cmp) xs → InOrder (dedup same_list xs)
order_of_dedup xs sorted = in_order (dedup same_list xs) (IsStrictlySortedBy-dedup nat_list_cmp_total (λ x y. refl) xs sorted)

then_parts : (a b : Ordering) → ordering_then a b ≡ Equal → (a ≡ Equal) × (b ≡ Equal)
then_parts Less b e = absurd (cc)
then_parts Equal b e = (refl, e)
then_parts Greater b e = absurd (cc)

-- lists that compare alike are one
exact_lists : (xs ys : List ℕ) → slice_cmp nat_cmp xs ys ≡ Equal → xs ≡ ys
exact_lists [] [] e = refl
exact_lists [] (y ∷ ys) e = absurd (cc)
exact_lists (x ∷ xs) [] e = absurd (cc)
exact_lists (x ∷ xs) (y ∷ ys) e = let parts = then_parts (nat_cmp x y) (slice_cmp nat_cmp xs ys) e in ap₂ (λ z zs. z ∷ zs) (exact_unsigned x y parts.0) (exact_lists xs ys parts.1)

same_is : (xs ys : List ℕ) → same_list xs ys ≡ true → xs ≡ ys
same_is xs ys e = tells_apart exact_lists xs ys e

pub kept_by_dedup : (xs : List (List ℕ)) (x : List ℕ) → Contains (dedup same_list xs) x ↔ Contains xs x
kept_by_dedup xs x = ((λ c. Contains-from_dedup same_list xs x c), (λ c. Contains-dedup (eq_by_cmp_equiv nat_list_cmp_total) same_is xs x c))
