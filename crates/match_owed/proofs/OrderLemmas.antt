-- The order of what is asked for.
use Rattle.std.proofs.Common.{◌≡◌, ◌<◌, ◌⊎◌, inl, inr, ℕ, zero, suc, Bool, true, List, [], ◌∷◌, slice_get, Some, refl, sym, ap, ap₂, subst, ◌∙◌, arith}
use Rattle.std.specs.Cmp.{IsTotalOrder, IsEquivalence}
use Rattle.std.specs.List.{AllByRecursion}
use Rattle.std.specs.List.Sorted.{IsStrictlySortedBy}
use Rattle.std.specs.Ordering.{MatchOrdering, nat_cmp, ordering_then, eq_by_cmp}
use Rattle.std.specs.declared.cmp.Ordering.{Ordering}
use Rattle.std.specs.declared.cmp.Ordering.TheVariants.{Less, Equal, Greater}
use Rattle.std.proofs.lemmas.Cmp.{ranked, nat_cmp_total, then_total, on_total}
use Rattle.std.proofs.lemmas.Grind.{common_steps}
use Rattle.std.proofs.lemmas.Option.{none-some, same_Some}
use Rattle.match_owed.specs.declared.asked.Asked.{Asked}
use Rattle.match_owed.specs.contracts.asked.AskedPartialEq.TheImpl.{eq-value}
use Rattle.match_owed.specs.contracts.asked.AskedOrd.TheImpl.{cmp-value}
use Rattle.match_owed.specs.Asked.{Ascend, IsBefore}

pub asked_total : IsTotalOrder cmp-value.it
asked_total = then_total (on_total (λ (a : Asked). a.tree) nat_cmp_total) (then_total (on_total (λ (a : Asked). a.root) nat_cmp_total) (on_total (λ (a : Asked). a.entry) nat_cmp_total))

-- the derived test tells whether two are one
pub same_asked : (x y : Asked) → eq-value.it x y ≡ true → x ≡ y
same_asked x y h =
    let tree : x.tree ≡ y.tree = grind (arith, common_steps) in
    let root : x.root ≡ y.root = grind (arith, common_steps) in
    let entry : x.entry ≡ y.entry = grind (arith, common_steps) in
    ap₂ (λ (p : ℕ × ℕ) k. record { tree = p.0; root = p.1; entry = k }) (ap₂ (λ m n. (m, n)) tree root) entry

pub less_before : (a b : Asked) → cmp-value.it a b ≡ Less → IsBefore a b
less_before a b h = by (nat_cmp a.tree b.tree) refl (nat_cmp a.root b.root) refl (nat_cmp a.entry b.entry) refl h
  where
    by : (o : Ordering) → o ≡ nat_cmp a.tree b.tree → (p : Ordering) → p ≡ nat_cmp a.root b.root → (q : Ordering) → q ≡ nat_cmp a.entry b.entry → ordering_then o (ordering_then p q) ≡ Less → IsBefore a b
    by Less e p f q g h = inl (inl (ranked a.tree b.tree Less e))
    by Equal e Less f q g h = inl (inr (ranked a.tree b.tree Equal e, ranked a.root b.root Less f))
    by Equal e Equal f Less g h = inr ((ranked a.tree b.tree Equal e, ranked a.root b.root Equal f), ranked a.entry b.entry Less g)
    by Equal e Equal f Equal g h = absurd cc
    by Equal e Equal f Greater g h = absurd cc
    by Equal e Greater f q g h = absurd cc
    by Greater e p f q g h = absurd cc

all_at : (P : Asked → Type 0) (xs : List Asked) (i : ℕ) (x : Asked) → AllByRecursion P xs → slice_get xs i ≡ Some x → P x
all_at P [] i x all at = absurd (none-some x at)
all_at P (y ∷ ys) zero x all at = subst P (same_Some y x at) all.0
all_at P (y ∷ ys) (suc i) x all at = all_at P ys i x all.1 at

pub sorted_ascend : (xs : List Asked) → IsStrictlySortedBy cmp-value.it xs → Ascend IsBefore xs
unfolding IsStrictlySortedBy
sorted_ascend [] sorted i j a b less at at' = absurd (none-some a at)
sorted_ascend (x ∷ xs) sorted zero zero a b less at at' = absurd (omega (arith, less))
sorted_ascend (x ∷ xs) sorted zero (suc j) a b less at at' = less_before a b (subst (λ y. cmp-value.it y b ≡ Less) (same_Some x a at) (all_at (λ y. cmp-value.it x y ≡ Less) xs j b sorted.0 at'))
sorted_ascend (x ∷ xs) sorted (suc i) zero a b less at at' = absurd (omega (arith, less))
sorted_ascend (x ∷ xs) sorted (suc i) (suc j) a b less at at' = sorted_ascend xs sorted.1 i j a b (omega (arith, less)) at at'

pub asked_ties : (x y : Asked) → eq-value.it x y ≡ eq_by_cmp cmp-value.it x y
asked_ties x y = grind (arith, common_steps)

pub asked_alike : IsEquivalence eq-value.it
asked_alike = record {
  refl = λ x. grind (arith, common_steps);
  symm = λ x y. grind (arith, common_steps);
  congr = λ x y z h. ap (λ a. eq-value.it a z) (same_asked x y h);
}
