-- What lists weigh.
use Rattle.std.proofs.Common.{◌≡◌, ℕ, zero, suc, ◌+◌, ◌<◌, ◌==◌, get_or, set, Option, None, Some, MatchOption, cond, ltb, List, [], ◌∷◌, ◌++◌, map, length, refl, ap, ◌∙◌, arith}
use Rattle.std.proofs.lemmas.Bool.Decides.{nat_tests}
use Rattle.std.specs.List.{sum_by, count_by}
use Rattle.std.proofs.lemmas.List.Sums.{sum_by-cons}
use Rattle.match_machine.specs.Answers.{Answered}
use Rattle.match_pool.specs.Once.{items_of, IsEachOnce}
use Rattle.match_pool.specs.Stealing.{weight_of}
use Rattle.match_pool.specs.Weights.{weigh, weigh_below}

pub weigh-append : {X : Type 0} (h : X → ℕ) (xs ys : List X) → weigh h (xs ++ ys) ≡ weigh h xs + weigh h ys
weigh-append h [] ys = omega arith
weigh-append h (z ∷ xs) ys = omega (arith, weigh-append h xs ys)

pub weigh-snoc : {X : Type 0} (h : X → ℕ) (xs : List X) (y : X) → weigh h (xs ++ y ∷ []) ≡ weigh h xs + h y
weigh-snoc h [] y = omega arith
weigh-snoc h (z ∷ xs) y = omega (arith, weigh-snoc h xs y)

pub weigh-set : {X : Type 0} (h : X → ℕ) (xs : List X) (i : ℕ) (y d : X) → i < length xs → weigh h (set xs i y) + h (get_or xs i d) ≡ weigh h xs + h y
weigh-set h [] i y d below = absurd (omega arith)
weigh-set h (x ∷ xs) zero y d below = omega arith
weigh-set h (x ∷ xs) (suc i) y d below = omega (arith, weigh-set h xs i y d (omega arith))

pub weigh-push : (h : ℕ → ℕ) (n : ℕ) (old new : List ℕ) → new ≡ old ++ n ∷ [] → weigh h new ≡ weigh h old + h n
weigh-push h n old new e = rw e (weigh-snoc h old n)

pub weigh_of-taken : (h : ℕ → ℕ) (r : Option ℕ) (old new : List ℕ) → MatchOption r (new ≡ old) (λ n. new ≡ old ++ n ∷ []) → weigh h new ≡ weigh h old + weight_of h r
weigh_of-taken h None old new e = rw e (omega arith)
weigh_of-taken h (Some n) old new e = weigh-push h n old new e

pub below-more : (h : ℕ → ℕ) (n : ℕ) → weigh_below h (n + 1) ≡ weigh_below h n + h n
below-more h n = let e : n + 1 ≡ suc n = omega arith in rw e refl

pub items-append : (xs ys : List Answered) → items_of (xs ++ ys) ≡ items_of xs ++ items_of ys
items-append [] ys = refl
items-append (b ∷ xs) ys = ap (λ l. b.item ∷ l) (items-append xs ys)

pub weigh_is_sum : {X : Type 0} (h : X → ℕ) (xs : List X) → sum_by h xs ≡ weigh h xs
weigh_is_sum h [] = refl
weigh_is_sum h (x ∷ xs) = omega (arith, sum_by-cons h x xs, weigh_is_sum h xs)

pub below_once : (x n : ℕ) → weigh_below (λ y. cond (y == x) 1 0) n ≡ cond (ltb x n) 1 0
below_once x zero = grind (arith, nat_tests)
below_once x (suc n) = grind (arith, nat_tests, below_once x n)

-- a list of numbers that weighs what the numbers below the bound weigh has each of them once
pub each-once : (n : ℕ) (xs : List ℕ) → ((h : ℕ → ℕ) → weigh h xs ≡ weigh_below h n) → IsEachOnce n xs
each-once n xs all x = weigh_is_sum (λ y. cond (y == x) 1 0) xs ∙ (all (λ y. cond (y == x) 1 0) ∙ below_once x n)
