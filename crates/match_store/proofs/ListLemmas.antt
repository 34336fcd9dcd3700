-- Elements of lists, and lists in order.
use Rattle.std.proofs.Common.{◌≡◌, ◌⊎◌, ◌<◌, ◌≤◌, ◌+◌, ℕ, suc, Some, slice_get, List, [], ◌∷◌, ◌++◌, map, AllPairs, Contains, length, get_or, take, refl, sym, ap, ap₂, subst, ◌∙◌, inl, inr, ⊎_elim, arith}
use Rattle.std.proofs.lemmas.Cmp.{nat_list_cmp_total}
use Rattle.std.proofs.lemmas.List.{get_or-map, get_or-take, length-map}
use Rattle.std.proofs.lemmas.List.Elements.{Contains-get_or, Contains-append_cases, Contains-append_right, Contains-push_cases}
use Rattle.std.proofs.lemmas.Grind.{common_steps, take_at_read}
use Rattle.std.proofs.lemmas.Option.{get_or_from_slice_get, slice_get-get_or, slice_get_within}
use Rattle.std.specs.Cmp.Lexicographic.{slice_cmp}
use Rattle.std.specs.Ordering.{nat_cmp, ordering_reverse}
use Rattle.std.specs.declared.cmp.Ordering.{Ordering}
use Rattle.std.specs.declared.cmp.Ordering.TheVariants.{Less, Greater}

module _ {X : Type 0} where
  pub nothing_in : {Y : Type 0} (x : X) → Contains [] x → Y
  nothing_in x c = absurd (omega (arith, c.1))

  -- an element of a list is its first or one of the rest
  pub head_or_rest : (x z : X) (xs : List X) → Contains (x ∷ xs) z → (x ≡ z) ⊎ Contains xs z
  head_or_rest x z xs c = ⊎_elim (λ one. ⊎_elim (nothing_in z) inl (Contains-push_cases [] x z one)) inr (Contains-append_cases (x ∷ []) xs z c)

  pub is_head : (x : X) (xs : List X) → Contains (x ∷ xs) x
  is_head x xs = Contains-get_or (x ∷ xs) 0 x (omega arith)

  pub in_rest : (x z : X) (xs : List X) → Contains xs z → Contains (x ∷ xs) z
  in_rest x z xs c = Contains-append_right (x ∷ []) xs z c

  -- the first ones, with what stands at the place after them
  pub take_more_at : (xs : List X) (i : ℕ) (x : X) → slice_get xs i ≡ Some x → take (i + 1) xs ≡ take i xs ++ x ∷ []
  take_more_at xs i x is = (take_at_read xs i x (slice_get_within xs i x is)).1 ∙ ap (λ y. take i xs ++ y ∷ []) (get_or_from_slice_get xs i x x is)

  module _ (R : X → X → Type 0) where
    head_before : (x z : X) (xs : List X) → AllPairs R (x ∷ xs) → Contains xs z → R x z
    head_before x z xs all c = subst (R x) c.2 (all 0 (suc c.0) z (omega arith) (omega (arith, c.1)))

    rest_in_order : (x : X) (xs : List X) → AllPairs R (x ∷ xs) → AllPairs R xs
    rest_in_order x xs all i j d less below = all (suc i) (suc j) d (omega (arith, less)) (omega (arith, below))

    length_take_most : (i : ℕ) (xs : List X) → length (take i xs) ≤ i
    length_take_most i xs = grind (arith, common_steps)

    -- what stands before a place comes before what stands there
    pub earlier_before : (xs : List X) (i : ℕ) (d y : X) → AllPairs R xs → i < length xs → Contains (take i xs) y → R y (get_or xs i d)
    earlier_before xs i d y all within c =
        let short = length_take_most i xs in
        let less : c.0 < i = omega (arith, c.1, short) in
        let same : get_or xs c.0 y ≡ y = sym (get_or-take i xs c.0 y less) ∙ c.2 in
        let read : get_or xs i y ≡ get_or xs i d = get_or_from_slice_get xs i (get_or xs i d) y (slice_get-get_or xs i d within) in
        subst (λ z. R z (get_or xs i d)) same (subst (R (get_or xs c.0 y)) read (all c.0 i y less within))

    -- two lists in one strict order that have the same elements are one
    pub same_in_order : ((x y : X) → R x y → R y x → ⊥) → (xs ys : List X) → AllPairs R xs → AllPairs R ys →
        ((z : X) → Contains xs z → Contains ys z) → ((z : X) → Contains ys z → Contains xs z) → xs ≡ ys
    same_in_order strict [] [] up up' forth back = refl
    same_in_order strict [] (y ∷ ys) up up' forth back = nothing_in y (back y (is_head y ys))
    same_in_order strict (x ∷ xs) [] up up' forth back = nothing_in x (forth x (is_head x xs))
    same_in_order strict (x ∷ xs) (y ∷ ys) up up' forth back =
        let same : x ≡ y =
        ⊎_elim sym
        (λ in_ys. ⊎_elim (λ e. e) (λ in_xs. absurd (strict x y (head_before x y xs up in_xs) (head_before y x ys up' in_ys))) (head_or_rest x y xs (back y (is_head y ys))))
        (head_or_rest y x ys (forth x (is_head x xs))) in
        ap₂ (λ z zs. z ∷ zs) same
        (same_in_order strict xs ys (rest_in_order x xs up) (rest_in_order y ys up')
        (λ z c. ⊎_elim (λ e. let less = subst (R x) (sym (same ∙ e)) (head_before x z xs up c) in absurd (strict x x less less)) (λ rest. rest) (head_or_rest y z ys (forth z (in_rest x z xs c))))
        (λ z c. ⊎_elim (λ e. let less = subst (R y) (sym (sym same ∙ e)) (head_before y z ys up' c) in absurd (strict y y less less)) (λ rest. rest) (head_or_rest x z xs (back z (in_rest y z ys c)))))

module _ {X Y : Type 0} (f : X → Y) where
  -- what a list has, the mapped list has mapped
  pub Contains-map : (xs : List X) (x : X) → Contains xs x → Contains (map f xs) (f x)
  Contains-map [] x c = nothing_in x c
  Contains-map (y ∷ ys) x c = ⊎_elim (λ e. subst (λ z. Contains (f y ∷ map f ys) (f z)) e (is_head (f y) (map f ys))) (λ rest. in_rest (f y) (f x) (map f ys) (Contains-map ys x rest)) (head_or_rest y x ys c)

  -- and it has nothing else
  pub Contains-from_map : (xs : List X) (y : Y) → Contains (map f xs) y → (x : X) × Contains xs x × (f x ≡ y)
  Contains-from_map [] y c = nothing_in y c
  Contains-from_map (x ∷ xs) y c = ⊎_elim (λ e. (x, is_head x xs, e)) (λ rest. let found = Contains-from_map xs y rest in (found.0, in_rest x found.0 xs found.1, found.2)) (head_or_rest (f x) y (map f xs) c)

  -- a list is in order as its mapped list is
  pub AllPairs-from_map : (R : Y → Y → Type 0) (xs : List X) → AllPairs R (map f xs) → AllPairs (λ a b. R (f a) (f b)) xs
  AllPairs-from_map R xs all i j d less within =
      subst (λ y. R (f (get_or xs i d)) y) (get_or-map f xs j d (f d) within)
      (subst (λ y. R y (get_or (map f xs) j (f d))) (get_or-map f xs i d (f d) (omega (arith, less, within))) (all i j (f d) less (omega (arith, within, length-map xs f))))

less_not_greater : Less ≡ Greater → ⊥
less_not_greater same = cc

-- of two tuples only one comes before the other
pub less_strict : (xs ys : List ℕ) → slice_cmp nat_cmp xs ys ≡ Less → slice_cmp nat_cmp ys xs ≡ Less → ⊥
less_strict xs ys less more = clash (slice_cmp nat_cmp ys xs) (sym less ∙ nat_list_cmp_total.antisymm xs ys) more
  where
    clash : (o : Ordering) → Less ≡ ordering_reverse o → o ≡ Less → ⊥
    clash o turned is = less_not_greater (turned ∙ ap ordering_reverse is)
