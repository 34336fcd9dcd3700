-- Lists in order.
use Rattle.std.proofs.Common.{◌≡◌, ◌⊎◌, ℕ, suc, List, [], ◌∷◌, AllPairs, Contains, refl}
use Rattle.std.proofs.Common.{sym, ◌∙◌, ap₂, ap, subst, inl, inr, ⊎_elim, arith}
use Rattle.std.proofs.lemmas.Cmp.{nat_list_cmp_total}
use Rattle.std.specs.Ordering.{nat_cmp, ordering_reverse}
use Rattle.std.specs.declared.cmp.Ordering.{Ordering}
use Rattle.std.specs.Cmp.Lexicographic.{slice_cmp}
use Rattle.std.specs.declared.cmp.Ordering.TheVariants.{Less, Greater}
use Rattle.std.proofs.lemmas.List.Elements.{Contains-get_or, Contains-append_cases}
use Rattle.std.proofs.lemmas.List.Elements.{Contains-append_right, Contains-push_cases}

module _ {X : Type 0} where
  -- an element of a list is its first or one of the rest
  head_or_rest : (x z : X) (xs : List X) → Contains (x ∷ xs) z → (x ≡ z) ⊎ Contains xs z
  head_or_rest x z xs c = ⊎_elim (λ one. ⊎_elim (λ nothing. absurd (omega (arith, nothing.1))) inl
      (Contains-push_cases [] x z one)) inr (Contains-append_cases (x ∷ []) xs z c)

  is_head : (x : X) (xs : List X) → Contains (x ∷ xs) x
  is_head x xs = Contains-get_or (x ∷ xs) 0 x (omega arith)

  in_rest : (x z : X) (xs : List X) → Contains xs z → Contains (x ∷ xs) z
  in_rest x z xs c = Contains-append_right (x ∷ []) xs z c

  module _ (R : X → X → Type 0) where
    head_before : (x z : X) (xs : List X) → AllPairs R (x ∷ xs) → Contains xs z → R x z
    head_before x z xs all c = subst (R x) c.2 (all 0 (suc c.0) z (omega arith) (omega (arith, c.1)))

    rest_in_order : (x : X) (xs : List X) → AllPairs R (x ∷ xs) → AllPairs R xs
    rest_in_order x xs all i j d less below = all (suc i) (suc j) d (omega (arith, less)) (omega (arith, below))

    -- two lists in one strict order that have the same elements are one
    pub same_in_order : ((x y : X) → R x y → R y x → ⊥) → (xs ys : List X) → AllPairs R xs → AllPairs R ys →
        ((z : X) → Contains xs z → Contains ys z) → ((z : X) → Contains ys z → Contains xs z) → xs ≡ ys
    same_in_order strict [] [] up up' forth back = refl
    same_in_order strict [] (y ∷ ys) up up' forth back = absurd (let c = back y (is_head y ys) in omega (arith, c.1))
    same_in_order strict (x ∷ xs) [] up up' forth back = absurd (let c = forth x (is_head x xs) in omega (arith, c.1))
    same_in_order strict (x ∷ xs) (y ∷ ys) up up' forth back =
        let same : x ≡ y =
        ⊎_elim sym
        (λ in_ys. ⊎_elim (λ e. e) (λ in_xs. absurd (strict x y (head_before x y xs up in_xs)
        (head_before y x ys up' in_ys))) (head_or_rest x y xs (back y (is_head y ys))))
        (head_or_rest y x ys (forth x (is_head x xs))) in
        ap₂ (λ z zs. z ∷ zs) same
        (same_in_order strict xs ys (rest_in_order x xs up) (rest_in_order y ys up')
        (λ z c. ⊎_elim (λ e. let less = head_before x z xs up c in
        let back_to = subst (R x) (sym (same_then same e)) less in
        absurd (strict x x back_to back_to)) (λ rest. rest) (head_or_rest y z ys (forth z (in_rest x z xs c))))
        (λ z c. ⊎_elim (λ e. let less = head_before y z ys up' c in
        let back_to = subst (R y) (sym (same_then (sym same) e)) less in
        absurd (strict y y back_to back_to)) (λ rest. rest) (head_or_rest x z xs (back z (in_rest y z ys c)))))
      where
        same_then : {a b z : X} → a ≡ b → b ≡ z → a ≡ z
        same_then e f = e ∙ f

less_not_greater : Less ≡ Greater → ⊥
less_not_greater same = cc

-- of two tuples only one comes before the other
pub less_strict : (xs ys : List ℕ) → slice_cmp nat_cmp xs ys ≡ Less → slice_cmp nat_cmp ys xs ≡ Less → ⊥
less_strict xs ys less more = clash (slice_cmp nat_cmp ys xs) (sym less ∙ nat_list_cmp_total.antisymm xs ys) more
  where
    clash : (o : Ordering) → Less ≡ ordering_reverse o → o ≡ Less → ⊥
    clash o turned is = less_not_greater (turned ∙ ap ordering_reverse is)
