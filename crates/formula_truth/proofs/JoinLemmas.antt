-- Conjunctions and disjunctions of values, by those of two values.
use Rattle.std.proofs.Common.{◌≡◌, ◌⊎◌, inl, inr, ⊎_elim, List, [], ◌∷◌, Contains, refl, sym, ap, ap₂, subst, ◌∙◌, arith}
use Rattle.std.proofs.lemmas.List.Elements.{Contains-append_cases, Contains-append_left, Contains-append_right, Contains-push, Contains-push_cases}
use Rattle.formula_truth.specs.declared.truth.Truth.{Truth}
use Rattle.formula_truth.specs.declared.truth.Truth.TheVariants.{Yes, No, Unset}
use Rattle.formula_truth.specs.Truths.{and_of, or_of}
use Rattle.formula_truth.specs.Joins.{IsJoin, AreJoins}

contains_head : (x : Truth) (xs : List Truth) → Contains (x ∷ xs) x
contains_head x xs = Contains-append_left (x ∷ []) xs x (Contains-push [] x)

contains_later : (y x : Truth) (xs : List Truth) → Contains xs x → Contains (y ∷ xs) x
contains_later y x xs c = Contains-append_right (y ∷ []) xs x c

contains_cases : (y x : Truth) (xs : List Truth) → Contains (y ∷ xs) x → (y ≡ x) ⊎ Contains xs x
contains_cases y x xs c = ⊎_elim (λ one. ⊎_elim (λ none. absurd (omega (arith, none.1))) inl (Contains-push_cases [] y x one)) inr (Contains-append_cases (y ∷ []) xs x c)

-- the same of two values
record Joins (op : Truth → Truth → Truth) (each any : Truth) : Type 0 where
  apart : each ≡ any → ⊥
  known : each ≡ Unset → ⊥
  both : (a b : Truth) → op a b ≡ each → (a ≡ each) × (b ≡ each)
  one : (a b : Truth) → op a b ≡ any → (a ≡ any) ⊎ (b ≡ any)
  left : (a b : Truth) → op a b ≡ Unset → (a ≡ Unset) ⊎ (b ≡ Unset)
  whole : op each each ≡ each
  first : (b : Truth) → op any b ≡ any
  last : (a : Truth) → op a any ≡ any

ands : Joins and_of Yes No
ands = record { apart = λ e. cc; known = λ e. cc; both = both; one = one; left = left; whole = refl; first = λ b. refl; last = last }
  where
    both : (a b : Truth) → and_of a b ≡ Yes → (a ≡ Yes) × (b ≡ Yes)
    both Yes b e = (refl, e)
    both No b e = cc
    both Unset Yes e = cc
    both Unset No e = cc
    both Unset Unset e = cc

    one : (a b : Truth) → and_of a b ≡ No → (a ≡ No) ⊎ (b ≡ No)
    one Yes b e = inr e
    one No b e = inl refl
    one Unset Yes e = cc
    one Unset No e = inr refl
    one Unset Unset e = cc

    left : (a b : Truth) → and_of a b ≡ Unset → (a ≡ Unset) ⊎ (b ≡ Unset)
    left Yes b e = inr e
    left No b e = cc
    left Unset b e = inl refl

    last : (a : Truth) → and_of a No ≡ No
    last Yes = refl
    last No = refl
    last Unset = refl

-- Yes and No changed
abbrev swap : Truth → Truth
swap Yes = No
swap No = Yes
swap Unset = Unset

swap_back : (a b : Truth) → swap a ≡ swap b → a ≡ b
swap_back Yes Yes e = refl
swap_back Yes No e = cc
swap_back Yes Unset e = cc
swap_back No Yes e = cc
swap_back No No e = refl
swap_back No Unset e = cc
swap_back Unset Yes e = cc
swap_back Unset No e = cc
swap_back Unset Unset e = refl

or_is : (a b : Truth) → swap (or_of a b) ≡ and_of (swap a) (swap b)
or_is Yes b = refl
or_is No b = refl
or_is Unset Yes = refl
or_is Unset No = refl
or_is Unset Unset = refl

ors : Joins or_of No Yes
ors = record {
  apart = λ e. cc;
  known = λ e. cc;
  both = λ a b e. let h = ands.both (swap a) (swap b) (sym (or_is a b) ∙ ap swap e) in (swap_back a No h.0, swap_back b No h.1);
  one = λ a b e. ⊎_elim (λ h. inl (swap_back a Yes h)) (λ h. inr (swap_back b Yes h)) (ands.one (swap a) (swap b) (sym (or_is a b) ∙ ap swap e));
  left = λ a b e. ⊎_elim (λ h. inl (swap_back a Unset h)) (λ h. inr (swap_back b Unset h)) (ands.left (swap a) (swap b) (sym (or_is a b) ∙ ap swap e));
  whole = refl;
  first = λ b. refl;
  last = λ a. swap_back (or_of a Yes) Yes (or_is a Yes ∙ ands.last (swap a));
}

module _ {of : List Truth → Truth} {op : Truth → Truth → Truth} {each any : Truth} (joins : Joins op each any) (none : of [] ≡ each) (more : (x : Truth) (xs : List Truth) → of (x ∷ xs) ≡ op x (of xs)) where
  all_each : (xs : List Truth) → of xs ≡ each → (x : Truth) → Contains xs x → x ≡ each
  all_each [] e x c = absurd (omega (arith, c.1))
  all_each (y ∷ xs) e x c =
      let parts = joins.both y (of xs) (sym (more y xs) ∙ e) in
      ⊎_elim (λ same. sym same ∙ parts.0) (all_each xs parts.1 x) (contains_cases y x xs c)

  each_all : (xs : List Truth) → ((x : Truth) → Contains xs x → x ≡ each) → of xs ≡ each
  each_all [] are = none
  each_all (y ∷ xs) are = more y xs ∙ ap₂ op (are y (contains_head y xs)) (each_all xs (λ x c. are x (contains_later y x xs c))) ∙ joins.whole

  some_any : (xs : List Truth) → of xs ≡ any → Contains xs any
  some_any [] e = absurd (joins.apart (sym none ∙ e))
  some_any (y ∷ xs) e = ⊎_elim
      (λ here. subst (λ x. Contains (x ∷ xs) any) (sym here) (contains_head any xs))
      (λ later. contains_later y any xs (some_any xs later))
      (joins.one y (of xs) (sym (more y xs) ∙ e))

  any_some : (xs : List Truth) → Contains xs any → of xs ≡ any
  any_some [] c = absurd (omega (arith, c.1))
  any_some (y ∷ xs) c = more y xs ∙ ⊎_elim
      (λ same. ap (λ x. op x (of xs)) same ∙ joins.first (of xs))
      (λ later. ap (op y) (any_some xs later) ∙ joins.last y)
      (contains_cases y any xs c)

  some_unset : (xs : List Truth) → of xs ≡ Unset → Contains xs Unset
  some_unset [] e = absurd (joins.known (sym none ∙ e))
  some_unset (y ∷ xs) e = ⊎_elim
      (λ here. subst (λ x. Contains (x ∷ xs) Unset) (sym here) (contains_head Unset xs))
      (λ later. contains_later y Unset xs (some_unset xs later))
      (joins.left y (of xs) (sym (more y xs) ∙ e))

  is_join : IsJoin of each any
  is_join = record { all = λ xs. (all_each xs, each_all xs); some = λ xs. (some_any xs, any_some xs); unset = some_unset }

pub are_joins : AreJoins
are_joins = record { conjunction = is_join ands refl (λ x xs. refl); disjunction = is_join ors refl (λ x xs. refl) }
