-- Conjunctions and disjunctions of values.
use Rattle.std.proofs.Common.{◌≡◌, ℕ, ◌+◌, ◌<◌, List, [], ◌∷◌, ◌++◌, length, take, get_or, All}
use Rattle.std.proofs.Common.{refl, sym, ap, ◌∙◌}
use Rattle.std.proofs.lemmas.List.{take_more, map-append}
use Rattle.std.proofs.lemmas.List.Elements.{All-get_or}
use Rattle.graph_terms.proofs.ListLaws.{get_or-any}
use Rattle.formula_truth.specs.declared.truth.Truth.{Truth}
use Rattle.formula_truth.specs.declared.truth.Truth.TheVariants.{Yes, No, Unset}
use Rattle.formula_truth.specs.Truths.{and_of, or_of, all_of, some_of}
use Rattle.formula_value.specs.ByParts.{values_of}

and_assoc : (a b c : Truth) → and_of a (and_of b c) ≡ and_of (and_of a b) c
and_assoc No b c = refl
and_assoc Yes b c = refl
and_assoc Unset No c = refl
and_assoc Unset Yes c = refl
and_assoc Unset Unset No = refl
and_assoc Unset Unset Yes = refl
and_assoc Unset Unset Unset = refl

or_assoc : (a b c : Truth) → or_of a (or_of b c) ≡ or_of (or_of a b) c
or_assoc Yes b c = refl
or_assoc No b c = refl
or_assoc Unset Yes c = refl
or_assoc Unset No c = refl
or_assoc Unset Unset Yes = refl
or_assoc Unset Unset No = refl
or_assoc Unset Unset Unset = refl

and_yes : (a : Truth) → and_of a Yes ≡ a
and_yes Yes = refl
and_yes No = refl
and_yes Unset = refl

or_no : (a : Truth) → or_of a No ≡ a
or_no Yes = refl
or_no No = refl
or_no Unset = refl

-- a conjunction with one part more
pub all_of-push : (xs : List Truth) (x : Truth) → all_of (xs ++ x ∷ []) ≡ and_of (all_of xs) x
all_of-push [] x = and_yes x
all_of-push (y ∷ xs) x = ap (and_of y) (all_of-push xs x) ∙ and_assoc y (all_of xs) x

-- a disjunction with one part more
pub some_of-push : (xs : List Truth) (x : Truth) → some_of (xs ++ x ∷ []) ≡ or_of (some_of xs) x
some_of-push [] x = or_no x
some_of-push (y ∷ xs) x = ap (or_of y) (some_of-push xs x) ∙ or_assoc y (some_of xs) x

-- the values of a front of the parts with one part more
values_of-more : (values : List Truth) (parts : List ℕ) → All (λ part. part < length values) parts → (i : ℕ) →
    i < length parts → values_of values (take (i + 1) parts) ≡
    values_of values (take i parts) ++ get_or values (get_or parts i 0) Yes ∷ []
values_of-more values parts below i within =
    ap (values_of values) (take_more parts i 0 within)
    ∙ map-append (λ part. get_or values part Unset) (take i parts) (get_or parts i 0 ∷ [])
    ∙ ap (λ x. values_of values (take i parts) ++ x ∷ [])
    (get_or-any values (get_or parts i 0) Unset Yes (All-get_or (λ part. part < length values) parts i 0 within below))

-- a conjunction of a front of the parts with one part more
pub all_of-more : (values : List Truth) (parts : List ℕ) → All (λ part. part < length values) parts → (i : ℕ) →
    i < length parts → (all next : Truth) → all ≡ all_of (values_of values (take i parts)) →
    next ≡ and_of all (get_or values (get_or parts i 0) Yes) →
    next ≡ all_of (values_of values (take (i + 1) parts))
all_of-more values parts below i within all next is more =
    more ∙ ap (λ a. and_of a (get_or values (get_or parts i 0) Yes)) is
    ∙ sym (ap all_of (values_of-more values parts below i within)
    ∙ all_of-push (values_of values (take i parts)) (get_or values (get_or parts i 0) Yes))

-- a disjunction of a front of the parts with one part more
pub some_of-more : (values : List Truth) (parts : List ℕ) → All (λ part. part < length values) parts → (i : ℕ) →
    i < length parts → (some next : Truth) → some ≡ some_of (values_of values (take i parts)) →
    next ≡ or_of some (get_or values (get_or parts i 0) Yes) →
    next ≡ some_of (values_of values (take (i + 1) parts))
some_of-more values parts below i within some next is more =
    more ∙ ap (λ a. or_of a (get_or values (get_or parts i 0) Yes)) is
    ∙ sym (ap some_of (values_of-more values parts below i within)
    ∙ some_of-push (values_of values (take i parts)) (get_or values (get_or parts i 0) Yes))
