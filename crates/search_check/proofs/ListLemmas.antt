-- Lists that end with an element, and fronts of lists.
use Rattle.std.proofs.Common.{◌≡◌, ℕ, zero, suc, ◌≤◌, List, [], ◌∷◌, ◌++◌, length, take, reverse, slice_get, Some, refl, sym}
use Rattle.std.proofs.Common.{ap, ap₂, subst, ◌∙◌, arith}
use Rattle.std.proofs.lemmas.List.{length-append, reverse-append, reverse-reverse, take-append-le, take_all}

-- a list's length many of it and more are the list
pub take_seam : {X : Type 0} (xs ys : List X) → take (length xs) (xs ++ ys) ≡ xs
take_seam xs ys = take-append-le (length xs) xs ys (omega arith) ∙ take_all (length xs) xs (omega arith)

-- no list ends with an element and is empty
pub not_none : {X : Type 0} (xs : List X) (x : X) → xs ++ x ∷ [] ≡ [] → ⊥
not_none xs x e = omega (arith, length-append xs (x ∷ []), ap length e)

-- a list without elements
pub no_elements : {X : Type 0} (xs : List X) → length xs ≡ 0 → xs ≡ []
no_elements [] none = refl
no_elements (x ∷ xs) none = absurd (omega (arith, none))

-- lists that are equal with an element at each end are equal without
module _ {X : Type 0} (xs ys : List X) (x y : X) (same : xs ++ x ∷ [] ≡ ys ++ y ∷ []) where
  backwards : x ∷ reverse xs ≡ y ∷ reverse ys
  backwards = sym (reverse-append xs (x ∷ [])) ∙ ap reverse same ∙ reverse-append ys (y ∷ [])

  pub same_last : x ≡ y
  same_last = cc backwards

  pub same_front : xs ≡ ys
  same_front = let turned : reverse xs ≡ reverse ys = cc backwards in
      sym (reverse-reverse xs) ∙ ap reverse turned ∙ reverse-reverse ys
