-- Elements of lists.
use Rattle.std.proofs.Common.{◌≡◌, ◌+◌, ℕ, Some, slice_get, List, [], ◌∷◌, ◌++◌, map, Contains, take, ap, subst, ◌∙◌, arith}
use Rattle.std.proofs.lemmas.List.Elements.{Contains-get_or}
use Rattle.std.proofs.lemmas.List.{get_or-map, length-map}
use Rattle.std.proofs.lemmas.Grind.{take_at_read}
use Rattle.std.proofs.lemmas.Option.{get_or_from_slice_get, slice_get_within}

module _ {X : Type 0} where
  -- the first ones, with what stands at the place after them
  pub take_more_at : (xs : List X) (i : ℕ) (x : X) → slice_get xs i ≡ Some x → take (i + 1) xs ≡ take i xs ++ x ∷ []
  take_more_at xs i x is = (take_at_read xs i x (slice_get_within xs i x is)).1 ∙ ap (λ y. take i xs ++ y ∷ []) (get_or_from_slice_get xs i x x is)

  -- what stands at a place stands there
  pub stands_at : (xs : List X) (i : ℕ) (x : X) → slice_get xs i ≡ Some x → Contains xs x
  stands_at xs i x is = subst (Contains xs) (get_or_from_slice_get xs i x x is) (Contains-get_or xs i x (slice_get_within xs i x is))

  -- of what stands at a place its value stands in the mapped list
  pub mapped_at : {Y : Type 0} (f : X → Y) (xs : List X) (i : ℕ) (x : X) → slice_get xs i ≡ Some x → Contains (map f xs) (f x)
  mapped_at f xs i x is =
      let within = slice_get_within xs i x is in
      subst (Contains (map f xs)) (get_or-map f xs i x (f x) within ∙ ap f (get_or_from_slice_get xs i x x is))
      (Contains-get_or (map f xs) i (f x) (omega (arith, within, length-map xs f)))
