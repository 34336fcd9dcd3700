-- Elements of lists that are mapped and of lists that grow.
use Rattle.std.proofs.Common.{◌≡◌, ℕ, zero, suc, ◌⊎◌, List, [], ◌∷◌, ◌++◌, map, take, slice_get, Option}
use Rattle.std.proofs.Common.{Some, None, All, Contains, refl, ap, subst, inl, inr, ⊎_elim, arith}
use Rattle.std.specs.List.{filter_map, cons_option}
use Rattle.std.proofs.lemmas.List.Elements.{All-weaker, All-contains_itself}
use Rattle.std.proofs.lemmas.List.Elements.{Contains-push_cases, Contains-append_cases, Contains-append_right}
use Rattle.std.proofs.lemmas.Option.{none-some, same_Some}

module _ {X : Type 0} where
  -- nothing is an element of the empty list
  pub in_none : {P : Type 0} (x : X) → Contains [] x → P
  in_none x c = absurd (omega (arith, c.1))

  pub in_head : (x : X) (xs : List X) → Contains (x ∷ xs) x
  in_head x xs = (0, omega arith, refl)

  pub in_later : (y x : X) (xs : List X) → Contains xs x → Contains (y ∷ xs) x
  in_later y x xs c = Contains-append_right (y ∷ []) xs x c

  -- an element is the first or one of the others
  pub in_cases : (y x : X) (xs : List X) → Contains (y ∷ xs) x → (y ≡ x) ⊎ Contains xs x
  in_cases y x xs c = ⊎_elim
      (λ one. ⊎_elim (λ none. absurd (omega (arith, none.1))) inl (Contains-push_cases [] y x one)) inr
      (Contains-append_cases (y ∷ []) xs x c)

  -- an element has a place
  pub at_place : (xs : List X) (x : X) → Contains xs x → (k : ℕ) × (slice_get xs k ≡ Some x)
  at_place [] x c = in_none x c
  at_place (y ∷ xs) x c = ⊎_elim (λ e. (0, ap Some e)) (λ later. let h = at_place xs x later in (suc h.0, h.1))
      (in_cases y x xs c)

  -- what holds of each element holds of all
  pub all_of : (P : X → Type 0) (xs : List X) → ((x : X) → Contains xs x → P x) → All P xs
  all_of P xs each = All-weaker (Contains xs) P each xs (All-contains_itself xs)

  -- what stands in a list stands in a longer one
  pub get_longer : (xs more : List X) (n : ℕ) (x : X) → slice_get xs n ≡ Some x → slice_get (xs ++ more) n ≡ Some x
  get_longer [] more n x at = absurd (none-some x at)
  get_longer (y ∷ xs) more zero x at = at
  get_longer (y ∷ xs) more (suc n) x at = get_longer xs more n x at

  -- the first so many, the next, and the rest
  pub next_split : (xs : List X) (n : ℕ) (x : X) → slice_get xs n ≡ Some x →
      (rest : List X) × (xs ≡ take n xs ++ x ∷ rest)
  next_split [] n x at = absurd (none-some x at)
  next_split (y ∷ xs) zero x at = (xs, ap (λ (first : X). first ∷ xs) (same_Some y x at))
  next_split (y ∷ xs) (suc n) x at =
      let found = next_split xs n x at in (found.0, ap (λ (list : List X). y ∷ list) found.1)

module _ {Y : Type 0} where
  -- the first that is kept, or a later one
  kept_cases : (o : Option Y) (ys : List Y) (y : Y) → Contains (cons_option o ys) y → (o ≡ Some y) ⊎ Contains ys y
  kept_cases None ys y c = inr c
  kept_cases (Some w) ys y c = ⊎_elim (λ e. inl (ap Some e)) inr (in_cases w y ys c)

module _ {X Y : Type 0} where
  -- what an element is mapped to stands in the list that is mapped
  pub in_map : (f : X → Y) (xs : List X) (x : X) → Contains xs x → Contains (map f xs) (f x)
  in_map f [] x c = in_none x c
  in_map f (z ∷ xs) x c = ⊎_elim
      (λ e. subst (λ w. Contains (f z ∷ map f xs) (f w)) e (in_head (f z) (map f xs)))
      (λ later. in_later (f z) (f x) (map f xs) (in_map f xs x later))
      (in_cases z x xs c)

  -- and all that stands there is what an element is mapped to
  pub from_map : (f : X → Y) (xs : List X) (y : Y) → Contains (map f xs) y → (x : X) × Contains xs x × (f x ≡ y)
  from_map f [] y c = in_none y c
  from_map f (z ∷ xs) y c = ⊎_elim
      (λ e. (z, in_head z xs, e))
      (λ later. let h = from_map f xs y later in (h.0, in_later z h.0 xs h.1, h.2))
      (in_cases (f z) y (map f xs) c)

  -- so for a map that keeps some
  pub from_filter_map : (h : X → Option Y) (xs : List X) (y : Y) → Contains (filter_map h xs) y →
      (x : X) × Contains xs x × (h x ≡ Some y)
  from_filter_map h [] y c = in_none y c
  from_filter_map h (z ∷ xs) y c = ⊎_elim
      (λ e. (z, in_head z xs, e))
      (λ later. let k = from_filter_map h xs y later in (k.0, in_later z k.0 xs k.1, k.2))
      (kept_cases (h z) (filter_map h xs) y c)
