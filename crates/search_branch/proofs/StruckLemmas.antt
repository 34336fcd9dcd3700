-- Places are struck, one after the other.
use Rattle.std.proofs.Common.{◌≡◌, ◌⊎◌, inl, inr, ◌↔◌, ℕ, ◌+◌, ◌<◌, true, List, [], ◌∷◌, ◌++◌, length, map, take}
use Rattle.std.proofs.Common.{get_or, slice_index_or, All, Contains, sym, ap, ap₂, subst, ◌∙◌}
use Rattle.std.proofs.lemmas.Bool.{cases_eq}
use Rattle.std.proofs.lemmas.Option.{slice_get_within, get_or_from_slice_get}
use Rattle.std.proofs.lemmas.List.{take_more, get_or-map}
use Rattle.std.proofs.lemmas.List.Elements.{Contains-append_left, Contains-push, Contains-push_cases}
use Rattle.formula_table.specs.declared.node.Node.{Node}
use Rattle.formula_table.specs.declared.node.Node.TheVariants.{Or}
use Rattle.search_values.specs.Given.{Given, HasPlace, parts_of}
use Rattle.search_values.specs.Changes.{Strikes}
use Rattle.search_branch.specs.Given.{parts_in}
use Rattle.search_branch.specs.Struck.{IsPlaceOf, StrikesAll}

-- ---- one place more

module _ (places : List (ℕ × ℕ)) (node place : ℕ) (first old new : Given) (strikes : Strikes node place old new)
    (were : StrikesAll places first old) where
  -- a place was struck before, or it is on the list
  abbrev IsStruck : List (ℕ × ℕ) → ℕ → ℕ → Type 0
  IsStruck listed n i = (first.struck n i ≡ true) ⊎ Contains listed (n, i)

  pair_same : (n i : ℕ) → n ≡ node → i ≡ place → ◌≡◌ {A = ℕ × ℕ} (node, place) (n, i)
  pair_same n i e e' =
      let pair : ℕ → ℕ → ℕ × ℕ = λ a b. (a, b) in
      ap₂ pair (sym e) (sym e')

  -- the one place is struck, also where it was before
  here_struck : (n i : ℕ) → n ≡ node → i ≡ place →
      (new.struck n i ≡ true) ↔ IsStruck (places ++ (node, place) ∷ []) n i
  here_struck n i e e' = (
    λ _. inr (subst (λ (pair : ℕ × ℕ). Contains (places ++ (node, place) ∷ []) pair) (pair_same n i e e')
        (Contains-push places (node, place))),
    λ _. ap₂ new.struck e e' ∙ strikes.here,
  )

  listed_more : (n i : ℕ) → IsStruck places n i → IsStruck (places ++ (node, place) ∷ []) n i
  listed_more n i is = elim is [
    | inl before ↦ inl before
    | inr among ↦ inr (Contains-append_left places ((node, place) ∷ []) (n, i) among)
  ]

  listed_less : (n i : ℕ) → (n ≡ node → i ≡ place → ⊥) → IsStruck (places ++ (node, place) ∷ []) n i →
      IsStruck places n i
  listed_less n i other is = elim is [
    | inl before ↦ inl before
    | inr among ↦ elim (Contains-push_cases places (node, place) (n, i) among) [
      | inl earlier ↦ inr earlier
      | inr same ↦ absurd (other (sym (ap (λ (pair : ℕ × ℕ). pair.0) same))
          (sym (ap (λ (pair : ℕ × ℕ). pair.1) same)))
    ]
  ]

  -- any other is where it was
  other_struck : (n i : ℕ) → (n ≡ node → i ≡ place → ⊥) →
      (new.struck n i ≡ true) ↔ IsStruck (places ++ (node, place) ∷ []) n i
  other_struck n i other = (
    λ on. listed_more n i ((were.struck n i).0 (sym (strikes.others n i other) ∙ on)),
    λ is. strikes.others n i other ∙ (were.struck n i).1 (listed_less n i other is),
  )

  pub strikes_one : StrikesAll (places ++ (node, place) ∷ []) first new
  strikes_one = record {
    kinds = strikes.kinds ∙ were.kinds;
    parts = strikes.parts ∙ were.parts;
    leaf = λ n. strikes.leaf n ∙ were.leaf n;
    asserted = λ n. strikes.asserted n ∙ were.asserted n;
    struck = λ n i. elim (cases_eq n node) [
      | inl e ↦ elim (cases_eq i place) [
        | inl e' ↦ here_struck n i e e'
        | inr other ↦ other_struck n i (λ _ same. other same)
      ]
      | inr other ↦ other_struck n i (λ same _. other same)
    ];
  }

-- the list as far as it has come, with the next of its places
pub strikes_more : (places : List (ℕ × ℕ)) (i : ℕ) (d : ℕ × ℕ) (first old new : Given) → i < length places →
    Strikes (get_or places i d).0 (get_or places i d).1 old new → StrikesAll (take i places) first old →
    StrikesAll (take (i + 1) places) first new
strikes_more places i d first old new within strikes were =
    subst (λ (listed : List (ℕ × ℕ)). StrikesAll listed first new) (sym (take_more places i d within))
    (strikes_one (take i places) (get_or places i d).0 (get_or places i d).1 first old new strikes were)

-- ---- the places are there

-- the values of the nodes know each place of a disjunction
has_place : (nodes : List Node) (given : Given) (at : ℕ × ℕ) → given.parts ≡ map parts_in nodes →
    IsPlaceOf nodes at → HasPlace given at.0 at.1
has_place nodes given at parts is =
    let here : parts_of given at.0 ≡ is.parts =
    ap (λ (all : List (List ℕ)). slice_index_or all at.0 []) parts
    ∙ get_or-map parts_in nodes at.0 (Or is.parts) [] (slice_get_within nodes at.0 (Or is.parts) is.is_or)
    ∙ ap parts_in (get_or_from_slice_get nodes at.0 (Or is.parts) (Or is.parts) is.is_or) in
    subst (λ (own : List ℕ). at.1 < length own) (sym here) (slice_get_within is.parts at.1 is.part is.at_place)

pub has_places : (nodes : List Node) (given : Given) (places : List (ℕ × ℕ)) → given.parts ≡ map parts_in nodes →
    All (IsPlaceOf nodes) places → All (λ at. HasPlace given at.0 at.1) places
has_places nodes given places parts are =
    λ k d within. has_place nodes given (get_or places k d) parts (are k d within)
