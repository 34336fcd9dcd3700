-- The lists of terms, each under its place.
use Rattle.std.specs.Prelude.{◌≡◌, ℕ, List, Option, Bool, false, nat_eq}
use Rattle.std.specs.Prelude.{◌&&◌, if◌then◌else◌, Contains, MatchOption, ◌≤◌, length, insert}
use Rattle.graph_classes.specs.declared.place.Place.{Place}
use Rattle.graph_classes.specs.declared.place.Place.TheVariants.{Symbol, Member, Parent}

-- whether the two places are one
abbrev pub same_place : Place → Place → Bool
same_place (Symbol f) (Symbol g) = nat_eq f g
same_place (Member l f) (Member m g) = nat_eq l m && nat_eq f g
same_place (Parent l f i) (Parent m g j) = nat_eq l m && (nat_eq f g && nat_eq i j)
same_place p q = false

-- the lists, with one in place of what stood at the place
abbrev pub with_list : (Place → List ℕ) → Place → List ℕ → Place → List ℕ
with_list lists place list other = if same_place place other then list else lists other

-- the term was put into the list at the place, or it was there already
abbrev pub EntersAt : (Place → List ℕ) → (Place → List ℕ) → Place → ℕ → Option ℕ → Type 0
EntersAt old new place term at = MatchOption at ((new ≡ old) ×
    Contains (old place) term) (λ i. (i ≤ length (old place)) ×
    (new ≡ with_list old place (insert (old place) i term)))
