-- Foralls among asserted nodes, and their values.
use Rattle.std.proofs.Common.{zero, suc, ◌≡◌, ℕ, Bool, true, false, List, [], ◌∷◌, slice_get, Option, Some, None}
use Rattle.std.proofs.Common.{Contains, refl, sym, ap, subst, ◌∙◌, arith}
use Rattle.std.specs.List.{cons_option}
use Rattle.std.specs.Option.{option_map_or}
use Rattle.formula_table.specs.declared.node.Node.{Node}
use Rattle.formula_table.specs.declared.node.Node.TheVariants.{Equal, Atom, And, Or, Forall}
use Rattle.formula_truth.specs.declared.truth.Truth.TheVariants.{Yes, No}
use Rattle.formula_value.specs.Holds.{HasNode}
use Rattle.search_laws.specs.Branch.{forall_in, foralls_among}
use Rattle.search_branch.specs.Given.{forall_truth}

-- ---- the value of a forall

pub yes_is_asserted : (flag : Bool) → forall_truth flag ≡ Yes → flag ≡ true
yes_is_asserted true e = refl
yes_is_asserted false e = cc

pub never_no : (flag : Bool) → forall_truth flag ≡ No → ⊥
never_no true e = cc
never_no false e = cc

-- ---- the foralls among nodes

-- an element of a list is one with perhaps one more before it
still_there : (o : Option ℕ) (ys : List ℕ) (y : ℕ) → Contains ys y → Contains (cons_option o ys) y
still_there None ys y among = among
still_there (Some w) ys y (k, lt, e) = (suc k, omega (arith, lt), e)

there_first : (o : Option ℕ) (ys : List ℕ) (y : ℕ) → o ≡ Some y → Contains (cons_option o ys) y
there_first None ys y e = cc
there_first (Some w) ys y e = let same : w ≡ y = cc in (0, omega arith, same)

-- the forall of a node that is one
the_forall : (nodes : List Node) (n forall : ℕ) → HasNode nodes n (Forall forall) →
    option_map_or forall_in (slice_get nodes n) None ≡ Some forall
the_forall nodes n forall has = ap (λ (node : Option Node). option_map_or forall_in node None) has

its_node : (node : Option Node) (forall : ℕ) → option_map_or forall_in node None ≡ Some forall →
    node ≡ Some (Forall forall)
its_node None forall e = cc
its_node (Some (Equal positive left right)) forall e = cc
its_node (Some (Atom positive term)) forall e = cc
its_node (Some (And parts)) forall e = cc
its_node (Some (Or parts)) forall e = cc
its_node (Some (Forall other)) forall e =
    let same : other ≡ forall = cc in ap (λ (n : ℕ). Some (Forall n)) same

-- the forall of a node among these is among their foralls
pub among_to : (nodes : List Node) (ns : List ℕ) (n forall : ℕ) → Contains ns n → HasNode nodes n (Forall forall) →
    Contains (foralls_among nodes ns) forall
among_to nodes [] n forall (k, lt, e) has = absurd (omega (arith, lt))
among_to nodes (m ∷ ns) n forall (zero, lt, e) has =
    there_first (option_map_or forall_in (slice_get nodes m) None) (foralls_among nodes ns) forall
    (the_forall nodes m forall (subst (λ (k : ℕ). HasNode nodes k (Forall forall)) (sym e) has))
among_to nodes (m ∷ ns) n forall (suc k, lt, e) has =
    still_there (option_map_or forall_in (slice_get nodes m) None) (foralls_among nodes ns) forall
    (among_to nodes ns n forall (k, omega (arith, lt), e) has)

-- and one that is among their foralls is that of a node among these
from_first : (nodes : List Node) (m : ℕ) (ns : List ℕ) (o : Option ℕ) (ys : List ℕ) (forall : ℕ) →
    option_map_or forall_in (slice_get nodes m) None ≡ o →
    (Contains ys forall → (n : ℕ) × Contains ns n × HasNode nodes n (Forall forall)) →
    Contains (cons_option o ys) forall → (n : ℕ) × Contains (m ∷ ns) n × HasNode nodes n (Forall forall)
from_first nodes m ns None ys forall is later among =
    let found = later among in
    (found.0, (suc found.1.0, omega (arith, found.1.1), found.1.2), found.2)
from_first nodes m ns (Some w) ys forall is later (zero, lt, e) =
    (m, (0, omega arith, refl), its_node (slice_get nodes m) forall (is ∙ ap Some e))
from_first nodes m ns (Some w) ys forall is later (suc k, lt, e) =
    let found = later (k, omega (arith, lt), e) in
    (found.0, (suc found.1.0, omega (arith, found.1.1), found.1.2), found.2)

pub among_from : (nodes : List Node) (ns : List ℕ) (forall : ℕ) → Contains (foralls_among nodes ns) forall →
    (n : ℕ) × Contains ns n × HasNode nodes n (Forall forall)
among_from nodes [] forall (k, lt, e) = absurd (omega (arith, lt))
among_from nodes (m ∷ ns) forall among =
    from_first nodes m ns (option_map_or forall_in (slice_get nodes m) None) (foralls_among nodes ns) forall refl
    (among_from nodes ns forall) among
