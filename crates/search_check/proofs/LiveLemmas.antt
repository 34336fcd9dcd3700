-- Live foralls among asserted nodes.
use Rattle.std.proofs.Common.{◌≡◌, ◌≢◌, ℕ, ◌+◌, ◌<◌, List, [], ◌∷◌, ◌++◌, length, take, slice_get}
use Rattle.std.proofs.Common.{Option, Some, None, refl, sym, ap, subst, ◌∙◌}
use Rattle.std.specs.List.{filter_map, cons_option}
use Rattle.std.specs.Option.{option_map_or}
use Rattle.std.proofs.lemmas.List.Elements.{filter_map-append}
use Rattle.std.proofs.Common.{get_or}
use Rattle.std.proofs.lemmas.Grind.{take_at_read}
use Rattle.std.proofs.lemmas.Option.{slice_get-get_or}
use Rattle.formula_table.specs.declared.node.Node.{Node}
use Rattle.formula_table.specs.declared.node.Node.TheVariants.{Equal, Atom, And, Or, Forall}
use Rattle.formula_table.specs.Formulas.{Formulas}
use Rattle.search_laws.specs.Branch.{forall_in, foralls_among}
use Rattle.search_check.specs.Live.{IsForall}
use Rattle.search_check.proofs.ElementLemmas.{next_split}

-- a node that is no forall has none
no_forall : (node : Node) → (IsForall node → ⊥) → forall_in node ≡ None
no_forall (Equal positive left right) not = refl
no_forall (Atom positive term) not = refl
no_forall (And parts) not = refl
no_forall (Or parts) not = refl
no_forall (Forall forall) not = absurd (not tt)

-- a forall has one
a_forall : (node : Node) → IsForall node → (forall : ℕ) × (forall_in node ≡ Some forall)
a_forall (Equal positive left right) is = absurd is
a_forall (Atom positive term) is = absurd is
a_forall (And parts) is = absurd is
a_forall (Or parts) is = absurd is
a_forall (Forall forall) is = (forall, refl)

module _ (nodes : List Node) where
  -- the forall that the node with this number is, if it is one
  abbrev forall_at : ℕ → Option ℕ
  forall_at n = option_map_or forall_in (slice_get nodes n) None

  -- with one node more that is none, none is live
  pub none_more : (ns : List ℕ) (n : ℕ) (node : Node) → slice_get nodes n ≡ Some node → (IsForall node → ⊥) →
      foralls_among nodes ns ≡ [] → foralls_among nodes (ns ++ n ∷ []) ≡ []
  none_more ns n node at not none =
      let here : forall_at n ≡ None = ap (λ found. option_map_or forall_in found None) at ∙ no_forall node not in
      filter_map-append forall_at ns (n ∷ []) ∙ ap (λ (list : List ℕ). list ++ filter_map forall_at (n ∷ [])) none
      ∙ ap (λ (found : Option ℕ). cons_option found []) here

  -- a forall among the nodes is live
  pub some_live : (ns rest more : List ℕ) (n : ℕ) (node : Node) → ns ≡ rest ++ n ∷ more → slice_get nodes n ≡ Some node →
      IsForall node → foralls_among nodes ns ≢ []
  some_live ns rest more n node are at is none =
      let one = a_forall node is in
      let here : forall_at n ≡ Some one.0 = ap (λ found. option_map_or forall_in found None) at ∙ one.1 in
      let all : filter_map forall_at rest ++ cons_option (forall_at n) (filter_map forall_at more) ≡ [] =
      sym (filter_map-append forall_at rest (n ∷ more)) ∙ sym (ap (filter_map forall_at) are) ∙ none in
      not_none (filter_map forall_at rest) (filter_map forall_at more) one.0
      (subst (λ (found : Option ℕ). filter_map forall_at rest ++ cons_option found (filter_map forall_at more) ≡ []) here
      all)
    where
      not_none : (xs ys : List ℕ) (x : ℕ) → xs ++ x ∷ ys ≡ [] → ⊥
      not_none [] ys x e = cc
      not_none (y ∷ xs) ys x e = cc

-- the node at a place among the asserted ones
module _ (formulas table : Formulas) (asserted items : List ℕ) (index : ℕ) (node : Node) (same : table ≡ formulas)
    (listed : items ≡ asserted) (less : index < length items)
    (at : slice_get table.nodes (get_or items index 0) ≡ Some node) where
  node_at : slice_get formulas.nodes (get_or items index 0) ≡ Some node
  node_at = subst (λ (all : Formulas). slice_get all.nodes (get_or items index 0) ≡ Some node) same at

  item_at : slice_get asserted index ≡ Some (get_or items index 0)
  item_at = ap (λ (ns : List ℕ). slice_get ns index) (sym listed) ∙ slice_get-get_or items index 0 less

  -- is a forall, and so some forall is live
  pub live_found : IsForall node → foralls_among formulas.nodes asserted ≢ []
  live_found is = let split = next_split asserted index (get_or items index 0) item_at in
      some_live formulas.nodes asserted (take index asserted) split.0 (get_or items index 0) node split.1 node_at is

  -- is none, and none is live so far
  pub none_yet : (IsForall node → ⊥) → foralls_among formulas.nodes (take index asserted) ≡ [] →
      foralls_among formulas.nodes (take (index + 1) asserted) ≡ []
  none_yet not none = subst (λ (ns : List ℕ). foralls_among formulas.nodes (take (index + 1) ns) ≡ []) listed
      (ap (foralls_among formulas.nodes) (take_at_read items index 0 less).1
      ∙ none_more formulas.nodes (take index items) (get_or items index 0) node node_at not
      (subst (λ (ns : List ℕ). foralls_among formulas.nodes (take index ns) ≡ []) (sym listed) none))
