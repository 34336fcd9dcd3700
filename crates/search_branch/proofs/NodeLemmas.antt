-- The nodes that are given are those of the table.
use Rattle.std.proofs.Common.{zero, suc, ◌≡◌, ℕ, ◌<◌, true, List, [], ◌∷◌, length, slice_index_or, Some}
use Rattle.std.proofs.Common.{All, Contains, refl, sym, ap, subst, ◌∙◌, arith}
use Rattle.std.proofs.lemmas.Option.{slice_get-get_or, slice_get_within, get_or_from_slice_get}
use Rattle.std.proofs.lemmas.List.{get_or-map, length-map}
use Rattle.formula_table.specs.declared.node.Node.{Node}
use Rattle.formula_table.specs.declared.node.Node.TheVariants.{Equal, Atom, And, Or, Forall}
use Rattle.formula_table.specs.Node.{children_of}
use Rattle.formula_table.specs.Formulas.{Formulas, IsFormulaTable}
use Rattle.formula_value.specs.Holds.{HasNode}
use Rattle.formula_assert.specs.Held.{Held}
use Rattle.search_board.specs.declared.kind.Kind.{Kind}
use Rattle.search_board.specs.declared.kind.Kind.TheVariants.{Leaf as LeafKind, And as AndKind, Or as OrKind}
use Rattle.search_values.specs.Given.{Given, HasPlace, kind_of, parts_of, part_of}
use Rattle.search_branch.specs.Given.{IsGivenBy, kind_in, parts_in}

-- what is among a list of numbers stands at a place of it
pub place_of : (parts : List ℕ) (part : ℕ) → Contains parts part →
    (i : ℕ) × (i < length parts) × (slice_index_or parts i 0 ≡ part)
place_of parts part among = (
  among.0,
  among.1,
  get_or_from_slice_get parts among.0 part 0 (slice_get-get_or parts among.0 part among.1 ∙ ap Some among.2),
)

-- a number that has a connective stands
and_within : (kinds : List Kind) (n : ℕ) → slice_index_or kinds n LeafKind ≡ AndKind → n < length kinds
and_within [] n e = cc
and_within (kind ∷ kinds) zero e = omega arith
and_within (kind ∷ kinds) (suc n) e = omega (arith, and_within kinds n e)

or_within : (kinds : List Kind) (n : ℕ) → slice_index_or kinds n LeafKind ≡ OrKind → n < length kinds
or_within [] n e = cc
or_within (kind ∷ kinds) zero e = omega arith
or_within (kind ∷ kinds) (suc n) e = omega (arith, or_within kinds n e)

-- a node of the kind of conjunctions is one, and one of the kind of disjunctions
and_is : (node : Node) → kind_in node ≡ AndKind → node ≡ And (parts_in node)
and_is (Equal positive s t) e = cc
and_is (Atom positive term) e = cc
and_is (And parts) e = refl
and_is (Or parts) e = cc
and_is (Forall forall) e = cc

or_is : (node : Node) → kind_in node ≡ OrKind → node ≡ Or (parts_in node)
or_is (Equal positive s t) e = cc
or_is (Atom positive term) e = cc
or_is (And parts) e = cc
or_is (Or parts) e = refl
or_is (Forall forall) e = cc

same_children : (node : Node) → children_of node ≡ parts_in node
same_children (Equal positive s t) = refl
same_children (Atom positive term) = refl
same_children (And parts) = refl
same_children (Or parts) = refl
same_children (Forall forall) = refl

module _ (formulas : Formulas) (now : Held) (struck : List (ℕ × ℕ)) (given : Given)
    (is : IsGivenBy formulas now struck given) where
  pub kind_is : (n : ℕ) (node : Node) → HasNode formulas.nodes n node → kind_of given n ≡ kind_in node
  kind_is n node has = ap (λ (kinds : List Kind). slice_index_or kinds n LeafKind) is.kinds
      ∙ get_or-map kind_in formulas.nodes n node LeafKind (slice_get_within formulas.nodes n node has)
      ∙ ap kind_in (get_or_from_slice_get formulas.nodes n node node has)

  pub parts_is : (n : ℕ) (node : Node) → HasNode formulas.nodes n node → parts_of given n ≡ parts_in node
  parts_is n node has = ap (λ (parts : List (List ℕ)). slice_index_or parts n []) is.parts
      ∙ get_or-map parts_in formulas.nodes n node [] (slice_get_within formulas.nodes n node has)
      ∙ ap parts_in (get_or_from_slice_get formulas.nodes n node node has)

  -- each number below the number of nodes is a node's
  pub node_at : (n : ℕ) → n < length formulas.nodes → (node : Node) × HasNode formulas.nodes n node
  node_at n within = (
    slice_index_or formulas.nodes n (Atom true 0),
    slice_get-get_or formulas.nodes n (Atom true 0) within,
  )

  nodes_are : length given.kinds ≡ length formulas.nodes
  nodes_are = ap length is.kinds ∙ length-map formulas.nodes kind_in

  -- a connective stands, with its parts
  pub and_stands : (n : ℕ) → kind_of given n ≡ AndKind → n < length formulas.nodes
  and_stands n is_and = let within = and_within given.kinds n is_and in omega (arith, within, nodes_are)

  pub or_stands : (n : ℕ) → kind_of given n ≡ OrKind → n < length formulas.nodes
  or_stands n is_or = let within = or_within given.kinds n is_or in omega (arith, within, nodes_are)

  pub and_has : (n : ℕ) → kind_of given n ≡ AndKind → HasNode formulas.nodes n (And (parts_of given n))
  and_has n is_and =
      let node = node_at n (and_stands n is_and) in
      let same = and_is node.0 (sym (kind_is n node.0 node.1) ∙ is_and) in
      node.1 ∙ ap Some (same ∙ ap And (sym (parts_is n node.0 node.1)))

  pub or_has : (n : ℕ) → kind_of given n ≡ OrKind → HasNode formulas.nodes n (Or (parts_of given n))
  or_has n is_or =
      let node = node_at n (or_stands n is_or) in
      let same = or_is node.0 (sym (kind_is n node.0 node.1) ∙ is_or) in
      node.1 ∙ ap Some (same ∙ ap Or (sym (parts_is n node.0 node.1)))

  module _ (table : IsFormulaTable formulas) where
    -- the part at a place stands
    pub part_stands : (n i : ℕ) → n < length formulas.nodes → HasPlace given n i →
        part_of given n i < length formulas.nodes
    part_stands n i within place =
        let node = node_at n within in
        let parts = same_children node.0 ∙ sym (parts_is n node.0 node.1) in
        let earlier = subst (λ (parts : List ℕ). All (λ part. part < n) parts) parts (table.earlier n node.0 node.1) in
        let less : part_of given n i < n = earlier i 0 place in
        omega (arith, less, within)
