-- The nodes and the ends of a table, one node after the other.
use Rattle.std.proofs.Common.{zero, suc, ◌≡◌, inl, inr, ℕ, ◌+◌, ◌<◌, ◌≤◌, false, List, [], ◌∷◌, ◌++◌, length, map, take, Contains, sym, ap, subst, ◌∙◌, arith}
use Rattle.std.proofs.lemmas.Bool.{cases_eq}
use Rattle.std.proofs.lemmas.Option.{slice_get_within, get_or_from_slice_get, same_Some}
use Rattle.std.proofs.lemmas.List.{map_more, append_assoc, append-nil, length-map, length-take-le}
use Rattle.std.proofs.lemmas.List.Elements.{Contains-append_left, Contains-append_right}
use Rattle.formula_table.specs.declared.node.Node.{Node}
use Rattle.formula_truth.specs.declared.truth.Truth.TheVariants.{Unset}
use Rattle.formula_value.specs.Holds.{HasNode}
use Rattle.search_board.specs.declared.kind.Kind.{Kind}
use Rattle.search_values.specs.Given.{Given}
use Rattle.search_values.specs.Changes.{EntersNode}
use Rattle.search_branch.specs.Given.{kind_in, parts_in, ends_in, ends_of}
use Rattle.search_branch.specs.Grown.{ComesBehind}

-- one node more
pub one_behind : (nodes : List Node) (first i : ℕ) (node : Node) (start old new : Given) → first ≤ i →
    HasNode nodes i node → EntersNode (kind_in node) (parts_in node) old new →
    ComesBehind (take i nodes) first start old → ComesBehind (take (i + 1) nodes) first start new
one_behind nodes first i node start old new from has enters behind = record {
  kinds = enters.kinds ∙ ap (λ (ks : List Kind). ks ++ kind_in node ∷ []) behind.kinds ∙ sym (longer kind_in);
  parts = enters.parts_are ∙ ap (λ (ps : List (List ℕ)). ps ++ parts_in node ∷ []) behind.parts ∙
      sym (longer parts_in);
  leaf = λ n less. enters.leaf n (omega (arith, less, from, many)) ∙ behind.leaf n less;
  asserted = λ n less. enters.asserted n ∙ behind.asserted n less;
  struck = λ n place less. enters.struck n place (omega (arith, less, from, many)) ∙ behind.struck n place less;
  later_leaf = λ n after stands. leaf n after stands;
  later_asserted = λ n after stands. asserted n after stands;
  later_struck = λ n place after stands. struck n place after stands;
}
  where
    within : i < length nodes
    within = slice_get_within nodes i node has

    longer : {X : Type 0} (f : Node → X) → map f (take (i + 1) nodes) ≡ map f (take i nodes) ++ f node ∷ []
    longer f = map_more f nodes i node within ∙
        ap (λ (m : Node). map f (take i nodes) ++ f m ∷ []) (get_or_from_slice_get nodes i node node has)

    many : length old.kinds ≡ i
    many = ap length behind.kinds ∙ length-map (take i nodes) kind_in ∙ length-take-le i nodes (omega (arith, within))

    count : length (take i nodes) ≡ i
    count = length-take-le i nodes (omega (arith, within))

    count_more : length (take (i + 1) nodes) ≡ i + 1
    count_more = length-take-le (i + 1) nodes (omega (arith, within))

    leaf : (n : ℕ) → first ≤ n → n < length (take (i + 1) nodes) → new.leaf n ≡ Unset
    leaf n after stands = elim (cases_eq n (length old.kinds)) [
      | inl last ↦ ap new.leaf last ∙ enters.leaf_here
      | inr other ↦ enters.leaf n (omega (arith, many, count_more)) ∙
          behind.later_leaf n after (omega (arith, many, count, count_more))
    ]

    asserted : (n : ℕ) → first ≤ n → n < length (take (i + 1) nodes) → new.asserted n ≡ false
    asserted n after stands = elim (cases_eq n (length old.kinds)) [
      | inl last ↦ ap new.asserted last ∙ enters.asserted_here
      | inr other ↦ enters.asserted n ∙ behind.later_asserted n after (omega (arith, many, count, count_more))
    ]

    struck : (n place : ℕ) → first ≤ n → n < length (take (i + 1) nodes) → new.struck n place ≡ false
    struck n place after stands = elim (cases_eq n (length old.kinds)) [
      | inl last ↦ ap (λ (m : ℕ). new.struck m place) last ∙ enters.struck_here place
      | inr other ↦ enters.struck n place (omega (arith, many, count_more)) ∙
          behind.later_struck n place after (omega (arith, many, count, count_more))
    ]

-- ---- ends

-- the ends of some nodes and one more
ends_from_on : (start : ℕ) (nodes : List Node) (i n : ℕ) (node : Node) → HasNode nodes i node → start + i ≡ n →
    ends_of start (take (i + 1) nodes) ≡ ends_of start (take i nodes) ++ ends_in n node
ends_from_on start [] i n node has e = cc
ends_from_on start (m ∷ nodes) zero n node has e =
    let same : m ≡ node = same_Some m node has in
    let at : start ≡ n = omega arith in
    append-nil (ends_in start m) ∙ ap (λ (k : ℕ). ends_in k m) at ∙ ap (ends_in n) same
ends_from_on start (m ∷ nodes) (suc i) n node has e =
    let rest = ends_from_on (start + 1) nodes i n node has (omega arith) in
    let again : suc i + 1 ≡ suc (i + 1) = omega arith in
    rw again
    (ap (λ (ends : List (ℕ × ℕ)). ends_in start m ++ ends) rest ∙
    sym (append_assoc (ends_in start m) (ends_of (start + 1) (take i nodes)) (ends_in n node)))

pub ends_more : (nodes : List Node) (i : ℕ) (node : Node) → HasNode nodes i node →
    ends_of 0 (take (i + 1) nodes) ≡ ends_of 0 (take i nodes) ++ ends_in i node
ends_more nodes i node has = ends_from_on 0 nodes i i node has (omega arith)

-- what a node ends is among the ends of all
ends_within : (start : ℕ) (nodes : List Node) (i n : ℕ) (node : Node) (pair : ℕ × ℕ) → HasNode nodes i node →
    start + i ≡ n → Contains (ends_in n node) pair → Contains (ends_of start nodes) pair
ends_within start [] i n node pair has e within = cc
ends_within start (m ∷ nodes) zero n node pair has e within =
    let same : m ≡ node = same_Some m node has in
    let at : start ≡ n = omega arith in
    Contains-append_left (ends_in start m) (ends_of (start + 1) nodes) pair
    (subst (λ (ends : List (ℕ × ℕ)). Contains ends pair)
    (sym (ap (λ (k : ℕ). ends_in k m) at ∙ ap (ends_in n) same)) within)
ends_within start (m ∷ nodes) (suc i) n node pair has e within =
    Contains-append_right (ends_in start m) (ends_of (start + 1) nodes) pair
    (ends_within (start + 1) nodes i n node pair has (omega arith) within)

pub ends_on : (nodes : List Node) (n : ℕ) (node : Node) (pair : ℕ × ℕ) → HasNode nodes n node →
    Contains (ends_in n node) pair → Contains (ends_of 0 nodes) pair
ends_on nodes n node pair has within = ends_within 0 nodes n n node pair has (omega arith) within
