-- What is built at the start: no clash, nodes and ends one after the other, and a watch with more literals.
use Rattle.std.proofs.Common.{suc, ◌≡◌, ◌⊎◌, inl, inr, ◌↔◌, ℕ, ◌+◌, ◌<◌, ◌≤◌, false, IsTrue, List, ◌∷◌, ◌++◌, length, map, take, All, Contains, refl, sym, ap, subst, ◌∙◌, arith}
use Rattle.std.proofs.lemmas.List.{append_assoc, length-map, length-take-le, take_all}
use Rattle.graph_meaning.specs.declared.done.Done.{Done}
use Rattle.graph_meaning.specs.Same.{Same}
use Rattle.graph_meaning.specs.Standing.{differs_of}
use Rattle.graph_congruence.specs.Clash.{apart_of}
use Rattle.formula_table.specs.declared.node.Node.{Node}
use Rattle.formula_table.specs.declared.node.Node.TheVariants.{Equal, Atom, And, Or, Forall}
use Rattle.formula_table.specs.Node.{children_of}
use Rattle.formula_table.specs.Formulas.{Formulas, IsFormulaTable}
use Rattle.formula_value.specs.Holds.{HasNode}
use Rattle.search_board.specs.declared.kind.Kind.{Kind}
use Rattle.search_values.specs.Given.{Given}
use Rattle.search_values.specs.Changes.{EntersNode}
use Rattle.search_watch.specs.declared.watch.Watch.{Watch}
use Rattle.search_watch.specs.Literals.{Clashes}
use Rattle.search_watch.specs.Service.{Serves, ServesNow, HasClash, service}
use Rattle.search_branch.specs.Given.{kind_in, parts_in, ends_in, ends_of}
use Rattle.search_branch.specs.Grown.{ComesBehind}
use Rattle.search_branch.proofs.BuildLemmas.{one_behind, ends_more}

-- ---- no clash

later : (x y : ℕ × ℕ) (xs : List (ℕ × ℕ)) → Contains xs y → Contains (x ∷ xs) y
later x y xs (k, lt, e) = (suc k, omega (arith, lt), e)

-- where no terms that are kept apart are equal, there is no clash
no_clash : (standing : List Done) → ((s t : ℕ) → Contains (apart_of standing) (s, t) → Same standing s t → ⊥) →
    Same standing 0 1 ⊎ Clashes (Same standing) (differs_of standing) → ⊥
no_clash standing none (inl same) = none 0 1 (0, omega arith, refl) same
no_clash standing none (inr (a, b, within, same)) = none a b (later (0, 1) (a, b) (differs_of standing) within) same

pub not_lost : (standing : List Done) → ((s t : ℕ) → Contains (apart_of standing) (s, t) → Same standing s t → ⊥) →
    IsTrue false ↔ HasClash standing
not_lost standing none = (λ (e : IsTrue false). cc, λ clash. absurd (no_clash standing none clash))

-- ---- nodes

-- no node came yet
pub none_behind : (nodes : List Node) (first : ℕ) (given : Given) → first ≤ length nodes →
    given.kinds ≡ map kind_in (take first nodes) → given.parts ≡ map parts_in (take first nodes) →
    ComesBehind (take first nodes) first given given
none_behind nodes first given within kinds parts =
    let count = length-take-le first nodes within in
    record {
      kinds = kinds;
      parts = parts;
      leaf = λ n less. refl;
      asserted = λ n less. refl;
      struck = λ n place less. refl;
      later_leaf = λ n after stands. absurd (omega (arith, count, after, stands));
      later_asserted = λ n after stands. absurd (omega (arith, count, after, stands));
      later_struck = λ n place after stands. absurd (omega (arith, count, after, stands));
    }

-- all came
pub all_behind : (nodes : List Node) (first count : ℕ) (old new : Given) → count ≡ length nodes →
    ComesBehind (take count nodes) first old new → ComesBehind nodes first old new
all_behind nodes first count old new many behind =
    subst (λ (all : List Node). ComesBehind all first old new) (take_all count nodes (omega (arith, many))) behind

-- there are so many nodes
pub so_many : (nodes : List Node) (first i : ℕ) (start given : Given) → i ≤ length nodes →
    ComesBehind (take i nodes) first start given → length given.kinds ≡ i
so_many nodes first i start given within behind =
    ap length behind.kinds ∙ length-map (take i nodes) kind_in ∙ length-take-le i nodes within

-- the parts of a node are before it, where its children are
earlier_parts : (n : ℕ) (node : Node) → All (λ part. part < n) (children_of node) →
    All (λ part. part < n) (parts_in node)
earlier_parts n (Equal positive s t) earlier = λ k d stands. absurd (omega (arith, stands))
earlier_parts n (Atom positive term) earlier = λ k d stands. absurd (omega (arith, stands))
earlier_parts n (And parts) earlier = earlier
earlier_parts n (Or parts) earlier = earlier
earlier_parts n (Forall forall) earlier = λ k d stands. absurd (omega (arith, stands))

-- the parts of a node of a table come before it
pub parts_stand : (table : Formulas) (n : ℕ) (node : Node) (parts : List ℕ) (kinds : List Kind) →
    IsFormulaTable table → HasNode table.nodes n node → parts ≡ parts_in node → length kinds ≡ n →
    All (λ part. part < length kinds) parts
parts_stand table n node parts kinds rules has same many =
    subst (λ (count : ℕ). All (λ part. part < count) parts) (sym many)
    (subst (λ (ps : List ℕ). All (λ part. part < n) ps) (sym same)
    (earlier_parts n node (rules.earlier n node has)))

-- one node more, of this kind and over these parts
pub next_behind : (nodes : List Node) (first i : ℕ) (node : Node) (kind : Kind) (parts : List ℕ)
    (start old new : Given) → first ≤ i → HasNode nodes i node → kind ≡ kind_in node → parts ≡ parts_in node →
    EntersNode kind parts old new → ComesBehind (take i nodes) first start old →
    ComesBehind (take (i + 1) nodes) first start new
next_behind nodes first i node kind parts start old new from has same_kind same_parts enters behind =
    one_behind nodes first i node start old new from has
    (subst (λ (k : Kind). EntersNode k (parts_in node) old new) same_kind
    (subst (λ (ps : List ℕ). EntersNode kind ps old new) same_parts enters)) behind

-- ---- the watch

-- the watch serves with any greater bound
pub serves_up_to : (standing : List Done) (ends : List (ℕ × ℕ)) (bound more : ℕ) (watch : Watch) → bound ≤ more →
    Serves (service standing ends bound) watch → Serves (service standing ends more) watch
serves_up_to standing ends bound more watch below serves = record {
  watched = serves.watched;
  literals = λ slot item within.
      let lt = serves.literals slot item within in
      omega (arith, below, lt);
  differs = serves.differs;
  terms = serves.terms;
  ends_stand = serves.ends_stand;
}

-- where the one watch serves, the other does with these ends of a literal
abbrev pub AddsEnds : List Done → ℕ → List (ℕ × ℕ) → Watch → Watch → Type 0
AddsEnds standing n more old new = (ends : List (ℕ × ℕ)) (bound : ℕ) → Serves (service standing ends bound) old →
    n < bound → Serves (service standing (ends ++ more) bound) new

pub still_serves : (standing : List Done) (n : ℕ) (more : List (ℕ × ℕ)) (old new : Watch) →
    AddsEnds standing n more old new → ServesNow standing old → ServesNow standing new
still_serves standing n more old new adds (ends, bound, serves) = (
  ends ++ more,
  bound + n + 1,
  adds ends (bound + n + 1)
      (serves_up_to standing ends bound (bound + n + 1) old (omega arith) serves) (omega arith),
)

-- some ends and then others
pub both_ends : (standing : List Done) (n : ℕ) (first second : List (ℕ × ℕ)) (old mid new : Watch) →
    AddsEnds standing n first old mid → AddsEnds standing n second mid new →
    AddsEnds standing n (first ++ second) old new
both_ends standing n first second old mid new adds_first adds_second = λ ends bound serves within.
    subst (λ (all : List (ℕ × ℕ)). Serves (service standing all bound) new) (append_assoc ends first second)
    (adds_second (ends ++ first) bound (adds_first ends bound serves within) within)

-- the ends of a node, which is this one
pub ends_are : (standing : List Done) (n : ℕ) (node is : Node) (old new : Watch) → node ≡ is →
    AddsEnds standing n (ends_in n is) old new → AddsEnds standing n (ends_in n node) old new
ends_are standing n node is old new same adds =
    subst (λ (m : Node). AddsEnds standing n (ends_in n m) old new) (sym same) adds

-- the watch with the ends of one node more
pub watch_more : (standing seen : List Done) (nodes : List Node) (i : ℕ) (node : Node) (old new : Watch) →
    seen ≡ standing → HasNode nodes i node → i < length nodes → AddsEnds seen i (ends_in i node) old new →
    Serves (service standing (ends_of 0 (take i nodes)) (length nodes)) old →
    Serves (service standing (ends_of 0 (take (i + 1) nodes)) (length nodes)) new
watch_more standing seen nodes i node old new same has within adds serves =
    let adds' = subst (λ (st : List Done). AddsEnds st i (ends_in i node) old new) same adds in
    subst (λ (ends : List (ℕ × ℕ)). Serves (service standing ends (length nodes)) new)
    (sym (ends_more nodes i node has))
    (adds' (ends_of 0 (take i nodes)) (length nodes) serves within)
