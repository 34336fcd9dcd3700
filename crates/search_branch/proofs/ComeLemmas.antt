-- What came is followed by the values of a branch.
use Rattle.std.proofs.Common.{◌≡◌, ◌↔◌, inl, inr, ℕ, ◌<◌, true, false, IsTrue, List, [], ◌∷◌, ◌++◌, length, map, take}
use Rattle.std.proofs.Common.{slice_index_or, slice_get, Some, Result, Ok, Err, All, Contains, sym, ap, ap₂, subst}
use Rattle.std.proofs.Common.{◌∙◌, arith}
use Rattle.std.specs.Prelude.{OnOk}
use Rattle.std.proofs.lemmas.Bool.{cases_eq}
use Rattle.std.proofs.lemmas.Option.{slice_get_within, get_or_from_slice_get}
use Rattle.std.proofs.lemmas.List.{length-map, take-append-le, take_all}
use Rattle.std.proofs.lemmas.List.Elements.{Contains-append_left, Contains-push, Contains-push_cases}
use Rattle.graph_meaning.specs.declared.done.Done.{Done}
use Rattle.graph_meaning.specs.declared.union.Union.{Union}
use Rattle.graph_meaning.specs.Standing.{terms_of, differs_of}
use Rattle.graph_meaning.specs.Unions.{ListsUnions}
use Rattle.formula_table.specs.declared.node.Node.{Node}
use Rattle.formula_table.specs.declared.node.Node.TheVariants.{Or}
use Rattle.formula_table.specs.Formulas.{Formulas, IsFormulaTable}
use Rattle.formula_truth.specs.declared.truth.Truth.{Truth}
use Rattle.formula_value.specs.Holds.{HasNode}
use Rattle.formula_assert.specs.Assertions.{Assertions, held_of}
use Rattle.formula_assert.specs.InLevel.{HoldsMoreOver}
use Rattle.formula_assert.specs.News.{ListsMore}
use Rattle.search_values.specs.Given.{HasPlace}
use Rattle.search_values.specs.Changes.{Strikes}
use Rattle.search_values.specs.Kept.{given_of}
use Rattle.search_watch.specs.declared.watch.Watch.{Watch}
use Rattle.search_watch.specs.Back.{CanGoBack}
use Rattle.search_watch.specs.Service.{Service, Serves, ServesNow, HasClash, FindsChanges, service, where_stands}
use Rattle.search_watch.specs.Follow.{IsBehind}
use Rattle.search_branch.specs.declared.branch_values.BranchValues.{BranchValues}
use Rattle.search_branch.specs.Given.{IsGivenBy, IsLeafTruth, AreForallValues, forall_truth}
use Rattle.search_branch.specs.Given.{ends_of, kind_in, parts_in}
use Rattle.search_branch.specs.Right.{AreCurrent, AreValuesOf}
use Rattle.search_branch.specs.Levels.{IsLevelOver}
use Rattle.search_branch.specs.Told.{AreToldBut, AreAsserted, TellsAll, HasCome}
use Rattle.search_branch.proofs.NodeLemmas.{parts_is}
use Rattle.search_branch.proofs.FollowLemmas.{found_told}

-- the literals of the formulas, over what stands
abbrev pub served : Assertions → Service
served now = service now.graph.standing (ends_of 0 now.formulas.nodes) (length now.formulas.nodes)

-- the level is the innermost one still
pub level_stays : (before old new : BranchValues) → IsLevelOver before old →
    new.values.parts ≡ old.values.parts → new.values.saved ≡ old.values.saved →
    new.marks.items ≡ old.marks.items → CanGoBack before.watch new.watch → IsLevelOver before new
level_stays before old new over parts saved marks back = record {
  each = over.each;
  more = over.more;
  parts = parts ∙ over.parts;
  saved = saved ∙ over.saved;
  mark = over.mark;
  marks = marks ∙ over.marks;
  is_mark = over.is_mark;
  back = back;
}

-- ---- what came is followed

module _ (was now : Assertions) (unions : List Union) (asserted differs : ℕ)
    (come : HasCome was now unions asserted differs) (struck : List (ℕ × ℕ)) (old : BranchValues)
    (calm : old.lost ≡ false) (right : AreValuesOf was struck old) (standing : List Done)
    (same : standing ≡ now.graph.standing) where
  current : AreCurrent was.formulas (held_of was) struck old
  current = right.current calm

  same_nodes : now.formulas.nodes ≡ was.formulas.nodes
  same_nodes = ap (λ (formulas : Formulas). formulas.nodes) come.formulas

  -- there was no clash
  no_clash : HasClash was.graph.standing → ⊥
  no_clash clash = let e : false ≡ true = sym calm ∙ right.lost.1 clash in cc e

  -- the watch is behind by what came
  pub behind : IsBehind (served was) standing unions differs old.watch
  behind = subst (λ (list : List Done). IsBehind (served was) list unions differs old.watch) (sym same) (record {
    serves = current.serves;
    calm = no_clash;
    terms = come.terms;
    unions = come.unions_are;
    differs = come.differs_are;
  })

  -- the nodes are asserted that were
  pub asserted_before : AreAsserted (take asserted now.asserted) (given_of old.values)
  asserted_before n within =
      let nodes = ap length current.given.kinds ∙ length-map was.formulas.nodes kind_in in
      let here : n < length was.formulas.nodes = subst (λ (count : ℕ). n < count) nodes within in
      subst (λ (list : List ℕ). ((given_of old.values).asserted n ≡ true) ↔ Contains list n) (sym come.asserted_are)
      (current.given.asserted n here)

  -- and foralls are Yes just where they are
  pub foralls_before : AreForallValues now.formulas.nodes (given_of old.values)
  foralls_before = subst (λ (nodes : List Node). AreForallValues nodes (given_of old.values)) (sym same_nodes)
      current.given.foralls

  -- what was found stands
  pub found_stands : (start found : List ℕ) → start ≡ [] →
      (All (λ (item : ℕ). item < length was.formulas.nodes) start →
      All (λ (item : ℕ). item < length was.formulas.nodes) found) →
      All (λ (n : ℕ). n < length now.formulas.nodes) found
  found_stands start found none within =
      subst (λ (nodes : List Node). All (λ (n : ℕ). n < length nodes) found) (sym same_nodes)
      (within (λ k d lt. omega (arith, ap length none, lt)))

  -- the watch serves what stands now
  pub serves_still : (watch : Watch) → Serves (where_stands (served was) standing) watch →
      ServesNow now.graph.standing watch
  serves_still watch serves = (
    ends_of 0 was.formulas.nodes,
    length was.formulas.nodes,
    subst (λ (list : List Done). Serves (where_stands (served was) list) watch) same serves,
  )

  -- each leaf is right, or it was found
  pub told_but : (found : List ℕ) → FindsChanges was.graph.standing standing (ends_of 0 was.formulas.nodes) found →
      AreToldBut (Contains found) now.graph.standing now.formulas.nodes (given_of old.values)
  told_but found finds =
      subst (λ (nodes : List Node). AreToldBut (Contains found) now.graph.standing nodes (given_of old.values))
      (sym same_nodes)
      (subst (λ (list : List Done). AreToldBut (Contains found) list was.formulas.nodes (given_of old.values)) same
      (found_told was.graph.standing standing was.formulas.nodes found finds (given_of old.values)
      current.given.leaf))

  module _ (new : BranchValues) (says : IsTrue new.lost ↔ HasClash standing) where
    right_where : (new.lost ≡ false → AreCurrent now.formulas (held_of now) struck new) → AreValuesOf now struck new
    right_where are = record {
      table = subst IsFormulaTable (sym come.formulas) right.table;
      lost = subst (λ (list : List Done). IsTrue new.lost ↔ HasClash list) same says;
      current = are;
    }

    -- where there is a clash nothing else is known
    pub right_lost : new.lost ≡ true → AreValuesOf now struck new
    right_lost lost = right_where (λ (none : new.lost ≡ false). let e : true ≡ false = sym lost ∙ none in cc e)

    module _ (serves : Serves (where_stands (served was) standing) new.watch)
        (tells : TellsAll now (given_of old.values) (given_of new.values)) where
      kinds_now : (given_of new.values).kinds ≡ map kind_in now.formulas.nodes
      kinds_now = tells.kinds ∙ current.given.kinds ∙ ap (map kind_in) (sym same_nodes)

      many_now : length (given_of new.values).kinds ≡ length now.formulas.nodes
      many_now = ap length kinds_now ∙ length-map now.formulas.nodes kind_in

      given_now : IsGivenBy now.formulas (held_of now) struck (given_of new.values)
      given_now = record {
        kinds = kinds_now;
        parts = tells.parts ∙ current.given.parts ∙ ap (map parts_in) (sym same_nodes);
        leaf = tells.told;
        foralls = tells.foralls;
        asserted = λ n within. tells.asserted n
            (subst (λ (count : ℕ). n < count) (sym many_now) within);
        struck_are = λ n place within.
            let before = current.given.struck_are n place
            (subst (λ (nodes : List Node). n < length nodes) same_nodes within) in
            (λ on. before.0 (sym (tells.struck n place) ∙ on), λ on. tells.struck n place ∙ before.1 on);
      }

      serves_now : (nodes : List Node) → nodes ≡ was.formulas.nodes →
          Serves (service now.graph.standing (ends_of 0 nodes) (length nodes)) new.watch
      serves_now nodes e =
          subst (λ (nodes : List Node). Serves (service now.graph.standing (ends_of 0 nodes) (length nodes)) new.watch)
          (sym e)
          (subst (λ (list : List Done). Serves (where_stands (served was) list) new.watch) same serves)

      -- the values are right for what stands now
      pub right_now : AreValuesOf now struck new
      right_now = right_where (λ _. record {
        given = given_now;
        serves = serves_now now.formulas.nodes same_nodes;
      })

-- ---- what comes of an assertion

module _ {X : Type 0} where
  -- the front of a list that grew is the list
  pub front_of : (xs more all : List X) (count : ℕ) → all ≡ xs ++ more → count ≡ length xs → take count all ≡ xs
  front_of xs more all count is e =
      ap₂ (λ (k : ℕ) (ys : List X). take k ys) e is ∙ take-append-le (length xs) xs more (omega arith)
      ∙ take_all (length xs) xs (omega arith)

module _ (was now : Assertions) (over : HoldsMoreOver was now) where
  -- what was put last came
  pub has_come : (start unions : List Union) (asserted differs : ℕ) → start ≡ [] →
      ListsMore was.graph.standing now.graph.standing start unions →
      terms_of now.graph.standing ≡ terms_of was.graph.standing →
      (more : List (ℕ × ℕ)) × (differs_of now.graph.standing ≡ differs_of was.graph.standing ++ more) →
      asserted ≡ length was.asserted → differs ≡ length (differs_of was.graph.standing) →
      HasCome was now unions asserted differs
  has_come start unions asserted differs none lists terms further so_many so_many_differ = record {
    formulas = over.formulas_are;
    terms = terms;
    unions_are = subst (ListsUnions was.graph.standing now.graph.standing)
        (sym (lists.put ∙ ap (λ (xs : List Union). xs ++ lists.more) none)) lists.lists;
    differs_are = front_of (differs_of was.graph.standing) further.0 (differs_of now.graph.standing) differs further.1
        so_many_differ;
    asserted_are = front_of was.asserted over.holds_more.more now.asserted asserted over.holds_more.asserted_are
        so_many;
  }

-- what follows of an answer is known where the answer is given
pub where_ok : {U E P Q : Type 0} (result : Result U E) → (P → Q) → OnOk result P → OnOk result Q
where_ok (Ok value) gives is = gives is
where_ok (Err fault) gives is = is

-- ---- a place is struck

-- the part at a place of a disjunction stands
pub part_stands_at : (formulas : Formulas) → IsFormulaTable formulas → (node place part : ℕ) (parts : List ℕ) →
    HasNode formulas.nodes node (Or parts) → slice_get parts place ≡ Some part → part < length formulas.nodes
part_stands_at formulas table node place part parts has at =
    let earlier : All (λ (part : ℕ). part < node) parts = table.earlier node (Or parts) has in
    let less = earlier place 0 (slice_get_within parts place part at) in
    let within = slice_get_within formulas.nodes node (Or parts) has in
    omega (arith, less, get_or_from_slice_get parts place part 0 at, within)

-- the values know this place, also once they followed
pub has_place_at : (was : Assertions) (struck : List (ℕ × ℕ)) (old new : BranchValues) → old.lost ≡ false →
    AreValuesOf was struck old → new.values.parts ≡ old.values.parts → (node place part : ℕ)
    (parts : List ℕ) → HasNode was.formulas.nodes node (Or parts) → slice_get parts place ≡ Some part →
    HasPlace (given_of new.values) node place
has_place_at was struck old new calm right same node place part parts has at =
    let given = (right.current calm).given in
    let here = parts_is was.formulas (held_of was) struck (given_of old.values) given node (Or parts) has in
    subst (λ (all : List (List ℕ)). place < length (slice_index_or all node [])) (sym same)
    (subst (λ (own : List ℕ). place < length own) (sym here) (slice_get_within parts place part at))

module _ (now : Assertions) (struck : List (ℕ × ℕ)) (old new : BranchValues) (node place : ℕ)
    (watch : new.watch ≡ old.watch) (lost : new.lost ≡ old.lost)
    (strikes : Strikes node place (given_of old.values) (given_of new.values)) where
  pair_same : (n i : ℕ) → n ≡ node → i ≡ place → ◌≡◌ {A = ℕ × ℕ} (node, place) (n, i)
  pair_same n i e e' =
      let pair : ℕ → ℕ → ℕ × ℕ = λ a b. (a, b) in
      ap₂ pair (sym e) (sym e')

  -- the one place is struck
  here_struck : (n i : ℕ) → n ≡ node → i ≡ place →
      ((given_of new.values).struck n i ≡ true) ↔ Contains (struck ++ (node, place) ∷ []) (n, i)
  here_struck n i e e' = (
    λ _. subst (λ (pair : ℕ × ℕ). Contains (struck ++ (node, place) ∷ []) pair) (pair_same n i e e')
        (Contains-push struck (node, place)),
    λ _. ap₂ (given_of new.values).struck e e' ∙ strikes.here,
  )

  -- any other is where it was
  other_struck : (n i : ℕ) → (n ≡ node → i ≡ place → ⊥) →
      ((given_of old.values).struck n i ≡ true) ↔ Contains struck (n, i) →
      ((given_of new.values).struck n i ≡ true) ↔ Contains (struck ++ (node, place) ∷ []) (n, i)
  other_struck n i other was = (
    λ on. Contains-append_left struck ((node, place) ∷ []) (n, i) (was.0 (sym (strikes.others n i other) ∙ on)),
    λ on. elim (Contains-push_cases struck (node, place) (n, i) on) [
      | inl before ↦ strikes.others n i other ∙ was.1 before
      | inr same ↦ absurd (other (sym (ap (λ (pair : ℕ × ℕ). pair.0) same))
          (sym (ap (λ (pair : ℕ × ℕ). pair.1) same)))
    ],
  )

  is_struck : (n i : ℕ) → ((given_of old.values).struck n i ≡ true) ↔ Contains struck (n, i) →
      ((given_of new.values).struck n i ≡ true) ↔ Contains (struck ++ (node, place) ∷ []) (n, i)
  is_struck n i was = elim (cases_eq n node) [
    | inl e ↦ elim (cases_eq i place) [
      | inl e' ↦ here_struck n i e e'
      | inr other ↦ other_struck n i (λ _ same. other same) was
    ]
    | inr other ↦ other_struck n i (λ same _. other same) was
  ]

  -- the values are those with this place struck too
  pub right_struck : AreValuesOf now struck old → AreValuesOf now (struck ++ (node, place) ∷ []) new
  right_struck right = record {
    table = right.table;
    lost = (λ is. right.lost.0 (sym lost ∙ is), λ clash. lost ∙ right.lost.1 clash);
    current = λ calm.
        let current = right.current (sym lost ∙ calm) in
        record {
          given = record {
            kinds = strikes.kinds ∙ current.given.kinds;
            parts = strikes.parts ∙ current.given.parts;
            leaf = λ n leaf has. subst (λ (truth : Truth). IsLeafTruth now.graph.standing leaf truth)
                (sym (strikes.leaf n)) (current.given.leaf n leaf has);
            foralls = λ n forall has. strikes.leaf n ∙ current.given.foralls n forall has
                ∙ ap forall_truth (sym (strikes.asserted n));
            asserted = λ n within.
                let was = current.given.asserted n within in
                (λ on. was.0 (sym (strikes.asserted n) ∙ on), λ on. strikes.asserted n ∙ was.1 on);
            struck_are = λ n i within. is_struck n i (current.given.struck_are n i within);
          };
          serves = subst (Serves (served now)) (sym watch) current.serves;
        };
  }
