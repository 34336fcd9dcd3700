-- Nodes are asserted, one after the other, and foralls are told of it.
use Rattle.std.proofs.Common.{◌≡◌, inl, inr, ◌↔◌, ℕ, ◌+◌, ◌<◌, ◌≤◌, true, List, []}
use Rattle.std.proofs.Common.{◌∷◌, ◌++◌, length, map, take, get_or, Some}
use Rattle.std.proofs.Common.{Contains, sym, ap, subst, ◌∙◌, arith}
use Rattle.std.proofs.lemmas.Bool.{cases_eq}
use Rattle.std.proofs.lemmas.List.{take_more, take_all}
use Rattle.std.proofs.lemmas.List.Elements.{Contains-append_left, Contains-push, Contains-push_cases}
use Rattle.graph_meaning.specs.declared.done.Done.{Done}
use Rattle.formula_table.specs.declared.node.Node.{Node}
use Rattle.formula_table.specs.declared.node.Node.TheVariants.{Equal, Atom, And, Or, Forall}
use Rattle.formula_truth.specs.declared.truth.Truth.{Truth}
use Rattle.formula_value.specs.Holds.{HasNode}
use Rattle.formula_assert.specs.Assertions.{Assertions}
use Rattle.search_values.specs.Given.{Given}
use Rattle.search_branch.specs.Given.{AreForallValues, IsLeafTruth, forall_truth, kind_in}
use Rattle.search_branch.specs.Told.{KeepsNodes, KeepsLeaves, AssertsNode, AreTold, AreAsserted, TellsAll}

-- ---- one node more

module _ (nodes : List Node) (n : ℕ) (node : Node) (old new : Given) (has : HasNode nodes n node)
    (one : AssertsNode node n old new) where
  leaf_here : new.leaf n ≡ one.tells.truth
  leaf_here = one.asserts.leaf n ∙ one.tells.sets.here

  leaf_there : (m : ℕ) → (m ≡ n → ⊥) → new.leaf m ≡ old.leaf m
  leaf_there m other = one.asserts.leaf m ∙ one.tells.sets.others m other

  asserted_there : (m : ℕ) → (m ≡ n → ⊥) → new.asserted m ≡ old.asserted m
  asserted_there m other = one.asserts.others m other ∙ one.tells.sets.asserted m

  pub kinds_same : new.kinds ≡ old.kinds
  kinds_same = one.asserts.kinds ∙ one.tells.sets.kinds

  -- each forall is Yes where it is asserted still
  pub foralls_more : AreForallValues nodes old → AreForallValues nodes new
  foralls_more were m forall at = elim (cases_eq m n) [
    | inl same ↦ here same
    | inr other ↦ leaf_there m other ∙ were m forall at ∙ ap forall_truth (sym (asserted_there m other))
  ]
    where
      here : m ≡ n → new.leaf m ≡ forall_truth (new.asserted m)
      here same =
          let at_n : HasNode nodes n (Forall forall) =
          subst (λ (k : ℕ). HasNode nodes k (Forall forall)) same at in
          let is : node ≡ Forall forall = cc (has, at_n) in
          ap new.leaf same ∙ leaf_here ∙ one.tells.yes forall is (old.asserted n) (were n forall at_n)
          ∙ ap forall_truth (sym (ap new.asserted same ∙ one.asserts.here))

  -- what is kept is kept
  pub keeps_asserted : (first : Given) → KeepsLeaves nodes first old → KeepsLeaves nodes first new
  keeps_asserted first keeps = record {
    kinds = kinds_same ∙ keeps.kinds;
    parts = one.asserts.parts ∙ one.tells.sets.parts ∙ keeps.parts;
    leaf = λ m none. elim (cases_eq m n) [
      | inl same ↦ here m none same ∙ keeps.leaf m none
      | inr other ↦ leaf_there m other ∙ keeps.leaf m none
    ];
    struck = λ m place. one.asserts.struck m place ∙ one.tells.sets.struck m place ∙ keeps.struck m place;
  }
    where
      here : (m : ℕ) → ((forall : ℕ) → HasNode nodes m (Forall forall) → ⊥) → m ≡ n → new.leaf m ≡ old.leaf m
      here m none same =
          let other : (forall : ℕ) → node ≡ Forall forall → ⊥ = λ forall is.
          none forall (subst (λ (k : ℕ). HasNode nodes k (Forall forall)) (sym same) (has ∙ ap Some is)) in
          ap new.leaf same ∙ leaf_here ∙ one.tells.stays other ∙ ap old.leaf (sym same)

  -- and the nodes are asserted that are on the longer list
  module _ (asserted : List ℕ) (i : ℕ) (within : i < length asserted) (is : n ≡ get_or asserted i n) where
    longer : take (i + 1) asserted ≡ take i asserted ++ n ∷ []
    longer = take_more asserted i n within ∙ ap (λ (k : ℕ). take i asserted ++ k ∷ []) (sym is)

    pub asserted_more : AreAsserted (take i asserted) old → AreAsserted (take (i + 1) asserted) new
    asserted_more were m stands = rw longer (elim (cases_eq m n) [
      | inl same ↦ (
        λ _. subst (λ (k : ℕ). Contains (take i asserted ++ n ∷ []) k) (sym same) (Contains-push (take i asserted) n),
        λ _. ap new.asserted same ∙ one.asserts.here,
      )
      | inr other ↦ there m stands other
    ])
      where
        there : (m : ℕ) → m < length new.kinds → (m ≡ n → ⊥) →
            (new.asserted m ≡ true) ↔ Contains (take i asserted ++ n ∷ []) m
        there m stands other =
            let was = were m (subst (λ (count : ℕ). m < count) (ap length kinds_same) stands) in (
              λ on. Contains-append_left (take i asserted) (n ∷ []) m
                  (was.0 (sym (asserted_there m other) ∙ on)),
              λ listed. elim (Contains-push_cases (take i asserted) n m listed) [
                | inl before ↦ asserted_there m other ∙ was.1 before
                | inr same ↦ absurd (other (sym same))
              ],
            )

-- a number that no node has is passed over
pub asserted_past : (asserted : List ℕ) (i n : ℕ) (given : Given) → i < length asserted → n ≡ get_or asserted i n →
    length given.kinds ≤ n → AreAsserted (take i asserted) given → AreAsserted (take (i + 1) asserted) given
asserted_past asserted i n given within is past were m stands =
    let longer : take (i + 1) asserted ≡ take i asserted ++ n ∷ [] =
    take_more asserted i n within ∙ ap (λ (k : ℕ). take i asserted ++ k ∷ []) (sym is) in
    rw longer (
      λ on. Contains-append_left (take i asserted) (n ∷ []) m ((were m stands).0 on),
      λ listed. elim (Contains-push_cases (take i asserted) n m listed) [
        | inl before ↦ (were m stands).1 before
        | inr same ↦ absurd (omega (arith, same, past, stands))
      ],
    )

-- ---- the list as far as it has come

-- foralls are told, and just these nodes are asserted
pub record AreToldOf (nodes : List Node) (listed : List ℕ) (first given : Given) : Type 0 where
  pub kinds : given.kinds ≡ map kind_in nodes
  pub told : AreAsserted listed given
  pub foralls : AreForallValues nodes given
  pub keeps : KeepsLeaves nodes first given

pub told_one : (nodes : List Node) (asserted : List ℕ) (i n : ℕ) (node : Node) (first old new : Given) →
    i < length asserted → n ≡ get_or asserted i n → HasNode nodes n node → AssertsNode node n old new →
    AreToldOf nodes (take i asserted) first old → AreToldOf nodes (take (i + 1) asserted) first new
told_one nodes asserted i n node first old new within is has one were = record {
  kinds = kinds_same nodes n node old new has one ∙ were.kinds;
  told = asserted_more nodes n node old new has one asserted i within is were.told;
  foralls = foralls_more nodes n node old new has one were.foralls;
  keeps = keeps_asserted nodes n node old new has one first were.keeps;
}

pub told_none : (nodes : List Node) (asserted : List ℕ) (i n : ℕ) (first given : Given) → i < length asserted →
    n ≡ get_or asserted i n → length given.kinds ≤ n → AreToldOf nodes (take i asserted) first given →
    AreToldOf nodes (take (i + 1) asserted) first given
told_none nodes asserted i n first given within is past were = record {
  kinds = were.kinds;
  told = asserted_past asserted i n given within is past were.told;
  foralls = were.foralls;
  keeps = were.keeps;
}

-- the whole list
pub told_whole : (asserted : List ℕ) (i : ℕ) (given : Given) → length asserted ≤ i →
    AreAsserted (take i asserted) given → AreAsserted asserted given
told_whole asserted i given all were =
    subst (λ (listed : List ℕ). AreAsserted listed given) (take_all i asserted all) were

-- ---- all that came

-- the values by what stands stay where nothing changed but which nodes are asserted, and values of foralls
told_kept : (standing : List Done) (nodes : List Node) (old new : Given) → KeepsLeaves nodes old new →
    AreTold standing nodes old → AreTold standing nodes new
told_kept standing nodes old new keeps told n node has = by node has (told n node has)
  where
    none : (node : Node) → HasNode nodes n node → ((forall : ℕ) → node ≡ Forall forall → ⊥) → (forall : ℕ) →
        HasNode nodes n (Forall forall) → ⊥
    none node has other forall at = other forall (cc (has, at))

    same : (node : Node) → HasNode nodes n node → ((forall : ℕ) → node ≡ Forall forall → ⊥) →
        IsLeafTruth standing node (old.leaf n) → IsLeafTruth standing node (new.leaf n)
    same node has other was = subst (λ (truth : Truth). IsLeafTruth standing node truth)
        (sym (keeps.leaf n (none node has other))) was

    by : (node : Node) → HasNode nodes n node → IsLeafTruth standing node (old.leaf n) →
        IsLeafTruth standing node (new.leaf n)
    by (Equal positive s t) has was = same (Equal positive s t) has (λ forall e. cc) was
    by (Atom positive term) has was = same (Atom positive term) has (λ forall e. cc) was
    by (And parts) has was = same (And parts) has (λ forall e. cc) was
    by (Or parts) has was = same (Or parts) has (λ forall e. cc) was
    by (Forall forall) has was = tt

-- all is told
pub tells_all : (now : Assertions) (old mid new : Given) → KeepsNodes now.formulas.nodes old mid →
    AreTold now.graph.standing now.formulas.nodes mid → KeepsLeaves now.formulas.nodes mid new →
    AreAsserted now.asserted new → AreForallValues now.formulas.nodes new → TellsAll now old new
tells_all now old mid new keeps told leaves asserted foralls = record {
  kinds = leaves.kinds ∙ keeps.kinds;
  parts = leaves.parts ∙ keeps.parts;
  struck = λ n place. leaves.struck n place ∙ keeps.struck n place;
  told = told_kept now.graph.standing now.formulas.nodes mid new leaves told;
  asserted = asserted;
  foralls = foralls;
}
