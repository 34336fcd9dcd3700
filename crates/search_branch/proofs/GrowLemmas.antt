-- Values of a branch that grow with the terms and the formulas.
use Rattle.std.proofs.Common.{zero, suc, ◌≡◌, inl, inr, ◌↔◌, ℕ, ◌<◌, ◌≤◌, true, false, IsTrue, List, [], ◌∷◌}
use Rattle.std.proofs.Common.{◌++◌, length, map, take, drop, slice_get, Some, All, Contains, refl, sym, ap, subst, ◌∙◌}
use Rattle.std.proofs.Common.{append_assoc, arith}
use Rattle.std.proofs.lemmas.Bool.{cases_lt}
use Rattle.std.proofs.lemmas.Option.{slice_get_within}
use Rattle.std.specs.List.{filter_map}
use Rattle.std.proofs.lemmas.List.{map-append, length-append}
use Rattle.std.proofs.lemmas.List.Elements.{All-head, All-tail, All-contains, Contains-append_left, filter_map-append}
use Rattle.graph_terms.specs.declared.term_row.TermRow.{TermRow}
use Rattle.graph_terms.specs.Terms.{term_row, first_rows, HasRow}
use Rattle.graph_meaning.specs.declared.done.Done.{Done}
use Rattle.graph_meaning.specs.Lawful.{IsLawful}
use Rattle.graph_meaning.specs.Same.{Same, Derives, DerivesEach, same_term, turned, joined, merged, congruent, none, more}
use Rattle.graph_meaning.specs.Standing.{terms_of, merges_of, differs_of, added_row, merged_ends, different_ends}
use Rattle.graph_meaning.specs.State.{GraphState}
use Rattle.match_graph.specs.GraphTerms.{with_terms}
use Rattle.formula_table.specs.declared.node.Node.{Node}
use Rattle.formula_table.specs.declared.node.Node.TheVariants.{Equal, Atom, And, Or, Forall}
use Rattle.formula_table.specs.Formulas.{IsFormulaTable}
use Rattle.formula_table.specs.Node.{terms_in}
use Rattle.formula_truth.specs.declared.truth.Truth.{Truth}
use Rattle.formula_truth.specs.declared.truth.Truth.TheVariants.{Yes, No, Unset}
use Rattle.formula_value.specs.ByParts.{turn_of}
use Rattle.formula_value.specs.Holds.{HasNode}
use Rattle.formula_assert.specs.Assertions.{Assertions, held_of}
use Rattle.formula_assert.specs.AssertInstance.{EntersBody}
use Rattle.formula_assert.specs.InLevel.{KeepsLevels}
use Rattle.formula_assert.specs.Stands.{AreAssertions}
use Rattle.search_values.specs.Given.{Given}
use Rattle.search_values.specs.Kept.{given_of}
use Rattle.search_watch.specs.declared.watch.Watch.{Watch}
use Rattle.search_watch.specs.Back.{CanGoBack}
use Rattle.search_watch.specs.Grown.{OnlyTermsCame, TermsKeepClasses, AddsAreTerms}
use Rattle.search_watch.specs.Literals.{AreKeptApart, IsEquationValue, IsAtomValue}
use Rattle.search_watch.specs.Service.{Serves, HasClash, service}
use Rattle.search_branch.specs.declared.branch_values.BranchValues.{BranchValues}
use Rattle.search_branch.specs.Given.{IsGivenBy, IsLeafTruth, forall_truth, kind_in, parts_in, ends_of}
use Rattle.search_branch.specs.Grown.{ComesBehind, StandIn, HasGrown}
use Rattle.search_branch.specs.Levels.{IsLevelOver}
use Rattle.search_branch.specs.Right.{AreCurrent, AreValuesOf}
use Rattle.search_branch.specs.Struck.{IsPlaceOf}
use Rattle.search_branch.specs.Told.{AreToldBut, AreTold, KeepsNodes}
use Rattle.search_branch.proofs.ComeLemmas.{front_of}

-- ---- values of literals where only terms came

module _ (before now : List Done) (came : OnlyTermsCame before now) (keeps : TermsKeepClasses) where
  abbrev Old : ℕ → Type 0
  Old term = term < length (terms_of before)

  still : (s t : ℕ) → Old s → Old t → Same before s t → Same now s t
  still s t ls lt = (keeps before now came s t ls lt).1

  back : (s t : ℕ) → Old s → Old t → Same now s t → Same before s t
  back s t ls lt = (keeps before now came s t ls lt).0

  -- terms are kept apart just where they were
  apart_still : (s t : ℕ) → Old s → Old t → AreKeptApart (Same before) (differs_of before) s t →
      AreKeptApart (Same now) (differs_of now) s t
  apart_still s t ls lt (a, b, among, ends) =
      let below = came.was_lawful.whole.different_ends a b among in (
        a,
        b,
        subst (λ (ds : List (ℕ × ℕ)). Contains ds (a, b)) (sym came.differs) among,
        elim ends [
          | inl both ↦ inl (still a s below.0 ls both.0, still b t below.1 lt both.1)
          | inr both ↦ inr (still a t below.0 lt both.0, still b s below.1 ls both.1)
        ],
      )

  apart_back : (s t : ℕ) → Old s → Old t → AreKeptApart (Same now) (differs_of now) s t →
      AreKeptApart (Same before) (differs_of before) s t
  apart_back s t ls lt (a, b, among, ends) =
      let among' = subst (λ (ds : List (ℕ × ℕ)). Contains ds (a, b)) came.differs among in
      let below = came.was_lawful.whole.different_ends a b among' in (
        a,
        b,
        among',
        elim ends [
          | inl both ↦ inl (back a s below.0 ls both.0, back b t below.1 lt both.1)
          | inr both ↦ inr (back a t below.0 lt both.0, back b s below.1 ls both.1)
        ],
      )

  equation : (s t : ℕ) (truth : Truth) → Old s → Old t → IsEquationValue (Same before) (differs_of before) s t truth →
      IsEquationValue (Same now) (differs_of now) s t truth
  equation s t Yes ls lt is = still s t ls lt is
  equation s t No ls lt is = (λ same. is.0 (back s t ls lt same), apart_still s t ls lt is.1)
  equation s t Unset ls lt is = (
    λ same. is.0 (back s t ls lt same),
    λ apart. is.1 (apart_back s t ls lt apart),
  )

  -- true and false stood
  first_terms : (Old 0) × (Old 1)
  first_terms = (omega arith, omega arith)

  atom : (t : ℕ) (truth : Truth) → Old t → IsAtomValue (Same before) t truth → IsAtomValue (Same now) t truth
  atom t Yes lt is = still t 0 lt first_terms.0 is
  atom t No lt is = (λ same. is.0 (back t 0 lt first_terms.0 same), still t 1 lt first_terms.1 is.1)
  atom t Unset lt is = (
    λ same. is.0 (back t 0 lt first_terms.0 same),
    λ same. is.1 (back t 1 lt first_terms.1 same),
  )

  -- so a leaf has the value that it had
  pub leaf_still : (node : Node) (truth : Truth) → All (λ term. term < length (terms_of before)) (terms_in node) →
      IsLeafTruth before node truth → IsLeafTruth now node truth
  leaf_still (Equal positive s t) truth below is =
      equation s t (turn_of positive truth) (All-head Old s (t ∷ []) below)
      (All-head Old t [] (All-tail Old s (t ∷ []) below)) is
  leaf_still (Atom positive term) truth below is =
      atom term (turn_of positive truth) (All-head Old term [] below) is
  leaf_still (And parts) truth below is = is
  leaf_still (Or parts) truth below is = is
  leaf_still (Forall forall) truth below is = is

  -- and there is a clash just where there was
  pub clash_back : HasClash now → HasClash before
  clash_back (inl same) = inl (back 0 1 first_terms.0 first_terms.1 same)
  clash_back (inr (a, b, among, same)) =
      let among' = subst (λ (ds : List (ℕ × ℕ)). Contains ds (a, b)) came.differs among in
      let below = came.was_lawful.whole.different_ends a b among' in
      inr (a, b, among', back a b below.0 below.1 same)

-- ---- lists that grew

module _ {X : Type 0} where
  -- an element that stands before the later ones stood
  pub stood_before : (xs ys : List X) (n : ℕ) (x : X) → n < length xs → slice_get (xs ++ ys) n ≡ Some x →
      slice_get xs n ≡ Some x
  stood_before [] ys n x less at = absurd (omega (arith, less))
  stood_before (y ∷ xs) ys zero x less at = at
  stood_before (y ∷ xs) ys (suc n) x less at = stood_before xs ys n x (omega (arith, less)) at

-- ---- the values

module _ (was now : Assertions) (first : ℕ) (grown : HasGrown was now first) where
  pub same_front : take first now.formulas.nodes ≡ was.formulas.nodes
  same_front = front_of was.formulas.nodes grown.nodes now.formulas.nodes first grown.nodes_are (sym grown.many)

  node_stood : (n : ℕ) (node : Node) → n < first → HasNode now.formulas.nodes n node → HasNode was.formulas.nodes n node
  node_stood n node less has =
      let many = grown.many in
      stood_before was.formulas.nodes grown.nodes n node (omega (arith, less, many))
      (subst (λ (nodes : List Node). slice_get nodes n ≡ Some node) grown.nodes_are has)

  module _ (struck : List (ℕ × ℕ)) (old : BranchValues) (calm : old.lost ≡ false)
      (right : AreValuesOf was struck old) where
    current : AreCurrent was.formulas (held_of was) struck old
    current = right.current calm

    -- there was no clash
    no_clash : HasClash was.graph.standing → ⊥
    no_clash clash = let e : false ≡ true = sym calm ∙ right.lost.1 clash in cc e

    -- the first nodes are those that are known
    pub kinds_before : (given_of old.values).kinds ≡ map kind_in (take first now.formulas.nodes)
    kinds_before = current.given.kinds ∙ ap (map kind_in) (sym same_front)

    pub parts_before : (given_of old.values).parts ≡ map parts_in (take first now.formulas.nodes)
    parts_before = current.given.parts ∙ ap (map parts_in) (sym same_front)

    -- the watch serves the literals among them
    pub serves_before : (standing : List Done) → standing ≡ now.graph.standing → (watch : Watch) →
        ((before : List Done) (ends : List (ℕ × ℕ)) (bound : ℕ) → OnlyTermsCame before standing →
        Serves (service before ends bound) old.watch → Serves (service standing ends bound) watch) →
        Serves (service now.graph.standing (ends_of 0 (take first now.formulas.nodes)) first) watch
    serves_before standing same watch follows =
        let there = follows was.graph.standing (ends_of 0 was.formulas.nodes) (length was.formulas.nodes)
        (subst (OnlyTermsCame was.graph.standing) (sym same) grown.terms) current.serves in
        subst (λ (st : List Done). Serves (service st (ends_of 0 (take first now.formulas.nodes)) first) watch) same
        (subst (λ (nodes : List Node). Serves (service standing (ends_of 0 nodes) first) watch) (sym same_front)
        (subst (λ (bound : ℕ). Serves (service standing (ends_of 0 was.formulas.nodes) bound) watch) grown.many there))

    module _ (keeps : TermsKeepClasses) (mid : Given)
        (behind : ComesBehind now.formulas.nodes first (given_of old.values) mid) where
      told_first : (n : ℕ) (node : Node) → n < first → HasNode now.formulas.nodes n node →
          IsLeafTruth now.graph.standing node (mid.leaf n)
      told_first n node less has =
          let stood = node_stood n node less has in
          subst (λ (truth : Truth). IsLeafTruth now.graph.standing node truth) (sym (behind.leaf n less))
          (leaf_still was.graph.standing now.graph.standing grown.terms keeps node ((given_of old.values).leaf n)
          (grown.stood n node stood) (current.given.leaf n node stood))

      -- each leaf is right, or it is one of the later ones
      pub told_later : AreToldBut (λ (n : ℕ). first ≤ n) now.graph.standing now.formulas.nodes mid
      told_later n node has = elim (cases_lt n first) [
        | inl less ↦ inl (told_first n node less has)
        | inr after ↦ inr (behind.later_leaf n after (slice_get_within now.formulas.nodes n node has), after)
      ]

      module _ (stand : StandIn was struck) (new : BranchValues) (lost : new.lost ≡ old.lost)
          (table : IsFormulaTable now.formulas)
          (serves : Serves (service now.graph.standing (ends_of 0 now.formulas.nodes) (length now.formulas.nodes))
          new.watch)
          (told : AreTold now.graph.standing now.formulas.nodes (given_of new.values))
          (keeps_nodes : KeepsNodes now.formulas.nodes mid (given_of new.values)) where
        forall_first : (n forall : ℕ) → n < first → HasNode now.formulas.nodes n (Forall forall) →
            (given_of new.values).leaf n ≡ forall_truth ((given_of new.values).asserted n)
        forall_first n forall less has =
            keeps_nodes.foralls n forall has ∙ behind.leaf n less
            ∙ current.given.foralls n forall (node_stood n (Forall forall) less has)
            ∙ ap forall_truth (sym (keeps_nodes.asserted n ∙ behind.asserted n less))

        forall_later : (n forall : ℕ) → first ≤ n → HasNode now.formulas.nodes n (Forall forall) →
            (given_of new.values).leaf n ≡ forall_truth ((given_of new.values).asserted n)
        forall_later n forall after has =
            let within = slice_get_within now.formulas.nodes n (Forall forall) has in
            keeps_nodes.foralls n forall has ∙ behind.later_leaf n after within
            ∙ ap forall_truth (sym (keeps_nodes.asserted n ∙ behind.later_asserted n after within))

        -- a number that is listed is one of the first
        listed_first : (n : ℕ) → Contains now.asserted n → n < first
        listed_first n listed =
            let among = subst (λ (list : List ℕ). Contains list n) grown.asserted_are listed in
            let below = All-contains (λ (m : ℕ). m < length was.formulas.nodes) was.asserted n stand.asserted among in
            let many = grown.many in
            omega (arith, below, many)

        asserted_first : (n : ℕ) → n < first → ((given_of new.values).asserted n ≡ true) ↔ Contains now.asserted n
        asserted_first n less =
            let many = grown.many in
            let before = current.given.asserted n (omega (arith, less, many)) in
            let same : (given_of new.values).asserted n ≡ (given_of old.values).asserted n =
            keeps_nodes.asserted n ∙ behind.asserted n less in (
              λ on. subst (λ (list : List ℕ). Contains list n) (sym grown.asserted_are) (before.0 (sym same ∙ on)),
              λ listed. same ∙ before.1 (subst (λ (list : List ℕ). Contains list n) grown.asserted_are listed),
            )

        asserted_later : (n : ℕ) → first ≤ n → n < length now.formulas.nodes →
            ((given_of new.values).asserted n ≡ true) ↔ Contains now.asserted n
        asserted_later n after within =
            let off : (given_of new.values).asserted n ≡ false =
            keeps_nodes.asserted n ∙ behind.later_asserted n after within in (
              λ on. absurd (let e : true ≡ false = sym on ∙ off in cc e),
              λ listed. absurd (let less = listed_first n listed in omega (arith, less, after)),
            )

        struck_place : (n place : ℕ) → Contains struck (n, place) → n < first
        struck_place n place listed =
            let is = All-contains (IsPlaceOf was.formulas.nodes) struck (n, place) stand.places listed in
            let within = slice_get_within was.formulas.nodes n (Or is.parts) is.is_or in
            let many = grown.many in
            omega (arith, within, many)

        struck_first : (n place : ℕ) → n < first →
            ((given_of new.values).struck n place ≡ true) ↔ Contains struck (n, place)
        struck_first n place less =
            let many = grown.many in
            let before = current.given.struck_are n place (omega (arith, less, many)) in
            let same : (given_of new.values).struck n place ≡ (given_of old.values).struck n place =
            keeps_nodes.struck n place ∙ behind.struck n place less in
            (λ on. before.0 (sym same ∙ on), λ listed. same ∙ before.1 listed)

        struck_later : (n place : ℕ) → first ≤ n → n < length now.formulas.nodes →
            ((given_of new.values).struck n place ≡ true) ↔ Contains struck (n, place)
        struck_later n place after within =
            let off : (given_of new.values).struck n place ≡ false =
            keeps_nodes.struck n place ∙ behind.later_struck n place after within in (
              λ on. absurd (let e : true ≡ false = sym on ∙ off in cc e),
              λ listed. absurd (let less = struck_place n place listed in omega (arith, less, after)),
            )

        given_grown : IsGivenBy now.formulas (held_of now) struck (given_of new.values)
        given_grown = record {
          kinds = keeps_nodes.kinds ∙ behind.kinds;
          parts = keeps_nodes.parts ∙ behind.parts;
          leaf = told;
          foralls = λ n forall has. elim (cases_lt n first) [
            | inl less ↦ forall_first n forall less has
            | inr after ↦ forall_later n forall after has
          ];
          asserted = λ n within. elim (cases_lt n first) [
            | inl less ↦ asserted_first n less
            | inr after ↦ asserted_later n after within
          ];
          struck_are = λ n place within. elim (cases_lt n first) [
            | inl less ↦ struck_first n place less
            | inr after ↦ struck_later n place after within
          ];
        }

        no_clash_now : HasClash now.graph.standing → ⊥
        no_clash_now clash =
            no_clash (clash_back was.graph.standing now.graph.standing grown.terms keeps clash)

        lost_is : IsTrue new.lost ↔ HasClash now.graph.standing
        lost_is = (
          λ (on : new.lost ≡ true). absurd (let e : false ≡ true = sym calm ∙ sym lost ∙ on in cc e),
          λ clash. absurd (no_clash_now clash),
        )

        -- the values are right for what stands now
        pub right_grown : AreValuesOf now struck new
        right_grown = record {
          table = table;
          lost = lost_is;
          current = λ _. record { given = given_grown; serves = serves };
        }

-- the level is the innermost one still where nodes came
pub level_grows : (nodes : List Node) (first : ℕ) (before old new : BranchValues) (mid : Given) →
    (given_of old.values).parts ≡ map parts_in (take first nodes) →
    ComesBehind nodes first (given_of old.values) mid → KeepsNodes nodes mid (given_of new.values) →
    IsLevelOver before old → new.values.saved ≡ old.values.saved → new.marks.items ≡ old.marks.items →
    CanGoBack before.watch new.watch → IsLevelOver before new
level_grows nodes first before old new mid parts behind keeps over saved marks back = record {
  each = over.each;
  more = over.more ++ map parts_in (drop first nodes);
  parts = keeps.parts ∙ behind.parts ∙ ap (map parts_in) (sym (take_drop first nodes))
      ∙ map-append parts_in (take first nodes) (drop first nodes)
      ∙ ap (λ (ps : List (List ℕ)). ps ++ map parts_in (drop first nodes)) (sym parts ∙ over.parts)
      ∙ append_assoc before.values.parts over.more (map parts_in (drop first nodes));
  saved = saved ∙ over.saved;
  mark = over.mark;
  marks = marks ∙ over.marks;
  is_mark = over.is_mark;
  back = back;
}
  where
    take_drop : (n : ℕ) (xs : List Node) → take n xs ++ drop n xs ≡ xs
    take_drop zero xs = refl
    take_drop (suc n) [] = refl
    take_drop (suc n) (x ∷ xs) = ap (λ (ys : List Node). x ∷ ys) (take_drop n xs)

-- ---- an instance that was entered

-- of what was entered terms and nodes came, and nothing else
pub has_grown : (was now : Assertions) (forall root : ℕ) (tuple : List ℕ) (first : ℕ) → AddsAreTerms →
    EntersBody forall tuple was now root → KeepsLevels was now → AreAssertions was → AreAssertions now →
    first ≡ length was.formulas.nodes → HasGrown was now first
has_grown was now forall root tuple first adds enters keeps was_right is_right many =
    let grew = enters.enters.rows_grow.grew in
    let added = enters.enters.rows_grow.added in
    let lawful : IsLawful (with_terms was.graph added).standing =
    subst (λ (graph : GraphState). IsLawful graph.standing) grew is_right.lawful in
    record {
      terms = subst (λ (graph : GraphState). OnlyTermsCame was.graph.standing graph.standing) (sym grew)
          (adds was.graph added was_right.lawful lawful);
      stood = was_right.formulas.terms;
      nodes = keeps.formulas_grow.more_nodes;
      nodes_are = keeps.formulas_grow.nodes_are;
      many = sym many;
      asserted_are = enters.asserted_is;
    }

-- no nodes went
pub not_fewer : (was now : Assertions) (first : ℕ) → KeepsLevels was now → first ≡ length was.formulas.nodes →
    first ≤ length now.formulas.nodes
not_fewer was now first keeps many =
    let all = ap length keeps.formulas_grow.nodes_are
    ∙ length-append was.formulas.nodes keeps.formulas_grow.more_nodes in
    omega (arith, all, many)

-- ---- a clash stays

module _ (rows later : List TermRow) (merges further : List (ℕ × ℕ)) where
  row_stays : (term : ℕ) (row : TermRow) → HasRow rows term row → HasRow (rows ++ later) term row
  row_stays term row has = longer rows term has
    where
      longer : (rows : List TermRow) (term : ℕ) → slice_get rows term ≡ Some row →
          slice_get (rows ++ later) term ≡ Some row
      longer [] term at = cc
      longer (r ∷ rows) zero at = at
      longer (r ∷ rows) (suc term) at = longer rows term at

  mutual
    derives_still : {s t : ℕ} → Derives rows merges s t → Derives (rows ++ later) (merges ++ further) s t
    derives_still (same_term within) = same_term (omega (arith, within, length-append rows later))
    derives_still (turned same) = turned (derives_still same)
    derives_still (joined one other) = joined (derives_still one) (derives_still other)
    derives_still (merged {s} {t} among) = merged (Contains-append_left merges further (s, t) among)
    derives_still (congruent {s} {t} {symbol} {ss} {ts} left right each) =
        congruent (row_stays s (term_row symbol ss) left) (row_stays t (term_row symbol ts) right) (each_still each)

    each_still : {ss ts : List ℕ} → DerivesEach rows merges ss ts →
        DerivesEach (rows ++ later) (merges ++ further) ss ts
    each_still none = none
    each_still (more one rest) = more (derives_still one) (each_still rest)

module _ (standing later : List Done) where
  terms_more : terms_of (standing ++ later) ≡ terms_of standing ++ filter_map added_row later
  terms_more = ap (λ (rows : List TermRow). first_rows ++ rows) (filter_map-append added_row standing later)
      ∙ sym (append_assoc first_rows (filter_map added_row standing) (filter_map added_row later))

  same_still : (s t : ℕ) → Same standing s t → Same (standing ++ later) s t
  same_still s t same =
      subst (λ (rows : List TermRow). Derives rows (merges_of (standing ++ later)) s t) (sym terms_more)
      (subst (λ (merges : List (ℕ × ℕ)). Derives (terms_of standing ++ filter_map added_row later) merges s t)
      (sym (filter_map-append merged_ends standing later))
      (derives_still (terms_of standing) (filter_map added_row later) (merges_of standing)
      (filter_map merged_ends later) same))

  clash_still : HasClash standing → HasClash (standing ++ later)
  clash_still (inl same) = inl (same_still 0 1 same)
  clash_still (inr (a, b, among, same)) = inr (
    a,
    b,
    subst (λ (ds : List (ℕ × ℕ)). Contains ds (a, b)) (sym (filter_map-append different_ends standing later))
        (Contains-append_left (differs_of standing) (filter_map different_ends later) (a, b) among),
    same_still a b same,
  )

-- values that know of a clash are right for more that stands
pub lost_still : (was now : Assertions) (struck : List (ℕ × ℕ)) (values : BranchValues) →
    (later : List Done) × (now.graph.standing ≡ was.graph.standing ++ later) → values.lost ≡ true →
    IsFormulaTable now.formulas → AreValuesOf was struck values → AreValuesOf now struck values
lost_still was now struck values stands lost table right = record {
  table = table;
  lost = (
    λ on. subst HasClash (sym stands.1) (clash_still was.graph.standing stands.0 (right.lost.0 on)),
    λ clash. lost,
  );
  current = λ (calm : values.lost ≡ false). absurd (let e : true ≡ false = sym lost ∙ calm in cc e);
}
