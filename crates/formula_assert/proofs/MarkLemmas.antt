-- What a mark tells, and what it is to go back to one.
use Rattle.std.proofs.Common.{◌≡◌, ℕ, ◌≤◌, List, [], ◌∷◌, ◌++◌, length, map, take, reverse, All, sym, ap, subst, ◌∙◌, arith}
use Rattle.std.proofs.Math.Seq.{take-append_seam}
use Rattle.std.proofs.lemmas.List.{length-take}
use Rattle.std.proofs.lemmas.List.Elements.{All-nil, All-cons, All-head}
use Rattle.graph_meaning.specs.Standing.{terms_of}
use Rattle.graph_meaning.specs.State.{GraphState}
use Rattle.formula_table.specs.Formulas.{Formulas, IsFormulaTable, GrowsTable, NodesStand, first_formulas}
use Rattle.formula_assert.specs.declared.level.Level.{Level}
use Rattle.formula_assert.specs.Assertions.{Saved, Assertions}
use Rattle.formula_assert.specs.InLevel.{KeepsLevels}
use Rattle.formula_assert.specs.Mark.{IsWithin, CanBeMarked}
use Rattle.formula_assert.specs.Stands.{AreSaved}
use Rattle.formula_assert.specs.StackInside.{saved_of, Fall, IsStackOf, assertions_with}
use Rattle.formula_assert.proofs.Growth.{levels_same, last_same}
use Rattle.formula_assert.proofs.StackLemmas.{AreSaved-grown, saved_kept, cut_back}

-- no level was opened with more than there is
levels_within : (now : Assertions) (levels : List Level) (n f a : ℕ) (table : Formulas) (asserted : List ℕ) →
    n ≤ length now.formulas.nodes → f ≤ length now.formulas.foralls → a ≤ length now.asserted → Fall n f a levels →
    All (IsWithin now) (map (saved_of table asserted) levels)
levels_within now [] n f a table asserted nodes foralls few fall = All-nil (IsWithin now)
levels_within now (level ∷ levels) n f a table asserted nodes foralls few fall =
    All-cons (IsWithin now) (saved_of table asserted level) (map (saved_of table asserted) levels)
    (record {
      nodes = omega (arith, length-take level.nodes table.nodes, nodes, fall.0);
      foralls = omega (arith, length-take level.foralls table.foralls, foralls, fall.1);
      asserted = omega (arith, length-take level.asserted asserted, few, fall.2);
    })
    (levels_within now levels level.nodes level.foralls level.asserted table asserted (omega (arith, nodes, fall.0))
    (omega (arith, foralls, fall.1)) (omega (arith, few, fall.2)) fall.3)

-- a stack can be marked
pub stack_marked : (graph : GraphState) (table : Formulas) (asserted : List ℕ) (items : List Level) →
    IsStackOf graph table asserted items → IsFormulaTable table →
    CanBeMarked (assertions_with graph table asserted items)
stack_marked graph table asserted items stack is_table = record {
  formulas = record { table = is_table; terms = stack.terms_stand };
  levels_within = levels_within (assertions_with graph table asserted items) (reverse items) (length table.nodes)
      (length table.foralls) (length asserted) table asserted (omega arith) (omega arith) (omega arith) stack.fall;
}

-- less stands than did, but no less than in each level
fall_within : (before : Assertions) (levels : List Level) (n f a : ℕ) (table : Formulas) (asserted : List ℕ) →
    n ≤ length table.nodes → f ≤ length table.foralls → a ≤ length asserted → Fall n f a levels →
    All (IsWithin before) (map (saved_of table asserted) levels) →
    Fall (length before.formulas.nodes) (length before.formulas.foralls) (length before.asserted) levels
fall_within before [] n f a table asserted nodes foralls few fall within = tt
fall_within before (level ∷ levels) n f a table asserted nodes foralls few fall within =
    let first : IsWithin before (saved_of table asserted level) =
    All-head (IsWithin before) (saved_of table asserted level) (map (saved_of table asserted) levels) within in (
      omega (arith, length-take level.nodes table.nodes, nodes, fall.0, first.nodes),
      omega (arith, length-take level.foralls table.foralls, foralls, fall.1, first.foralls),
      omega (arith, length-take level.asserted asserted, few, fall.2, first.asserted),
      fall.3,
    )

abbrev all_of : GraphState → Formulas → List ℕ → List Saved → Assertions
all_of graph table asserted saved = record { graph = graph; formulas = table; asserted = asserted; saved = saved }

-- where what came since a mark is taken back
module _ (graph later : GraphState) (table cut : Formulas) (asserted left : List ℕ) (items : List Level)
    (stack : IsStackOf graph table asserted items) (before : Assertions) (nodes foralls count : ℕ)
    (marked : CanBeMarked before) (nodes_are : length before.formulas.nodes ≡ nodes)
    (foralls_are : length before.formulas.foralls ≡ foralls) (count_is : length before.asserted ≡ count)
    (keeps : KeepsLevels before (assertions_with graph table asserted items)) (later_is : later ≡ before.graph)
    (cut_is : cut ≡ first_formulas nodes foralls table) (left_is : left ≡ take count asserted) where
  cut_same : cut ≡ before.formulas
  cut_same = cut_is
      ∙ cut_back before.formulas table keeps.formulas_grow nodes foralls (sym nodes_are) (sym foralls_are)

  left_same : left ≡ before.asserted
  left_same =
      left_is
      ∙ ap (λ (n : ℕ). take n asserted) (sym count_is)
      ∙ ap (take (length before.asserted)) keeps.holds_more.asserted_are
      ∙ take-append_seam before.asserted keeps.holds_more.more

  table_grew : GrowsTable cut table
  table_grew = subst (λ (formulas : Formulas). GrowsTable formulas table) (sym cut_same) keeps.formulas_grow

  all_are : asserted ≡ left ++ keeps.holds_more.more
  all_are =
      keeps.holds_more.asserted_are ∙ ap (λ (list : List ℕ). list ++ keeps.holds_more.more) (sym left_same)

  fall_before : Fall (length before.formulas.nodes) (length before.formulas.foralls) (length before.asserted)
      (reverse items)
  fall_before = fall_within before (reverse items) (length table.nodes) (length table.foralls) (length asserted)
      table asserted (omega arith) (omega arith) (omega arith) stack.fall
      (subst (All (IsWithin before)) (sym keeps.saved_are) marked.levels_within)

  fall_back : Fall (length cut.nodes) (length cut.foralls) (length left) (reverse items)
  fall_back =
      subst (λ (formulas : Formulas). Fall (length formulas.nodes) (length formulas.foralls) (length left)
      (reverse items)) (sym cut_same)
      (subst (λ (list : List ℕ). Fall (length before.formulas.nodes) (length before.formulas.foralls) (length list)
      (reverse items)) (sym left_same) fall_before)

  saved_back : map (saved_of table asserted) (reverse items) ≡ map (saved_of cut left) (reverse items)
  saved_back = saved_kept (reverse items) (length cut.nodes) (length cut.foralls) (length left) cut table left
      asserted keeps.holds_more.more (omega arith) (omega arith) (omega arith) fall_back table_grew all_are

  stand_back : AreSaved later.standing (map (saved_of table asserted) (reverse items))
  stand_back = subst (λ (g : GraphState). AreSaved g.standing (map (saved_of table asserted) (reverse items)))
      (sym later_is)
      (AreSaved-grown graph.standing before.graph.standing (map (saved_of table asserted) (reverse items))
      (sym (levels_same before.graph graph keeps.holds_more.grows)) (sym (last_same before.graph graph
      keeps.holds_more.grows)) stack.saved_stand)

  -- the stack is one
  pub stack_back : IsStackOf later cut left items
  stack_back = record {
    fall = fall_back;
    terms_stand = subst (λ (g : GraphState). NodesStand (length (terms_of g.standing)) cut.nodes) (sym later_is)
        (subst (λ (formulas : Formulas). NodesStand (length (terms_of before.graph.standing)) formulas.nodes)
        (sym cut_same) marked.formulas.terms);
    saved_stand = subst (AreSaved later.standing) saved_back stand_back;
    few = stack.few;
  }

  -- and holds what was held
  pub view_back : assertions_with later cut left items ≡ before
  view_back =
      ap (λ (g : GraphState). all_of g cut left (map (saved_of cut left) (reverse items))) later_is
      ∙ ap (λ (t : Formulas). all_of before.graph t left (map (saved_of cut left) (reverse items))) cut_same
      ∙ ap (λ (list : List ℕ). all_of before.graph before.formulas list (map (saved_of cut left) (reverse items)))
      left_same
      ∙ ap (all_of before.graph before.formulas before.asserted) (sym saved_back ∙ keeps.saved_are)
