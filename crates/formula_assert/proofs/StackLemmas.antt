-- What levels keep.
use Rattle.std.proofs.Common.{◌≡◌, ℕ, ◌+◌, ◌<◌, ◌≤◌, List, [], ◌∷◌, ◌++◌, length, map, take, reverse, refl, sym, ap, ap₂, subst, ◌∙◌, ⊎_elim, append-nil, ◌^◌, arith}
use Rattle.std.specs.List.{before_last}
use Rattle.std.proofs.Math.Seq.{take-append_seam}
use Rattle.std.proofs.lemmas.List.{take-take, take-append-le, take_all, length-append, length-take, reverse-append}
use Rattle.graph_meaning.specs.declared.done.Done.{Done}
use Rattle.graph_meaning.specs.declared.op.Op.TheVariants.{Push, Pop}
use Rattle.graph_terms.specs.declared.term_row.TermRow.{TermRow}
use Rattle.graph_meaning.specs.State.{GraphState, state_after}
use Rattle.formula_draft.specs.Draft.{Formula}
use Rattle.formula_table.specs.declared.enter_fault.EnterFault.{EnterFault}
use Rattle.formula_table.specs.declared.enter_fault.EnterFault.TheVariants.{TermsFull, NodesFull, Memory}
use Rattle.formula_table.specs.Entry.{StopsEntry, TableGrows}
use Rattle.graph_meaning.proofs.LawfulLaws.{then_op}
use Rattle.graph_terms.proofs.ListLaws.{slice_get-take_below}
use Rattle.graph_meaning.specs.Standing.{is_push, levels_of, terms_of}
use Rattle.formula_table.specs.declared.node.Node.{Node}
use Rattle.formula_table.specs.declared.node.Node.TheVariants.{Forall}
use Rattle.formula_table.specs.declared.table_forall.TableForall.{TableForall}
use Rattle.formula_table.specs.Formulas.{Formulas, IsFormulaTable, GrowsTable, NamesFirst, NodesStand, first_formulas}
use Rattle.formula_assert.specs.declared.level.Level.{Level}
use Rattle.formula_assert.specs.Assertions.{Saved, Assertions, pushed, popped, restored}
use Rattle.formula_assert.specs.InLevel.{GrowsGraph, KeepsLevels, StandAlike}
use Rattle.formula_assert.specs.AssertFormula.{StopsOver, KeepsFormulas}
use Rattle.formula_assert.specs.Stands.{IsTableOver, AreSaved}
use Rattle.formula_assert.specs.StackInside.{saved_of, Fall, IsStackOf, assertions_with}
use Rattle.match_graph.specs.GraphTerms.{with_terms}
use Rattle.formula_assert.proofs.Growth.{levels_of-opened, before_last-opened, opened_longer, last_same, limit_same, levels_same, grows_terms, terms_longer}
use Rattle.formula_assert.proofs.Growth.{NodesStand-more}

-- the levels of a graph are those for which formulas were saved
pub saved_levels : (standing : List Done) (saved : List Saved) → AreSaved standing saved → levels_of standing ≡ length saved
saved_levels standing [] are = are
saved_levels standing (level ∷ saved) are = are.0 ∙ omega arith

-- a graph with the same levels has the same saved
pub AreSaved-grown : (standing later : List Done) (saved : List Saved) → levels_of later ≡ levels_of standing → before_last is_push later ≡ before_last is_push standing → AreSaved standing saved → AreSaved later saved
AreSaved-grown standing later [] levels before are = levels ∙ are
AreSaved-grown standing later (level ∷ saved) levels before are = (
  levels ∙ are.0,
  subst (λ (list : List Done). IsTableOver (length (terms_of list)) level.formulas) (sym before) are.1,
  subst (λ (list : List Done). AreSaved list saved) (sym before) are.2,
)

-- a level that opens saves what stands
pub AreSaved-opened : (standing : List Done) (serial : ℕ) (level : Saved) (saved : List Saved) → IsTableOver (length (terms_of standing)) level.formulas → AreSaved standing saved → AreSaved (then_op standing serial Push) (level ∷ saved)
AreSaved-opened standing serial level saved over are = (
  levels_of-opened standing serial ∙ ap (λ n. n + 1) (saved_levels standing saved are),
  subst (λ (list : List Done). IsTableOver (length (terms_of list)) level.formulas) (sym (before_last-opened standing serial)) over,
  subst (λ (list : List Done). AreSaved list saved) (sym (before_last-opened standing serial)) are,
)

abbrev saves : Formulas → List ℕ → Saved
saves formulas asserted = record { formulas = formulas; asserted = asserted }

abbrev made : List Node → List TableForall → ℕ → Formulas
made nodes foralls limit = record { nodes = nodes; foralls = foralls; limit = limit }

same_formulas : (nodes more : List Node) (foralls others : List TableForall) (limit most : ℕ) → nodes ≡ more → foralls ≡ others → limit ≡ most → made nodes foralls limit ≡ made more others most
same_formulas nodes more foralls others limit most a b c = ap (λ (list : List Node). made list foralls limit) a ∙ ap (λ (list : List TableForall). made more list limit) b ∙ ap (made more others) c

-- more nodes stand, and fewer did in each level
pub Fall-more : (n f a nodes foralls asserted : ℕ) (levels : List Level) → n ≤ nodes → f ≤ foralls → a ≤ asserted → Fall n f a levels → Fall nodes foralls asserted levels
Fall-more n f a nodes foralls asserted [] more_nodes more_foralls more_asserted fall = tt
Fall-more n f a nodes foralls asserted (level ∷ levels) more_nodes more_foralls more_asserted fall = (omega (arith, fall.0), omega (arith, fall.1), omega (arith, fall.2), fall.3)

-- what a level saved stays when more comes at the ends
pub saved_kept : (levels : List Level) (n f a : ℕ) (table later : Formulas) (asserted after more : List ℕ) → n ≤ length table.nodes → f ≤ length table.foralls → a ≤ length asserted → Fall n f a levels → GrowsTable table later → after ≡ asserted ++ more
    → map (saved_of later after) levels ≡ map (saved_of table asserted) levels
saved_kept [] n f a table later asserted after more nodes foralls few fall grows is = refl
saved_kept (level ∷ levels) n f a table later asserted after more nodes foralls few fall grows is =
    let here : saved_of later after level ≡ saved_of table asserted level =
    ap₂ saves
    (same_formulas (take level.nodes later.nodes) (take level.nodes table.nodes) (take level.foralls later.foralls) (take level.foralls table.foralls) later.limit table.limit
    (ap (take level.nodes) grows.nodes_are ∙ take-append-le level.nodes table.nodes grows.more_nodes (omega (arith, fall.0)))
    (ap (take level.foralls) grows.foralls_are ∙ take-append-le level.foralls table.foralls grows.more_foralls (omega (arith, fall.1)))
    grows.limit_is)
    (ap (take level.asserted) is ∙ take-append-le level.asserted asserted more (omega (arith, fall.2))) in
    ap₂ (λ (first : Saved) (rest : List Saved). first ∷ rest) here
    (saved_kept levels level.nodes level.foralls level.asserted table later asserted after more (omega (arith, fall.0)) (omega (arith, fall.1)) (omega (arith, fall.2)) fall.3 grows is)

-- and when a later level ends
pub saved_cut : (levels : List Level) (n f a k l m : ℕ) (table : Formulas) (asserted : List ℕ) → k ≤ n → l ≤ f → m ≤ a → Fall k l m levels → map (saved_of (first_formulas n f table) (take a asserted)) levels ≡ map (saved_of table asserted) levels
saved_cut [] n f a k l m table asserted nodes foralls few fall = refl
saved_cut (level ∷ levels) n f a k l m table asserted nodes foralls few fall =
    let here : saved_of (first_formulas n f table) (take a asserted) level ≡ saved_of table asserted level =
    ap₂ saves
    (same_formulas (take level.nodes (take n table.nodes)) (take level.nodes table.nodes) (take level.foralls (take f table.foralls)) (take level.foralls table.foralls) table.limit table.limit
    (take-take level.nodes n table.nodes (omega (arith, fall.0)))
    (take-take level.foralls f table.foralls (omega (arith, fall.1)))
    refl)
    (take-take level.asserted a asserted (omega (arith, fall.2))) in
    ap₂ (λ (first : Saved) (rest : List Saved). first ∷ rest) here
    (saved_cut levels n f a level.nodes level.foralls level.asserted table asserted (omega (arith, fall.0)) (omega (arith, fall.1)) (omega (arith, fall.2)) fall.3)

-- the first formulas are a table: their nodes name their foralls alone
pub first_named : (table : Formulas) (nodes foralls : ℕ) → IsFormulaTable (first_formulas nodes foralls table) → NamesFirst table nodes foralls
first_named table nodes foralls is n forall below at =
    let stood = is.foralls_stand n forall (slice_get-take_below nodes table.nodes n (Forall forall) below at) in
    omega (arith, length-take foralls table.foralls, stood)

-- all formulas are the first so many
pub all_formulas : (table : Formulas) (nodes foralls : ℕ) → nodes ≡ length table.nodes → foralls ≡ length table.foralls → first_formulas nodes foralls table ≡ table
all_formulas table nodes foralls all_nodes every_forall =
    same_formulas (take nodes table.nodes) table.nodes (take foralls table.foralls) table.foralls table.limit table.limit (take_all nodes table.nodes (omega arith)) (take_all foralls table.foralls (omega arith)) refl

popped_alike : (before after : Assertions) (one other : List Saved) → other ≡ one → 0 < length one → GrowsGraph before.graph after.graph → StandAlike (restored before one) (restored after other)
popped_alike before after [] other is some grows = absurd (omega arith)
popped_alike before after (level ∷ saved) other is some grows =
    subst (λ (list : List Saved). StandAlike (restored before (level ∷ saved)) (restored after list)) (sym is)
    (record { standing = last_same before.graph after.graph grows; limit = limit_same before.graph after.graph grows; formulas = refl; asserted = refl; saved = refl })

-- what came in a level goes with it
pub pop_gone : (before after : Assertions) → 0 < length before.saved → KeepsLevels before after → StandAlike (popped before) (popped after)
pop_gone before after some keeps = popped_alike before after before.saved after.saved keeps.saved_are some keeps.holds_more.grows

-- a level that was opened and ended leaves what stood
pub pop_back : (before after : Assertions) → KeepsLevels (pushed before) after → StandAlike before (popped after)
pop_back before after keeps =
    let alike = pop_gone (pushed before) after (omega arith) keeps in
    record { standing = alike.standing ∙ before_last-opened before.graph.standing before.graph.done; limit = alike.limit; formulas = alike.formulas; asserted = alike.asserted; saved = alike.saved }

-- what is known of a stack in front of its last level
module _ (graph : GraphState) (table : Formulas) (asserted : List ℕ) (items rest : List Level) (level : Level) (is : items ≡ rest ++ level ∷ []) (stack : IsStackOf graph table asserted items) where
  turned : reverse items ≡ level ∷ reverse rest
  turned = ap reverse is ∙ reverse-append rest (level ∷ [])

  pub last_saved : AreSaved graph.standing (saved_of table asserted level ∷ map (saved_of table asserted) (reverse rest))
  last_saved = subst (λ (list : List Level). AreSaved graph.standing (map (saved_of table asserted) list)) turned stack.saved_stand

  pub last_fall : Fall (length table.nodes) (length table.foralls) (length asserted) (level ∷ reverse rest)
  last_fall = subst (Fall (length table.nodes) (length table.foralls) (length asserted)) turned stack.fall

  pub last_named : NamesFirst table level.nodes level.foralls
  last_named = first_named table level.nodes level.foralls last_saved.1.table

  module _ (later : GraphState) (cut : Formulas) (kept : List ℕ) (graph_is : later ≡ state_after graph Pop) (table_is : cut ≡ first_formulas level.nodes level.foralls table) (kept_is : kept ≡ take level.asserted asserted) where
    rest_saved : map (saved_of cut kept) (reverse rest) ≡ map (saved_of table asserted) (reverse rest)
    rest_saved = ap₂ (λ (formulas : Formulas) (list : List ℕ). map (saved_of formulas list) (reverse rest)) table_is kept_is ∙ saved_cut (reverse rest) level.nodes level.foralls level.asserted level.nodes level.foralls level.asserted table asserted (omega arith) (omega arith) (omega arith) last_fall.3

    popped_parts : popped (assertions_with graph table asserted items) ≡ record { graph = state_after graph Pop; formulas = first_formulas level.nodes level.foralls table; asserted = take level.asserted asserted; saved = map (saved_of table asserted) (reverse rest) }
    popped_parts = ap (λ (list : List Level). restored (assertions_with graph table asserted items) (map (saved_of table asserted) list)) turned

    -- the assertions without the last level
    pub view_popped : assertions_with later cut kept rest ≡ popped (assertions_with graph table asserted items)
    view_popped = cc (graph_is, table_is, kept_is, rest_saved, popped_parts)

    -- are a stack
    pub stack_popped : IsStackOf later cut kept rest
    stack_popped =
        let nodes : length cut.nodes ≡ length (take level.nodes table.nodes) = ap (λ (formulas : Formulas). length formulas.nodes) table_is in
        let foralls : length cut.foralls ≡ length (take level.foralls table.foralls) = ap (λ (formulas : Formulas). length formulas.foralls) table_is in
        let few : length kept ≡ length (take level.asserted asserted) = ap length kept_is in
        let longer : length items ≡ length rest + 1 = ap length is ∙ length-append rest (level ∷ []) in
        record {
          fall = Fall-more level.nodes level.foralls level.asserted (length cut.nodes) (length cut.foralls) (length kept) (reverse rest)
              (omega (arith, nodes, length-take level.nodes table.nodes, last_fall.0))
              (omega (arith, foralls, length-take level.foralls table.foralls, last_fall.1))
              (omega (arith, few, length-take level.asserted asserted, last_fall.2))
              last_fall.3;
          terms_stand = subst (λ (g : GraphState). NodesStand (length (terms_of g.standing)) cut.nodes) (sym graph_is) (subst (λ (formulas : Formulas). NodesStand (length (terms_of (before_last is_push graph.standing))) formulas.nodes) (sym table_is) last_saved.1.terms);
          saved_stand = subst (λ (g : GraphState). AreSaved g.standing (map (saved_of cut kept) (reverse rest))) (sym graph_is) (subst (AreSaved (before_last is_push graph.standing)) (sym rest_saved) last_saved.2);
          few = omega (arith, longer, stack.few);
        }

-- a level that opens
module _ (graph later : GraphState) (table : Formulas) (asserted : List ℕ) (items more : List Level) (level : Level) (is : more ≡ items ++ level ∷ []) (stack : IsStackOf graph table asserted items) (is_table : IsFormulaTable table) (graph_is : later ≡ state_after graph Push) (nodes_are : level.nodes ≡ length table.nodes) (foralls_are : level.foralls ≡ length table.foralls) (asserted_are : level.asserted ≡ length asserted) where
  opened : reverse more ≡ level ∷ reverse items
  opened = ap reverse is ∙ reverse-append items (level ∷ [])

  saved_whole : saved_of table asserted level ≡ saves table asserted
  saved_whole = ap₂ saves (all_formulas table level.nodes level.foralls nodes_are foralls_are) (take_all level.asserted asserted (omega (arith, asserted_are)))

  all_opened : map (saved_of table asserted) (reverse more) ≡ saves table asserted ∷ map (saved_of table asserted) (reverse items)
  all_opened = ap (map (saved_of table asserted)) opened ∙ ap (λ (first : Saved). first ∷ map (saved_of table asserted) (reverse items)) saved_whole

  -- leaves a stack
  pub stack_pushed : length items + 1 < 2 ^ 32 → IsStackOf later table asserted more
  stack_pushed room =
      let longer : length more ≡ length items + 1 = ap length is ∙ length-append items (level ∷ []) in
      let grew : length (terms_of graph.standing) ≤ length (terms_of later.standing) = let same = ap (λ (g : GraphState). length (terms_of g.standing)) graph_is in omega (arith, same, opened_longer graph.standing graph.done) in
      record {
        fall = subst (Fall (length table.nodes) (length table.foralls) (length asserted)) (sym opened)
            (omega (arith, nodes_are), omega (arith, foralls_are), omega (arith, asserted_are), Fall-more (length table.nodes) (length table.foralls) (length asserted) level.nodes level.foralls level.asserted (reverse items) (omega (arith, nodes_are)) (omega (arith, foralls_are)) (omega (arith, asserted_are)) stack.fall);
        terms_stand = NodesStand-more (length (terms_of graph.standing)) (length (terms_of later.standing)) table.nodes grew stack.terms_stand;
        saved_stand = subst (λ (g : GraphState). AreSaved g.standing (map (saved_of table asserted) (reverse more))) (sym graph_is)
            (subst (AreSaved (then_op graph.standing graph.done Push)) (sym all_opened) (AreSaved-opened graph.standing graph.done (saves table asserted) (map (saved_of table asserted) (reverse items)) (record { table = is_table; terms = stack.terms_stand }) stack.saved_stand));
        few = omega (arith, longer, room);
      }

-- more came at the ends
module _ (graph later : GraphState) (table grown : Formulas) (asserted after more : List ℕ) (items : List Level) (stack : IsStackOf graph table asserted items) (grows : GrowsGraph graph later) (grows_table : GrowsTable table grown) (after_is : after ≡ asserted ++ more) where
  pub saved_same : map (saved_of grown after) (reverse items) ≡ map (saved_of table asserted) (reverse items)
  saved_same = saved_kept (reverse items) (length table.nodes) (length table.foralls) (length asserted) table grown asserted after more (omega arith) (omega arith) (omega arith) stack.fall grows_table after_is

  -- and the levels are as before
  pub stack_keeps : KeepsLevels (assertions_with graph table asserted items) (assertions_with later grown after items)
  stack_keeps = record { holds_more = record { grows = grows; more = more; asserted_are = after_is }; formulas_grow = grows_table; saved_are = saved_same }

  pub stack_grown : NodesStand (length (terms_of later.standing)) grown.nodes → IsStackOf later grown after items
  stack_grown stand =
      let nodes = ap length grows_table.nodes_are ∙ length-append table.nodes grows_table.more_nodes in
      let foralls = ap length grows_table.foralls_are ∙ length-append table.foralls grows_table.more_foralls in
      let longer = ap length after_is ∙ length-append asserted more in
      record {
        fall = Fall-more (length table.nodes) (length table.foralls) (length asserted) (length grown.nodes) (length grown.foralls) (length after) (reverse items) (omega (arith, nodes)) (omega (arith, foralls)) (omega (arith, longer)) stack.fall;
        terms_stand = stand;
        saved_stand = subst (AreSaved later.standing) (sym saved_same) (AreSaved-grown graph.standing later.standing (map (saved_of table asserted) (reverse items)) (levels_same graph later grows) (last_same graph later grows) stack.saved_stand);
        few = stack.few;
      }

-- what a refused entry leaves of the graph
pub stop_grows : (before after : GraphState) (formula : Formula) (tuple : List ℕ) (rows : List TermRow) (limit : ℕ) (table : Formulas) (fault : EnterFault) → StopsEntry (λ more. after ≡ with_terms before more) (λ added. (middle : GraphState) × (middle ≡ with_terms before added) × (after ≡ middle)) formula tuple rows limit table fault → GrowsGraph before after
stop_grows before after formula tuple rows limit table TermsFull stops = grows_terms before after stops.added stops.grew
stop_grows before after formula tuple rows limit table NodesFull stops = grows_terms before after stops.rows_grow.added stops.rows_grow.grew
stop_grows before after formula tuple rows limit table Memory stops = ⊎_elim (grows_terms before after stops.added) (λ p. grows_terms before after stops.added (p.2 ∙ p.1)) stops.grew

-- a table that is the same grew by nothing
pub grows_nothing : (table same : Formulas) → same ≡ table → GrowsTable table same
grows_nothing table same is = record {
  more_nodes = [];
  more_foralls = [];
  nodes_are = ap (λ (formulas : Formulas). formulas.nodes) is ∙ sym (append-nil table.nodes);
  foralls_are = ap (λ (formulas : Formulas). formulas.foralls) is ∙ sym (append-nil table.foralls);
  limit_is = ap (λ (formulas : Formulas). formulas.limit) is;
}

-- a table with the nodes of a formula grew
pub grows_entered : (formula : Formula) (terms : List ℕ) (old new : Formulas) (number : ℕ) → TableGrows formula terms old new number → GrowsTable old new
grows_entered formula terms old new number grows = record {
  more_nodes = grows.nodes;
  more_foralls = grows.foralls;
  nodes_are = ap (λ (formulas : Formulas). formulas.nodes) grows.new_is;
  foralls_are = ap (λ (formulas : Formulas). formulas.foralls) grows.new_is;
  limit_is = ap (λ (formulas : Formulas). formulas.limit) grows.new_is;
}

-- why a formula is not entered is why it is not asserted
pub refused_stops : (formula : Formula) (tuple : List ℕ) (before after : Assertions) (fault : EnterFault) → KeepsFormulas before after → StopsEntry (λ more. after.graph ≡ with_terms before.graph more) (λ added. (middle : GraphState) × (middle ≡ with_terms before.graph added) × (after.graph ≡ middle)) formula tuple (terms_of before.graph.standing) before.graph.limit before.formulas fault → StopsOver formula tuple before after fault
refused_stops formula tuple before after TermsFull keeps stops = (stops, keeps)
refused_stops formula tuple before after NodesFull keeps stops = (stops, keeps)
refused_stops formula tuple before after Memory keeps stops = (record { added = stops.added; terms = stops.terms; grew = ⊎_elim (λ grew. grew) (λ p. p.2 ∙ p.1) stops.grew; enters = stops.enters }, keeps)

-- a table that grew, cut back to what it had
module _ (table grown : Formulas) (grows : GrowsTable table grown) (nodes foralls : ℕ) (nodes_are : nodes ≡ length table.nodes) (foralls_are : foralls ≡ length table.foralls) where
  pub cut_back : first_formulas nodes foralls grown ≡ table
  cut_back =
      same_formulas (take nodes grown.nodes) table.nodes (take foralls grown.foralls) table.foralls grown.limit table.limit
      (ap (λ (n : ℕ). take n grown.nodes) nodes_are ∙ ap (take (length table.nodes)) grows.nodes_are ∙ take-append_seam table.nodes grows.more_nodes)
      (ap (λ (n : ℕ). take n grown.foralls) foralls_are ∙ ap (take (length table.foralls)) grows.foralls_are ∙ take-append_seam table.foralls grows.more_foralls)
      grows.limit_is

  pub cut_named : IsFormulaTable table → NamesFirst grown nodes foralls
  cut_named is = first_named grown nodes foralls (subst IsFormulaTable (sym cut_back) is)

  pub cut_nodes : nodes ≤ length grown.nodes
  cut_nodes = omega (arith, nodes_are, ap length grows.nodes_are, length-append table.nodes grows.more_nodes)

  pub cut_foralls : foralls ≤ length grown.foralls
  cut_foralls = omega (arith, foralls_are, ap length grows.foralls_are, length-append table.foralls grows.more_foralls)

-- after a refused entry
module _ (graph later : GraphState) (table same : Formulas) (asserted : List ℕ) (levels : List Level) (formula : Formula) (tuple : List ℕ) (fault : EnterFault) (stack : IsStackOf graph table asserted levels) (is : same ≡ table)
    (stops : StopsEntry (λ more. later ≡ with_terms graph more) (λ added. (middle : GraphState) × (middle ≡ with_terms graph added) × (later ≡ middle)) formula tuple (terms_of graph.standing) graph.limit table fault) where
  refused_grows : GrowsGraph graph later
  refused_grows = stop_grows graph later formula tuple (terms_of graph.standing) graph.limit table fault stops

  -- the stack is one
  pub refused_stack : IsStackOf later same asserted levels
  refused_stack =
      stack_grown graph later table same asserted asserted [] levels stack refused_grows (grows_nothing table same is) (sym (append-nil asserted))
      (subst (λ (formulas : Formulas). NodesStand (length (terms_of later.standing)) formulas.nodes) (sym is) (NodesStand-more (length (terms_of graph.standing)) (length (terms_of later.standing)) table.nodes (terms_longer graph later refused_grows) stack.terms_stand))

  -- the formula is not asserted
  pub refused_assert : StopsOver formula tuple (assertions_with graph table asserted levels) (assertions_with later same asserted levels) fault
  refused_assert =
      refused_stops formula tuple (assertions_with graph table asserted levels) (assertions_with later same asserted levels) fault
      (record { formulas_are = is; asserted_are = refl; saved_are = saved_same graph later table same asserted asserted [] levels stack refused_grows (grows_nothing table same is) (sym (append-nil asserted)) })
      stops

  -- and its levels are as before
  pub refused_keeps : KeepsLevels (assertions_with graph table asserted levels) (assertions_with later same asserted levels)
  refused_keeps = stack_keeps graph later table same asserted asserted [] levels stack refused_grows (grows_nothing table same is) (sym (append-nil asserted))
