-- Instances are entered in one way, or refused in one way; and what is sound stays so where they are entered.
use Rattle.std.proofs.Common.{◌≡◌, ◌≢◌, ℕ, ◌<◌, ◌≤◌, List, [], ◌∷◌, ◌++◌, length, map, slice_get, Some}
use Rattle.std.proofs.Common.{Contains, refl, sym, ap, subst, ◌∙◌, append-nil, append_assoc, arith}
use Rattle.std.proofs.lemmas.List.{length-append, map-append}
use Rattle.std.proofs.lemmas.List.Elements.{All-weaker}
use Rattle.graph_terms.specs.declared.term_row.TermRow.{TermRow}
use Rattle.graph_terms.specs.Terms.{IsTable}
use Rattle.graph_meaning.specs.declared.done.Done.{Done}
use Rattle.graph_meaning.specs.declared.op.Op.{Op}
use Rattle.graph_meaning.specs.declared.op.Op.TheVariants.{Add, Merge, Differ, Live, Push, Pop}
use Rattle.graph_meaning.specs.Standing.{terms_of}
use Rattle.graph_meaning.specs.State.{GraphState, state_after}
use Rattle.match_graph.specs.GraphTerms.{adding, with_terms}
use Rattle.match_graph.specs.GraphTermsLaws.{terms-with_terms}
use Rattle.match_store.specs.declared.instance.Instance.{Instance}
use Rattle.formula_table.specs.declared.enter_fault.EnterFault.{EnterFault}
use Rattle.formula_table.specs.declared.enter_fault.EnterFault.TheVariants.{TermsFull, NodesFull, Memory}
use Rattle.formula_table.specs.declared.table_forall.TableForall.{TableForall}
use Rattle.formula_draft.specs.Draft.{Formula}
use Rattle.formula_table.specs.Entry.{StopsEntry}
use Rattle.formula_table.specs.Formulas.{Formulas, NodesStand}
use Rattle.formula_table.specs.Instance.{HasVariables}
use Rattle.formula_assert.specs.Held.{Held, held}
use Rattle.formula_assert.specs.Exactly.{operations_in}
use Rattle.formula_assert.specs.Assertions.{Assertions}
use Rattle.formula_assert.specs.AssertFormula.{StopsOver}
use Rattle.formula_assert.specs.AssertInstance.{TermsStand, AssertsInstance, StopsAssertInstance}
use Rattle.formula_assert.specs.Tables.{AreTables}
use Rattle.search_laws.specs.Path.{Path}
use Rattle.search_laws.specs.Rounds.{graph_in, EntersOne, EntersAll, PassesLimit, Overflows}
use Rattle.search_laws.specs.Rounds as entering
use Rattle.search_laws.proofs.Places.{at_front, map_from, with_more, contains_head, contains_later}
use Rattle.search_laws.proofs.SoundLemmas.{OpFits, count_in, IsSound, IsSoundPath, IsOver, IsOverPath}
use Rattle.search_laws.proofs.SoundLemmas.{sound_asserts, asserts_rows}

-- what is known of instances of foralls, over terms that stand, one for each variable: tables stay tables where one is
-- asserted, and one is asserted in one way, and then not refused, and refused in one way, but for want of memory
pub record InstanceLaws : Type 0 where
  pub tables : (forall : ℕ) (tuple : List ℕ) (before after : Assertions) →
      HasVariables before.formulas forall (length tuple) → TermsStand before tuple → AreTables before →
      AssertsInstance forall tuple before after → AreTables after
  pub once : (forall : ℕ) (tuple : List ℕ) (before one other : Assertions) →
      HasVariables before.formulas forall (length tuple) → TermsStand before tuple → AreTables before →
      AssertsInstance forall tuple before one → AssertsInstance forall tuple before other → one ≡ other
  pub not_both : (forall : ℕ) (tuple : List ℕ) (before one other : Assertions) (fault : EnterFault) →
      HasVariables before.formulas forall (length tuple) → TermsStand before tuple → AreTables before →
      (fault ≢ Memory) → AssertsInstance forall tuple before one →
      StopsAssertInstance forall tuple before other fault → ⊥
  pub alike : (forall : ℕ) (tuple : List ℕ) (before one other : Assertions) (fault also : EnterFault) →
      HasVariables before.formulas forall (length tuple) → TermsStand before tuple → AreTables before →
      (fault ≢ Memory) → (also ≢ Memory) → StopsAssertInstance forall tuple before one fault →
      StopsAssertInstance forall tuple before other also → (fault ≡ also) × (one ≡ other)

-- terms that a graph gains are added last
operations_gained : (graph : GraphState) (rows : List TermRow) →
    operations_in (with_terms graph rows).standing ≡ operations_in graph.standing ++ map adding rows
operations_gained graph [] = sym (append-nil (operations_in graph.standing))
operations_gained graph (row ∷ rows) =
    operations_gained (state_after graph (adding row)) rows
    ∙ ap (λ (list : List Op). list ++ map adding rows)
    (map-append (λ (done : Done). done.op) graph.standing (record { serial = graph.done; op = adding row } ∷ []))
    ∙ append_assoc (operations_in graph.standing) (adding row ∷ []) (map adding rows)

-- there are as many terms or more, and each forall has its variables
record AreMore (old new : Formulas) (count later : ℕ) : Type 0 where
  pub terms : count ≤ later
  pub variables : (forall n : ℕ) → HasVariables old forall n → HasVariables new forall n

-- so it is where foralls are put at the end
variables_more : (old new : Formulas) (more : List TableForall) → new.foralls ≡ old.foralls ++ more →
    (forall n : ℕ) → HasVariables old forall n → HasVariables new forall n
variables_more old new more are forall n has = (
  has.0,
  subst (λ (list : List TableForall). slice_get list forall ≡ Some has.0) (sym are)
      (at_front old.foralls more forall has.0 has.1),
  has.2,
)

module _ (old new : Formulas) (count later : ℕ) (more : AreMore old new count later) where
  -- what fits still does
  op_grown : (op : Op) → OpFits old count op → OpFits new later op
  op_grown (Add symbol args) fits = tt
  op_grown (Merge s t) fits = let terms = more.terms in
      (omega (arith, fits.0, terms), omega (arith, fits.1, terms))
  op_grown (Differ s t) fits = tt
  op_grown (Live trigger) fits = more.variables trigger.forall trigger.variables fits
  op_grown Push fits = tt
  op_grown Pop fits = tt

  over_grown : (instance : Instance) → IsOver old count instance → IsOver new later instance
  over_grown instance over = record {
    variables = more.variables instance.forall (length instance.tuple) over.variables;
    stand = All-weaker (λ term. term < count) (λ term. term < later)
        (λ term less. let terms = more.terms in omega (arith, less, terms)) instance.tuple over.stand;
  }

-- this graph and what stands on the path, at no level
abbrev with_graph : Path → GraphState → Assertions
with_graph path graph = record {
  graph = graph;
  formulas = path.formulas;
  asserted = path.branch.held.asserted;
  saved = [];
}

-- what stands on the path
abbrev assertions_in : Path → Assertions
assertions_in path = with_graph path (graph_in path)

tables_in : (path : Path) → IsSoundPath path → AreTables (assertions_in path)
tables_in path sound = record {
  terms = sound.terms;
  formulas = record { table = sound.table; terms = sound.stand };
  saved = tt;
}

-- to enter an instance on the path is to assert it
asserts_instance : (instance : Instance) (before after : Path) → EntersOne instance before after →
    AssertsInstance instance.forall instance.tuple (assertions_in before) (assertions_in after)
asserts_instance instance before after one = record {
  quantified = one.enters.quantified;
  is_forall = one.enters.is_forall;
  asserts_body = record {
    entered = one.entered;
    root = one.root;
    enters = one.enters.enters;
    asserts = one.asserts;
    saved_is = refl;
  };
}

-- and to pass a limit is to be refused
stops_over : (path : Path) (entered : GraphState) (body : Formula) (tuple : List ℕ) (fault : EnterFault) →
    (fault ≢ Memory) → StopsEntry (λ more. entered ≡ with_terms (graph_in path) more) (λ more. ⊥) body tuple
    (terms_of (graph_in path).standing) (graph_in path).limit path.formulas fault →
    StopsOver body tuple (assertions_in path) (with_graph path entered) fault
stops_over path entered body tuple TermsFull not stops =
    (stops, record { formulas_are = refl; asserted_are = refl; saved_are = refl })
stops_over path entered body tuple NodesFull not stops =
    (stops, record { formulas_are = refl; asserted_are = refl; saved_are = refl })
stops_over path entered body tuple Memory not stops = absurd (not refl)

stops_instance : (instance : Instance) (path : Path) (fault : EnterFault) (passes : PassesLimit path instance fault) →
    StopsAssertInstance instance.forall instance.tuple (assertions_in path) (with_graph path passes.entered) fault
stops_instance instance path fault passes = record {
  quantified = passes.stops.quantified;
  is_forall = passes.stops.is_forall;
  stops_body = stops_over path passes.entered (passes.stops.quantified).body instance.tuple fault passes.is_limit
      passes.stops.stops;
}

abbrev path_of : Held → Formulas → List (ℕ × ℕ) → List Instance → List ℕ → Path
path_of now formulas struck done spent = record {
  formulas = formulas;
  branch = record { held = now; struck = struck };
  done = done;
  spent = spent;
}

-- paths with the same parts are the same
same_path : (one other : Path) → one.branch.held ≡ other.branch.held → one.formulas ≡ other.formulas →
    one.branch.struck ≡ other.branch.struck → one.done ≡ other.done → one.spent ≡ other.spent → one ≡ other
same_path one other holds formulas struck done spent =
    ap (λ (now : Held). path_of now one.formulas one.branch.struck one.done one.spent) holds
    ∙ ap (λ (table : Formulas). path_of other.branch.held table one.branch.struck one.done one.spent) formulas
    ∙ ap (λ (list : List (ℕ × ℕ)). path_of other.branch.held other.formulas list one.done one.spent) struck
    ∙ ap (λ (list : List Instance). path_of other.branch.held other.formulas other.branch.struck list one.spent) done
    ∙ ap (λ (list : List ℕ). path_of other.branch.held other.formulas other.branch.struck other.done list) spent

module _ (laws : InstanceLaws) (instance : Instance) (before : Path) (sound : IsSoundPath before)
    (over : IsOverPath before instance) where
  -- an instance is entered in one way
  entry_once : (one other : Path) → EntersOne instance before one → EntersOne instance before other → one ≡ other
  entry_once one other first second =
      let same : assertions_in one ≡ assertions_in other =
      laws.once instance.forall instance.tuple (assertions_in before) (assertions_in one) (assertions_in other)
      over.variables over.stand (tables_in before sound) (asserts_instance instance before one first)
      (asserts_instance instance before other second) in
      same_path one other (ap (λ (now : Assertions). held now.graph now.asserted) same)
      (ap (λ (now : Assertions). now.formulas) same) (first.struck_is ∙ sym second.struck_is)
      (first.done_is ∙ sym second.done_is) (first.spent_is ∙ sym second.spent_is)

  -- and then not refused
  not_past : (after : Path) (fault : EnterFault) → EntersOne instance before after →
      PassesLimit before instance fault → ⊥
  not_past after fault one passes = laws.not_both instance.forall instance.tuple (assertions_in before)
      (assertions_in after) (with_graph before passes.entered) fault over.variables over.stand
      (tables_in before sound) passes.is_limit (asserts_instance instance before after one)
      (stops_instance instance before fault passes)

  -- it is refused in one way
  fault_once : (fault other : EnterFault) → PassesLimit before instance fault → PassesLimit before instance other →
      fault ≡ other
  fault_once fault other first second = (laws.alike instance.forall instance.tuple (assertions_in before)
      (with_graph before first.entered) (with_graph before second.entered) fault other over.variables over.stand
      (tables_in before sound) first.is_limit second.is_limit (stops_instance instance before fault first)
      (stops_instance instance before other second)).0

  module _ (after : Path) (one : EntersOne instance before after) where
    abbrev added : List TermRow
    added = one.enters.enters.rows_grow.added

    rows_are : terms_of one.entered.standing ≡ terms_of (graph_in before).standing ++ added
    rows_are = ap (λ (graph : GraphState). terms_of graph.standing) one.enters.enters.rows_grow.grew
        ∙ terms-with_terms (graph_in before) added

    operations_are : operations_in one.entered.standing ≡ operations_in (graph_in before).standing ++ map adding added
    operations_are = ap (λ (graph : GraphState). operations_in graph.standing) one.enters.enters.rows_grow.grew
        ∙ operations_gained (graph_in before) added

    -- there are more terms and foralls
    entered_more : AreMore before.formulas after.formulas (count_in (graph_in before)) (count_in one.entered)
    entered_more = record {
      terms = let same = ap (λ (rows : List TermRow). length rows) rows_are in
          omega (arith, same, length-append (terms_of (graph_in before).standing) added);
      variables = variables_more before.formulas after.formulas one.enters.enters.table_grows.foralls
          (ap (λ (table : Formulas). table.foralls) one.enters.enters.table_grows.new_is);
    }

    after_rows : terms_of (graph_in after).standing ≡ terms_of one.entered.standing
    after_rows = asserts_rows after.formulas one.asserts

    entered_sound : IsSound after.formulas one.entered
    entered_sound =
        let tables : AreTables (assertions_in after) =
        laws.tables instance.forall instance.tuple (assertions_in before) (assertions_in after) over.variables
        over.stand (tables_in before sound) (asserts_instance instance before after one) in
        record {
          terms = subst IsTable after_rows tables.terms;
          table = tables.formulas.table;
          stand = subst (λ (rows : List TermRow). NodesStand (length rows) after.formulas.nodes) after_rows
              tables.formulas.terms;
          fits = λ op c. with_more (OpFits after.formulas (count_in one.entered))
              (operations_in (graph_in before).standing) (map adding added)
              (λ old had. op_grown before.formulas after.formulas (count_in (graph_in before)) (count_in one.entered)
              entered_more old (sound.fits old had))
              (λ new came. let from = map_from adding added new came in
              subst (OpFits after.formulas (count_in one.entered)) from.2 tt)
              op (subst (λ (list : List Op). Contains list op) operations_are c);
        }

    -- what is sound stays so
    entry_sound : IsSoundPath after
    entry_sound = sound_asserts after.formulas one.asserts entered_sound

    -- and an instance over terms that stand does
    entry_over : (next : Instance) → IsOverPath before next → IsOverPath after next
    entry_over next stands = subst (λ (rows : List TermRow). IsOver after.formulas (length rows) next)
        (sym after_rows)
        (over_grown before.formulas after.formulas (count_in (graph_in before)) (count_in one.entered) entered_more
        next stands)

-- the first of the instances are entered, and the next is past a limit
pub data Stops : List Instance → Path → EnterFault → Type 0 where
  here : {instance : Instance} {instances : List Instance} {before : Path} {fault : EnterFault} →
      PassesLimit before instance fault → Stops (instance ∷ instances) before fault
  later : {instance : Instance} {instances : List Instance} {before between : Path} {fault : EnterFault} →
      EntersOne instance before between → Stops instances between fault → Stops (instance ∷ instances) before fault

stops_behind : {entered : List Instance} {before last : Path} → EntersAll entered before last → (next : Instance)
    (rest : List Instance) (fault : EnterFault) → PassesLimit last next fault →
    Stops (entered ++ next ∷ rest) before fault
stops_behind entering.none next rest fault passes = here passes
stops_behind (entering.more one others) next rest fault passes =
    later one (stops_behind others next rest fault passes)

pub stops_of : (instances : List Instance) (path : Path) (fault : EnterFault) → Overflows instances path fault →
    Stops instances path fault
stops_of instances path fault over = subst (λ (list : List Instance). Stops list path fault) (sym over.instances_are)
    (stops_behind over.enters over.next over.rest fault over.passes)

-- each instance is over terms that stand
abbrev pub AreOverPath : Path → List Instance → Type 0
AreOverPath path instances = (instance : Instance) → Contains instances instance → IsOverPath path instance

module _ (laws : InstanceLaws) where
  module _ (instance : Instance) (instances : List Instance) (before : Path) (sound : IsSoundPath before)
      (over : AreOverPath before (instance ∷ instances)) where
    first_over : IsOverPath before instance
    first_over = over instance (contains_head instance instances)

    rest_over : (between : Path) → EntersOne instance before between → AreOverPath between instances
    rest_over between one next c = entry_over laws instance before sound first_over between one next
        (over next (contains_later instance next instances c))

    same_between : (between other : Path) → EntersOne instance before between →
        EntersOne instance before other → other ≡ between
    same_between between other one two = entry_once laws instance before sound first_over other between two one

  -- what is sound stays so where instances are entered
  pub all_sound : {instances : List Instance} {before after : Path} → IsSoundPath before →
      AreOverPath before instances → EntersAll instances before after → IsSoundPath after
  all_sound sound over entering.none = sound
  all_sound sound over (entering.more {instance} {instances} {before} {between} first rest) =
      all_sound (entry_sound laws instance before sound (first_over instance instances before sound over) between first)
      (rest_over instance instances before sound over between first) rest

  -- instances are entered in one way
  pub all_once : {instances : List Instance} {before one other : Path} → IsSoundPath before →
      AreOverPath before instances → EntersAll instances before one → EntersAll instances before other → one ≡ other
  all_once sound over entering.none entering.none = refl
  all_once {other} sound over (entering.more {instance} {instances} {before} {between} first rest)
      (entering.more {between = between'} first' rest') =
      let first_is = first_over instance instances before sound over in
      all_once (entry_sound laws instance before sound first_is between first)
      (rest_over instance instances before sound over between first) rest
      (subst (λ (path : Path). EntersAll instances path other)
      (same_between instance instances before sound over between between' first first') rest')

  -- and then none is past a limit
  pub all_not_stopped : {instances : List Instance} {before after : Path} {fault : EnterFault} →
      IsSoundPath before → AreOverPath before instances → EntersAll instances before after →
      Stops instances before fault → ⊥
  all_not_stopped sound over entering.none stops = elim stops [ ]
  all_not_stopped {fault} sound over (entering.more {instance} {instances} {before} {between} first rest)
      (here passes) =
      not_past laws instance before sound (first_over instance instances before sound over) between fault first passes
  all_not_stopped {fault} sound over (entering.more {instance} {instances} {before} {between} first rest)
      (later {between = between'} first' stops) =
      let first_is = first_over instance instances before sound over in
      all_not_stopped (entry_sound laws instance before sound first_is between first)
      (rest_over instance instances before sound over between first) rest
      (subst (λ (path : Path). Stops instances path fault)
      (same_between instance instances before sound over between between' first first') stops)

  -- and the first that is has one fault
  pub stops_all_once : {instances : List Instance} {before : Path} {fault other : EnterFault} →
      IsSoundPath before → AreOverPath before instances → Stops instances before fault →
      Stops instances before other → fault ≡ other
  stops_all_once {other} sound over (here {instance} {instances} {before} {fault} passes) (here passes') =
      fault_once laws instance before sound (first_over instance instances before sound over) fault other passes passes'
  stops_all_once sound over (here {instance} {instances} {before} {fault} passes) (later {between} first stops) =
      absurd (not_past laws instance before sound (first_over instance instances before sound over) between fault first
      passes)
  stops_all_once {other} sound over (later {instance} {instances} {before} {between} first stops) (here passes) =
      absurd (not_past laws instance before sound (first_over instance instances before sound over) between other first
      passes)
  stops_all_once {other} sound over (later {instance} {instances} {before} {between} first stops)
      (later {between = between'} first' stops') =
      let first_is = first_over instance instances before sound over in
      stops_all_once (entry_sound laws instance before sound first_is between first)
      (rest_over instance instances before sound over between first) stops
      (subst (λ (path : Path). Stops instances path other)
      (same_between instance instances before sound over between between' first first') stops')
