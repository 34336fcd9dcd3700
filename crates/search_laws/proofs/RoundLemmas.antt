-- A round of instances: each of them is a pair, and a world that fits before it and obeys these fits after it.
use Rattle.std.proofs.Common.{◌≡◌, ℕ, ◌<◌, ◌≤◌, true, false, IsTrue, List, [], ◌∷◌, ◌++◌, length, map, slice_get}
use Rattle.std.proofs.Common.{All, Contains, refl, sym, ap, subst, ◌∙◌, ⊎_elim, append-nil, append_assoc, arith}
use Rattle.std.specs.Option.{option_map_or}
use Rattle.std.proofs.lemmas.List.{map-append, length-append}
use Rattle.std.proofs.lemmas.List.Elements.{All-nil, All-cons, All-weaker}
use Rattle.std.proofs.lemmas.List.Elements.{Contains-append_cases, filter_map-append}
use Rattle.graph_terms.specs.declared.term_row.TermRow.{TermRow}
use Rattle.graph_terms.specs.Terms.{first_rows, IsTable}
use Rattle.graph_trigger.specs.declared.trigger.Trigger.{Trigger}
use Rattle.graph_meaning.specs.declared.done.Done.{Done}
use Rattle.graph_meaning.specs.declared.op.Op.{Op}
use Rattle.graph_meaning.specs.declared.op.Op.TheVariants.{Add, Merge, Differ, Live, Push, Pop}
use Rattle.graph_meaning.specs.Same.{IsClassLeader}
use Rattle.graph_meaning.specs.Standing.{terms_of, merges_of, added_row}
use Rattle.graph_meaning.specs.State.{GraphState, state_after}
use Rattle.match_graph.specs.GraphTerms.{adding, with_terms}
use Rattle.match_store.specs.declared.instance.Instance.{Instance}
use Rattle.match_store.specs.New.{IsNew}
use Rattle.formula_table.specs.declared.node.Node.{Node}
use Rattle.formula_table.specs.declared.node.Node.TheVariants.{Equal, Atom, And, Or, Forall}
use Rattle.formula_table.specs.declared.table_forall.TableForall.{TableForall}
use Rattle.formula_table.specs.Formulas.{Formulas, IsFormulaTable, NodesStand}
use Rattle.formula_table.specs.Instance.{HasVariables, EntersInstance}
use Rattle.formula_table.specs.EntryLaw.{StandsAfterEntry}
use Rattle.formula_value.specs.Holds.{HasNode}
use Rattle.formula_assert.specs.Held.{Held, held, triggers_at, operations_of}
use Rattle.formula_assert.specs.Exactly.{operations_in}
use Rattle.search_laws.specs.Branch.{Branch}
use Rattle.search_laws.specs.Path.{Path}
use Rattle.search_laws.specs.Rounds.{EntersOne, EntersAll, graph_in}
use Rattle.search_laws.specs.Rounds as rounds
use Rattle.search_laws.specs.Assignment.{Assignment, IsAssignment}
use Rattle.search_laws.specs.Pairs.{Pair, IsInstanceOf, Obeys}
use Rattle.search_laws.proofs.Places.{contains_none, contains_one, contains_head, contains_later}
use Rattle.search_laws.proofs.Places.{place_of, stands_below, map_from}
use Rattle.search_laws.proofs.Places.{at_front, with_more}
use Rattle.search_laws.proofs.GraphLemmas.{merge_stands, live_stands, both_stand, truths_stand}
use Rattle.search_laws.proofs.FormulaLemmas.{holds_leaf}
use Rattle.search_laws.proofs.Worlds.{World, IsWorld, IsTrueIn, IsNotTrueIn, IsTrueOp, true_of_leaves}
use Rattle.search_laws.proofs.Totals.{world_of, is_world, true_in}
use Rattle.search_laws.proofs.GrownLemmas.{AgreeBelow, EndsStand, worlds_agree, operation_moves, true_moves}
use Rattle.search_laws.proofs.GrownLemmas.{not_true_moves}
use Rattle.search_laws.proofs.StandingLemmas.{IsHeldOver, IsNotLive, asserts_over}
use Rattle.search_laws.proofs.FitLemmas.{FitsHeld, IsRightlyStruck, Fits, asserts_fits}
use Rattle.search_laws.proofs.EntryLemmas.{same_foralls, nodes_are, is_instance, regrown}

-- the rows stand behind the others as terms, and nothing else is done
pub record Adds (rows : List TermRow) (before after : GraphState) : Type 0 where
  pub terms : terms_of after.standing ≡ terms_of before.standing ++ rows
  pub operations : operations_in after.standing ≡ operations_in before.standing ++ map adding rows

adds_one : (before : GraphState) (row : TermRow) → Adds (row ∷ []) before (state_after before (adding row))
adds_one before row =
    let done : Done = record { serial = before.done; op = adding row } in
    record {
      terms = ap (λ rows. first_rows ++ rows) (filter_map-append added_row before.standing (done ∷ []));
      operations = map-append (λ (d : Done). d.op) before.standing (done ∷ []);
    }

adds : (before : GraphState) (rows : List TermRow) → Adds rows before (with_terms before rows)
adds before [] = record {
  terms = sym (append-nil (terms_of before.standing));
  operations = sym (append-nil (operations_in before.standing));
}
adds before (row ∷ rows) =
    let one = adds_one before row in
    let rest = adds (state_after before (adding row)) rows in
    record {
      terms = rest.terms ∙ ap (λ list. list ++ rows) one.terms
          ∙ append_assoc (terms_of before.standing) (row ∷ []) rows;
      operations = rest.operations ∙ ap (λ list. list ++ map adding rows) one.operations
          ∙ append_assoc (operations_in before.standing) (adding row ∷ []) (map adding rows);
    }

-- an operation that adds a row
adding_only : (P : Op → Type 0) → ((row : TermRow) → P (adding row)) → (rows : List TermRow) (op : Op) →
    Contains (map adding rows) op → P op
adding_only P each rows op c = let h = map_from adding rows op c in subst P h.2 (each h.0)

ends_later : (count more : ℕ) → count ≤ more → (op : Op) → EndsStand count op → EndsStand more op
ends_later count more less (Add symbol args) ends = tt
ends_later count more less (Merge s t) ends =
    let one = ends.0 in let other = ends.1 in (omega (arith, less, one), omega (arith, less, other))
ends_later count more less (Differ s t) ends =
    let one = ends.0 in let other = ends.1 in (omega (arith, less, one), omega (arith, less, other))
ends_later count more less (Live trigger) ends = tt
ends_later count more less Push ends = tt
ends_later count more less Pop ends = tt

-- the operations of a node are those over a table with the same foralls
same_operations : (old new : Formulas) → new.foralls ≡ old.foralls → (node : Node) →
    operations_of old node ≡ operations_of new node
same_operations old new e (Equal true s t) = refl
same_operations old new e (Equal false s t) = refl
same_operations old new e (Atom true term) = refl
same_operations old new e (Atom false term) = refl
same_operations old new e (And parts) = refl
same_operations old new e (Or parts) = refl
same_operations old new e (Forall forall) = ap (λ foralls. map Live (triggers_at foralls forall)) (sym e)

module _ (old new : Formulas) (more : List Node) (nodes_are : new.nodes ≡ old.nodes ++ more)
    (same : new.foralls ≡ old.foralls) (rows added : List TermRow) (before : Held) (entered : GraphState)
    (did : Adds added before.graph entered) (over : IsHeldOver old rows before) where
  has_later : (n : ℕ) (node : Node) → HasNode old.nodes n node → HasNode new.nodes n node
  has_later n node at = subst (λ nodes. HasNode nodes n node) (sym nodes_are) (at_front old.nodes more n node at)

  -- what is held stands over longer tables
  grown_over : IsHeldOver new (rows ++ added) (held entered before.asserted)
  grown_over = record {
    rows_are = did.terms ∙ ap (λ list. list ++ added) over.rows_are;
    ends = λ op c. with_more (EndsStand (length (rows ++ added))) (operations_in before.graph.standing)
        (map adding added)
        (λ o d. ends_later (length rows) (length (rows ++ added))
        (let long = length-append rows added in omega (arith, long)) o (over.ends o d))
        (adding_only (EndsStand (length (rows ++ added))) (λ row. tt) added) op
        (subst (λ list. Contains list op) did.operations c);
    lives = λ trigger c. ⊎_elim
        (λ stood.
        let h = over.lives trigger stood in
        record {
          n = h.n;
          node = h.node;
          asserted = h.asserted;
          has = has_later h.n h.node h.has;
          of_node = subst (λ ops. Contains ops (Live trigger)) (same_operations old new same h.node) h.of_node;
        })
        (λ put. absurd (adding_only IsNotLive (λ row. tt) added (Live trigger) put))
        (Contains-append_cases (operations_in before.graph.standing) (map adding added) (Live trigger)
        (subst (λ list. Contains list (Live trigger)) did.operations c));
  }

  module _ (world other : World) (agree : AgreeBelow (length rows) world other)
      (stand : NodesStand (length rows) old.nodes) where
    -- a world that fits it fits, where it gives the terms that stood the same numbers
    grown_fits : IsWorld (rows ++ added) other → FitsHeld old world before →
        FitsHeld new other (held entered before.asserted)
    grown_fits is fits = record {
      is_world = subst (λ list. IsWorld list other)
          (sym (did.terms ∙ ap (λ list. list ++ added) over.rows_are)) is;
      operations = λ op c. with_more (IsTrueOp other) (operations_in before.graph.standing) (map adding added)
          (λ o d. operation_moves (length rows) world other agree o (over.ends o d) (fits.operations o d))
          (adding_only (IsTrueOp other) (λ row. tt) added) op (subst (λ list. Contains list op) did.operations c);
      asserted = λ n c. subst (λ nodes. IsTrueIn nodes other n) (sym nodes_are)
          (true_moves old.nodes more (length rows) world other agree stand n (fits.asserted n c));
    }

    grown_struck : (n place : ℕ) → IsRightlyStruck old world n place → IsRightlyStruck new other n place
    grown_struck n place h = record {
      parts = h.parts;
      part = h.part;
      has = has_later n (Or h.parts) h.has;
      at_place = h.at_place;
      not_true = subst (λ nodes. IsNotTrueIn nodes other h.part) (sym nodes_are)
          (not_true_moves old.nodes more (length rows) world other agree stand h.part h.not_true);
    }

-- the path stands over these terms, and has the foralls of the start
pub record IsOnWay (start formulas : Formulas) (rows : List TermRow) (now : Held) : Type 0 where
  pub terms : IsTable rows
  pub table : IsFormulaTable formulas
  pub stand : NodesStand (length rows) formulas.nodes
  pub foralls_are : formulas.foralls ≡ start.foralls
  pub over : IsHeldOver formulas rows now

pub with_over : (start formulas : Formulas) (rows : List TermRow) (now next : Held) →
    IsOnWay start formulas rows now → IsHeldOver formulas rows next → IsOnWay start formulas rows next
with_over start formulas rows now next way over = record {
  terms = way.terms;
  table = way.table;
  stand = way.stand;
  foralls_are = way.foralls_are;
  over = over;
}

-- the tuple has a term for each variable of the forall, and these are among the first so many
pub record IsFitting (start : Formulas) (count : ℕ) (instance : Instance) : Type 0 where
  pub variables : HasVariables start instance.forall (length instance.tuple)
  pub tuple_stands : All (λ term. term < count) instance.tuple

pub fitting_later : (start : Formulas) (count more : ℕ) (instance : Instance) → count ≤ more →
    IsFitting start count instance → IsFitting start more instance
fitting_later start count more instance less fitting = record {
  variables = fitting.variables;
  tuple_stands = All-weaker (λ term. term < count) (λ term. term < more) (λ term below. omega (arith, less, below))
      instance.tuple fitting.tuple_stands;
}

-- the forall is asserted
pub record IsLiveForall (formulas : Formulas) (now : Held) (forall : ℕ) : Type 0 where
  pub n : ℕ
  pub asserted : Contains now.asserted n
  pub has : HasNode formulas.nodes n (Forall forall)

-- so it is true in a world that fits
pub live_true : (formulas : Formulas) (world : World) (branch : Branch) (forall : ℕ) → Fits formulas world branch →
    IsLiveForall formulas branch.held forall → IsTrue (world.foralls forall)
live_true formulas world branch forall fits live = holds_leaf (true_of_leaves world) live.has
    (record { not_and = λ parts e. cc; not_or = λ parts e. cc }) (fits.held.asserted live.n live.asserted).holds

-- the node that makes a trigger live is its forall
live_node : (formulas : Formulas) (node : Node) (trigger : Trigger) →
    Contains (operations_of formulas node) (Live trigger) →
    (forall : ℕ) × (node ≡ Forall forall) × Contains (triggers_at formulas.foralls forall) trigger
live_node formulas (Equal true s t) trigger c = absurd (contains_one IsNotLive (Merge s t) (Live trigger) tt c)
live_node formulas (Equal false s t) trigger c = absurd (contains_one IsNotLive (Differ s t) (Live trigger) tt c)
live_node formulas (Atom true term) trigger c = absurd (contains_one IsNotLive (Merge term 0) (Live trigger) tt c)
live_node formulas (Atom false term) trigger c = absurd (contains_one IsNotLive (Merge term 1) (Live trigger) tt c)
live_node formulas (And parts) trigger c = contains_none (Live trigger) c
live_node formulas (Or parts) trigger c = contains_none (Live trigger) c
live_node formulas (Forall forall) trigger c =
    let h = map_from Live (triggers_at formulas.foralls forall) (Live trigger) c in
    (forall, refl, subst (Contains (triggers_at formulas.foralls forall)) (same_lives h.0 trigger h.2) h.1)
  where
    same_lives : (one other : Trigger) → Live one ≡ Live other → one ≡ other
    same_lives one other e = cc

module _ (start formulas : Formulas) (rows : List TermRow) (now : Held) (way : IsOnWay start formulas rows now) where
  -- leaders stand
  leader_stands : (term : ℕ) →
      IsClassLeader (terms_of now.graph.standing) (merges_of now.graph.standing) term term → term < length rows
  leader_stands term leads =
      let stands = both_stand (terms_of now.graph.standing) (merges_of now.graph.standing)
      (λ s t c. subst (λ list. (s < length list) × (t < length list)) (sym way.over.rows_are)
      (way.over.ends (Merge s t) (merge_stands now.graph.standing s t c))) leads.same in
      subst (λ list. term < length list) way.over.rows_are stands.0

  module _ (done : List Instance) (instance : Instance) (new : IsNew now.graph.standing done instance) where
    -- the forall of a new instance is asserted, and the instance is one of it
    new_is : IsLiveForall formulas now instance.forall × IsFitting start (length rows) instance
    new_is =
        let h = way.over.lives new.trigger (live_stands now.graph.standing new.trigger new.live) in
        let of_forall = live_node formulas h.node new.trigger h.of_node in
        let forall : ℕ = of_forall.0 in
        let has : HasNode formulas.nodes h.n (Forall forall) = subst (HasNode formulas.nodes h.n) of_forall.1 h.has in
        let quantified = stands_below formulas.foralls forall (way.table.foralls_stand h.n forall has) in
        let triggers_are : triggers_at formulas.foralls forall ≡ (quantified.0).triggers =
        ap (λ o. option_map_or (λ (q : TableForall). q.triggers) o []) quantified.1 in
        let place = place_of (quantified.0).triggers new.trigger
        (subst (λ list. Contains list new.trigger) triggers_are of_forall.2) in
        let is_trigger = (way.table.foralls forall quantified.0 quantified.1).triggers place.0 new.trigger place.1 in
        let here : forall ≡ instance.forall = sym is_trigger.forall_is ∙ new.of_forall in (
          record { n = h.n; asserted = h.asserted; has = subst (λ f. HasNode formulas.nodes h.n (Forall f)) here has },
          record {
            variables = (
              quantified.0,
              ap (λ foralls. slice_get foralls instance.forall) (sym way.foralls_are)
                  ∙ ap (slice_get formulas.foralls) (sym here) ∙ quantified.1,
              sym is_trigger.variables_are ∙ sym new.matches.each_variable,
            );
            tuple_stands = All-weaker
                (λ term. IsClassLeader (terms_of now.graph.standing) (merges_of now.graph.standing) term term)
                (λ term. term < length rows) leader_stands instance.tuple new.matches.leaders;
          },
        )

    pub new_live : IsLiveForall formulas now instance.forall
    new_live = new_is.0

    pub new_fits : IsFitting start (length rows) instance
    new_fits = new_is.1

-- after an instance was entered terms and formulas are tables
abbrev pub EntryKeeps : Type 0
EntryKeeps = (forall : ℕ) (tuple : List ℕ) (rows later : List TermRow) (limit : ℕ) (old new : Formulas)
    (number : ℕ) → IsFormulaTable old → HasVariables old forall (length tuple) →
    All (λ term. term < length rows) tuple →
    EntersInstance (λ added. later ≡ rows ++ added) forall tuple rows limit old new number →
    StandsAfterEntry rows later old new number

-- the path after an instance stands over more terms, and a world that fits before it and obeys the pair fits after it
record IsFollowedByOne (start : Formulas) (instance : Instance) (rows : List TermRow) (before after : Path) : Type 0
  where
    added : List TermRow
    way : IsOnWay start after.formulas (rows ++ added) after.branch.held
    pair : Pair
    is_pair : IsInstanceOf start pair
    fits : (given : Assignment) → IsAssignment given → IsTrue (given.foralls instance.forall) → Obeys given pair →
        Fits before.formulas (world_of given rows) before.branch →
        Fits after.formulas (world_of given (rows ++ added)) after.branch

-- so after some of them
pub record IsFollowed (start : Formulas) (instances : List Instance) (rows : List TermRow) (before after : Path)
    : Type 0 where
  pub later : List TermRow
  pub way : IsOnWay start after.formulas later after.branch.held
  pub pairs : List Pair
  pub are_pairs : All (IsInstanceOf start) pairs
  pub fits : (given : Assignment) → IsAssignment given →
      ((instance : Instance) → Contains instances instance → IsTrue (given.foralls instance.forall)) →
      ((pair : Pair) → Contains pairs pair → Obeys given pair) →
      Fits before.formulas (world_of given rows) before.branch →
      Fits after.formulas (world_of given later) after.branch

module _ (keeps : EntryKeeps) (start : Formulas) where
  one_followed : (instance : Instance) (rows : List TermRow) (before after : Path) →
      EntersOne instance before after → IsOnWay start before.formulas rows before.branch.held →
      IsFitting start (length rows) instance → IsFollowedByOne start instance rows before after
  one_followed instance rows before after one way fitting =
      let forall = instance.forall in
      let tuple = instance.tuple in
      let limit = (graph_in before).limit in
      let grown = λ (more : List TermRow). one.entered ≡ with_terms (graph_in before) more in
      let enters : EntersInstance grown forall tuple rows limit before.formulas after.formulas one.root =
      subst (λ list. EntersInstance grown forall tuple list limit before.formulas after.formulas one.root)
      way.over.rows_are one.enters in
      let added = enters.enters.rows_grow.added in
      let later = rows ++ added in
      let entry = regrown grown forall tuple rows limit before.formulas after.formulas one.root enters in
      let variables : HasVariables before.formulas forall (length tuple) = (
        fitting.variables.0,
        ap (λ foralls. slice_get foralls forall) way.foralls_are ∙ fitting.variables.1,
        fitting.variables.2,
      ) in
      let stand = fitting.tuple_stands in
      let after_entry = keeps forall tuple rows later limit before.formulas after.formulas one.root way.table variables
      stand entry in
      let table = after_entry.rows_stand way.terms in
      let nodes_stand = after_entry.terms_stand way.stand in
      let more = entry.enters.table_grows.nodes in
      let nodes = nodes_are forall tuple rows later limit before.formulas after.formulas one.root entry way.table
      variables stand in
      let foralls = same_foralls forall tuple rows later limit before.formulas after.formulas one.root entry way.table
      variables stand in
      let did : Adds added (graph_in before) one.entered = subst (Adds added (graph_in before))
      (sym enters.enters.rows_grow.grew) (adds (graph_in before) added) in
      let over = grown_over before.formulas after.formulas more nodes foralls rows added before.branch.held
      one.entered did way.over in
      record {
        added = added;
        way = record {
          terms = table;
          table = after_entry.formulas_stand way.table;
          stand = nodes_stand;
          foralls_are = foralls ∙ way.foralls_are;
          over = asserts_over after.formulas later (truths_stand later table) nodes_stand one.asserts over;
        };
        pair = record { forall = forall; tuple = tuple; rows = later; nodes = after.formulas.nodes; node = one.root };
        is_pair = is_instance forall tuple rows later limit before.formulas after.formulas one.root entry way.table
            variables stand table start way.foralls_are;
        fits = λ given is live obeys fits.
            let agree = worlds_agree given rows added way.terms (truths_stand rows way.terms) in
            let now : Held = before.branch.held in
            let world = world_of given rows in
            let other = world_of given later in
            record {
              held = asserts_fits after.formulas other one.asserts
                  (grown_fits before.formulas after.formulas more nodes foralls rows added now one.entered did way.over
                  world other agree way.stand (is_world given later table is) fits.held)
                  (true_in given later table is after.formulas.nodes one.root (obeys live));
              struck = λ n place c. grown_struck before.formulas after.formulas more nodes foralls rows added now
                  one.entered did way.over world other agree way.stand n place
                  (fits.struck n place (subst (λ list. Contains list (n, place)) one.struck_is c));
            };
      }

  pub all_followed : {instances : List Instance} {before after : Path} → EntersAll instances before after →
      (rows : List TermRow) → IsOnWay start before.formulas rows before.branch.held →
      ((instance : Instance) → Contains instances instance → IsFitting start (length rows) instance) →
      IsFollowed start instances rows before after
  all_followed rounds.none rows way fitting = record {
    later = rows;
    way = way;
    pairs = [];
    are_pairs = All-nil (IsInstanceOf start);
    fits = λ given is live obeys fits. fits;
  }
  all_followed (rounds.more {instance} {instances} {before} {between} {after} one others) rows way fitting =
      let first = one_followed instance rows before between one way
      (fitting instance (contains_head instance instances)) in
      let rest = all_followed others (rows ++ first.added) first.way (λ other c. fitting_later start (length rows)
      (length (rows ++ first.added)) other
      (let long = length-append rows first.added in omega (arith, long))
      (fitting other (contains_later instance other instances c))) in
      record {
        later = rest.later;
        way = rest.way;
        pairs = first.pair ∷ rest.pairs;
        are_pairs = All-cons (IsInstanceOf start) first.pair rest.pairs first.is_pair rest.are_pairs;
        fits = λ given is live obeys fits. rest.fits given is
            (λ other c. live other (contains_later instance other instances c))
            (λ pair c. obeys pair (contains_later first.pair pair rest.pairs c))
            (first.fits given is (live instance (contains_head instance instances))
            (obeys first.pair (contains_head first.pair rest.pairs)) fits);
      }
