-- Instances that are entered one after another.
use Rattle.std.proofs.Common.{◌≡◌, ◌≢◌, ℕ, List, [], ◌∷◌, ◌++◌, take, slice_get, Some, refl}
use Rattle.graph_meaning.specs.Standing.{terms_of}
use Rattle.formula_table.specs.declared.table_forall.TableForall.{TableForall}
use Rattle.match_graph.specs.GraphTerms.{with_terms}
use Rattle.match_store.specs.declared.instance.Instance.{Instance}
use Rattle.formula_table.specs.declared.enter_fault.EnterFault.{EnterFault}
use Rattle.formula_table.specs.declared.enter_fault.EnterFault.TheVariants.{TermsFull, NodesFull, Memory}
use Rattle.formula_table.specs.Entry.{StopsEntry}
use Rattle.formula_assert.specs.Assertions.{Assertions}
use Rattle.formula_assert.specs.AssertFormula.{StopsOver}
use Rattle.formula_assert.specs.AssertInstance.{AssertsInstance, StopsAssertInstance}
use Rattle.search_laws.specs.Path.{Path}
use Rattle.search_laws.specs.Rounds.{EntersOne, EntersAll, PassesLimit, Overflows}
use Rattle.search_laws.specs.Rounds as entering
use Rattle.search_check.specs.Round.{path_at}
use Rattle.search_check.proofs.ElementLemmas.{next_split}

-- one instance more
pub enters_next : (instances : List Instance) (instance : Instance) (first before after : Path) →
    EntersAll instances first before → EntersOne instance before after →
    EntersAll (instances ++ instance ∷ []) first after
enters_next [] instance first before after (entering.EntersAll.none) one =
    entering.EntersAll.more one entering.EntersAll.none
enters_next (other ∷ instances) instance first before after (entering.EntersAll.more {between = between} head rest)
    one =
    entering.EntersAll.more head (enters_next instances instance between before after rest one)

-- an instance that is asserted is entered on the path
pub asserts_enters : (instance : Instance) (before after : Assertions) (struck : List (ℕ × ℕ))
    (done later : List Instance) (spent : List ℕ) →
    AssertsInstance instance.forall instance.tuple before after → later ≡ done ++ instance ∷ [] →
    EntersOne instance (path_at before struck done spent) (path_at after struck later spent)
asserts_enters instance before after struck done later spent asserts put = record {
  entered = asserts.asserts_body.entered;
  root = asserts.asserts_body.root;
  enters = record {
    quantified = asserts.quantified;
    is_forall = asserts.is_forall;
    enters = asserts.asserts_body.enters;
  };
  asserts = asserts.asserts_body.asserts;
  struck_is = refl;
  done_is = put;
  spent_is = refl;
}

-- why a formula is not asserted is why it is not entered
stops_entry : (quantified : TableForall) (tuple : List ℕ) (before after : Assertions) (fault : EnterFault) →
    fault ≢ Memory → StopsOver quantified.body tuple before after fault →
    StopsEntry (λ more. after.graph ≡ with_terms before.graph more) (λ more. ⊥) quantified.body tuple
    (terms_of before.graph.standing) before.graph.limit before.formulas fault
stops_entry quantified tuple before after TermsFull is stops = stops.0
stops_entry quantified tuple before after NodesFull is stops = stops.0
stops_entry quantified tuple before after Memory is stops = absurd (is refl)

-- an instance that is not asserted passes a limit
stops_passes : (instance : Instance) (before after : Assertions) (struck : List (ℕ × ℕ)) (done : List Instance)
    (spent : List ℕ) (fault : EnterFault) → fault ≢ Memory →
    StopsAssertInstance instance.forall instance.tuple before after fault →
    PassesLimit (path_at before struck done spent) instance fault
stops_passes instance before after struck done spent fault is stops = record {
  entered = after.graph;
  stops = record {
    quantified = stops.quantified;
    is_forall = stops.is_forall;
    stops = stops_entry stops.quantified instance.tuple before after fault is stops.stops_body;
  };
  is_limit = is;
}

-- so the instances overflow where the first so many are entered
pub overflows : (instances : List Instance) (index : ℕ) (instance : Instance) (first : Path)
    (before after : Assertions) (struck : List (ℕ × ℕ)) (done : List Instance) (spent : List ℕ)
    (fault : EnterFault) → slice_get instances index ≡ Some instance →
    EntersAll (take index instances) first (path_at before struck done spent) → fault ≢ Memory →
    StopsAssertInstance instance.forall instance.tuple before after fault → Overflows instances first fault
overflows instances index instance first before after struck done spent fault at enters is stops =
    let split = next_split instances index instance at in
    record {
      entered = take index instances;
      next = instance;
      rest = split.0;
      instances_are = split.1;
      last = path_at before struck done spent;
      enters = enters;
      passes = stops_passes instance before after struck done spent fault is stops;
    }
