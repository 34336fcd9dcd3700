-- The steps of a search with second halves to come.
use Rattle.std.proofs.Common.{◌≡◌, ◌≢◌, ℕ, ◌<◌, List, [], ◌∷◌, length}
use Rattle.match_store.specs.declared.instance.Instance.{Instance}
use Rattle.formula_table.specs.declared.enter_fault.EnterFault.{EnterFault}
use Rattle.formula_value.specs.Holds.{HasNode}
use Rattle.formula_assert.specs.Held.{Held}
use Rattle.formula_assert.specs.Asserts.{Asserts}
use Rattle.search_laws.specs.Branch.{Branch, with_held, live_in}
use Rattle.search_laws.specs.Closing.{Conflict, Closes, IsFirstUnit, IsSplit, HasNoOpen}
use Rattle.search_laws.specs.Closing as closing
use Rattle.search_laws.specs.Path.{Path, with_branch, after_round}
use Rattle.search_laws.specs.Rounds.{AreNewIn, EntersAll, Overflows}
use Rattle.search_laws.specs.Verdict.{Ending, unsat, sat, settled, rounds_spent, refused, Verdict}
use Rattle.search_laws.specs.Verdict.{IsQuiet, IsDecided, IsUndecided}
use Rattle.search_laws.specs.Verdict as verdicts
use Rattle.search_branch.specs.Steps.{HasNoConflict, HasNoUnit}
use Rattle.search_check.specs.UnderWay.{Half, place_of, path_in, second_path, Unwinds, IsOnTheWay}
use Rattle.search_check.specs.UnderWay as way

-- a path whose branch closes as a later one does ends as with that one
module _ (rounds : ℕ) (path : Path) (later : Branch)
    (from : (last : Branch) → Closes path.formulas later last → Closes path.formulas path.branch last) where
  quiet_alike : (closed : Branch) → IsQuiet path.formulas later closed → IsQuiet path.formulas path.branch closed
  quiet_alike closed quiet = record { closes = from closed quiet.closes; no_conflict = quiet.no_conflict }

  decided_alike : (closed : Branch) → IsDecided path.formulas later closed → IsDecided path.formulas path.branch closed
  decided_alike closed decided = record { quiet = quiet_alike closed decided.quiet; no_open = decided.no_open }

  undecided_alike : (closed : Branch) → IsUndecided (with_branch path later) closed → IsUndecided path closed
  undecided_alike closed is = record { decided = decided_alike closed is.decided; some_live = is.some_live }

  ends_alike : {ending : Ending} → Verdict rounds (with_branch path later) ending → Verdict rounds path ending
  ends_alike (verdicts.Verdict.conflict {closed = closed} closes conflict) =
      verdicts.Verdict.conflict (from closed closes) conflict
  ends_alike (verdicts.Verdict.first_half {closed = closed} quiet split asserts verdict other) =
      verdicts.Verdict.first_half (quiet_alike closed quiet) split asserts verdict other
  ends_alike (verdicts.Verdict.second_half {closed = closed} quiet split asserts lost has verdict) =
      verdicts.Verdict.second_half (quiet_alike closed quiet) split asserts lost has verdict
  ends_alike (verdicts.Verdict.satisfied {closed = closed} decided live) =
      verdicts.Verdict.satisfied (decided_alike closed decided) live
  ends_alike (verdicts.Verdict.nothing_new {closed = closed} undecided none) =
      verdicts.Verdict.nothing_new (undecided_alike closed undecided) none
  ends_alike (verdicts.Verdict.no_round {closed = closed} undecided new all) =
      verdicts.Verdict.no_round (undecided_alike closed undecided) new all
  ends_alike (verdicts.Verdict.round {closed = closed} undecided new more enters verdict) =
      verdicts.Verdict.round (undecided_alike closed undecided) new more enters verdict
  ends_alike (verdicts.Verdict.past_limit {closed = closed} undecided new more overflows) =
      verdicts.Verdict.past_limit (undecided_alike closed undecided) new more overflows

-- what is not lost is how the whole search ends
passes : (rounds : ℕ) (ending : Ending) → ending ≢ unsat → (halves : List Half) → Unwinds rounds halves ending ending
passes rounds ending other [] = way.Unwinds.none
passes rounds ending other (half ∷ halves) = way.Unwinds.kept other (passes rounds ending other halves)

-- nothing is split at first
pub starts : (rounds : ℕ) (first : Path) → IsOnTheWay rounds first [] first
starts rounds first ending last verdict (way.Unwinds.none) = verdict

module _ (rounds : ℕ) (first : Path) where
  module _ (halves : List Half) (path : Path) (on_the_way : IsOnTheWay rounds first halves path)
      (no_conflict : HasNoConflict path.formulas path.branch) where
    -- the part of the first unit is asserted
    pub steps : (next : Held) (n part : ℕ) → IsFirstUnit path.formulas path.branch n part →
        Asserts path.formulas part path.branch.held next →
        IsOnTheWay rounds first halves (with_branch path (with_held path.branch next))
    steps next n part is_first asserts ending last verdict unwinds =
        on_the_way ending last
        (ends_alike rounds path (with_held path.branch next)
        (λ closed closes. closing.Closes.step no_conflict is_first asserts closes) verdict)
        unwinds

    -- nothing is a unit, and no disjunction is open
    module _ (no_unit : HasNoUnit path.formulas path.branch) (no_open : HasNoOpen path.formulas path.branch) where
      decided : IsDecided path.formulas path.branch path.branch
      decided = record {
        quiet = record { closes = closing.Closes.closed no_conflict no_unit; no_conflict = no_conflict };
        no_open = no_open;
      }

      whole : (ending : Ending) → ending ≢ unsat → Verdict rounds path ending → Verdict rounds first ending
      whole ending other verdict = on_the_way ending ending verdict (passes rounds ending other halves)

      -- a way out is that of the whole search
      pub ends : live_in path.formulas path.branch ≡ [] → Verdict rounds first (sat path)
      ends live = whole (sat path) other (verdicts.Verdict.satisfied decided live)
        where
          other : sat path ≢ unsat
          other same = cc

      -- some forall is live
      module _ (live : live_in path.formulas path.branch ≢ []) where
        undecided : IsUndecided path path.branch
        undecided = record { decided = decided; some_live = live }

        -- nothing is new
        pub settles : AreNewIn path [] → Verdict rounds first (settled path)
        settles none = whole (settled path) other (verdicts.Verdict.nothing_new undecided none)
          where
            other : settled path ≢ unsat
            other same = cc

        -- each round is spent
        pub spends : (instance : Instance) (instances : List Instance) → AreNewIn path (instance ∷ instances) →
            length path.spent ≡ rounds → Verdict rounds first (rounds_spent path)
        spends instance instances new all =
            whole (rounds_spent path) other (verdicts.Verdict.no_round undecided new all)
          where
            other : rounds_spent path ≢ unsat
            other same = cc

        -- there is no room for an instance
        pub overflows : (instances : List Instance) (fault : EnterFault) → AreNewIn path instances →
            length path.spent < rounds → Overflows instances path fault → Verdict rounds first (refused fault)
        overflows instances fault new more past =
            whole (refused fault) other (verdicts.Verdict.past_limit undecided new more past)
          where
            other : refused fault ≢ unsat
            other same = cc

        -- the next round
        pub goes_on : (instance : Instance) (instances : List Instance) (next : Path) →
            AreNewIn path (instance ∷ instances) → length path.spent < rounds →
            EntersAll (instance ∷ instances) path next →
            IsOnTheWay rounds first halves (after_round next (length (instance ∷ instances)))
        goes_on instance instances next new more enters ending last verdict unwinds =
            on_the_way ending last (verdicts.Verdict.round undecided new more enters verdict) unwinds

  -- a split has its second half to come
  module _ (half : Half) (halves : List Half) (next : Held)
      (on_the_way : IsOnTheWay rounds first halves (path_in (place_of half)))
      (no_conflict : HasNoConflict half.before.formulas (path_in (place_of half)).branch)
      (no_unit : HasNoUnit half.before.formulas (path_in (place_of half)).branch) where
    quiet_here : IsQuiet half.before.formulas (path_in (place_of half)).branch (path_in (place_of half)).branch
    quiet_here = record { closes = closing.Closes.closed no_conflict no_unit; no_conflict = no_conflict }

    pub splits : IsSplit half.before.formulas (path_in (place_of half)).branch half.aside.node half.aside.place
        half.aside.part →
        Asserts half.before.formulas half.aside.part (path_in (place_of half)).branch.held next →
        HasNode half.before.formulas.nodes half.aside.part half.node →
        IsOnTheWay rounds first (half ∷ halves)
        (with_branch (path_in (place_of half)) (with_held (path_in (place_of half)).branch next))
    splits split asserts has ending last verdict (way.Unwinds.kept other rest) =
        on_the_way ending last (verdicts.Verdict.first_half quiet_here split asserts verdict other) rest
    splits split asserts has ending last verdict (way.Unwinds.next {ending = second} later rest) =
        on_the_way second last (verdicts.Verdict.second_half quiet_here split asserts verdict has later) rest

  -- a branch with a conflict is lost
  lost : (path : Path) → Conflict path.formulas path.branch → Verdict rounds path unsat
  lost path conflict = verdicts.Verdict.conflict (closing.Closes.conflict conflict) conflict

  -- where the search at hand is lost, the last second half is taken up
  pub takes_up : (half : Half) (halves : List Half) (path : Path) → IsOnTheWay rounds first (half ∷ halves) path →
      Conflict path.formulas path.branch → IsOnTheWay rounds first halves (second_path half)
  takes_up half halves path on_the_way conflict ending last verdict rest =
      on_the_way unsat last (lost path conflict) (way.Unwinds.next verdict rest)

  -- and where none is left, the whole search is
  pub loses : (path : Path) → IsOnTheWay rounds first [] path → Conflict path.formulas path.branch →
      Verdict rounds first unsat
  loses path on_the_way conflict = on_the_way unsat unsat (lost path conflict) way.Unwinds.none
