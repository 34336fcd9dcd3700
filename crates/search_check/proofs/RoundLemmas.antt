-- A search where no disjunction is open and some forall is live.
use Rattle.std.proofs.Common.{◌≡◌, ◌≢◌, ℕ, ◌+◌, ◌<◌, ◌≤◌, List, [], ◌∷◌, ◌++◌, length, Option, refl, sym, ap}
use Rattle.std.proofs.Common.{subst, ◌∙◌, append-nil, append_assoc, arith}
use Rattle.std.proofs.lemmas.List.{length-append}
use Rattle.match_store.specs.declared.instance.Instance.{Instance}
use Rattle.formula_table.specs.declared.enter_fault.EnterFault.{EnterFault}
use Rattle.formula_assert.specs.Assertions.{Assertions, held_of}
use Rattle.formula_assert.specs.InLevel.{KeepsLevels}
use Rattle.search_laws.specs.Branch.{live_in}
use Rattle.search_laws.specs.Path.{Path, first_path}
use Rattle.search_laws.specs.Rounds.{AreNewIn, EntersAll, Overflows}
use Rattle.search_laws.specs.Rounds as entering
use Rattle.search_laws.specs.Verdict.{refused, Verdict}
use Rattle.search_branch.specs.declared.branch_values.BranchValues.{BranchValues}
use Rattle.search_branch.specs.declared.step.Step.TheVariants.{WayOut}
use Rattle.search_branch.specs.Levels.{IsLevelOver}
use Rattle.search_branch.specs.Right.{AreValuesOf}
use Rattle.search_branch.specs.Steps.{branch_of, IsStep}
use Rattle.search_check.specs.declared.aside.Aside.{Aside}
use Rattle.search_check.specs.declared.outcome.Outcome.{Outcome}
use Rattle.search_check.specs.declared.search.Search.{Search}
use Rattle.search_check.specs.declared.why.Why.TheVariants.{Settled, RoundsSpent}
use Rattle.search_check.specs.Round.{path_at}
use Rattle.search_check.specs.UnderWay.{IsOnTheWay, IsUnderWay, GoesOn}
use Rattle.search_check.specs.Verdicts.{IsOpenWith}
use Rattle.search_check.proofs.EnteredLives.{lives_all}
use Rattle.search_check.proofs.GrowthLemmas.{places_kept}
use Rattle.search_check.proofs.HalfLemmas.{halves_more}
use Rattle.search_check.proofs.UnderWayLemmas.{place_at}
use Rattle.search_check.proofs.WayLemmas.{settles, spends, overflows, goes_on}

-- the instances that are entered are done
done_entered : {instances : List Instance} {before after : Path} → EntersAll instances before after →
    after.done ≡ before.done ++ instances
done_entered {before = before} (entering.EntersAll.none) = sym (append-nil before.done)
done_entered {before = before} {after = after}
    (entering.EntersAll.more {instance = instance} {instances = instances} {between = between} one rest) =
    done_entered rest ∙ ap (λ (done : List Instance). done ++ instances) one.done_is
    ∙ append_assoc before.done (instance ∷ []) instances

module _ (rounds : ℕ) (start now : Assertions) (asides : List Aside) (struck : List (ℕ × ℕ)) (done : List Instance)
    (spent : List ℕ) (values : BranchValues)
    (under_way : IsUnderWay rounds start asides (place_at now struck done spent values))
    (step : IsStep now.formulas (branch_of now struck) WayOut) where
  abbrev first : Path
  first = first_path start.formulas (held_of start)

  abbrev path : Path
  path = path_at now struck done spent

  module _ (live : live_in now.formulas (branch_of now struck) ≢ []) where
    -- nothing is new
    pub ends_settled : (search : Search) (outcome : Option Outcome) → AreNewIn path [] →
        IsOpenWith Settled (held_of now) spent outcome → GoesOn rounds start now search outcome
    ends_settled search outcome new is = subst (GoesOn rounds start now search) (sym is.1) (
      path,
      settles rounds first under_way.halves path under_way.way step.0 step.1 step.2 live new,
      is.2,
    )

    -- each round is spent
    pub ends_spent : (search : Search) (outcome : Option Outcome) (instances : List Instance) → instances ≢ [] →
        AreNewIn path instances → rounds ≤ length spent → IsOpenWith RoundsSpent (held_of now) spent outcome →
        GoesOn rounds start now search outcome
    ends_spent search outcome [] some new all is = absurd (some refl)
    ends_spent search outcome (instance ∷ instances) some new all is =
        let most : length spent ≤ rounds = under_way.not_past in
        subst (GoesOn rounds start now search) (sym is.1) (
          path,
          spends rounds first under_way.halves path under_way.way step.0 step.1 step.2 live instance instances new
              (omega (arith, all, most)),
          is.2,
        )

    -- there is no room for an instance
    pub ends_past : (instances : List Instance) (fault : EnterFault) → AreNewIn path instances →
        length spent < rounds → Overflows instances path fault → Verdict rounds first (refused fault)
    ends_past instances fault new more past = overflows rounds first under_way.halves path under_way.way step.0 step.1
        step.2 live instances fault new more past

    -- the new instances are entered, and the search goes on in the next round
    module _ (next : Assertions) (later : List Instance) (keeps : KeepsLevels now next) where
      on_the_way : (instances : List Instance) → instances ≢ [] → AreNewIn path instances → length spent < rounds →
          EntersAll instances path (path_at next struck later spent) →
          IsOnTheWay rounds first under_way.halves
          (path_at next struck later (spent ++ length instances ∷ []))
      on_the_way [] some new more enters = absurd (some refl)
      on_the_way (instance ∷ instances) some new more enters = goes_on rounds first under_way.halves path under_way.way
          step.0 step.1 step.2 live instance instances (path_at next struck later spent) new more enters

      pub round_entered : ((one between other : Assertions) → KeepsLevels one between → KeepsLevels between other →
          KeepsLevels one other) → (instances : List Instance) → instances ≢ [] → AreNewIn path instances →
          length spent < rounds → EntersAll instances path (path_at next struck later spent) →
          (counts : List ℕ) → counts ≡ spent ++ length instances ∷ [] → (values_next : BranchValues) →
          AreValuesOf next struck values_next →
          ((before : BranchValues) → IsLevelOver before values → IsLevelOver before values_next) →
          IsUnderWay rounds start asides (place_at next struck later counts values_next)
      round_entered both instances some new more enters counts counted values_next right levels = record {
        halves = under_way.halves;
        are = halves_more both start under_way.halves asides (place_at now struck done spent values)
            (place_at next struck later counts values_next)
            (record {
              keeps = keeps;
              struck = [];
              struck_are = sym (append-nil struck);
              done = instances;
              done_are = done_entered enters;
              spent = length instances ∷ [];
              spent_are = counted;
              levels = levels;
            })
            under_way.are;
        way = subst (λ (all : List ℕ). IsOnTheWay rounds first under_way.halves (path_at next struck later all))
            (sym counted) (on_the_way instances some new more enters);
        right = right;
        places = places_kept now next keeps struck under_way.places;
        lives = lives_all enters under_way.lives;
        not_past =
            let count = ap length counted ∙ length-append spent (length instances ∷ []) in
            omega (arith, count, more);
      }
