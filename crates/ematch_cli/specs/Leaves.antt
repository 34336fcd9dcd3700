-- What a run leaves of what the words ask for.
use Rattle.std.specs.Prelude.{◌≡◌, ℕ, List, Option}
use Rattle.em_outside.specs.declared.limits.Limits.{Limits}
use Rattle.em_words.specs.declared.work.Work.{Work}
use Rattle.em_words.specs.declared.work.Work.TheVariants as work
use Rattle.ematch_cli.specs.Generated.{IsMade, IsMadeFront, IsDrill, IsDrillFront}
use Rattle.ematch_cli.specs.Headline.{Answers, StandsOf}
use Rattle.ematch_cli.specs.declared.status.Status.{Status}

-- What stands on the output, by the status: the answer to the script on the input, the generated script of a size, or
-- what is told where its matches are counted.
abbrev pub Leaves : Work → Limits → Option (List ℕ) → Option (List ℕ) → Option (List ℕ) → Option (List ℕ)
    → Status → Type 0
Leaves (work.Answer task) limits in_old in_new old new status = Answers task limits in_old in_new old new status
Leaves (work.Make count) limits in_old in_new old new status =
    StandsOf (IsMade count) (IsMadeFront count) old new status
Leaves (work.Drill count) limits in_old in_new old new status =
    StandsOf (IsDrill limits count) (IsDrillFront limits count) old new status

-- of a generated script nothing is read
abbrev pub KeepsInput : {I : Type 0} → Work → I → I → Type 0
KeepsInput (work.Answer task) old new = Unit {0}
KeepsInput (work.Make count) old new = new ≡ old
KeepsInput (work.Drill count) old new = new ≡ old
