-- The work that the words ask for.
use Rattle.std.specs.Prelude.{ℕ, ◌≤◌, List, map, ◌==◌, if◌then◌else◌, Option}
use Rattle.std.specs.Prelude.{Some, None, option_and_then, String, string_bytes}
use Rattle.std.specs.declared.alloc.Global.{Global}
use Rattle.em_words.specs.Meaning.{meaning}
use Rattle.em_words.specs.declared.job.Job.{Job}
use Rattle.em_words.specs.declared.job.Job.TheVariants as job
use Rattle.em_words.specs.declared.task.Task.TheVariants.{Matches, Solve}
use Rattle.em_words.specs.declared.work.Work.{Work}
use Rattle.em_words.specs.declared.work.Work.TheVariants.{Answer, Make, Drill}

-- the work of a job, where a search may have so many rounds
abbrev pub work_of : Job → ℕ → Work
work_of job.Matches rounds = Answer Matches
work_of job.Solve rounds = Answer (Solve rounds)
work_of (job.Make count) rounds = Make count
work_of (job.Drill count) rounds = Drill count

-- the work that the words behind the program's name ask for, where they are of the form and ask for no workers
abbrev pub work_alone : List (String Global) → Option Work
work_alone words = option_and_then (λ read. if read.workers == 0 then Some (work_of read.job read.rounds) else None)
    (meaning (map string_bytes words))

-- a generated script has a size from 2 to 4,000
abbrev pub IsSize : ℕ → Type 0
IsSize count = (2 ≤ count) × (count ≤ 4000)

abbrev pub HasSize : Work → Type 0
HasSize (Answer task) = Unit {0}
HasSize (Make count) = IsSize count
HasSize (Drill count) = IsSize count
