-- What the words of the command line mean.
use Rattle.std.specs.Prelude.{ℕ, List, Option, Some, None, if◌then◌else◌, codes, option_and_then, option_map}
use Rattle.std.specs.Str.{bytes_eq}
use Rattle.em_words.specs.Number.{Text, number_in}
use Rattle.em_words.specs.Texts.{Texts, texts_in}
use Rattle.em_words.specs.declared.words.Words.{Words}
use Rattle.em_words.specs.declared.job.Job.{Job}
use Rattle.em_words.specs.declared.job.Job.TheVariants.{Matches, Solve, Make, Drill}

-- the number of an option, or its default
abbrev pub setting : Option Text → ℕ → ℕ → Option ℕ
setting None default most = Some default
setting (Some text) default most = number_in 0 most text

-- the count, which is not left out
abbrev pub size : Option Text → Option ℕ
size None = None
size (Some text) = number_in 2 4000 text

-- a job that has no count
abbrev pub alone : Option Text → Job → Option Job
alone None job = Some job
alone (Some text) job = None

-- the command, with its count
abbrev pub job_of : Text → Option Text → Option Job
job_of command count =
    if bytes_eq command (codes "matches") then alone count Matches
    else (if bytes_eq command (codes "solve") then alone count Solve
    else (if bytes_eq command (codes "make") then option_map (λ n. Make n) (size count)
    else (if bytes_eq command (codes "drill") then option_map (λ n. Drill n) (size count)
    else None)))

-- what the texts ask for: 0 workers and 32 rounds where none are given
abbrev pub words_of : Texts → Option Words
words_of t = option_and_then (λ workers. option_and_then (λ rounds. option_and_then (λ command.
    option_map (λ job. record { workers = workers; rounds = rounds; job = job })
    (job_of command t.count)) t.command)
    (setting t.rounds 32 1000)) (setting t.workers 0 64)

-- what the words behind the program's name ask for, or none where they are not of the form
-- `[--workers N] [--rounds N] COMMAND [COUNT]`
abbrev pub meaning : List Text → Option Words
meaning words = option_and_then words_of (texts_in words)
