-- What a list of matchers is and does.
use Rattle.std.specs.Prelude.{◌≡◌, ℕ, ◌+◌, ◌<◌, List, [], ◌∷◌, ◌++◌, Option, None, length, replicate, All, vec_len}
use Rattle.crossbeam_deque.specs.Handles.{worker_flavor, worker_view}
use Rattle.match_machine.specs.Answers.{Answered}
use Rattle.match_pool.specs.declared.thief.Thief.{Thief}
use Rattle.match_pool.specs.declared.matcher.Matcher.{Matcher}
use Rattle.match_pool.specs.Found.{weight}
use Rattle.match_pool.specs.Stealing.{Owner, known, IsSameOwner, Fits, robbed, stolen}
use Rattle.match_pool.specs.Weights.{weigh}

-- it pops at the front, and has taken and found nothing
pub record IsFresh (m : Matcher) : Type 0 where
  pub fifo : worker_flavor m.own ≡ 0
  pub part : 0 < (worker_view m.own).parts
  pub taken : (worker_view m.own).taken ≡ []
  pub stolen : stolen m.next ≡ []
  pub answers : m.found.answers.items ≡ []
  pub starved : m.found.starved.items ≡ []

-- it is one of so many matchers
abbrev pub IsOneOf : ℕ → Matcher → Type 0
IsOneOf workers m = m.worker < workers

-- besides, it steals from nobody, and nobody from it
pub record IsAlone (workers : ℕ) (m : Matcher) : Type 0 where
  pub one : IsOneOf workers m
  pub fresh : IsFresh m
  pub parts : (worker_view m.own).parts ≡ 2
  pub next : m.next ≡ None

-- each number that it took stands in an answer or among the starved, and its answers are such
pub record HasWorked (P : Answered → Type 0) (old new : Matcher) : Type 0 where
  pub worker : new.worker ≡ old.worker
  pub own : IsSameOwner old.own new.own
  pub next : robbed new.next ≡ robbed old.next
  pub told : (h : ℕ → ℕ) → weight h new.found ≡ weigh h (worker_view new.own).taken + weigh h (stolen new.next)
  pub answers : All P new.found.answers.items

-- `next` steals from the first of the matchers, each of them from the next, and the last one from this owner's deque
abbrev pub Follow : Owner → Option Thief → List Matcher → Type 0
Follow owner next [] = Fits next owner
Follow owner next (m ∷ ms) = Fits next m.own × (worker_flavor m.own ≡ 0) × Follow owner m.next ms

-- each steals from the next, and the last one from the first
abbrev pub IsRing : List Matcher → Type 0
IsRing [] = Unit {0}
IsRing (m ∷ ms) = (worker_flavor m.own ≡ 0) × Follow m.own m.next ms

-- what was pushed, what was taken and stolen, and what is starved, by all of them
abbrev pub pushed_by : (ℕ → ℕ) → List Matcher → ℕ
pushed_by h ms = weigh (λ (m : Matcher). weigh h (known m.own).pushed) ms

abbrev pub taken_by : (ℕ → ℕ) → List Matcher → ℕ
taken_by h ms = weigh (λ (m : Matcher). weigh h (known m.own).taken + weigh h (stolen m.next)) ms

abbrev pub starved_by : (ℕ → ℕ) → List Matcher → ℕ
starved_by h ms = weigh (λ (m : Matcher). weigh h m.found.starved.items) ms

-- the answers of all of them, and the number of each one's matcher
abbrev pub answers_by : List Matcher → List Answered
answers_by [] = []
answers_by (m ∷ ms) = m.found.answers.items ++ answers_by ms

abbrev pub workers_by : List Matcher → List ℕ
workers_by [] = []
workers_by (m ∷ ms) = replicate (length m.found.answers.items) m.worker ++ workers_by ms
