-- What `sat` tells of a script.
use Rattle.std.specs.Prelude.{ℕ, Bool, List, codes}
use Rattle.em_outside.specs.declared.limits.Limits.{Limits}
use Rattle.graph_meaning.specs.Standing.{terms_of}
use Rattle.formula_assert.specs.Assertions.{Assertions, held_of}
use Rattle.search_laws.specs.Kept.{AreLeaders, KeepsSorts}
use Rattle.search_laws.specs.Laws.{IsWayOut}
use Rattle.search_laws.specs.Path.{Path, first_path}
use Rattle.search_laws.specs.Verdict.{sat, Verdict}
use Rattle.em_words.specs.declared.task.Task.TheVariants.{Solve}
use Rattle.ematch_cli.specs.Listing.{line}
use Rattle.ematch_cli.specs.Refuted.{ComesAbout}
use Rattle.ematch_cli.specs.Response.{IsCheckResponse}
use Rattle.ematch_cli.specs.RunState.{RunState}

-- The search of what is asserted, with so many rounds, ends in this branch. The leaders of its terms make an
-- assignment, and that satisfies all that is asserted, whichever symbols are the predicates, if the sorts are kept to.
pub record IsSatisfied (rounds : ℕ) (now : Assertions) : Type 0 where
  pub last : Path
  pub verdict : Verdict rounds (first_path now.formulas (held_of now)) (sat last)
  pub satisfies : (predicates : ℕ → Bool) (leaders : List ℕ) → AreLeaders last.branch.held.graph.standing leaders →
      KeepsSorts predicates (terms_of now.graph.standing) now.formulas.nodes →
      IsWayOut predicates leaders now.formulas (held_of now) last.branch

-- `sat` is answered only where the search has such a branch, however many rounds it may have
abbrev pub SatIsRight : Type 0
SatIsRight = (rounds : ℕ) (limits : Limits) (now : RunState) → ComesAbout (Solve rounds) limits now →
    IsCheckResponse (Solve rounds) now (line (codes "sat")) → IsSatisfied rounds now.assertions
