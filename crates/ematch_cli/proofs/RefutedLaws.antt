-- A check is answered by `unsat` only where what is asserted is refuted, and by `sat` only where it is satisfied.
use Rattle.std.proofs.Common.{◌≡◌, refl, subst, codes}
use Rattle.em_outside.specs.declared.limits.Limits.{Limits}
use Rattle.formula_assert.specs.Assertions.{held_of}
use Rattle.search_laws.specs.Laws.{UnsatRefutes, SatSatisfies}
use Rattle.search_laws.specs.Path.{Path, first_path}
use Rattle.search_laws.specs.Verdict.{Ending, unsat, sat, settled, rounds_spent, refused, Verdict}
use Rattle.em_words.specs.declared.task.Task.{Task}
use Rattle.em_words.specs.declared.task.Task.TheVariants.{Solve}
use Rattle.ematch_cli.specs.Listing.{line}
use Rattle.ematch_cli.specs.Response.{HasLine}
use Rattle.ematch_cli.specs.RunLaws.{RunLaws}
use Rattle.ematch_cli.specs.RunState.{RunState}
use Rattle.ematch_cli.specs.Refuted.{ComesAbout, at_first, by_command, UnsatIsRight}
use Rattle.ematch_cli.specs.Satisfied.{SatIsRight}
use Rattle.ematch_cli.proofs.OneAnswer.{IsRight, right_opening, right_after, in_order}

module _ (task : Task) (limits : Limits) (law : RunLaws) where
  right_where : {now : RunState} → ComesAbout task limits now → IsRight now
  right_where at_first = right_opening law limits
  right_where (by_command {now} {later} {words} {command} {text} comes replies) =
      right_after task limits law now words command later text (right_where comes) replies

-- a search with this line ended so
unsat_line : (ending : Ending) → HasLine ending (line (codes "unsat")) → ending ≡ unsat
unsat_line unsat e = refl
unsat_line (sat last) e = absurd (lines_differ e)
  where
    lines_differ : line (codes "unsat") ≡ line (codes "sat") → ⊥
    lines_differ e = cc
unsat_line (settled last) e = absurd (lines_differ e)
  where
    lines_differ : line (codes "unsat") ≡ line (codes "unknown") → ⊥
    lines_differ e = cc
unsat_line (rounds_spent last) e = absurd (lines_differ e)
  where
    lines_differ : line (codes "unsat") ≡ line (codes "unknown") → ⊥
    lines_differ e = cc
unsat_line (refused fault) e = absurd e

pub unsat_right : RunLaws → UnsatRefutes → UnsatIsRight
unsat_right law refutes rounds limits now comes searched =
    refutes rounds now.assertions.formulas (held_of now.assertions) (in_order now (right_where (Solve rounds) limits law comes))
    (subst (Verdict rounds (first_path now.assertions.formulas (held_of now.assertions)))
    (unsat_line searched.ending searched.has_line) searched.verdict)

sat_line : (ending : Ending) → HasLine ending (line (codes "sat")) → (last : Path) × (ending ≡ sat last)
sat_line unsat e = absurd (lines_differ e)
  where
    lines_differ : line (codes "sat") ≡ line (codes "unsat") → ⊥
    lines_differ e = cc
sat_line (sat last) e = (last, refl)
sat_line (settled last) e = absurd (lines_differ e)
  where
    lines_differ : line (codes "sat") ≡ line (codes "unknown") → ⊥
    lines_differ e = cc
sat_line (rounds_spent last) e = absurd (lines_differ e)
  where
    lines_differ : line (codes "sat") ≡ line (codes "unknown") → ⊥
    lines_differ e = cc
sat_line (refused fault) e = absurd e

pub sat_right : RunLaws → SatSatisfies → SatIsRight
sat_right law satisfies rounds limits now comes searched =
    let right = right_where (Solve rounds) limits law comes in
    let found = sat_line searched.ending searched.has_line in
    let verdict : Verdict rounds (first_path now.assertions.formulas (held_of now.assertions)) (sat found.0) =
    subst (Verdict rounds (first_path now.assertions.formulas (held_of now.assertions))) found.1 searched.verdict in
    record {
      last = found.0;
      verdict = verdict;
      satisfies = λ predicates leaders are keeps. satisfies rounds now.assertions.formulas (held_of now.assertions)
          found.0 leaders predicates (in_order now right) verdict are keeps;
    }
