-- The verdict of the plain search.
use Rattle.std.specs.Prelude.{◌≡◌, ◌≢◌, ℕ, ◌<◌, List, [], ◌∷◌, length}
use Rattle.match_store.specs.declared.instance.Instance.{Instance}
use Rattle.formula_table.specs.declared.enter_fault.EnterFault.{EnterFault}
use Rattle.formula_table.specs.declared.node.Node.{Node}
use Rattle.formula_table.specs.Formulas.{Formulas}
use Rattle.formula_value.specs.Holds.{HasNode}
use Rattle.formula_assert.specs.Held.{Held}
use Rattle.formula_assert.specs.Asserts.{Asserts}
use Rattle.search_laws.specs.Branch.{Branch, with_held, with_struck, live_in}
use Rattle.search_laws.specs.Closing.{Closes, Conflict, IsSplit, HasNoOpen}
use Rattle.search_laws.specs.Path.{Path, with_branch, after_round}
use Rattle.search_laws.specs.Rounds.{AreNewIn, EntersAll, Overflows}

-- how a search ends: there is no way out; or there is one, here; or it is open here, as nothing is new, or as the rounds
-- are spent; or an instance is past a limit
pub data Ending : Type 0 where
  unsat : Ending
  sat : Path → Ending
  settled : Path → Ending
  rounds_spent : Path → Ending
  refused : EnterFault → Ending

-- the branch closes without a conflict
pub record IsQuiet (formulas : Formulas) (branch closed : Branch) : Type 0 where
  pub closes : Closes formulas branch closed
  pub no_conflict : Conflict formulas closed → ⊥

-- and nothing is left to split
pub record IsDecided (formulas : Formulas) (branch closed : Branch) : Type 0 where
  pub quiet : IsQuiet formulas branch closed
  pub no_open : HasNoOpen formulas closed

-- and some forall is live
pub record IsUndecided (path : Path) (closed : Branch) : Type 0 where
  pub decided : IsDecided path.formulas path.branch closed
  pub some_live : live_in path.formulas closed ≢ []

-- The search of a path, with so many rounds in all, ends so. Its branch closes. With a conflict there is no way out. Else
-- the first open disjunction is split: its first part left over is asserted, and where that ends without a way out, it is
-- struck. Where none is open and no forall is live, the branch is a way out. Else the instances that are new are
-- entered, if there are some and a round is left, and the search goes on.
pub data Verdict (rounds : ℕ) : Path → Ending → Type 0 where
  conflict : {path : Path} {closed : Branch} → Closes path.formulas path.branch closed →
      Conflict path.formulas closed → Verdict rounds path unsat
  first_half : {path : Path} {closed : Branch} {next : Held} {n place part : ℕ} {ending : Ending} →
      IsQuiet path.formulas path.branch closed → IsSplit path.formulas closed n place part →
      Asserts path.formulas part closed.held next → Verdict rounds (with_branch path (with_held closed next)) ending →
      ending ≢ unsat → Verdict rounds path ending
  second_half : {path : Path} {closed : Branch} {next : Held} {n place part : ℕ} {node : Node} {ending : Ending} →
      IsQuiet path.formulas path.branch closed → IsSplit path.formulas closed n place part →
      Asserts path.formulas part closed.held next → Verdict rounds (with_branch path (with_held closed next)) unsat →
      HasNode path.formulas.nodes part node →
      Verdict rounds (with_branch path (with_struck closed n place node)) ending → Verdict rounds path ending
  satisfied : {path : Path} {closed : Branch} → IsDecided path.formulas path.branch closed →
      live_in path.formulas closed ≡ [] → Verdict rounds path (sat (with_branch path closed))
  nothing_new : {path : Path} {closed : Branch} → IsUndecided path closed → AreNewIn (with_branch path closed) [] →
      Verdict rounds path (settled (with_branch path closed))
  no_round : {path : Path} {closed : Branch} {instance : Instance} {instances : List Instance} →
      IsUndecided path closed → AreNewIn (with_branch path closed) (instance ∷ instances) →
      length path.spent ≡ rounds → Verdict rounds path (rounds_spent (with_branch path closed))
  round : {path next : Path} {closed : Branch} {instance : Instance} {instances : List Instance} {ending : Ending} →
      IsUndecided path closed → AreNewIn (with_branch path closed) (instance ∷ instances) →
      length path.spent < rounds → EntersAll (instance ∷ instances) (with_branch path closed) next →
      Verdict rounds (after_round next (length (instance ∷ instances))) ending → Verdict rounds path ending
  past_limit : {path : Path} {closed : Branch} {instances : List Instance} {fault : EnterFault} →
      IsUndecided path closed → AreNewIn (with_branch path closed) instances → length path.spent < rounds →
      Overflows instances (with_branch path closed) fault → Verdict rounds path (refused fault)
