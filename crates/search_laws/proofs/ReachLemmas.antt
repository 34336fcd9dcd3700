-- A search that ends with a way out reaches it without a round.
use Rattle.std.proofs.Common.{◌≡◌, ℕ, Contains, subst}
use Rattle.graph_meaning.specs.declared.op.Op.{Op}
use Rattle.formula_table.specs.declared.node.Node.{Node}
use Rattle.formula_table.specs.Formulas.{Formulas}
use Rattle.formula_value.specs.Holds.{HasNode}
use Rattle.formula_assert.specs.Held.{Held, operations_of, refuting_of}
use Rattle.search_laws.specs.Branch.{Branch}
use Rattle.search_laws.specs.Path.{Path, with_branch}
use Rattle.search_laws.specs.Verdict.{Ending, sat, Verdict}
use Rattle.search_laws.specs.Verdict as verdict
use Rattle.search_laws.proofs.CompleteLemmas.{Follows, IsReached, follows_asserts, follows_closes, follows_struck}
use Rattle.search_laws.proofs.LiveLemmas.{live_from, live_all, no_way_out}

-- the operations of each node and those that refute it keep to the rule
pub record AreAllowed (rule : Op → Type 0) (formulas : Formulas) : Type 0 where
  pub of_nodes : (n : ℕ) (node : Node) → HasNode formulas.nodes n node → (op : Op) →
      Contains (operations_of formulas node) op → rule op
  pub of_struck : (n : ℕ) (node : Node) → HasNode formulas.nodes n node → (op : Op) →
      Contains (refuting_of node) op → rule op

module _ (rule : Op → Type 0) where
  closes_on : (formulas : Formulas) (first : Held) (branch closed : Branch) → AreAllowed rule formulas →
      verdict.IsQuiet formulas branch closed → Follows formulas rule first branch.held →
      Follows formulas rule first closed.held
  closes_on formulas first branch closed allowed quiet follows =
      follows_closes formulas rule allowed.of_nodes allowed.of_struck quiet.closes follows

  -- the way out follows from the start, over its formulas
  pub reaches : {rounds : ℕ} {first : Held} {path : Path} {ending : Ending} → Verdict rounds path ending →
      (last : Path) → ending ≡ sat last → AreAllowed rule path.formulas →
      Follows path.formulas rule first path.branch.held → IsReached path.formulas rule first last.branch
  reaches (verdict.conflict closes c) last e allowed follows = cc
  reaches {first} (verdict.first_half {path} {closed} quiet split asserts after not) last e allowed follows =
      reaches after last e allowed (follows_asserts path.formulas rule allowed.of_nodes allowed.of_struck asserts
      (closes_on path.formulas first path.branch closed allowed quiet follows))
  reaches {first} (verdict.second_half {path} {closed} {n} {place} {part} {node} quiet split asserts lost has after)
      last e allowed follows =
      reaches after last e allowed (follows_struck path.formulas rule allowed.of_nodes allowed.of_struck first closed
      n place part node has (closes_on path.formulas first path.branch closed allowed quiet follows))
  reaches {first} (verdict.satisfied {path} {closed} decided no_live) last e allowed follows =
      let same : with_branch path closed ≡ last = cc in
      subst (λ (p : Path). IsReached path.formulas rule first p.branch) same (record {
        follows = closes_on path.formulas first path.branch closed allowed decided.quiet follows;
        no_conflict = decided.quiet.no_conflict;
        no_open = decided.no_open;
        no_live = no_live;
      })
  reaches (verdict.nothing_new undecided none) last e allowed follows = cc
  reaches (verdict.no_round undecided new spent) last e allowed follows = cc
  reaches (verdict.round {path} {closed} undecided new less enters after) last e allowed follows =
      absurd (no_way_out after last e (live_all enters
      (live_from path.formulas.nodes closed.held.asserted undecided.some_live)))
  reaches (verdict.past_limit undecided new less over) last e allowed follows = cc
