-- The next step by what is given is that in the branch.
use Rattle.std.proofs.Common.{ℕ, ◌<◌, inl, inr, length}
use Rattle.formula_table.specs.Formulas.{Formulas, IsFormulaTable}
use Rattle.search_values.specs.Given as by_nodes
use Rattle.search_values.specs.Given.{Given, part_of}
use Rattle.search_watch.specs.Service.{HasClash}
use Rattle.search_laws.specs.Branch.{Branch}
use Rattle.search_laws.specs.Closing as closing
use Rattle.search_laws.specs.Closing.{Conflict}
use Rattle.search_branch.specs.declared.step.Step.TheVariants.{Lost, Assert, Split, WayOut}
use Rattle.search_branch.specs.Given.{IsGivenBy}
use Rattle.search_branch.specs.Steps.{HasNoConflict, HasNoUnit, IsStep}
use Rattle.search_branch.proofs.ValueLemmas.{below}
use Rattle.search_branch.proofs.ChoiceLemmas.{stands, or_to, or_from, none_to, stuck_from, unit_from, yes_part_to}
use Rattle.search_branch.proofs.ChoiceLemmas.{first_unit_to, split_to}

module _ (formulas : Formulas) (branch : Branch) (given : Given) (table : IsFormulaTable formulas)
    (is : IsGivenBy formulas branch.held branch.struck given) where
  -- a stuck disjunction is a conflict
  pub lost_is : (n : ℕ) → by_nodes.IsStuck given n → IsStep formulas branch Lost
  lost_is n stuck = closing.Conflict.nothing_left (or_to formulas branch given table is n stuck.is_or)
      (none_to formulas branch given table is n stuck)

  -- the part of a unit stands, and that of a split
  pub unit_within : (n i : ℕ) → by_nodes.IsFirstUnit given n i → part_of given n i < length formulas.nodes
  unit_within n i first = let unit = first.is_unit in
      below formulas branch given table is n i
      (stands formulas branch given table is n unit.is_or.is_or) unit.left.place

  pub split_within : (n i : ℕ) → by_nodes.IsSplit given n i → part_of given n i < length formulas.nodes
  split_within n i split = below formulas branch given table is n i
      (stands formulas branch given table is n split.is_open.is_or.is_or) split.left.place

  module _ (no_clash : HasClash branch.held.graph.standing → ⊥)
      (no_stuck : (n : ℕ) → by_nodes.IsStuck given n → ⊥) where
    -- without a clash there is a conflict only where a disjunction is stuck
    no_conflict : HasNoConflict formulas branch
    no_conflict (closing.Conflict.true_is_false same) = no_clash (inl same)
    no_conflict (closing.Conflict.difference {s} {t} among same) = no_clash (inr (s, t, among, same))
    no_conflict (closing.Conflict.nothing_left {n} {parts} is_or none) =
        no_stuck n (stuck_from formulas branch given table is n parts is_or none)

    pub assert_is : (n i : ℕ) → by_nodes.IsFirstUnit given n i → IsStep formulas branch (Assert (part_of given n i))
    assert_is n i first = (no_conflict, n, first_unit_to formulas branch given table is n i first)

    module _ (no_unit : (n i : ℕ) → by_nodes.IsUnit given n i → ⊥) where
      none_unit : HasNoUnit formulas branch
      none_unit n part unit = let found = unit_from formulas branch given table is n part unit in
          no_unit n found.0 found.1

      pub split_is : (n i : ℕ) → by_nodes.IsSplit given n i → IsStep formulas branch (Split n i (part_of given n i))
      split_is n i split = (no_conflict, none_unit, split_to formulas branch given table is n i split)

      -- where each disjunction has a Yes part none is open
      pub way_out_is : ((n : ℕ) → by_nodes.IsAssertedOr given n → by_nodes.HasYesPart given n) →
          IsStep formulas branch WayOut
      way_out_is each = (
        no_conflict,
        none_unit,
        λ n parts is_or. yes_part_to formulas branch given table is n parts is_or
            (each n (or_from formulas branch given table is n parts is_or)),
      )
