-- Which claims an operation gives.
use Rattle.std.specs.Prelude.{◌≡◌, ◌≤◌, ℕ, List, [], length, slice_get, Some, Contains}
use Rattle.graph_trigger.specs.declared.trigger.Trigger.{Trigger}
use Rattle.graph_terms.specs.Terms.{term_row, HasRow}
use Rattle.graph_meaning.specs.declared.claim.Claim.{Claim}
use Rattle.graph_meaning.specs.declared.done.Done.{Done}
use Rattle.graph_meaning.specs.declared.union.Union.{Union}
use Rattle.graph_meaning.specs.Standing.{terms_of, triggers_of}
use Rattle.graph_meaning.specs.Justified.{AppliesAt, Through}

-- the claim is of a live trigger, and its root has the symbol of the pattern at its start
pub record IsOnSymbol (standing : List Done) (claim : Claim) : Type 0 where
  pub trigger : Trigger
  pub is_live : slice_get (triggers_of standing) claim.trigger ≡ Some trigger
  pub symbol : ℕ
  pub args : List ℕ
  pub applies : AppliesAt trigger claim.start [] symbol
  pub has : HasRow (terms_of standing) claim.root (term_row symbol args)

-- the operation gives the claim: for a term that it added, for a trigger that it made live, or through a class that
-- it joined
pub data IsGiven (before now : List Done) (unions : List Union) (claim : Claim) : Type 0 where
  by_term : IsOnSymbol now claim → length (terms_of before) ≤ claim.root → IsGiven before now unions claim
  by_trigger : IsOnSymbol now claim → length (triggers_of before) ≤ claim.trigger → IsGiven before now unions claim
  by_union : {trigger : Trigger} {union : Union} → slice_get (triggers_of now) claim.trigger ≡ Some trigger →
      Contains unions union → Through now trigger claim.start claim.root union.left → IsGiven before now unions claim
