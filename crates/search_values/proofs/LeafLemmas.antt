-- The values of leaves.
use Rattle.std.proofs.Common.{◌≡◌, ℕ, refl, ap, ◌∙◌}
use Rattle.formula_truth.specs.declared.truth.Truth.{Truth}
use Rattle.formula_truth.specs.declared.truth.Truth.TheVariants.{Yes, No, Unset}
use Rattle.search_board.specs.declared.kind.Kind.{Kind}
use Rattle.search_board.specs.declared.kind.Kind.TheVariants.{Leaf}
use Rattle.search_board.specs.Board.{Shown, kind_at, truth_at}
use Rattle.search_values.specs.Wiring.{Wires}
use Rattle.search_values.specs.Given.{HasYes, HasNo, HasValue}
use Rattle.search_values.specs.GivenBy.{leaf_only, given_by}

-- a leaf of which no value is known has none on the board
pub leaf_is_unset : (wires : Wires) (s : Shown) (n : ℕ) → kind_at s n ≡ Leaf → HasValue (given_by wires.parts s) n Unset →
    truth_at s n ≡ Unset
leaf_is_unset wires s n leaf unset = go (truth_at s n) refl
  where
    same : leaf_only (kind_at s n) (truth_at s n) ≡ truth_at s n
    same = ap (λ (k : Kind). leaf_only k (truth_at s n)) leaf

    go : (t : Truth) → truth_at s n ≡ t → truth_at s n ≡ Unset
    go Unset e = e
    go Yes e = absurd (unset.0 (HasYes.leaf leaf (same ∙ e)))
    go No e = absurd (unset.1 (HasNo.leaf leaf (same ∙ e)))
