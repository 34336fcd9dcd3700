-- One change more of several.
use Rattle.std.proofs.Common.{◌≡◌, ℕ, suc, ◌+◌, ◌-◌, ◌<◌, sym, ap, ◌∙◌, arith}
use Rattle.formula_assert.specs.Assertions.{Assertions}
use Rattle.ematch_cli.specs.Run.{repeated}

-- the same change once more
pub repeated_step : (n i : ℕ) (change : Assertions → Assertions) (mid new goal : Assertions) → i < n → new ≡ change mid → repeated (n - i) change mid ≡ goal → repeated (n - (i + 1)) change new ≡ goal
repeated_step n i change mid new goal less is was =
    let one_more : n - i ≡ suc (n - (i + 1)) = omega arith in
    ap (repeated (n - (i + 1)) change) is ∙ sym (ap (λ (k : ℕ). repeated k change mid) one_more) ∙ was
