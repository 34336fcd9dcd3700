-- Differences, as pairs of two lists by place.
use Rattle.std.proofs.Common.{◌≡◌, ℕ, zero, suc, ◌<◌, List, [], ◌∷◌, length, get_or, Contains, sym, ap, subst}
use Rattle.std.proofs.Common.{⊎_elim, arith}
use Rattle.std.specs.List.{zip}
use Rattle.graph_meaning.specs.declared.done.Done.{Done}
use Rattle.formula_value.specs.declared.facts.Facts.{Facts}
use Rattle.formula_value.specs.Value.{AreJoined, AreKeptApart, known_with}
use Rattle.formula_value.proofs.HoldsLaws.{contains_head, contains_later, contains_cases}

-- the pair at a place
zip_contains : (ls rs : List ℕ) (k : ℕ) → length ls ≡ length rs → k < length ls →
    Contains (zip ls rs) (get_or ls k 0, get_or rs k 0)
zip_contains [] rs k both below = absurd (omega arith)
zip_contains (l ∷ ls) [] k both below = absurd (omega arith)
zip_contains (l ∷ ls) (r ∷ rs) zero both below = contains_head (l, r) (zip ls rs)
zip_contains (l ∷ ls) (r ∷ rs) (suc k) both below =
    contains_later (l, r) (get_or ls k 0, get_or rs k 0) (zip ls rs)
    (zip_contains ls rs k (omega arith) (omega arith))

-- the place of a pair
contains_zip : (ls rs : List ℕ) (a b : ℕ) → Contains (zip ls rs) (a, b) →
    (k : ℕ) × (k < length ls) × (get_or ls k 0 ≡ a) × (get_or rs k 0 ≡ b)
contains_zip [] rs a b c = absurd (omega (arith, c.1))
contains_zip (l ∷ ls) [] a b c = absurd (omega (arith, c.1))
contains_zip (l ∷ ls) (r ∷ rs) a b c =
    ⊎_elim (λ e. (0, omega arith, ap (λ (p : ℕ × ℕ). p.0) e, ap (λ (p : ℕ × ℕ). p.1) e))
    (λ later. let h = contains_zip ls rs a b later in let below = h.1 in (suc h.0, omega arith, h.2, h.3))
    (contains_cases (l, r) (a, b) (zip ls rs) c)

module _ (standing : List Done) (facts : Facts) (left right : ℕ) (lefts rights : List ℕ)
    (lefts_are : lefts ≡ facts.differ_left) (rights_are : rights ≡ facts.differ_right) where
  -- the difference at a place keeps two terms apart
  pub apart_at : (k : ℕ) → length facts.differ_left ≡ length facts.differ_right → k < length lefts →
      AreJoined (known_with standing facts) (get_or lefts k 0) (get_or rights k 0) left right →
      AreKeptApart (known_with standing facts) left right
  apart_at k paired below joined =
      let both : length lefts ≡ length rights =
      subst (λ xs. length xs ≡ length rights) (sym lefts_are)
      (subst (λ xs. length facts.differ_left ≡ length xs) (sym rights_are) paired) in (
        get_or lefts k 0,
        get_or rights k 0,
        subst (λ xs. Contains (zip xs facts.differ_right) (get_or lefts k 0, get_or rights k 0)) lefts_are
            (subst (λ xs. Contains (zip lefts xs) (get_or lefts k 0, get_or rights k 0)) rights_are
            (zip_contains lefts rights k both below)),
        joined,
      )

  -- two terms that are kept apart are so by the difference at a place
  pub joined_at : AreKeptApart (known_with standing facts) left right →
      (k : ℕ) × (k < length lefts) ×
      AreJoined (known_with standing facts) (get_or lefts k 0) (get_or rights k 0) left right
  joined_at kept =
      let at = contains_zip lefts rights kept.0 kept.1
      (subst (λ xs. Contains (zip xs rights) (kept.0, kept.1)) (sym lefts_are)
      (subst (λ xs. Contains (zip facts.differ_left xs) (kept.0, kept.1)) (sym rights_are) kept.2)) in (
        at.0,
        at.1,
        subst (λ a. AreJoined (known_with standing facts) a (get_or rights at.0 0) left right) (sym at.2)
            (subst (λ b. AreJoined (known_with standing facts) kept.0 b left right) (sym at.3) kept.3),
      )
