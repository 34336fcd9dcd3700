-- Names with each quote doubled.
use Rattle.std.proofs.Common.{◌≡◌, ℕ, ◌+◌, ◌≤◌, Bool, true, false, List, [], ◌∷◌, ◌++◌, length, drop, Some, refl, sym, ap, ◌∙◌, append_assoc}
use Rattle.std.specs.Prelude.{slice_get, ◌==◌, if◌then◌else◌}
use Rattle.std.proofs.lemmas.List.{drop_all, append-nil}
use Rattle.ematch_cli.specs.ErrorLine.{quoted}
use Rattle.ematch_cli.proofs.Texts.{drop_at}

-- the first byte is quoted by itself
quoted_first : (b : ℕ) (bytes : List ℕ) → quoted (b ∷ bytes) ≡ quoted (b ∷ []) ++ quoted bytes
quoted_first b bytes = by (b == 34)
  where
    by : (is : Bool) → (if is then 34 ∷ 34 ∷ quoted bytes else b ∷ quoted bytes) ≡ (if is then 34 ∷ 34 ∷ [] else b ∷ []) ++ quoted bytes
    by true = refl
    by false = refl

-- one byte more was written
pub quoted_step : (name : List ℕ) (i b : ℕ) (mid new goal : List ℕ) → slice_get name i ≡ Some b → new ≡ mid ++ quoted (b ∷ []) → mid ++ quoted (drop i name) ≡ goal → new ++ quoted (drop (i + 1) name) ≡ goal
quoted_step name i b mid new goal at is was =
    let rest = quoted (drop (i + 1) name) in
    ap (λ (text : List ℕ). text ++ rest) is ∙ append_assoc mid (quoted (b ∷ [])) rest
    ∙ ap (λ (text : List ℕ). mid ++ text) (sym (quoted_first b (drop (i + 1) name)) ∙ ap quoted (sym (drop_at name i b at))) ∙ was

-- all were
pub quoted_all : (name : List ℕ) (i : ℕ) (new goal : List ℕ) → length name ≤ i → new ++ quoted (drop i name) ≡ goal → new ≡ goal
quoted_all name i new goal past is = sym (append-nil new) ∙ ap (λ (rest : List ℕ). new ++ quoted rest) (sym (drop_all i name past)) ∙ is
