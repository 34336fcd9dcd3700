-- Texts of terms that are put one behind another.
use Rattle.std.proofs.Common.{◌≡◌, ◌≢◌, ℕ, ◌+◌, ◌≤◌, List, [], ◌∷◌, ◌++◌, length, drop, Some, refl, sym, ap, subst, ◌∙◌, arith, append_assoc}
use Rattle.std.specs.Prelude.{slice_get}
use Rattle.std.proofs.lemmas.List.{drop_all, append-nil}
use Rattle.graph_terms.specs.declared.term_row.TermRow.{TermRow}
use Rattle.graph_terms.specs.Terms.{term_row, HasRow}
use Rattle.em_printing.specs.Printed.{symbol_text, IsTermText, constant, application, AreTermTexts, texts_none, texts_more}
use Rattle.em_printing.proofs.TreeSizes.{drop_at}

-- one text behind another
pub put_two : (old a b mid new : List ℕ) → mid ≡ old ++ a → new ≡ mid ++ b → new ≡ old ++ (a ++ b)
put_two old a b mid new first second = second ∙ ap (λ (z : List ℕ). z ++ b) first ∙ append_assoc old a b

module _ (names : ℕ → List ℕ) (rows : List TermRow) (term : ℕ) (row : TermRow) (has : HasRow rows term row) where
  no_args : (symbol : ℕ) (args : List ℕ) → length args ≡ 0 → HasRow rows term (term_row symbol args) → IsTermText names rows term (symbol_text (names symbol))
  no_args symbol [] empty here = constant here
  no_args symbol (x ∷ xs) empty here = absurd (omega arith)

  pub constant_text : length row.args ≡ 0 → IsTermText names rows term (symbol_text (names row.symbol))
  constant_text empty = no_args row.symbol row.args empty has

  some_args : (symbol : ℕ) (args text : List ℕ) → length args ≢ 0 → HasRow rows term (term_row symbol args) → AreTermTexts names rows args text
      → IsTermText names rows term (40 ∷ symbol_text (names symbol) ++ text ++ 41 ∷ [])
  some_args symbol [] text some here texts = absurd (some refl)
  some_args symbol (x ∷ xs) text some here texts = application here texts

  pub application_text : (text : List ℕ) → length row.args ≢ 0 → AreTermTexts names rows row.args text → IsTermText names rows term (40 ∷ symbol_text (names row.symbol) ++ text ++ 41 ∷ [])
  application_text text some texts = some_args row.symbol row.args text some has texts

module _ (names : ℕ → List ℕ) (rows : List TermRow) (term : ℕ) (args : List ℕ) where
  -- What is written of an application, up to some argument: the texts of the others complete it.
  abbrev pub Completes : ℕ → List ℕ → Type 0
  Completes i added = (rest : List ℕ) → AreTermTexts names rows (drop i args) rest → IsTermText names rows term (added ++ rest ++ 41 ∷ [])

  pub one_more : (i x : ℕ) (added text : List ℕ) → slice_get args i ≡ Some x → IsTermText names rows x text → Completes i added → Completes (i + 1) (added ++ 32 ∷ text)
  one_more i x added text at is completes rest texts =
      subst (λ (z : List ℕ). IsTermText names rows term (z ++ 41 ∷ [])) (sym (append_assoc added (32 ∷ text) rest))
      (completes (32 ∷ text ++ rest) (subst (λ (zs : List ℕ). AreTermTexts names rows zs (32 ∷ text ++ rest)) (sym (drop_at args i x at)) (texts_more is texts)))

  pub no_more : (i : ℕ) (added : List ℕ) → length args ≤ i → Completes i added → IsTermText names rows term (added ++ 41 ∷ [])
  no_more i added past completes =
      subst (λ (z : List ℕ). IsTermText names rows term (z ++ 41 ∷ [])) (append-nil added)
      (completes [] (subst (λ (zs : List ℕ). AreTermTexts names rows zs []) (sym (drop_all i args past)) texts_none))
