-- Terms as text.
use Rattle.std.specs.Prelude.{◌≡◌, ℕ, ◌+◌, ◌<◌, ◌≤◌, if◌then◌else◌, List, [], ◌∷◌, ◌++◌}
use Rattle.std.specs.Fmt.{decimal}
use Rattle.smt_text.specs.Symbols.{is_simple}
use Rattle.graph_terms.specs.declared.term_row.TermRow.{TermRow}
use Rattle.graph_terms.specs.Terms.{term_row, HasRow}

-- a symbol by its name: between bars where it is not simple
abbrev pub symbol_text : List ℕ → List ℕ
symbol_text name = if is_simple name then name else 124 ∷ name ++ 124 ∷ []

mutual
  -- a term as text: its symbol, or `(symbol argument .. argument)`
  pub data IsTermText (names : ℕ → List ℕ) (rows : List TermRow) : ℕ → List ℕ → Type 0 where
    constant : {term symbol : ℕ} → HasRow rows term (term_row symbol [])
        → IsTermText names rows term (symbol_text (names symbol))
    application : {term symbol arg : ℕ} {args text : List ℕ} → HasRow rows term (term_row symbol (arg ∷ args))
        → AreTermTexts names rows (arg ∷ args) text
        → IsTermText names rows term (40 ∷ symbol_text (names symbol) ++ text ++ 41 ∷ [])

  -- terms as text, each behind a blank
  pub data AreTermTexts (names : ℕ → List ℕ) (rows : List TermRow) : List ℕ → List ℕ → Type 0 where
    texts_none : AreTermTexts names rows [] []
    texts_more : {term : ℕ} {terms text texts : List ℕ} → IsTermText names rows term text
        → AreTermTexts names rows terms texts → AreTermTexts names rows (term ∷ terms) (32 ∷ text ++ texts)

mutual
  -- how many symbols a term has, counted as a tree
  pub data HasTreeSize (rows : List TermRow) : ℕ → ℕ → Type 0 where
    tree : {term symbol size : ℕ} {args : List ℕ} → HasRow rows term (term_row symbol args)
        → HaveTreeSize rows args size → HasTreeSize rows term (size + 1)

  -- how many symbols terms have together
  pub data HaveTreeSize (rows : List TermRow) : List ℕ → ℕ → Type 0 where
    sizes_none : HaveTreeSize rows [] 0
    sizes_more : {term size sizes : ℕ} {terms : List ℕ} → HasTreeSize rows term size
        → HaveTreeSize rows terms sizes → HaveTreeSize rows (term ∷ terms) (size + sizes)

-- a term as it is listed: as text, or by its number where it has more than 256 symbols
pub data IsPrinted (names : ℕ → List ℕ) (rows : List TermRow) (term : ℕ) : List ℕ → Type 0 where
  whole : {size : ℕ} {text : List ℕ} → HasTreeSize rows term size → size ≤ 256 → IsTermText names rows term text
      → IsPrinted names rows term text
  numbered : {size : ℕ} → HasTreeSize rows term size → 256 < size → IsPrinted names rows term (35 ∷ decimal term)
