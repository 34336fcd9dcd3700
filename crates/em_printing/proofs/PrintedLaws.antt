-- A term has one size as a tree, and one text.
use Rattle.std.proofs.Common.{◌≡◌, ℕ, ◌+◌, ◌<◌, ◌≤◌, List, [], ◌∷◌, ◌++◌, refl, sym, ap, ap₂, subst, ◌∙◌, arith}
use Rattle.graph_terms.specs.declared.term_row.TermRow.{TermRow}
use Rattle.graph_terms.specs.Terms.{term_row, HasRow}
use Rattle.em_printing.specs.Printed.{symbol_text, HasTreeSize, tree, HaveTreeSize, sizes_none, sizes_more}
use Rattle.em_printing.specs.Printed.{IsTermText, constant, application, AreTermTexts, texts_none, texts_more}
use Rattle.em_printing.specs.Printed.{IsPrinted, whole, numbered}

-- a term has one row
pub args_once : (rows : List TermRow) (term f g : ℕ) (xs ys : List ℕ) → HasRow rows term (term_row f xs) →
    HasRow rows term (term_row g ys) → xs ≡ ys
args_once rows term f g xs ys one other =
    let same_row : term_row f xs ≡ term_row g ys = cc in
    ap (λ (row : TermRow). row.args) same_row

mutual
  -- a term has one size
  pub size_once : {rows : List TermRow} {term a b : ℕ} → HasTreeSize rows term a → HasTreeSize rows term b → a ≡ b
  size_once {rows} {term} (tree {symbol = f} {args = xs} has sizes)
      (tree {symbol = g} {size = m} {args = ys} has' sizes') =
      ap (λ (k : ℕ). k + 1) (sizes_once sizes (subst (λ (zs : List ℕ). HaveTreeSize rows zs m)
      (args_once rows term g f ys xs has' has) sizes'))

  pub sizes_once : {rows : List TermRow} {terms : List ℕ} {a b : ℕ} → HaveTreeSize rows terms a →
      HaveTreeSize rows terms b → a ≡ b
  sizes_once sizes_none sizes_none = refl
  sizes_once (sizes_more size sizes) (sizes_more size' sizes') = ap₂ (λ (m n : ℕ). m + n) (size_once size size')
      (sizes_once sizes sizes')

symbol_once : (rows : List TermRow) (term f g : ℕ) (xs ys : List ℕ) → HasRow rows term (term_row f xs) →
    HasRow rows term (term_row g ys) → f ≡ g
symbol_once rows term f g xs ys one other =
    let same_row : term_row f xs ≡ term_row g ys = cc in
    ap (λ (row : TermRow). row.symbol) same_row

-- a list is not empty and begun at once
not_both : {P : Type 0} (x : ℕ) (xs : List ℕ) → [] ≡ x ∷ xs → P
not_both x xs e = absurd (cc)

mutual
  pub term_text_once : {names : ℕ → List ℕ} {rows : List TermRow} {term : ℕ} {a b : List ℕ} →
      IsTermText names rows term a → IsTermText names rows term b → a ≡ b
  term_text_once {names} {rows} {term} (constant {symbol = f} has) (constant {symbol = g} has') = ap
      (λ (s : ℕ). symbol_text (names s)) (symbol_once rows term f g [] [] has has')
  term_text_once {names} {rows} {term} (constant {symbol = f} has)
      (application {symbol = g} {arg = y} {args = ys} has' texts') = not_both y ys
      (args_once rows term f g [] (y ∷ ys) has has')
  term_text_once {names} {rows} {term} (application {symbol = f} {arg = x} {args = xs} has texts)
      (constant {symbol = g} has') = not_both x xs (args_once rows term g f [] (x ∷ xs) has' has)
  term_text_once {names} {rows} {term} (application {symbol = f} {arg = x} {args = xs} {text = t} has texts)
      (application {symbol = g} {arg = y} {args = ys} {text = u} has' texts') =
      ap₂ (λ (s : ℕ) (z : List ℕ). 40 ∷ symbol_text (names s) ++ z ++ 41 ∷ [])
      (symbol_once rows term f g (x ∷ xs) (y ∷ ys) has has')
      (term_texts_once texts (subst (λ (zs : List ℕ). AreTermTexts names rows zs u)
      (args_once rows term g f (y ∷ ys) (x ∷ xs) has' has) texts'))

  pub term_texts_once : {names : ℕ → List ℕ} {rows : List TermRow} {terms : List ℕ} {a b : List ℕ} →
      AreTermTexts names rows terms a → AreTermTexts names rows terms b → a ≡ b
  term_texts_once texts_none texts_none = refl
  term_texts_once (texts_more is texts) (texts_more is' texts') = ap₂ (λ (t u : List ℕ). 32 ∷ t ++ u)
      (term_text_once is is') (term_texts_once texts texts')

pub printed_once : {names : ℕ → List ℕ} {rows : List TermRow} {term : ℕ} {a b : List ℕ} →
    IsPrinted names rows term a → IsPrinted names rows term b → a ≡ b
printed_once (whole size few is) (whole size' few' is') = term_text_once is is'
printed_once (whole {size = m} size few is) (numbered {size = n} size' many') = let same : m
    ≡ n = size_once size size' in absurd (omega arith)
printed_once (numbered {size = m} size many) (whole {size = n} size' few' is') = let same : m
    ≡ n = size_once size size' in absurd (omega arith)
printed_once (numbered size many) (numbered size' many') = refl
