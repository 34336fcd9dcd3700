-- Finite assignments, and formulas that none of them satisfies.
use Rattle.std.specs.Prelude.{◌≡◌, ◌≢◌, ◌⊎◌, ℕ, ◌<◌, Bool, true, false, IsTrue, List, [], ◌∷◌, length}
use Rattle.std.specs.Prelude.{slice_get, Some, All, Contains}
use Rattle.graph_terms.specs.declared.term_row.TermRow.{TermRow}
use Rattle.graph_terms.specs.Terms.{term_row, HasRow}
use Rattle.formula_table.specs.declared.node.Node.{Node}
use Rattle.formula_table.specs.declared.node.Node.TheVariants.{Equal, Atom, And, Or, Forall}
use Rattle.formula_value.specs.Holds.{Holds, Everywhere}

-- finitely many ground terms, each a symbol with earlier ones as its arguments, a number for each of them, and a truth
-- value for each forall
pub record Assignment : Type 0 where
  pub rows : List TermRow
  pub numbers : List ℕ
  pub foralls : ℕ → Bool

-- the term of the assignment has the number
abbrev pub IsNumbered : Assignment → ℕ → ℕ → Type 0
IsNumbered given term number = slice_get given.numbers term ≡ Some number

-- terms of the assignment have the numbers, place by place
pub data AreNumbered (given : Assignment) : List ℕ → List ℕ → Type 0 where
  none : AreNumbered given [] []
  more : {term number : ℕ} {terms numbers : List ℕ} → IsNumbered given term number →
      AreNumbered given terms numbers → AreNumbered given (term ∷ terms) (number ∷ numbers)

-- Its terms begin with true and false, which have different numbers, and arguments are earlier; each term has a
-- number, and terms with one symbol and equal numbers of their arguments have one number.
pub record IsAssignment (given : Assignment) : Type 0 where
  pub true_row : HasRow given.rows 0 (term_row 0 [])
  pub false_row : HasRow given.rows 1 (term_row 1 [])
  pub earlier : (term : ℕ) (row : TermRow) → HasRow given.rows term row → All (λ arg. arg < term) row.args
  pub each : length given.numbers ≡ length given.rows
  pub congruent : (s t symbol a b : ℕ) (ss ts numbers : List ℕ) → HasRow given.rows s (term_row symbol ss) →
      HasRow given.rows t (term_row symbol ts) → AreNumbered given ss numbers → AreNumbered given ts numbers →
      IsNumbered given s a → IsNumbered given t b → a ≡ b
  pub apart : (number : ℕ) → IsNumbered given 0 number → IsNumbered given 1 number → ⊥

mutual
  -- the term of the one table and that of the other are the same ground term
  pub data IsSameTerm (rows others : List TermRow) : ℕ → ℕ → Type 0 where
    alike : {s t symbol : ℕ} {ss ts : List ℕ} → HasRow rows s (term_row symbol ss) →
        HasRow others t (term_row symbol ts) → AreSameTerms rows others ss ts → IsSameTerm rows others s t

  -- so are the terms at each place
  pub data AreSameTerms (rows others : List TermRow) : List ℕ → List ℕ → Type 0 where
    none : AreSameTerms rows others [] []
    more : {s t : ℕ} {ss ts : List ℕ} → IsSameTerm rows others s t → AreSameTerms rows others ss ts →
        AreSameTerms rows others (s ∷ ss) (t ∷ ts)

-- the term of a table has the number in the assignment
pub record HasNumber (given : Assignment) (rows : List TermRow) (term number : ℕ) : Type 0 where
  pub there : ℕ
  pub same : IsSameTerm rows given.rows term there
  pub numbered : IsNumbered given there number

-- the two terms have one number
abbrev pub AreEqualIn : Assignment → List TermRow → ℕ → ℕ → Type 0
AreEqualIn given rows s t = (number : ℕ) × HasNumber given rows s number × HasNumber given rows t number

-- the two terms have different numbers
abbrev pub AreDifferentIn : Assignment → List TermRow → ℕ → ℕ → Type 0
AreDifferentIn given rows s t =
    (a : ℕ) × (b : ℕ) × HasNumber given rows s a × HasNumber given rows t b × (a ≢ b)

-- the term has the number of the assignment's term 0, that of true, or 1, that of false
abbrev pub HasNumberOf : Assignment → List TermRow → ℕ → ℕ → Type 0
HasNumberOf given rows truth term = (number : ℕ) × HasNumber given rows term number × IsNumbered given truth number

-- the leaf is true
abbrev pub IsTrueLeaf : Assignment → List TermRow → Node → Type 0
IsTrueLeaf given rows (Equal true s t) = AreEqualIn given rows s t
IsTrueLeaf given rows (Equal false s t) = AreDifferentIn given rows s t
IsTrueLeaf given rows (Atom true term) = HasNumberOf given rows 0 term
IsTrueLeaf given rows (Atom false term) = HasNumberOf given rows 1 term
IsTrueLeaf given rows (Forall forall) = IsTrue (given.foralls forall)
IsTrueLeaf given rows (And parts) = ⊥
IsTrueLeaf given rows (Or parts) = ⊥

-- the terms of the leaf have numbers, and that of an atom has the number of true or that of false
abbrev pub IsHeldLeaf : Assignment → List TermRow → Node → Type 0
IsHeldLeaf given rows (Equal positive s t) =
    ((number : ℕ) × HasNumber given rows s number) × ((number : ℕ) × HasNumber given rows t number)
IsHeldLeaf given rows (Atom positive term) = HasNumberOf given rows 0 term ⊎ HasNumberOf given rows 1 term
IsHeldLeaf given rows (Forall forall) = Unit {0}
IsHeldLeaf given rows (And parts) = ⊥
IsHeldLeaf given rows (Or parts) = ⊥

-- the assignment holds each term of the formula, and the formula is true in it
pub record Satisfies (given : Assignment) (rows : List TermRow) (nodes : List Node) (n : ℕ) : Type 0 where
  pub held : Everywhere nodes (IsHeldLeaf given rows) n
  pub is_true : Holds nodes (IsTrueLeaf given rows) n

-- no finite assignment satisfies all of these formulas
abbrev pub AreRefuted : List TermRow → List Node → List ℕ → Type 0
AreRefuted rows nodes ns = (given : Assignment) → IsAssignment given →
    ((n : ℕ) → Contains ns n → Satisfies given rows nodes n) → ⊥
