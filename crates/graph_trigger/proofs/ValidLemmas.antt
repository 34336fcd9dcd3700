-- When a trigger is valid, from what is tested of it.
use Rattle.std.proofs.Common.{◌≡◌, ℕ, zero, suc, ◌+◌, ◌<◌, ◌≤◌, List, [], ◌∷◌, length, get_or, slice_get, ◌↔◌, Bool, true, false, true≢false, IsTrue, IfSome, is_some, Option, Some, None, All, sym, inl, inr, ◌∙◌, ⊎_elim, arith}
use Rattle.std.proofs.lemmas.Bool.{cases_lt}
use Rattle.std.proofs.lemmas.Option.{slice_get_within, slice_get-get_or}
use Rattle.std.proofs.lemmas.List.Elements.{All-from_get_or}
use Rattle.graph_trigger.specs.declared.pattern_row.PatternRow.{PatternRow}
use Rattle.graph_trigger.specs.declared.pattern_row.PatternRow.TheVariants.{Var, App}
use Rattle.graph_trigger.specs.declared.trigger.Trigger.{Trigger}
use Rattle.graph_trigger.specs.Trigger.{Occurs, at_root, below, HasSize, IsApplication, IsValid}
use Rattle.graph_trigger.specs.Validity.{AreApplications, AreNew, AreReached, AreSmall, FitRows, HaveVariables, IsPart, IsReached, IsSize, NameEarlier}
use Rattle.graph_terms.proofs.ListLaws.{element_at, place_from_Contains, Contains-slice_get, All-slice_get}
use Rattle.graph_trigger.proofs.SizeLemmas.{one_size}

-- what holds of each number at a place holds of all
pub All-from_slice_get : (P : ℕ → Type 0) (xs : List ℕ) → ((i x : ℕ) → slice_get xs i ≡ Some x → P x) → All P xs
All-from_slice_get P xs each = All-from_get_or P xs 0 (λ i below. each i (get_or xs i 0) (slice_get-get_or xs i 0 below))

-- a test that fails refuses what needs it
pub refused : {P Q : Type 0} (b : Bool) → (IsTrue b ↔ P) → b ≡ false → (Q → P) → IsTrue false ↔ Q
refused b test fails needs = (λ yes. absurd (true≢false (sym yes)), λ q. absurd (true≢false (sym (test.1 (needs q)) ∙ fails)))

-- where a tree's size was found, it is the one size
pub small_size : (rows : List PatternRow) (row most : ℕ) (found : Option ℕ) → IfSome found (IsSize rows row most) → is_some found ≡ true → (size : ℕ) → HasSize rows row size → size ≤ most
small_size rows row most (Some s) is some size counted = let one = one_size rows is.size_is counted in let fits = is.fits in omega arith
small_size rows row most None is some size counted = absurd (true≢false (sym some))

-- rows that fit name earlier rows
pub NameEarlier-fit : (variables : ℕ) (rows : List PatternRow) → FitRows variables rows → NameEarlier rows
NameEarlier-fit variables rows fit row symbol parts is = (fit row (App symbol parts) is).1

module _ (trigger : Trigger) where
  -- a row that occurs is a root or a part
  IsReached-occurs : {start row : ℕ} {path : List ℕ} → Occurs trigger start path row → IsReached trigger.rows trigger.roots row
  IsReached-occurs (at_root {row} at) = inl (Contains-slice_get trigger.roots _ row at)
  IsReached-occurs (below {path} {parts} {place} {row} {part} {symbol} above is at) = inr (row, symbol, parts, is, Contains-slice_get parts place part at)

  module _ (earlier : NameEarlier trigger.rows) (reached : AreReached trigger.rows trigger.roots) where
    -- a root or a part occurs, the last rows first
    occurs : (left row : ℕ) → length trigger.rows ≤ row + left → row < length trigger.rows → (start : ℕ) × (path : List ℕ) × Occurs trigger start path row
    occurs zero row within stands = absurd (omega arith)
    occurs (suc left) row within stands =
        ⊎_elim
        (λ root. let at = place_from_Contains trigger.roots row root in (at.0, [], at_root at.1))
        (λ (part : IsPart trigger.rows row).
        let at = place_from_Contains part.2 row part.4 in
        let later : row < part.0 = All-slice_get (λ p. p < part.0) part.2 at.0 row (earlier part.0 part.1 part.2 part.3) at.1 in
        let above = occurs left part.0 (omega arith) (slice_get_within trigger.rows part.0 _ part.3) in
        (above.0, at.0 ∷ above.1, below above.2 part.3 at.1))
        (reached row stands)

  -- a valid trigger, from the tests
  pub IsValid-tested : trigger.variables ≤ 32 → 1 ≤ length trigger.roots → length trigger.roots ≤ 16 → FitRows trigger.variables trigger.rows → AreNew trigger.rows → AreApplications trigger.rows trigger.roots → AreReached trigger.rows trigger.roots → HaveVariables trigger.rows trigger.variables → AreSmall trigger.rows trigger.roots → IsValid trigger
  IsValid-tested few some_root few_roots fit new apply reached variables small = record {
    earlier = NameEarlier-fit trigger.variables trigger.rows fit;
    few_parts = λ row symbol parts is. (fit row (App symbol parts) is).0;
    once = λ i j row at_i at_j. ⊎_elim
        (λ less. absurd (new j (slice_get_within trigger.rows j row at_j) i less (at_i ∙ sym at_j)))
        (λ no_less. ⊎_elim (λ less. absurd (new i (slice_get_within trigger.rows i row at_i) j less (at_j ∙ sym at_i))) (λ no_less'. omega arith) (cases_lt j i))
        (cases_lt i j);
    roots = All-from_slice_get (IsApplication trigger.rows) trigger.roots apply;
    some_root = some_root;
    few_roots = few_roots;
    reached = λ row stands. occurs (NameEarlier-fit trigger.variables trigger.rows fit) reached (length trigger.rows) row (omega arith) stands;
    small = λ root size c is. let at = place_from_Contains trigger.roots root c in small at.0 root size at.1 is;
    few_variables = few;
    below = λ row index is. fit row (Var index) is;
    occur = variables;
  }

  module _ (valid : IsValid trigger) where
    -- and the tests, of a valid one
    pub FitRows-valid : FitRows trigger.variables trigger.rows
    FitRows-valid place (Var index) at = valid.below place index at
    FitRows-valid place (App symbol parts) at = (valid.few_parts place symbol parts at, valid.earlier place symbol parts at)

    pub AreNew-valid : AreNew trigger.rows
    AreNew-valid place stands earlier less same =
        let here = element_at trigger.rows place stands in
        let one = valid.once earlier place here.0 (same ∙ here.1) here.1 in
        omega arith

    pub AreApplications-valid : AreApplications trigger.rows trigger.roots
    AreApplications-valid i root at = All-slice_get (IsApplication trigger.rows) trigger.roots i root valid.roots at

    pub AreReached-valid : AreReached trigger.rows trigger.roots
    AreReached-valid row stands = IsReached-occurs (valid.reached row stands).2

    pub AreSmall-valid : AreSmall trigger.rows trigger.roots
    AreSmall-valid i root size at is = valid.small root size (Contains-slice_get trigger.roots i root at) is
