-- A finite assignment gives each term of a table a number: by the symbol and the numbers of the arguments it is that
-- of the first term of the assignment with these, and 0 where there is none.
use Rattle.std.proofs.Common.{◌≡◌, ℕ, zero, suc, ◌<◌, Bool, true, false, cond, eqb, ◌⊎◌, List, [], ◌∷◌, length, map}
use Rattle.std.proofs.Common.{slice_get, get_or, Option, Some, None, Contains, refl, sym, ap, ap₂, subst, ◌∙◌, inl}
use Rattle.std.proofs.Common.{inr, ⊎_elim, arith}
use Rattle.std.specs.Option.{option_map_or}
use Rattle.std.proofs.lemmas.Bool.Decides.{eqb_tells}
use Rattle.std.proofs.lemmas.Option.{none-some, same_Some, slice_get_within, slice_get-get_or, get_or_from_slice_get}
use Rattle.std.proofs.lemmas.List.Elements.{All-contains}
use Rattle.graph_terms.specs.declared.term_row.TermRow.{TermRow}
use Rattle.graph_terms.specs.Terms.{term_row, HasRow, IsTable}
use Rattle.formula_table.specs.declared.node.Node.{Node}
use Rattle.formula_table.specs.declared.node.Node.TheVariants.{Equal, Atom, And, Or, Forall}
use Rattle.search_laws.specs.Assignment.{Assignment, IsNumbered, AreNumbered, IsAssignment, IsSameTerm, AreSameTerms}
use Rattle.search_laws.specs.Assignment.{HasNumber, AreEqualIn, AreDifferentIn, HasNumberOf, IsTrueLeaf, IsHeldLeaf}
use Rattle.search_laws.specs.Assignment.{Satisfies}
use Rattle.search_laws.specs.Assignment as assignment
use Rattle.search_laws.proofs.Places.{contains_head, contains_later, map_agree}
use Rattle.search_laws.proofs.FormulaLemmas.{holds_by, everywhere_by}
use Rattle.search_laws.proofs.Worlds.{World, IsWorld, IsTrueAt, IsHeldAt, IsTrueIn}

-- whether the lists are equal
abbrev same_numbers : List ℕ → List ℕ → Bool
same_numbers [] [] = true
same_numbers [] (y ∷ ys) = false
same_numbers (x ∷ xs) [] = false
same_numbers (x ∷ xs) (y ∷ ys) = cond (eqb x y) (same_numbers xs ys) false

-- it is, or not
abbrev Tells : Bool → Type 0 → Type 0
Tells answer claim = ((answer ≡ true) × claim) ⊎ ((answer ≡ false) × (claim → ⊥))

both_tell : (x y : ℕ) (xs ys : List ℕ) → Tells (eqb x y) (x ≡ y) → Tells (same_numbers xs ys) (xs ≡ ys) →
    Tells (same_numbers (x ∷ xs) (y ∷ ys)) (x ∷ xs ≡ y ∷ ys)
both_tell x y xs ys one rest = ⊎_elim
    (λ h. ⊎_elim
    (λ k. inl (ap (λ b. cond b (same_numbers xs ys) false) h.0 ∙ k.0, ap₂ (λ z zs. z ∷ zs) h.1 k.1))
    (λ k. inr (
      ap (λ b. cond b (same_numbers xs ys) false) h.0 ∙ k.0,
      λ (e : x ∷ xs ≡ y ∷ ys). k.1 (cc),
    ))
    rest)
    (λ h. inr (ap (λ b. cond b (same_numbers xs ys) false) h.0, λ (e : x ∷ xs ≡ y ∷ ys). h.1 (cc)))
    one

same_numbers_tell : (xs ys : List ℕ) → Tells (same_numbers xs ys) (xs ≡ ys)
same_numbers_tell [] [] = inl (refl, refl)
same_numbers_tell [] (y ∷ ys) = inr (refl, λ (e : [] ≡ y ∷ ys). cc)
same_numbers_tell (x ∷ xs) [] = inr (refl, λ (e : x ∷ xs ≡ []). cc)
same_numbers_tell (x ∷ xs) (y ∷ ys) = both_tell x y xs ys (eqb_tells x y) (same_numbers_tell xs ys)

-- the number of a term of an assignment, or 0
abbrev pub number_at : Assignment → ℕ → ℕ
number_at given term = get_or given.numbers term 0

-- the symbol and the numbers of the arguments are those of the row
abbrev is_row_of : Assignment → ℕ → List ℕ → TermRow → Bool
is_row_of given symbol args row =
    cond (eqb row.symbol symbol) (same_numbers (map (number_at given) row.args) args) false

-- the number of the first row with this symbol and arguments of these numbers, or 0
abbrev found : Assignment → ℕ → List ℕ → List TermRow → List ℕ → ℕ
found given symbol args [] numbers = 0
found given symbol args (row ∷ rows) [] = 0
found given symbol args (row ∷ rows) (number ∷ numbers) =
    cond (is_row_of given symbol args row) number (found given symbol args rows numbers)

abbrev pub value : Assignment → ℕ → List ℕ → ℕ
value given symbol args = found given symbol args given.rows given.numbers

-- the number of a term of a table, where it is below the bound
abbrev pub number_by : Assignment → List TermRow → ℕ → ℕ → ℕ
number_by given rows zero term = 0
number_by given rows (suc bound) term = option_map_or
    (λ (row : TermRow). value given row.symbol (map (number_by given rows bound) row.args)) (slice_get rows term) 0

-- the number of a term of a table
abbrev pub number_of : Assignment → List TermRow → ℕ → ℕ
number_of given rows term = number_by given rows (suc term) term

-- a world of the table
abbrev pub world_of : Assignment → List TermRow → World
world_of given rows = record { number = number_of given rows; foralls = given.foralls }

-- a row with this symbol and arguments of these numbers, and its number
record IsFound (given : Assignment) (symbol : ℕ) (args : List ℕ) (rows : List TermRow) (numbers : List ℕ)
    (number : ℕ) : Type 0 where
  place : ℕ
  ts : List ℕ
  has : HasRow rows place (term_row symbol ts)
  args_are : map (number_at given) ts ≡ args
  numbered : slice_get numbers place ≡ Some number

row_tells : (given : Assignment) (symbol : ℕ) (args : List ℕ) (row : TermRow) → Tells (is_row_of given symbol args row)
    ((row.symbol ≡ symbol) × (map (number_at given) row.args ≡ args))
row_tells given symbol args row = ⊎_elim
    (λ h. ⊎_elim
    (λ k. inl (ap (λ b. cond b (same_numbers (map (number_at given) row.args) args) false) h.0 ∙ k.0, (h.1, k.1)))
    (λ k. inr (ap (λ b. cond b (same_numbers (map (number_at given) row.args) args) false) h.0 ∙ k.0, λ e. k.1 e.1))
    (same_numbers_tell (map (number_at given) row.args) args))
    (λ h. inr (ap (λ b. cond b (same_numbers (map (number_at given) row.args) args) false) h.0, λ e. h.1 e.0))
    (eqb_tells row.symbol symbol)

module _ (given : Assignment) (symbol : ℕ) (args : List ℕ) where
  here : (row : TermRow) (rows : List TermRow) (number : ℕ) (numbers : List ℕ) → row.symbol ≡ symbol →
      map (number_at given) row.args ≡ args → IsFound given symbol args (row ∷ rows) (number ∷ numbers) number
  here row rows number numbers symbol_is args_are = record {
    place = 0;
    ts = row.args;
    has = ap (λ x. Some (term_row x row.args)) symbol_is;
    args_are = args_are;
    numbered = refl;
  }

  further : (row : TermRow) (rows : List TermRow) (first number : ℕ) (numbers : List ℕ) →
      IsFound given symbol args rows numbers number →
      IsFound given symbol args (row ∷ rows) (first ∷ numbers) number
  further row rows first number numbers h = record {
    place = suc h.place;
    ts = h.ts;
    has = h.has;
    args_are = h.args_are;
    numbered = h.numbered;
  }

  -- where some row is such, the number that is found is that of one
  is_found : (rows : List TermRow) (numbers : List ℕ) (number : ℕ) →
      IsFound given symbol args rows numbers number →
      IsFound given symbol args rows numbers (found given symbol args rows numbers)
  is_found [] numbers number h = absurd (none-some (term_row symbol h.ts) h.has)
  is_found (row ∷ rows) [] number h = absurd (none-some number h.numbered)
  is_found (row ∷ rows) (first ∷ numbers) number h = ⊎_elim
      (λ yes. subst (λ b. IsFound given symbol args (row ∷ rows) (first ∷ numbers)
      (cond b first (found given symbol args rows numbers))) (sym yes.0)
      (here row rows first numbers yes.1.0 yes.1.1))
      (λ no. subst (λ b. IsFound given symbol args (row ∷ rows) (first ∷ numbers)
      (cond b first (found given symbol args rows numbers))) (sym no.0)
      (further row rows first (found given symbol args rows numbers) numbers
      (is_found rows numbers number (behind h.place h.ts h.has h.args_are h.numbered no.1))))
      (row_tells given symbol args row)
    where
      behind : (place : ℕ) (ts : List ℕ) → HasRow (row ∷ rows) place (term_row symbol ts) →
          map (number_at given) ts ≡ args → slice_get (first ∷ numbers) place ≡ Some number →
          ((row.symbol ≡ symbol) × (map (number_at given) row.args ≡ args) → ⊥) →
          IsFound given symbol args rows numbers number
      behind zero ts has args_are numbered other =
          let same : row ≡ term_row symbol ts = same_Some row (term_row symbol ts) has in
          absurd (other (
            ap (λ (r : TermRow). r.symbol) same,
            ap (λ (r : TermRow). map (number_at given) r.args) same ∙ args_are,
          ))
      behind (suc place) ts has args_are numbered other =
          record { place = place; ts = ts; has = has; args_are = args_are; numbered = numbered }

module _ (given : Assignment) (is : IsAssignment given) where
  -- each term of the assignment has its number
  numbered_below : (term : ℕ) → term < length given.rows → IsNumbered given term (number_at given term)
  numbered_below term less = let each = is.each in slice_get-get_or given.numbers term 0 (omega arith)

  numbered_all : (terms : List ℕ) → ((term : ℕ) → Contains terms term → term < length given.rows) →
      AreNumbered given terms (map (number_at given) terms)
  numbered_all [] below = assignment.none
  numbered_all (term ∷ terms) below = assignment.more (numbered_below term (below term (contains_head term terms)))
      (numbered_all terms (λ t c. below t (contains_later term t terms c)))

  args_below : (term symbol : ℕ) (ts : List ℕ) → HasRow given.rows term (term_row symbol ts) → (arg : ℕ) →
      Contains ts arg → arg < length given.rows
  args_below term symbol ts has arg c =
      let less = All-contains (λ a. a < term) ts arg (is.earlier term (term_row symbol ts) has) c in
      let within = slice_get_within given.rows term (term_row symbol ts) has in
      omega arith

  -- and it is the value of its symbol at the numbers of its arguments
  value_at : (term symbol : ℕ) (ts : List ℕ) → HasRow given.rows term (term_row symbol ts) →
      value given symbol (map (number_at given) ts) ≡ number_at given term
  value_at term symbol ts has =
      let within = slice_get_within given.rows term (term_row symbol ts) has in
      let numbered : IsNumbered given term (number_at given term) = numbered_below term within in
      let args : List ℕ = map (number_at given) ts in
      let one : IsFound given symbol args given.rows given.numbers (value given symbol args) =
      is_found given symbol args given.rows given.numbers (number_at given term)
      (record { place = term; ts = ts; has = has; args_are = refl; numbered = numbered }) in
      is.congruent one.place term symbol (value given symbol args) (number_at given term) one.ts ts args one.has has
      (subst (AreNumbered given one.ts) one.args_are
      (numbered_all one.ts (args_below one.place symbol one.ts one.has)))
      (numbered_all ts (args_below term symbol ts has)) one.numbered numbered

module _ (given : Assignment) (rows : List TermRow) (table : IsTable rows) where
  row_agrees : (f g : ℕ → ℕ) (term : ℕ) (row : Option TermRow) → slice_get rows term ≡ row →
      ((arg : ℕ) → arg < term → f arg ≡ g arg) →
      option_map_or (λ (row : TermRow). value given row.symbol (map f row.args)) row 0
      ≡ option_map_or (λ (row : TermRow). value given row.symbol (map g row.args)) row 0
  row_agrees f g term None has agree = refl
  row_agrees f g term (Some row) has agree = ap (value given row.symbol) (map_agree f g row.args
      (λ arg c. agree arg (All-contains (λ a. a < term) row.args arg (table.earlier term row has) c)))

  -- every bound above the term gives one number
  by_enough : (j k term : ℕ) → term < j → term < k → number_by given rows j term ≡ number_by given rows k term
  by_enough zero k term less more = absurd (omega arith)
  by_enough (suc j) zero term less more = absurd (omega arith)
  by_enough (suc j) (suc k) term less more = row_agrees (number_by given rows j) (number_by given rows k) term
      (slice_get rows term) refl (λ arg below. by_enough j k arg (omega arith) (omega arith))

  -- the number of a term is that of its symbol at the numbers of its arguments
  value_of : (term symbol : ℕ) (ts : List ℕ) → HasRow rows term (term_row symbol ts) →
      number_of given rows term ≡ value given symbol (map (number_of given rows) ts)
  value_of term symbol ts has =
      ap (λ row. option_map_or (λ (r : TermRow). value given r.symbol (map (number_by given rows term) r.args)) row 0)
      has
      ∙ ap (value given symbol) (map_agree (number_by given rows term) (number_of given rows) ts
      (λ arg c. let less = All-contains (λ a. a < term) ts arg (table.earlier term (term_row symbol ts) has) c in
      by_enough term (suc arg) arg less (omega arith)))

  module _ (is : IsAssignment given) where
    mutual
      -- the same ground terms have one number
      same_term : {s t : ℕ} → IsSameTerm rows given.rows s t → number_of given rows s ≡ number_at given t
      same_term (assignment.alike {s} {t} {symbol} {ss} {ts} has has' each) = value_of s symbol ss has
          ∙ ap (value given symbol) (same_terms each) ∙ value_at given is t symbol ts has'

      same_terms : {ss ts : List ℕ} → AreSameTerms rows given.rows ss ts →
          map (number_of given rows) ss ≡ map (number_at given) ts
      same_terms assignment.AreSameTerms.none = refl
      same_terms (assignment.AreSameTerms.more one rest) = ap₂ (λ x xs. x ∷ xs) (same_term one) (same_terms rest)

    number_is : (term number : ℕ) → HasNumber given rows term number → number_of given rows term ≡ number
    number_is term number h = same_term h.same ∙ get_or_from_slice_get given.numbers h.there number 0 h.numbered

    -- true and false have their numbers
    true_has : (number : ℕ) → IsNumbered given 0 number → number_of given rows 0 ≡ number
    true_has number numbered = number_is 0 number (record {
      there = 0;
      same = assignment.alike table.true_row is.true_row assignment.AreSameTerms.none;
      numbered = numbered;
    })

    false_has : (number : ℕ) → IsNumbered given 1 number → number_of given rows 1 ≡ number
    false_has number numbered = number_is 1 number (record {
      there = 1;
      same = assignment.alike table.false_row is.false_row assignment.AreSameTerms.none;
      numbered = numbered;
    })

    pub is_world : IsWorld rows (world_of given rows)
    is_world = record {
      congruent = λ s t symbol ss ts left right e. value_of s symbol ss left ∙ ap (value given symbol) e
          ∙ sym (value_of t symbol ts right);
      apart = λ e.
          let one = numbered_below given is 0 (slice_get_within given.rows 0 (term_row 0 []) is.true_row) in
          let other = numbered_below given is 1 (slice_get_within given.rows 1 (term_row 1 []) is.false_row) in
          is.apart (number_at given 1) (subst (IsNumbered given 0)
          (sym (true_has (number_at given 0) one) ∙ e ∙ false_has (number_at given 1) other) one) other;
    }

    has_number_of_true : (term : ℕ) → HasNumberOf given rows 0 term →
        number_of given rows term ≡ number_of given rows 0
    has_number_of_true term h = number_is term h.0 h.1 ∙ sym (true_has h.0 h.2)

    has_number_of_false : (term : ℕ) → HasNumberOf given rows 1 term →
        number_of given rows term ≡ number_of given rows 1
    has_number_of_false term h = number_is term h.0 h.1 ∙ sym (false_has h.0 h.2)

    -- a leaf that is true in the assignment is true in the world
    true_at : (node : Node) → IsTrueLeaf given rows node → IsTrueAt (world_of given rows) node
    true_at (Equal true s t) h = number_is s h.0 h.1 ∙ sym (number_is t h.0 h.2)
    true_at (Equal false s t) h = λ e. h.4 (sym (number_is s h.0 h.2) ∙ e ∙ number_is t h.1 h.3)
    true_at (Atom true term) h = has_number_of_true term h
    true_at (Atom false term) h = has_number_of_false term h
    true_at (Forall forall) h = h
    true_at (And parts) h = h
    true_at (Or parts) h = h

    held_at : (node : Node) → IsHeldLeaf given rows node → IsHeldAt (world_of given rows) node
    held_at (Equal positive s t) h = tt
    held_at (Atom positive term) h =
        ⊎_elim (λ k. inl (has_number_of_true term k)) (λ k. inr (has_number_of_false term k)) h
    held_at (Forall forall) h = tt
    held_at (And parts) h = h
    held_at (Or parts) h = h

    -- and so is a formula that it satisfies
    pub true_in : (nodes : List Node) (n : ℕ) → Satisfies given rows nodes n → IsTrueIn nodes (world_of given rows) n
    true_in nodes n h = record {
      held = everywhere_by held_at h.held;
      holds = holds_by (λ m node has. true_at node) h.is_true;
    }
