-- The leaders of a way out make an assignment that satisfies what is asserted.
use Rattle.std.proofs.Common.{◌≡◌, ℕ, zero, suc, ◌<◌, cond, Bool, true, false, ◌⊎◌, List, [], ◌∷◌, length, slice_get}
use Rattle.std.proofs.Common.{get_or, Some, None, Contains, refl, sym, ap, ap₂, subst, ◌∙◌, inl, inr, ⊎_elim, arith}
use Rattle.std.specs.Option.{option_map_or}
use Rattle.std.proofs.lemmas.Bool.Decides.{eqb_tells}
use Rattle.std.proofs.lemmas.Option.{none-some, same_Some, slice_get_within, slice_get-get_or}
use Rattle.std.proofs.lemmas.List.Elements.{All-contains}
use Rattle.graph_terms.specs.declared.term_row.TermRow.{TermRow}
use Rattle.graph_terms.specs.Terms.{term_row, HasRow, IsTable}
use Rattle.graph_meaning.specs.declared.done.Done.{Done}
use Rattle.graph_meaning.specs.declared.op.Op.TheVariants.{Merge, Differ}
use Rattle.graph_meaning.specs.Same.{Derives, DerivesEach, IsLeader, same_term, turned, joined, merged, congruent}
use Rattle.graph_meaning.specs.Same as same
use Rattle.graph_meaning.specs.Standing.{terms_of, merges_of}
use Rattle.formula_table.specs.declared.node.Node.{Node}
use Rattle.formula_table.specs.declared.node.Node.TheVariants.{Equal, Atom, And, Or, Forall}
use Rattle.formula_table.specs.Node.{children_of}
use Rattle.formula_table.specs.Formulas.{Formulas, IsFormulaTable, NodesStand}
use Rattle.formula_value.specs.Holds as truth
use Rattle.formula_value.specs.Holds.{HasNode, Holds, Everywhere}
use Rattle.formula_value.specs.Value.{IsYesLeaf}
use Rattle.formula_assert.specs.Held.{conjuncts_of}
use Rattle.formula_assert.specs.Exactly.{IsDone}
use Rattle.search_laws.specs.Branch.{Branch, known_in, live_in, forall_in}
use Rattle.search_laws.specs.Closing.{Conflict, HasNoOpen, true_is_false, difference}
use Rattle.search_laws.specs.Assignment.{Assignment, IsNumbered, AreNumbered, IsAssignment, IsSameTerm, AreSameTerms}
use Rattle.search_laws.specs.Assignment.{HasNumber, IsTrueLeaf, IsHeldLeaf, Satisfies}
use Rattle.search_laws.specs.Assignment as assignment
use Rattle.search_laws.specs.Kept.{AreLeaders, is_truth, KeepsSorts, kept_number, kept_numbers, kept_assignment}
use Rattle.search_laws.proofs.Places.{contains_none, contains_head, contains_later, stands_below, filter_map_keeps}
use Rattle.search_laws.proofs.GraphLemmas.{merge_read, differ_read}
use Rattle.search_laws.proofs.FormulaLemmas.{holds_by}
use Rattle.search_laws.proofs.CompleteLemmas.{IsDoneAt}

-- as many numbers as rows
kept_length : (predicates : ℕ → Bool) (rows : List TermRow) (leaders : List ℕ) → length leaders ≡ length rows →
    length (kept_numbers predicates rows leaders) ≡ length rows
kept_length predicates [] leaders e = refl
kept_length predicates (row ∷ rows) [] e = absurd (omega arith)
kept_length predicates (row ∷ rows) (leader ∷ leaders) e =
    let rest = kept_length predicates rows leaders (omega arith) in omega (arith, rest)

-- each by its row and leader
kept_at : (predicates : ℕ → Bool) (rows : List TermRow) (leaders : List ℕ) (term : ℕ) (row : TermRow) (leader : ℕ) →
    slice_get rows term ≡ Some row → slice_get leaders term ≡ Some leader →
    slice_get (kept_numbers predicates rows leaders) term ≡ Some (kept_number (predicates row.symbol) leader)
kept_at predicates [] leaders term row leader has at = absurd (none-some row has)
kept_at predicates (first ∷ rows) [] term row leader has at = absurd (none-some leader at)
kept_at predicates (first ∷ rows) (one ∷ leaders) zero row leader has at =
    ap₂ (λ (r : TermRow) l. Some (kept_number (predicates r.symbol) l)) (same_Some first row has)
    (same_Some one leader at)
kept_at predicates (first ∷ rows) (one ∷ leaders) (suc term) row leader has at =
    kept_at predicates rows leaders term row leader has at

one_or_zero : (n : ℕ) → n ≡ 1 → n ≡ 0 → ⊥
one_or_zero n e f = omega arith

-- what is known of the terms of a way out
pub record AreSorted (predicates : ℕ → Bool) (nodes : List Node) (leaders : List ℕ) (standing : List Done) : Type 0
  where
    pub table : IsTable (terms_of standing)
    pub stand : NodesStand (length (terms_of standing)) nodes
    pub leaders_are : AreLeaders standing leaders
    pub sorts : KeepsSorts predicates (terms_of standing) nodes
    pub merges : (s t : ℕ) → Contains (merges_of standing) (s, t) →
        is_truth predicates (terms_of standing) s ≡ is_truth predicates (terms_of standing) t
    pub apart : Derives (terms_of standing) (merges_of standing) 0 1 → ⊥

module _ (predicates : ℕ → Bool) (formulas : Formulas) (leaders : List ℕ) (standing : List Done)
    (are : AreSorted predicates formulas.nodes leaders standing) where
  abbrev rows : List TermRow
  rows = terms_of standing

  abbrev Same : ℕ → ℕ → Type 0
  Same s t = Derives (terms_of standing) (merges_of standing) s t

  abbrev given : Assignment
  given = kept_assignment predicates (terms_of standing) leaders

  abbrev leader : ℕ → ℕ
  leader term = get_or leaders term 0

  abbrev sort : ℕ → Bool
  sort term = is_truth predicates (terms_of standing) term

  abbrev number : ℕ → ℕ
  number term = kept_number (is_truth predicates (terms_of standing) term) (get_or leaders term 0)

  -- terms have one leader where they are derived equal
  is_leader : (term : ℕ) → term < length rows → IsLeader standing term (leader term)
  is_leader term less = let each = are.leaders_are.each in
      are.leaders_are.are term (leader term) (slice_get-get_or leaders term 0 (omega arith))

  same_leader : (s t : ℕ) → s < length rows → t < length rows → Same s t → leader s ≡ leader t
  same_leader s t below below' d =
      let one = is_leader s below in
      let other = is_leader t below' in
      let less = one.least (leader t) (joined other.same (turned d)) in
      let more = other.least (leader s) (joined one.same d) in
      omega arith

  of_leader : (s t : ℕ) → s < length rows → t < length rows → leader s ≡ leader t → Same s t
  of_leader s t below below' e = joined (turned (is_leader s below).same)
      (subst (λ l. Same l t) (sym e) (is_leader t below').same)

  -- and one sort
  sort_of : (term symbol : ℕ) (ts : List ℕ) → HasRow rows term (term_row symbol ts) → sort term ≡ predicates symbol
  sort_of term symbol ts has = ap (λ row. option_map_or (λ (r : TermRow). predicates r.symbol) row false) has

  one_sort : {s t : ℕ} → Same s t → sort s ≡ sort t
  one_sort (same.same_term less) = refl
  one_sort (same.turned d) = sym (one_sort d)
  one_sort (same.joined d e) = one_sort d ∙ one_sort e
  one_sort (same.merged {s} {t} c) = are.merges s t c
  one_sort (same.congruent {s} {t} {symbol} {ss} {ts} left right each) =
      sort_of s symbol ss left ∙ sym (sort_of t symbol ts right)

  -- a term has its number, and no other
  numbered : (term : ℕ) → term < length rows → IsNumbered given term (number term)
  numbered term less =
      let each = are.leaders_are.each in
      let row = stands_below rows term less in
      let at : slice_get leaders term ≡ Some (leader term) = slice_get-get_or leaders term 0 (omega arith) in
      kept_at predicates rows leaders term row.0 (leader term) row.1 at
      ∙ ap (λ b. Some (kept_number b (leader term))) (sym (sort_of term row.0.symbol row.0.args row.1))

  numbers_are : length (kept_numbers predicates rows leaders) ≡ length rows
  numbers_are = kept_length predicates rows leaders are.leaders_are.each

  below : (term a : ℕ) → IsNumbered given term a → term < length rows
  below term a h = let within = slice_get_within (kept_numbers predicates rows leaders) term a h in
      let so_many = numbers_are in omega arith

  number_only : (term a : ℕ) → IsNumbered given term a → a ≡ number term
  number_only term a h = same_Some a (number term) (sym h ∙ numbered term (below term a h))

  same_number : (s t : ℕ) → s < length rows → t < length rows → Same s t → number s ≡ number t
  same_number s t less less' d = ap₂ kept_number (one_sort d) (same_leader s t less less' d)

  -- of a term that is no truth it is the leader
  other_number : (term : ℕ) → sort term ≡ false → number term ≡ leader term
  other_number term e = ap (λ b. kept_number b (leader term)) e

  same_of_number : (s t : ℕ) → s < length rows → t < length rows → sort s ≡ false → sort t ≡ false →
      number s ≡ number t → Same s t
  same_of_number s t less less' e f h =
      of_leader s t less less' (sym (other_number s e) ∙ h ∙ other_number t f)

  -- true and false
  true_below : 0 < length rows
  true_below = slice_get_within rows 0 (term_row 0 []) are.table.true_row

  false_below : 1 < length rows
  false_below = slice_get_within rows 1 (term_row 1 []) are.table.false_row

  leader_of_true : leader 0 ≡ 0
  leader_of_true = let least = (is_leader 0 true_below).least 0 (same_term true_below) in omega arith

  sort_of_true : sort 0 ≡ true
  sort_of_true = sort_of 0 0 [] are.table.true_row ∙ are.sorts.true_is

  sort_of_false : sort 1 ≡ true
  sort_of_false = sort_of 1 1 [] are.table.false_row ∙ are.sorts.false_is

  -- the number of a truth is 0 where it is equal to true, and else 1
  truth_cases : (term : ℕ) → term < length rows → sort term ≡ true →
      (Same term 0 × (number term ≡ 0)) ⊎ ((Same term 0 → ⊥) × (number term ≡ 1))
  truth_cases term less e = ⊎_elim
      (λ h. inl (
        of_leader term 0 less true_below (h.1 ∙ sym leader_of_true),
        ap (λ b. kept_number b (leader term)) e ∙ ap (λ b. cond b 0 1) h.0,
      ))
      (λ h. inr (
        (λ d. h.1 (same_leader term 0 less true_below d ∙ leader_of_true)),
        ap (λ b. kept_number b (leader term)) e ∙ ap (λ b. cond b 0 1) h.0,
      ))
      (eqb_tells (leader term) 0)

  number_of_true : number 0 ≡ 0
  number_of_true = ⊎_elim (λ h. h.1) (λ h. absurd (h.0 (same_term true_below)))
      (truth_cases 0 true_below sort_of_true)

  number_of_false : number 1 ≡ 1
  number_of_false = ⊎_elim (λ h. absurd (are.apart (turned h.0))) (λ h. h.1)
      (truth_cases 1 false_below sort_of_false)

  -- arguments with equal numbers are derived equal
  derive_each : {ss ts numbers : List ℕ} → AreNumbered given ss numbers → AreNumbered given ts numbers →
      ((s : ℕ) → Contains ss s → sort s ≡ false) → ((t : ℕ) → Contains ts t → sort t ≡ false) →
      DerivesEach (terms_of standing) (merges_of standing) ss ts
  derive_each assignment.AreNumbered.none assignment.AreNumbered.none left right = same.none
  derive_each (assignment.AreNumbered.more {term = s} {number = n} {terms = ss} one rest)
      (assignment.AreNumbered.more {term = t} {terms = ts} one' rest') left right = same.more
      (same_of_number s t (below s n one) (below t n one') (left s (contains_head s ss)) (right t (contains_head t ts))
      (sym (number_only s n one) ∙ number_only t n one'))
      (derive_each rest rest' (λ x c. left x (contains_later s x ss c)) (λ x c. right x (contains_later t x ts c)))

  args_sort : (term symbol : ℕ) (ts : List ℕ) → HasRow rows term (term_row symbol ts) → (arg : ℕ) →
      Contains ts arg → sort arg ≡ false
  args_sort term symbol ts has arg c =
      All-contains (λ a. is_truth predicates (terms_of standing) a ≡ false) ts arg
      (are.sorts.args term (term_row symbol ts) has) c

  pub assigns : IsAssignment (kept_assignment predicates (terms_of standing) leaders)
  assigns = record {
    true_row = are.table.true_row;
    false_row = are.table.false_row;
    earlier = are.table.earlier;
    each = numbers_are;
    congruent = λ s t symbol a b ss ts numbers left right some others is_a is_b.
        number_only s a is_a ∙ same_number s t (below s a is_a) (below t b is_b) (congruent left right
        (derive_each some others (args_sort s symbol ss left) (args_sort t symbol ts right)))
        ∙ sym (number_only t b is_b);
    apart = λ n is_true is_false. one_or_zero n (number_only 1 n is_false ∙ number_of_false)
        (number_only 0 n is_true ∙ number_of_true);
  }

  -- each term is the same ground term as itself
  same_selves : (terms : List ℕ) → ((t : ℕ) → Contains terms t → IsSameTerm rows rows t t) →
      AreSameTerms rows rows terms terms
  same_selves [] each = assignment.AreSameTerms.none
  same_selves (t ∷ terms) each = assignment.AreSameTerms.more (each t (contains_head t terms))
      (same_selves terms (λ u c. each u (contains_later t u terms c)))

  same_self : (bound t : ℕ) → t < bound → t < length rows → IsSameTerm rows rows t t
  same_self zero t less within = absurd (omega arith)
  same_self (suc bound) t less within =
      let row = stands_below rows t within in
      assignment.alike row.1 row.1 (same_selves row.0.args (λ arg c.
      let earlier = All-contains (λ a. a < t) row.0.args arg (are.table.earlier t row.0 row.1) c in
      same_self bound arg (omega arith) (omega arith)))

  has_number : (term a : ℕ) → term < length rows → number term ≡ a →
      HasNumber (kept_assignment predicates (terms_of standing) leaders) (terms_of standing) term a
  has_number term a less e = record {
    there = term;
    same = same_self (suc term) term (omega arith) less;
    numbered = subst (IsNumbered given term) e (numbered term less);
  }

  -- the terms of leaves stand
  sides_below : (n s t : ℕ) (positive : Bool) → HasNode formulas.nodes n (Equal positive s t) →
      (s < length rows) × (t < length rows)
  sides_below n s t positive at =
      let each : (term : ℕ) → Contains (s ∷ t ∷ []) term → term < length rows = λ term c.
      All-contains (λ x. x < length (terms_of standing)) (s ∷ t ∷ []) term
      (are.stand n (Equal positive s t) at) c in
      (each s (contains_head s (t ∷ [])), each t (contains_later s t (t ∷ []) (contains_head t [])))

  atom_below : (n term : ℕ) (positive : Bool) → HasNode formulas.nodes n (Atom positive term) → term < length rows
  atom_below n term positive at = All-contains (λ x. x < length (terms_of standing)) (term ∷ []) term
      (are.stand n (Atom positive term) at) (contains_head term [])

  -- what leaves need to be true
  abbrev IsTrueHere : Node → Type 0
  IsTrueHere node = IsTrueLeaf (kept_assignment predicates (terms_of standing) leaders) (terms_of standing) node

  abbrev IsHeldHere : Node → Type 0
  IsHeldHere node = IsHeldLeaf (kept_assignment predicates (terms_of standing) leaders) (terms_of standing) node

  pub equal_true : (n s t : ℕ) → HasNode formulas.nodes n (Equal true s t) → Same s t → IsTrueHere (Equal true s t)
  equal_true n s t at d =
      let less = sides_below n s t true at in (
        number t,
        has_number s (number t) less.0 (same_number s t less.0 less.1 d),
        has_number t (number t) less.1 refl,
      )

  pub differ_true : (n s t : ℕ) → HasNode formulas.nodes n (Equal false s t) → (Same s t → ⊥) →
      IsTrueHere (Equal false s t)
  differ_true n s t at not =
      let less = sides_below n s t false at in (
        number s,
        number t,
        has_number s (number s) less.0 refl,
        has_number t (number t) less.1 refl,
        λ e. not (same_of_number s t less.0 less.1 (are.sorts.left n s t false at) (are.sorts.right n s t false at) e),
      )

  pub atom_true : (n term : ℕ) → HasNode formulas.nodes n (Atom true term) → Same term 0 → IsTrueHere (Atom true term)
  atom_true n term at d =
      let less = atom_below n term true at in (
        0,
        has_number term 0 less (same_number term 0 less true_below d ∙ number_of_true),
        subst (IsNumbered given 0) number_of_true (numbered 0 true_below),
      )

  has_truth : (term : ℕ) → term < length rows → number term ≡ 1 → (a : ℕ) ×
      HasNumber (kept_assignment predicates (terms_of standing) leaders) (terms_of standing) term a ×
      IsNumbered (kept_assignment predicates (terms_of standing) leaders) 1 a
  has_truth term less e =
      (1, has_number term 1 less e, subst (IsNumbered given 1) number_of_false (numbered 1 false_below))

  pub atom_false : (n term : ℕ) → HasNode formulas.nodes n (Atom false term) → (Same term 0 → ⊥) →
      IsTrueHere (Atom false term)
  atom_false n term at not =
      let less = atom_below n term false at in
      has_truth term less
      (⊎_elim (λ h. absurd (not h.0)) (λ h. h.1) (truth_cases term less (are.sorts.atom n term false at)))

  -- each leaf is held
  held_atom : (n term : ℕ) (positive : Bool) → HasNode formulas.nodes n (Atom positive term) →
      IsHeldHere (Atom positive term)
  held_atom n term positive at =
      let less = atom_below n term positive at in
      ⊎_elim
      (λ h. inl (0, has_number term 0 less h.1, subst (IsNumbered given 0) number_of_true (numbered 0 true_below)))
      (λ h. inr (has_truth term less h.1))
      (truth_cases term less (are.sorts.atom n term positive at))

  module _ (table : IsFormulaTable formulas) where
    earlier : (n part : ℕ) (node : Node) → HasNode formulas.nodes n node → Contains (children_of node) part →
        (part < n) × ((other : Node) × HasNode formulas.nodes part other)
    earlier n part node at c =
        let less = All-contains (λ p. p < n) (children_of node) part
        (table.earlier n node at) c in
        let within = slice_get_within formulas.nodes n node at in
        (less, stands_below formulas.nodes part (omega arith))

    held_at : (n : ℕ) (node : Node) → HasNode formulas.nodes n node →
        ((part : ℕ) → Contains (children_of node) part → Everywhere formulas.nodes IsHeldHere part) →
        Everywhere formulas.nodes IsHeldHere n
    held_at n (Equal positive s t) at parts =
        let less = sides_below n s t positive at in
        truth.Everywhere.literal at (
          (number s, has_number s (number s) less.0 refl),
          (number t, has_number t (number t) less.1 refl),
        )
    held_at n (Atom positive term) at parts = truth.Everywhere.literal at (held_atom n term positive at)
    held_at n (And ps) at parts = truth.Everywhere.conjunction at parts
    held_at n (Or ps) at parts = truth.Everywhere.disjunction at parts
    held_at n (Forall forall) at parts = truth.Everywhere.literal at tt

    pub all_held : (bound n : ℕ) (node : Node) → n < bound → HasNode formulas.nodes n node →
        Everywhere formulas.nodes IsHeldHere n
    all_held zero n node less at = absurd (omega arith)
    all_held (suc bound) n node less at = held_at n node at (λ part c.
        let before = earlier n part node at c in
        let less' = before.0 in
        all_held bound part before.1.0 (omega arith) before.1.1)

-- a formula that is asserted in a way out is true
module _ (predicates : ℕ → Bool) (formulas : Formulas) (leaders : List ℕ) (last : Branch)
    (are : AreSorted predicates formulas.nodes leaders last.held.graph.standing) (table : IsFormulaTable formulas)
    (quiet : Conflict formulas last → ⊥) (closed : HasNoOpen formulas last) (dead : live_in formulas last ≡ [])
    (done : (n : ℕ) → Contains last.held.asserted n → IsDoneAt formulas last.held n) where
  abbrev standing : List Done
  standing = last.held.graph.standing

  abbrev IsTrueLast : Node → Type 0
  IsTrueLast node = IsTrueLeaf (kept_assignment predicates (terms_of last.held.graph.standing) leaders)
      (terms_of last.held.graph.standing) node

  -- a leaf that is known to be true is true
  yes_true : (n : ℕ) (node : Node) → HasNode formulas.nodes n node →
      IsYesLeaf (known_in last) (live_in formulas last) node → IsTrueLast node
  yes_true n (Equal true s t) at h = equal_true predicates formulas leaders standing are n s t at h
  yes_true n (Equal false s t) at h = differ_true predicates formulas leaders standing are n s t at h.not_same
  yes_true n (Atom true term) at h = atom_true predicates formulas leaders standing are n term at h
  yes_true n (Atom false term) at h = atom_false predicates formulas leaders standing are n term at h.not_true
  yes_true n (Forall forall) at h = contains_none forall (subst (λ list. Contains list forall) dead h)
  yes_true n (And parts) at h = absurd h
  yes_true n (Or parts) at h = absurd h

  -- no forall is asserted
  none_live : {P : Type 0} (n forall : ℕ) → Contains last.held.asserted n →
      HasNode formulas.nodes n (Forall forall) → P
  none_live n forall c at = contains_none forall (subst (λ list. Contains list forall) dead
      (filter_map_keeps (λ m. option_map_or forall_in (slice_get formulas.nodes m) None) last.held.asserted n forall c
      (ap (λ node. option_map_or forall_in node None) at)))

  done_true : (n : ℕ) (node : Node) → Contains last.held.asserted n → HasNode formulas.nodes n node →
      IsDone formulas last.held node →
      ((part : ℕ) → Contains (conjuncts_of node) part → Holds formulas.nodes IsTrueLast part) →
      Holds formulas.nodes IsTrueLast n
  done_true n (Equal true s t) c at is_done parts = truth.Holds.literal at
      (equal_true predicates formulas leaders standing are n s t at
      (merged (merge_read standing s t (is_done.operations (Merge s t) (contains_head (Merge s t) [])))))
  done_true n (Equal false s t) c at is_done parts = truth.Holds.literal at
      (differ_true predicates formulas leaders standing are n s t at (λ d. quiet
      (difference (differ_read standing s t (is_done.operations (Differ s t) (contains_head (Differ s t) []))) d)))
  done_true n (Atom true term) c at is_done parts = truth.Holds.literal at
      (atom_true predicates formulas leaders standing are n term at
      (merged (merge_read standing term 0 (is_done.operations (Merge term 0) (contains_head (Merge term 0) [])))))
  done_true n (Atom false term) c at is_done parts = truth.Holds.literal at
      (atom_false predicates formulas leaders standing are n term at (λ d. quiet
      (true_is_false (joined (turned d)
      (merged (merge_read standing term 1 (is_done.operations (Merge term 1) (contains_head (Merge term 1) []))))))))
  done_true n (And ps) c at is_done parts = truth.Holds.every at parts
  done_true n (Or ps) c at is_done parts =
      let one = closed n ps (record { asserted = c; has = at }) in
      truth.Holds.some at one.1 (holds_by yes_true one.2)
  done_true n (Forall forall) c at is_done parts = none_live n forall c at

  -- the parts of a conjunction are among its children
  among_children : (node : Node) (part : ℕ) → Contains (conjuncts_of node) part → Contains (children_of node) part
  among_children (Equal positive s t) part c = c
  among_children (Atom positive term) part c = c
  among_children (And ps) part c = c
  among_children (Or ps) part c = contains_none part c
  among_children (Forall forall) part c = c

  asserted_true : (bound n : ℕ) → n < bound → Contains last.held.asserted n → Holds formulas.nodes IsTrueLast n
  asserted_true zero n less c = absurd (omega arith)
  asserted_true (suc bound) n less c =
      let h = done n c in
      done_true n h.node c h.has h.is_done (λ part d.
      let before = All-contains (λ p. p < n) (children_of h.node) part (table.earlier n h.node h.has)
      (among_children h.node part d) in
      asserted_true bound part (omega arith) (h.is_done.conjuncts part d))

  pub satisfied : (n : ℕ) → Contains last.held.asserted n →
      Satisfies (kept_assignment predicates (terms_of last.held.graph.standing) leaders)
      (terms_of last.held.graph.standing) formulas.nodes n
  satisfied n c = let h = done n c in record {
    held = all_held predicates formulas leaders standing are table (suc n) n h.node (omega arith)
        h.has;
    is_true = asserted_true (suc n) n (omega arith) c;
  }
