-- What an application makes of arguments that fit, fits.
use Rattle.std.proofs.Common.{◌≡◌, ℕ, suc, ◌+◌, ◌<◌, ◌≤◌, Bool, true, false, not, ◌&&◌, ◌||◌, ◌==◌, nat_lt, nat_le, if◌then◌else◌, List, [], ◌∷◌, map, length, replicate, slice_get, Some, All, refl, sym, ap, ap₂, subst, ◌∙◌, true≢false, arith}
use Rattle.std.proofs.lemmas.List.Elements.{All-head, All-tail}
use Rattle.smt_text.specs.declared.token.Place.{Place}
use Rattle.formula_draft.specs.declared.draft_node.DraftNode.TheVariants.{Atom}
use Rattle.formula_draft.specs.Draft.{Draft}
use Rattle.smt_names.specs.declared.value.Value.{Value}
use Rattle.smt_names.specs.declared.value.Value.TheVariants.{Term}
use Rattle.smt_names.specs.declared.arg.Arg.{Arg}
use Rattle.smt_names.specs.declared.connective.Connective.{Connective}
use Rattle.smt_names.specs.declared.connective.Connective.TheVariants as core
use Rattle.smt_names.specs.declared.refusal.Refusal.{Refusal}
use Rattle.smt_names.specs.Value.{sort_of, row_of, has_complement, swapped}
use Rattle.smt_names.specs.Making.{gives, must_hold_named}
use Rattle.smt_names.specs.Names.{Declared, Defined, Named, Core, Function, Definition, Unknown}
use Rattle.smt_forms.specs.Nodes.{both, connected, application}
use Rattle.smt_forms.specs.Applied.{has_number, values_of, sort_at, wanted, right_sorts, right_branches, needs, has_needed, right_complements, complements_for, checked, entered, applied}
use Rattle.formula_draft.specs.Sorted.{Signature, HaveSorts}
use Rattle.smt_laws.specs.Sorted.{as_signature}
use Rattle.smt_laws.specs.Sound.{AreArguments, IsFunction, IsDefinitionOver}
use Rattle.smt_laws.proofs.Growing.{Extends, extends_itself}
use Rattle.smt_laws.proofs.Making.{Setting, Sort, Sorts, Sound, Good, makes, refuses, good_then, good_made, good_want, good_as}
use Rattle.smt_laws.proofs.Values.{FitsIn, Both, IsFormula, fits_later, formula_of, term_of, swapped_fits, good_both, Each, none, more, each_map}
use Rattle.smt_laws.proofs.Moving.{good_application, good_unfolded}
use Rattle.smt_laws.proofs.Forms.{Implied, last, before, good_true, good_and, good_or, good_implies, good_not, good_xor, Equated, good_equal, good_distinct, Branches, good_ite}

pub eq_from : (m n : ℕ) → (m == n) ≡ true → m ≡ n
eq_from m n h = grind arith

pub some_from : (n : ℕ) → (n == 0) ≡ false → 1 ≤ n
some_from n h = grind arith

lt_true : (m n : ℕ) → m < n → nat_lt m n ≡ true
lt_true m n h = grind arith

pub le_from : (m n : ℕ) → nat_le m n ≡ true → m ≤ n
le_from m n h = grind arith

pub good_want_named : (s : Setting) (draft : Draft) (test : Bool) (refusal : Refusal) (place : Place) (name : List ℕ) → Sound s draft → Good s draft (λ _ _. test ≡ true) (must_hold_named test refusal place name draft)
good_want_named s draft true refusal place name sound = makes sound (extends_itself draft) refl
good_want_named s draft false refusal place name sound = refuses

-- what the checks say
abbrev pub RightSorts : List ℕ → List Arg → Type 0
RightSorts [] args = Unit {0}
RightSorts (sort ∷ sorts) [] = Unit {0}
RightSorts (sort ∷ sorts) (arg ∷ args) = ((sort_of arg.value == sort) ≡ true) × RightSorts sorts args

abbrev pub RightComplements : Connective → (k n sort : ℕ) → List Arg → Type 0
RightComplements c k n sort [] = Unit {0}
RightComplements c k n sort (arg ∷ args) = (has_needed c k n sort arg.value ≡ true) × RightComplements c (k + 1) n sort args

abbrev pub RightBranches : Named → List Arg → Type 0
RightBranches (Core core.Ite) args = (sort_at 1 args == 0) ≡ true
RightBranches name args = Unit {0}

abbrev pub ComplementsFor : Named → List Arg → Type 0
ComplementsFor (Core c) args = RightComplements c 0 (length args) (sort_at 0 args) args
ComplementsFor name args = Unit {0}

pub record Passes (name : Named) (args : List Arg) : Type 0 where
  pub number : has_number name (length args) ≡ true
  pub sorts_are : RightSorts (wanted name args) args
  pub branches : RightBranches name args
  pub complements_are : ComplementsFor name args

as_many : (args : List Arg) → length (values_of args) ≡ length args
as_many [] = refl
as_many (arg ∷ args) = ap suc (as_many args)

module _ (s : Setting) where
  good_right_sorts : (draft : Draft) (sorts : List ℕ) (args : List Arg) → Sound s draft → Good s draft (λ _ _. RightSorts sorts args) (right_sorts sorts args draft)
  good_right_sorts draft [] args sound = good_made s draft (tt {0}) sound (tt {0})
  good_right_sorts draft (sort ∷ sorts) [] sound = good_made s draft (tt {0}) sound (tt {0})
  good_right_sorts draft (sort ∷ sorts) (arg ∷ args) sound = good_then s draft _ (good_want s draft (sort_of arg.value == sort) _ _ sound) λ _ new keeps extends first.
      good_as s new (λ _ _ _ rest. (first, rest)) (good_right_sorts new sorts args keeps)

  good_right_complements : (draft : Draft) (c : Connective) (k n sort : ℕ) (args : List Arg) → Sound s draft → Good s draft (λ _ _. RightComplements c k n sort args) (right_complements c k n sort args draft)
  good_right_complements draft c k n sort [] sound = good_made s draft (tt {0}) sound (tt {0})
  good_right_complements draft c k n sort (arg ∷ args) sound = good_then s draft _ (good_want s draft (has_needed c k n sort arg.value) _ _ sound) λ _ new keeps extends first.
      good_as s new (λ _ _ _ rest. (first, rest)) (good_right_complements new c (k + 1) n sort args keeps)

  good_right_branches : (draft : Draft) (head : Place) (name : Named) (args : List Arg) → Sound s draft → Good s draft (λ _ _. RightBranches name args) (right_branches head name args draft)
  good_right_branches draft head (Core core.Ite) args sound = good_want s draft (sort_at 1 args == 0) _ _ sound
  good_right_branches draft head name args sound = good_made s draft (tt {0}) sound (tt {0})

  good_complements_for : (draft : Draft) (name : Named) (args : List Arg) → Sound s draft → Good s draft (λ _ _. ComplementsFor name args) (complements_for name args draft)
  good_complements_for draft (Core c) args sound = good_right_complements draft c 0 (length args) (sort_at 0 args) args sound
  good_complements_for draft name args sound = good_made s draft (tt {0}) sound (tt {0})

  pub good_checked : (draft : Draft) (head : Place) (called : List ℕ) (name : Named) (args : List Arg) → Sound s draft → Good s draft (λ _ _. Passes name args) (checked head called name args draft)
  good_checked draft head called name args sound =
      good_then s draft _ (good_want_named s draft (has_number name (length args)) _ _ _ sound) λ _ d1 k1 e1 number.
      good_then s d1 _ (good_right_sorts d1 (wanted name args) args k1) λ _ d2 k2 e2 sorts_are.
      good_then s d2 _ (good_right_branches d2 head name args k2) λ _ d3 k3 e3 branches.
      good_as s d3 (λ _ _ _ complements_are. record { number = number; sorts_are = sorts_are; branches = branches; complements_are = complements_are }) (good_complements_for d3 name args k3)

  -- what each form asks of its parts
  pub Facts : Draft → Connective → List Value → Type 0
  Facts d core.True parts = Unit {0}
  Facts d core.False parts = Unit {0}
  Facts d core.Not parts = Each (Both s d) parts
  Facts d core.And parts = Each (IsFormula s d) parts
  Facts d core.Or parts = Each (IsFormula s d) parts
  Facts d core.Implies parts = Implied s d parts
  Facts d core.Xor parts = Each (λ v. FitsIn s d v × (sort_of v ≡ 0) × Both s d v) parts
  Facts d core.Equals parts = (sort : ℕ) × Each (Equated s sort d) parts
  Facts d core.Distinct parts = (sort : ℕ) × Each (λ v. (sort_of v ≡ sort) × FitsIn s d v) parts × ((a b : Value) → parts ≡ a ∷ b ∷ [] → Each (Equated s sort d) parts)
  Facts d core.Ite parts = Branches s d parts

  good_connected : (at : Place) (draft : Draft) → Sound s draft → (c : Connective) (parts : List Value) → Facts draft c parts → Good s draft (λ d v. FitsIn s d v) (connected at c parts draft)
  unfolding connected Facts
  good_connected at draft sound core.True parts facts = good_as s draft (λ new v extends twofold. twofold.fits) (good_true s at draft sound)
  good_connected at draft sound core.False parts facts = good_then s draft _ (good_true s at draft sound) λ t d keeps extends is. good_made s d (swapped t) keeps (swapped_fits s d t is.both).fits
  good_connected at draft sound core.Not parts facts = good_not s at draft sound parts facts
  good_connected at draft sound core.And parts facts = good_and s at draft sound parts facts
  good_connected at draft sound core.Or parts facts = good_or s at draft sound parts facts
  good_connected at draft sound core.Implies parts facts = good_implies s at draft sound parts facts
  good_connected at draft sound core.Xor parts facts = good_xor s at draft parts sound facts
  good_connected at draft sound core.Equals parts facts = good_equal s at facts.0 draft parts sound facts.1
  good_connected at draft sound core.Distinct parts facts = good_distinct s at facts.0 draft parts sound facts.1 facts.2
  good_connected at draft sound core.Ite parts facts = good_ite s at draft parts sound facts

  module _ (d : Draft) where
    -- the argument fits
    abbrev pub FitsArg : Arg → Type 0
    FitsArg arg = FitsIn s d arg.value

    -- arguments of one sort
    abbrev Sorted : ℕ → Value → Type 0
    Sorted sort v = (sort_of v ≡ sort) × FitsIn s d v

    sorted_of : (sort : ℕ) (args : List Arg) → RightSorts (replicate (length args) sort) args → Each FitsArg args → Each (Sorted sort) (values_of args)
    sorted_of sort [] right none = none
    sorted_of sort (arg ∷ args) right (more fits rest) = more (eq_from (sort_of arg.value) sort right.0, fits) (sorted_of sort args right.1 rest)

    formulas_of : (args : List Arg) → RightSorts (replicate (length args) 0) args → Each FitsArg args → Each (IsFormula s d) (values_of args)
    formulas_of args right fit = each_map (λ v (p : (sort_of v ≡ 0) × FitsIn s d v). formula_of s d v p.0 p.1) (sorted_of 0 args right fit)

    -- where a form needs complements, they are there
    has_of : (b h : Bool) → (not b || h) ≡ true → b ≡ true → h ≡ true
    has_of true h right is = right
    has_of false h right is = absurd (true≢false (sym is))

    have_of : (P : Type 0) (c : Connective) (n sort : ℕ) → (P → (k : ℕ) → needs c k n sort ≡ true) → (k : ℕ) (args : List Arg) → RightComplements c k n sort args → Each (λ v. P → has_complement v ≡ true) (values_of args)
    have_of P c n sort needed k [] right = none
    have_of P c n sort needed k (arg ∷ args) right = more (λ p. has_of (needs c k n sort) (has_complement arg.value) right.0 (needed p k)) (have_of P c n sort needed (k + 1) args right.1)

    each_both : {P Q : Value → Type 0} {vs : List Value} → Each P vs → Each Q vs → Each (λ v. P v × Q v) vs
    each_both none none = none
    each_both (more p ps) (more q qs) = more (p, q) (each_both ps qs)

    both_of : (v : Value) → sort_of v ≡ 0 → FitsIn s d v → has_complement v ≡ true → Both s d v
    both_of v bool fits has = (formula_of s d v bool fits).with has

    equated_of : (sort : ℕ) {vs : List Value} → Each (Sorted sort) vs → Each (λ v. sort ≡ 0 → has_complement v ≡ true) vs → Each (Equated s sort d) vs
    equated_of sort sorted has = each_map (λ v (p : ((sort_of v ≡ sort) × FitsIn s d v) × (sort ≡ 0 → has_complement v ≡ true)). record { sort_is = p.0.0; fits = p.0.1; both = λ zero. both_of v (p.0.0 ∙ zero) p.0.1 (p.1 zero) }) (each_both sorted has)

    implied_of : (k n sort : ℕ) (args : List Arg) → k + length args ≡ n → 1 ≤ length args → RightComplements core.Implies k n sort args → Each (Sorted 0) (values_of args) → Implied s d (values_of args)
    implied_of k n sort [] count some right are = absurd (omega (arith, some))
    implied_of k n sort (a ∷ []) count some right (more is none) = last (formula_of s d a.value is.0 is.1)
    implied_of k n sort (a ∷ b ∷ args) count some right (more is rest) =
        before (both_of a.value is.0 is.1 (has_of (nat_lt (k + 1) n) (has_complement a.value) right.0 (lt_true (k + 1) n (omega (arith, count)))))
        (implied_of (k + 1) n sort (b ∷ args) (omega (arith, count)) (omega arith) right.1 rest)

    branches_of : (args : List Arg) → Passes (Core core.Ite) args → Each FitsArg args → Branches s d (values_of args)
    branches_of [] passes fit = tt {0}
    branches_of (c ∷ []) passes fit = tt {0}
    branches_of (c ∷ a ∷ []) passes fit = tt {0}
    branches_of (c ∷ a ∷ b ∷ []) passes (more c_fits (more a_fits (more b_fits none))) =
        let sorts = passes.sorts_are in
        let zero = eq_from (sort_of a.value) 0 passes.branches in
        let c_bool = eq_from (sort_of c.value) 0 sorts.0 in
        let b_bool = eq_from (sort_of b.value) (sort_of a.value) sorts.1.1.0 ∙ zero in
        (both_of c.value c_bool c_fits passes.complements_are.0, formula_of s d a.value zero a_fits, formula_of s d b.value b_bool b_fits)
    branches_of (c ∷ a ∷ b ∷ e ∷ args) passes fit = tt {0}

    facts_of : (c : Connective) (args : List Arg) → Passes (Core c) args → Each FitsArg args → Facts d c (values_of args)
    unfolding Facts
    facts_of core.True args passes fit = tt {0}
    facts_of core.False args passes fit = tt {0}
    facts_of core.Not args passes fit = each_map (λ v (p : ((sort_of v ≡ 0) × FitsIn s d v) × (Unit {0} → has_complement v ≡ true)). both_of v p.0.0 p.0.1 (p.1 (tt {0})))
        (each_both (sorted_of 0 args passes.sorts_are fit) (have_of (Unit {0}) core.Not (length args) (sort_at 0 args) (λ _ k. refl) 0 args passes.complements_are))
    facts_of core.And args passes fit = formulas_of args passes.sorts_are fit
    facts_of core.Or args passes fit = formulas_of args passes.sorts_are fit
    facts_of core.Implies args passes fit = implied_of 0 (length args) (sort_at 0 args) args (omega arith) (omega (arith, le_from 2 (length args) passes.number)) passes.complements_are (sorted_of 0 args passes.sorts_are fit)
    facts_of core.Xor args passes fit = each_map (λ v (p : ((sort_of v ≡ 0) × FitsIn s d v) × (Unit {0} → has_complement v ≡ true)). (p.0.1, p.0.0, both_of v p.0.0 p.0.1 (p.1 (tt {0}))))
        (each_both (sorted_of 0 args passes.sorts_are fit) (have_of (Unit {0}) core.Xor (length args) (sort_at 0 args) (λ _ k. refl) 0 args passes.complements_are))
    facts_of core.Equals args passes fit = let sort = sort_at 0 args in (sort, equated_of sort (sorted_of sort args passes.sorts_are fit) (have_of (sort ≡ 0) core.Equals (length args) sort (λ zero k. ap (λ n. n == 0) zero) 0 args passes.complements_are))
    facts_of core.Distinct args passes fit =
        let sort = sort_at 0 args in
        let sorted = sorted_of sort args passes.sorts_are fit in (
          sort,
          sorted,
          λ a b two. equated_of sort sorted (each_map (λ v (has : (sort ≡ 0) × (length args ≡ 2) → has_complement v ≡ true) zero. has (zero, sym (as_many args) ∙ ap length two))
              (have_of ((sort ≡ 0) × (length args ≡ 2)) core.Distinct (length args) sort (λ p k. ap₂ (λ (x y : ℕ). x == 0 && y == 2) p.0 p.1) 0 args passes.complements_are)),
        )
    facts_of core.Ite args passes fit = branches_of args passes fit

    -- the rows of arguments have the sorts that are asked for
    rows_sorted : (sorts : List ℕ) (args : List Arg) → length args ≡ length sorts → All (λ sort. 1 ≤ sort) sorts → RightSorts sorts args → Each FitsArg args → Sorts s d (map row_of (values_of args)) sorts
    rows_sorted [] [] same others right none = HaveSorts.none
    rows_sorted [] (arg ∷ args) same others right fit = absurd (omega (arith, same))
    rows_sorted (sort ∷ sorts) [] same others right fit = absurd (omega (arith, same))
    rows_sorted (sort ∷ sorts) (arg ∷ args) same others right (more fits rest) =
        HaveSorts.more (term_of s d arg.value sort (eq_from (sort_of arg.value) sort right.0) (All-head (λ k. 1 ≤ k) sort sorts others) fits)
        (rows_sorted sorts args (omega (arith, same)) (All-tail (λ k. 1 ≤ k) sort sorts others) right.1 rest)

  good_applied_function : (at : Place) (draft : Draft) → Sound s draft → (place : ℕ) (f : Signature) (parts : List Value) → slice_get s.functions place ≡ Some f → AreArguments f.arguments → Sorts s draft (map row_of parts) f.arguments
      → Good s draft (λ d v. FitsIn s d v) (application at (place + 2) f.sort parts draft)
  good_applied_function at draft sound place f parts is function sorted = good_then s draft _ (good_application s at draft sound place f (map row_of parts) is function sorted) λ r d keeps extends has. by r d keeps has (f.sort == 0) refl
    where
      by : (r : ℕ) (d : Draft) → Sound s d → Sort s d r f.sort → (b : Bool) → (f.sort == 0) ≡ b → Good s d (λ d v. FitsIn s d v) ((if b then both at (Atom true r) (Some (Atom false r)) else gives (Term r f.sort)) d)
      by r d keeps has true bool = let atom = subst (λ k. Sort s d r k) (eq_from f.sort 0 bool) has in good_as s d (λ new v extends twofold. twofold.fits) (good_both s at d keeps (Atom true r) (Atom false r) atom atom)
      by r d keeps has false other = good_made s d (Term r f.sort) keeps (has, some_from f.sort other)

  -- what stands under a name is declared
  pub data IsNamed : Named → Type 0 where
    of_core : {c : Connective} → IsNamed (Core c)
    of_function : {f : Declared} (place : ℕ) → slice_get s.functions place ≡ Some (as_signature f) → IsFunction f → IsNamed (Function (place + 2) f)
    of_definition : {d : Defined} → IsDefinitionOver s.functions d → IsNamed (Definition d)
    of_none : IsNamed Unknown

  module _ (functions_are : (n : ℕ) (f : Signature) → slice_get s.functions n ≡ Some f → AreArguments f.arguments) where
    good_entered : (at : Place) (draft : Draft) → Sound s draft → {name : Named} → IsNamed name → (args : List Arg) → Passes name args → Each (FitsArg draft) args → Good s draft (λ d v. FitsIn s d v) (entered at name (values_of args) draft)
    good_entered at draft sound (of_core {c = c}) args passes fit = good_connected at draft sound c (values_of args) (facts_of draft c args passes fit)
    good_entered at draft sound (of_function {f = f} place is function) args passes fit =
        good_applied_function at draft sound place (as_signature f) (values_of args) is function (rows_sorted draft f.arguments args (eq_from (length args) (length f.arguments) passes.number) function.others passes.sorts_are fit)
    good_entered at draft sound (of_definition {d = d} is) args passes fit =
        good_unfolded s at functions_are d is draft sound (values_of args) (rows_sorted draft d.parameters args (eq_from (length args) (length d.parameters) passes.number) is.others passes.sorts_are fit)
    good_entered at draft sound of_none args passes fit = refuses

    args_later : (old new : Draft) → Extends old new → {args : List Arg} → Each (FitsArg old) args → Each (FitsArg new) args
    args_later old new extends = each_map (λ arg. fits_later s old new extends arg.value)

    -- an application
    pub good_applied : (at head : Place) (called : List ℕ) (draft : Draft) → Sound s draft → {name : Named} → IsNamed name → (args : List Arg) → Each (FitsArg draft) args → Good s draft (λ d v. FitsIn s d v) (applied at head called name args draft)
    unfolding applied
    good_applied at head called draft sound {name} is args fit = good_then s draft _ (good_checked draft head called name args sound) λ _ d keeps extends passes.
        good_entered at d keeps is args passes (args_later draft d extends fit)
