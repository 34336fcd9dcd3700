-- What a forall makes, fits.
use Rattle.std.proofs.Common.{◌≡◌, ℕ, zero, suc, ◌+◌, ◌<◌, ◌≤◌, Bool, true, false, cond, not, ◌||◌, ◌==◌, nat_le, List, [], ◌∷◌, ◌++◌, length, get_or, slice_get, Some, None, Result, All, refl, sym, ap, subst, ◌∙◌, append-nil, length-append, true≢false, arith}
use Rattle.std.proofs.lemmas.Option.{none-some, same_Some, slice_get_within, slice_get-get_or}
use Rattle.std.proofs.lemmas.List.Elements.{All-nil, All-cons, All-append, All-weaker}
use Rattle.graph_terms.proofs.ListLaws.{slice_get-push, All-slice_get}
use Rattle.graph_trigger.specs.declared.trigger.Trigger.{Trigger}
use Rattle.graph_trigger.specs.Trigger.{IsValid, most_size}
use Rattle.smt_text.specs.declared.token.Place.{Place}
use Rattle.formula_draft.specs.declared.draft_row.DraftRow.{DraftRow}
use Rattle.formula_draft.specs.declared.draft_row.DraftRow.TheVariants.{Var, App}
use Rattle.formula_draft.specs.declared.draft_node.DraftNode.{DraftNode}
use Rattle.formula_draft.specs.declared.draft_node.DraftNode.TheVariants.{Equal, Atom, And, Or, Forall}
use Rattle.formula_draft.specs.declared.draft_forall.DraftForall.{DraftForall}
use Rattle.formula_draft.specs.Draft.{Draft, FitsTrigger, FitsForall, draft_forall}
use Rattle.formula_draft.proofs.KeptLaws.{IsDraft-with_forall}
use Rattle.smt_names.specs.declared.value.Value.{Value}
use Rattle.smt_names.specs.declared.value.Value.TheVariants.{Term, Formula}
use Rattle.smt_names.specs.declared.bound.Bound.{Bound}
use Rattle.smt_names.specs.declared.stands.Stands.{Stands}
use Rattle.smt_names.specs.declared.stands.Stands.TheVariants.{Given, Variable}
use Rattle.smt_names.specs.declared.syntax_fault.SyntaxFault.{SyntaxFault}
use Rattle.smt_names.specs.declared.refusal.Refusal.{Refusal}
use Rattle.smt_names.specs.declared.refusal.Refusal.TheVariants as refusal
use Rattle.smt_names.specs.Value.{sort_of, self, has_complement}
use Rattle.smt_names.specs.Making.{Making, gives, ◌>>◌, node, put_forall}
use Rattle.smt_names.specs.Names.{State, Scope}
use Rattle.smt_patterns.specs.Patterns.{size_of, trigger_of, occurs}
use Rattle.smt_patterns.specs.Roots.{positive_row, atom_row, no_variable, root_of, small_root}
use Rattle.smt_patterns.specs.Triggers.{each_occurs, rooted_trigger}
use Rattle.smt_terms.specs.Reading.{Reading, End, Token, Group, from, no_more, at_least, Listed, no_binding, attributes_of}
use Rattle.smt_terms.specs.Terms.{token_value, variables_from, Attribute, attribute_if, is_pattern_key, patterns_in, Body, is_annotation, body_of, pattern_root, add_root, pattern_roots, pattern_list, trigger, triggers, some_trigger, inside_of, quantified, body_forall, bound_forall, checked_forall, forall_value}
use Rattle.formula_draft.specs.Sorted.{Signature, HasSort, IsPlain, IsTruth, IsSortedTrigger}
use Rattle.smt_laws.specs.Sorted.{signatures_of}
use Rattle.smt_laws.specs.Sound.{Fits}
use Rattle.smt_laws.proofs.Standing.{Stood, may_hold, IsScope}
use Rattle.smt_terms.specs.Scopes.{sorts_of}
use Rattle.smt_laws.proofs.Growing.{keeps_all, keeps_none, Extends, rows_keep, foralls_keep, sort_kept, plain_kept, sort_stands, plain_stands, truth_kept}
use Rattle.smt_laws.proofs.Making.{Setting, Sort, Plain, Truth, Sound, Good, makes, refuses, plain_later, sort_later, good_then, good_made, good_want, good_as, good_node}
use Rattle.smt_laws.proofs.Values.{FitsIn, IsFormula, formula_of, Each, none, more, each_append}
use Rattle.smt_laws.proofs.Moving.{variable_of}
use Rattle.smt_laws.proofs.Applying.{good_want_named, le_from}
use Rattle.smt_laws.proofs.Reaching.{reached_sorted, reaches_no_forall}
use Rattle.smt_laws.proofs.Checks.{AllMean, token, group, from_mean, passes_exactly, passes_attributes_of, good_some_bindings, good_other_sort}
use Rattle.smt_laws.proofs.Scopes.{setting, GoodMeaning, scope_later, good_token, good_formula}
use Rattle.smt_laws.proofs.Rooted.{size_later, IsRoot, MakesValid}

-- Variables.
-- variables from an index on, each with a sort that is not Bool
pub data AreVariables : ℕ → List Bound → Type 0 where
  no_more_variables : {index : ℕ} → AreVariables index []
  variable_first : {index sort : ℕ} {name : List ℕ} {bound : List Bound} → 1 ≤ sort → AreVariables (suc index) bound → AreVariables index (record { name = name; stands = Variable index sort } ∷ bound)

pub others_of : {index : ℕ} {bound : List Bound} → AreVariables index bound → All (λ sort. 1 ≤ sort) (sorts_of bound)
others_of no_more_variables = All-nil (λ sort. 1 ≤ sort)
others_of (variable_first {sort = sort} {bound = bound} some rest) = All-cons (λ k. 1 ≤ k) sort (sorts_of bound) some (others_of rest)

pub count_of : (bound : List Bound) → length (sorts_of bound) ≡ length bound
count_of [] = refl
count_of (b ∷ bound) = ap suc (count_of bound)

behind : (xs : List ℕ) (x : ℕ) (ys : List ℕ) → slice_get (xs ++ x ∷ ys) (length xs) ≡ Some x
behind [] x ys = refl
behind (y ∷ xs) x ys = behind xs x ys

again : {X : Type 0} (xs : List X) (x : X) (ys : List X) → (xs ++ x ∷ []) ++ ys ≡ xs ++ x ∷ ys
again [] x ys = refl
again (y ∷ xs) x ys = ap (λ zs. y ∷ zs) (again xs x ys)

-- each of them stands for the variable at its index
pub stand_of : (functions : List Signature) (universal : Bool) (draft : Draft) (front : List ℕ) {index : ℕ} {bound : List Bound} → length front ≡ index → AreVariables index bound
    → All (λ (b : Bound). Stood functions (front ++ sorts_of bound) universal draft b.stands) bound
stand_of functions universal draft front same no_more_variables = All-nil (λ (b : Bound). Stood functions (front ++ []) universal draft b.stands)
stand_of functions universal draft front {index} same (variable_first {sort = sort} {name = name} {bound = bound} some rest) =
    let P : Bound → Type 0 = λ (b : Bound). Stood functions (front ++ sort ∷ sorts_of bound) universal draft b.stands in
    All-cons P (record { name = name; stands = Variable index sort }) bound (subst (λ k. slice_get (front ++ sort ∷ sorts_of bound) k ≡ Some sort) same (behind front sort (sorts_of bound)))
    (subst (λ (all : List ℕ). All (λ (b : Bound). Stood functions all universal draft b.stands) bound) (again front sort (sorts_of bound))
    (stand_of functions universal draft (front ++ sort ∷ []) (omega (arith, same, length-append front (sort ∷ []))) rest))

pub some_sort : (sort : ℕ) → not (sort == 0) ≡ true → 1 ≤ sort
some_sort zero other = absurd (true≢false (sym other))
some_sort (suc n) other = omega arith

module _ (s : Setting) where
  -- no binding stands first
  abbrev pub NoBinding : Reading → Type 0
  NoBinding (Group paren meaning (Token name given) trees) = ⊥
  NoBinding trees = Unit {0}

  good_no_binding : (draft : Draft) (refusal : Refusal) (trees : Reading) → Sound s draft → Good s draft (λ _ _. NoBinding trees) (no_binding refusal trees draft)
  good_no_binding draft refusal (Group paren meaning (Token name given) trees) sound = refuses
  good_no_binding draft refusal trees sound = good_made s draft (tt {0}) sound (tt {0})

  -- variables, no more than the bindings are
  pub record Variables (index : ℕ) (trees : Reading) (bound : List Bound) : Type 0 where
    pub are : AreVariables index bound
    pub few : (n : ℕ) → NoBinding (from n trees) → length bound ≤ n

  pub good_variables : (draft : Draft) (state : State) (index : ℕ) (trees : Reading) → Sound s draft → Good s draft (λ _ bound. Variables index trees bound) (variables_from state index trees draft)
  good_variables draft state index (Group paren meaning (Token name given) after) sound =
      good_then s draft _ (good_other_sort s draft state name.place given sound) λ sort d1 k1 e1 other.
      good_then s d1 _ (good_variables d1 state (index + 1) after k1) λ bound d2 k2 e2 rest.
      good_made s d2 (record { name = name.text; stands = Variable index sort } ∷ bound) k2 (record { are = variable_first (some_sort sort other) (subst (λ k. AreVariables k bound) next rest.are); few = few bound rest.few })
    where
      next : index + 1 ≡ suc index
      next = omega arith

      few : (bound : List Bound) → ((n : ℕ) → NoBinding (from n after) → length bound ≤ n) → (n : ℕ) → NoBinding (from n (Group paren meaning (Token name given) after)) → suc (length bound) ≤ n
      few bound rest zero isnt = absurd isnt
      few bound rest (suc n) isnt = omega (arith, rest n isnt)
  good_variables draft state index trees sound = good_made s draft [] sound (record { are = no_more_variables; few = λ n isnt. omega arith })

-- Bodies.
abbrev AttributeMeans : Attribute → Type 0
AttributeMeans attribute = AllMean GoodMeaning attribute.behind

attributes_mean : (b : Bool) (attribute : Attribute) → AttributeMeans attribute → Each AttributeMeans (attribute_if b attribute)
attributes_mean true attribute is = more is none
attributes_mean false attribute is = none

patterns_mean : (trees : Reading) → AllMean GoodMeaning trees → Each AttributeMeans (patterns_in trees)
patterns_mean End all = none
patterns_mean (Token word trees) (token rest) = each_append (attributes_mean (is_pattern_key word) (record { key = word; behind = trees }) rest) (patterns_mean trees rest)
patterns_mean (Group paren meaning inner trees) (group is within rest) = patterns_mean trees rest

record BodyMeans (body : Body) : Type 0 where
  tree_means : AllMean GoodMeaning body.tree
  patterns_are : Each AttributeMeans body.patterns

good_body : (s : Setting) (draft : Draft) (so_far : List Attribute) (trees : Reading) → Sound s draft → Each AttributeMeans so_far → AllMean GoodMeaning trees → Good s draft (λ _ body. BodyMeans body) (body_of so_far trees draft)
good_body s draft so_far (Group paren meaning (Token head parts) trees) sound so (group is (token within) rest) =
    by (λ d keeps. good_body s d (so_far ++ patterns_in (from 1 parts)) parts keeps (each_append so (patterns_mean (from 1 parts) (from_mean 1 within))) within) (is_annotation head)
  where
    by : ((d : Draft) → Sound s d → Good s d (λ _ body. BodyMeans body) (body_of (so_far ++ patterns_in (from 1 parts)) parts d)) → (b : Bool)
        → Good s draft (λ _ body. BodyMeans body) (cond b (attributes_of head.place parts >> body_of (so_far ++ patterns_in (from 1 parts)) parts) (gives (record { patterns = so_far; tree = Group paren meaning (Token head parts) trees })) draft)
    by deeper true = good_then s draft _ (passes_attributes_of s draft head.place parts sound) λ _ d1 k1 e1 _. deeper d1 k1
    by deeper false = good_made s draft (record { patterns = so_far; tree = Group paren meaning (Token head parts) trees }) sound (record { tree_means = group is (token within) rest; patterns_are = so })
good_body s draft so_far trees sound so all = good_made s draft (record { patterns = so_far; tree = trees }) sound (record { tree_means = all; patterns_are = so })

-- Roots.
-- how many trees there are
abbrev count : Reading → ℕ
count End = 0
count (Token word trees) = suc (count trees)
count (Group paren meaning inner trees) = suc (count trees)

abbrev IsEnd : Reading → Type 0
IsEnd End = Unit {0}
IsEnd trees = ⊥

from_end : (n : ℕ) (trees : Reading) → IsEnd (from n trees) → count trees ≤ n
from_end n End is = omega arith
from_end zero (Token word trees) is = absurd is
from_end zero (Group paren meaning inner trees) is = absurd is
from_end (suc n) (Token word trees) is = omega (arith, from_end n trees is)
from_end (suc n) (Group paren meaning inner trees) is = omega (arith, from_end n trees is)

abbrev positive : DraftNode → Bool
positive (Atom p r) = p
positive x = false

atom_of : {functions : List Signature} {variables : List ℕ} {rows : List DraftRow} {nodes : List DraftNode} (n r : ℕ) → slice_get nodes n ≡ Some (Atom true r) → IsPlain functions variables rows nodes n → HasSort functions variables rows r 0
atom_of n r at (IsPlain.equation {left = left} {right = right} {positive = p} stands other x y) = absurd (other_kind (same_Some (Atom true r) (Equal p left right) (sym at ∙ stands)))
  where
    other_kind : ◌≡◌ {A = DraftNode} (Atom true r) (Equal p left right) → ⊥
    other_kind same = true≢false (ap positive same)
atom_of {functions} {variables} {rows} n r at (IsPlain.atom {row = row} {positive = p} stands x) = subst (λ k. HasSort functions variables rows k 0) (sym (ap row_in (same_Some (Atom true r) (Atom p row) (sym at ∙ stands)))) x
  where
    row_in : DraftNode → ℕ
    row_in (Atom q k) = k
    row_in y = 0
atom_of n r at (IsPlain.each {parts = parts} stands x) = absurd (other_kind (same_Some (Atom true r) (And parts) (sym at ∙ stands)))
  where
    other_kind : ◌≡◌ {A = DraftNode} (Atom true r) (And parts) → ⊥
    other_kind same = true≢false (ap positive same)
atom_of n r at (IsPlain.one {parts = parts} stands x) = absurd (other_kind (same_Some (Atom true r) (Or parts) (sym at ∙ stands)))
  where
    other_kind : ◌≡◌ {A = DraftNode} (Atom true r) (Or parts) → ⊥
    other_kind same = true≢false (ap positive same)

-- a root in a setting
abbrev Root : Setting → Draft → ℕ → Type 0
Root s draft r = IsRoot s.functions s.variables draft.rows r

module _ (s : Setting) (others : All (λ sort. 1 ≤ sort) s.variables) (plain : s.universal ≡ false) where
  -- an application that has a sort
  record IsApplied (draft : Draft) (r : ℕ) : Type 0 where
    symbol : ℕ
    args : List ℕ
    stands : slice_get draft.rows r ≡ Some (App symbol args)
    sort : ℕ
    sorted : Sort s draft r sort

  applied_later : (old new : Draft) → Extends old new → (r : ℕ) → IsApplied old r → IsApplied new r
  applied_later old new extends r is = record { symbol = is.symbol; args = is.args; stands = rows_keep old new extends r (App is.symbol is.args) is.stands; sort = is.sort; sorted = sort_later s old new extends is.sorted }

  row_at : (draft : Draft) (r sort : ℕ) → Sort s draft r sort → slice_get draft.rows r ≡ Some (get_or draft.rows r (Var 0))
  row_at draft r sort has = slice_get-get_or draft.rows r (Var 0) (sort_stands has)

  good_no_variable : (draft : Draft) (at : Place) (r sort : ℕ) → Sound s draft → Sort s draft r sort → (row : DraftRow) → slice_get draft.rows r ≡ Some row → Good s draft (λ d k. IsApplied d k) (no_variable at r row draft)
  good_no_variable draft at r sort sound has (Var index) stands = refuses
  good_no_variable draft at r sort sound has (App symbol args) stands = good_made s draft r sound (record { symbol = symbol; args = args; stands = stands; sort = sort; sorted = has })

  -- an atom's row is an application, since no variable is a formula
  atom_applied : (draft : Draft) (r : ℕ) → Sort s draft r 0 → (row : DraftRow) → slice_get draft.rows r ≡ Some row → IsApplied draft r
  atom_applied draft r has (Var index) stands = absurd (omega (arith, All-slice_get (λ k. 1 ≤ k) s.variables index 0 others (variable_of r index 0 stands has)))
  atom_applied draft r has (App symbol args) stands = record { symbol = symbol; args = args; stands = stands; sort = 0; sorted = has }

  good_atom_row : (draft : Draft) (at : Place) (n : ℕ) → Sound s draft → Plain s draft n → (x : DraftNode) → slice_get draft.nodes n ≡ Some x → Good s draft (λ d k. IsApplied d k) (atom_row at (positive_row x) draft)
  good_atom_row draft at n sound is (Atom true r) stands = let has = atom_of n r stands is in good_made s draft r sound (atom_applied draft r has (get_or draft.rows r (Var 0)) (row_at draft r 0 has))
  good_atom_row draft at n sound is (Atom false r) stands = refuses
  good_atom_row draft at n sound is (Equal p a b) stands = refuses
  good_atom_row draft at n sound is (And parts) stands = refuses
  good_atom_row draft at n sound is (Or parts) stands = refuses
  good_atom_row draft at n sound is (Forall index) stands = refuses

  good_root_of : (draft : Draft) (at : Place) (v : Value) → Sound s draft → FitsIn s draft v → Good s draft (λ d k. IsApplied d k) (root_of at v draft)
  good_root_of draft at (Term r sort) sound fits = good_no_variable draft at r sort sound fits.0 (get_or draft.rows r (Var 0)) (row_at draft r sort fits.0)
  good_root_of draft at (Formula n None) sound fits = absurd (true≢false (sym fits.1 ∙ plain))
  good_root_of draft at (Formula n (Some c)) sound fits = good_atom_row draft at n sound fits.0 (get_or draft.nodes n (And [])) (slice_get-get_or draft.nodes n (And []) (plain_stands fits.0))

  root_later : (old new : Draft) → Extends old new → (r : ℕ) → Root s old r → Root s new r
  root_later old new extends r is = record {
    symbol = is.symbol;
    args = is.args;
    stands = rows_keep old new extends r (App is.symbol is.args) is.stands;
    sort = is.sort;
    sorted = sort_later s old new extends is.sorted;
    small = subst (λ n. n ≤ most_size) (sym (size_later old.rows extends.more_rows new.rows r extends.rows (sort_stands is.sorted))) is.small;
  }

  good_small_root : (draft : Draft) (at : Place) (v : Value) → Sound s draft → FitsIn s draft v → Good s draft (λ d k. Root s d k) (small_root at v draft)
  good_small_root draft at v sound fits =
      good_then s draft _ (good_root_of draft at v sound fits) λ r d1 k1 e1 is.
      good_then s d1 _ (good_want s d1 (nat_le (size_of d1.rows r) most_size) refusal.PatternTooLarge at k1) λ _ d2 k2 e2 small.
      good_made s d2 r k2 (root_later d1 d2 e2 r (record { symbol = is.symbol; args = is.args; stands = is.stands; sort = is.sort; sorted = is.sorted; small = le_from (size_of d1.rows r) most_size small }))

-- in a forall formulas hold none
inside_holds_none : (a b : Bool) → a ≡ true → not (a || b) ≡ false
inside_holds_none true b is = refl
inside_holds_none false b is = absurd (true≢false (sym is))

module _ (scope : Scope) (variables : List ℕ) (within : scope.in_forall ≡ true) where
  abbrev s : Setting
  s = setting scope variables

  plain_here : s.universal ≡ false
  plain_here = inside_holds_none scope.in_forall scope.in_definition within

  -- roots, as many as trees
  record Roots (trees : Reading) (draft : Draft) (roots : List ℕ) : Type 0 where
    are : Each (Root s draft) roots
    as_many : length roots ≡ count trees

  good_add : (draft : Draft) (at : Place) (first : Making Value) (others : Making (List ℕ)) (trees : Reading) → Sound s draft → IsScope variables draft scope → Good s draft (λ d v. FitsIn s d v) (first draft)
      → ((d : Draft) → Sound s d → Extends draft d → Good s d (λ e roots. Roots trees e roots) (others d))
      → Good s draft (λ d roots. Each (Root s d) roots × (length roots ≡ suc (count trees))) (add_root (pattern_root at first) others draft)
  good_add draft at first others trees sound is one rest =
      good_then s draft _ (good_then s draft {Q = λ d r. Root s d r} _ one λ v d1 k1 e1 fits. good_small_root s is.others plain_here d1 at v k1 fits) λ r d2 k2 e2 root.
      good_then s d2 _ (rest d2 k2 e2) λ roots d3 k3 e3 are.
      good_made s d3 (r ∷ roots) k3 (more (root_later s is.others plain_here d2 d3 e3 r root) are.are, ap suc are.as_many)

  good_roots : (draft : Draft) → Sound s draft → IsScope variables draft scope → (trees : Reading) → AllMean GoodMeaning trees → Good s draft (λ d roots. Roots trees d roots) (pattern_roots scope trees draft)
  good_roots draft sound is End all = good_made s draft [] sound (record { are = none; as_many = refl })
  good_roots draft sound is (Token word trees) (token rest) = good_as s draft (λ d roots e both. record { are = both.0; as_many = both.1 })
      (good_add draft word.place (token_value scope word) (pattern_roots scope trees) trees sound is (good_token scope variables draft sound is word) (λ d keeps extends. good_roots d keeps (scope_later scope variables draft d extends is) trees rest))
  good_roots draft sound is (Group paren meaning inner trees) (group means within rest) = good_as s draft (λ d roots e both. record { are = both.0; as_many = both.1 })
      (good_add draft paren.place (meaning scope) (pattern_roots scope trees) trees sound is (means scope variables draft sound is) (λ d keeps extends. good_roots d keeps (scope_later scope variables draft d extends is) trees rest))

  good_no_more : (draft : Draft) (refusal : Refusal) (trees : Reading) → Sound s draft → Good s draft (λ _ _. IsEnd trees) (no_more refusal trees draft)
  good_no_more draft refusal End sound = good_made s draft (tt {0}) sound (tt {0})
  good_no_more draft refusal (Token word trees) sound = refuses
  good_no_more draft refusal (Group paren meaning inner trees) sound = refuses

  good_some : (draft : Draft) (missing : Place) (trees : Reading) → Sound s draft → Good s draft (λ _ _. 1 ≤ count trees) (at_least 1 missing trees draft)
  good_some draft missing End sound = refuses
  good_some draft missing (Token word trees) sound = good_made s draft (tt {0}) sound (omega arith)
  good_some draft missing (Group paren meaning inner trees) sound = good_made s draft (tt {0}) sound (omega arith)

  good_each_occurs : (draft : Draft) (at : Place) (t : Trigger) (index : ℕ) (bound : List Bound) → Sound s draft → Good s draft (λ _ _. (k : ℕ) → k < length bound → occurs t (index + k) ≡ true) (each_occurs at t index bound draft)
  good_each_occurs draft at t index [] sound = good_made s draft (tt {0}) sound (λ k below. absurd (omega (arith, below)))
  good_each_occurs draft at t index (b ∷ bound) sound =
      good_then s draft _ (good_want_named s draft (occurs t index) _ at b.name sound) λ _ d1 k1 e1 here.
      good_as s d1 (λ d v e rest. each here rest) (good_each_occurs d1 at t (index + 1) bound k1)
    where
      each : occurs t index ≡ true → ((k : ℕ) → k < length bound → occurs t (index + 1 + k) ≡ true) → (k : ℕ) → k < suc (length bound) → occurs t (index + k) ≡ true
      each here rest zero below = ap (λ n. occurs t n) same ∙ here
        where
          same : index + zero ≡ index
          same = omega arith
      each here rest (suc k) below = ap (λ n. occurs t n) same ∙ rest k (omega (arith, below))
        where
          same : index + suc k ≡ index + 1 + k
          same = omega arith

  module _ (valid : MakesValid) (bound : List Bound) (count_is : length variables ≡ length bound) (few : length bound ≤ 32) where
    abbrev Fit : Trigger → Type 0
    Fit t = FitsTrigger (length bound) t × IsSortedTrigger s.functions variables t

    good_rooted : (draft : Draft) (at : Place) (roots : List ℕ) → Sound s draft → Each (Root s draft) roots → 1 ≤ length roots → length roots ≤ 16 → Good s draft (λ _ t. Fit t) (rooted_trigger bound at roots draft)
    good_rooted draft at roots sound are some most =
        let t = trigger_of (length bound) draft.rows roots in
        good_then s draft _ (good_each_occurs draft at t 0 bound sound) λ _ d1 k1 e1 occur.
        let is = valid_here draft sound roots are some most occur in
        good_made s d1 t k1 (record { valid = is.0; variables_are = refl }, is.1)
      where
        valid_here : (draft : Draft) → Sound s draft → (roots : List ℕ) → Each (Root s draft) roots → 1 ≤ length roots → length roots ≤ 16
            → ((k : ℕ) → k < length bound → occurs (trigger_of (length bound) draft.rows roots) (0 + k) ≡ true)
            → IsValid (trigger_of (length bound) draft.rows roots) × IsSortedTrigger s.functions variables (trigger_of (length bound) draft.rows roots)
        valid_here draft sound roots are some most occur =
            subst (λ n. IsValid (trigger_of n draft.rows roots) × IsSortedTrigger s.functions variables (trigger_of n draft.rows roots)) count_is
            (valid s.functions variables draft sound.draft_is roots are some most (omega (arith, count_is, few))
            (λ index below. ap (λ n. occurs (trigger_of n draft.rows roots) index) count_is ∙ ap (λ k. occurs (trigger_of (length bound) draft.rows roots) k) (no_less index) ∙ occur index (omega (arith, count_is, below))))
          where
            no_less : (k : ℕ) → k ≡ 0 + k
            no_less k = omega arith

    good_pattern_list : (draft : Draft) (key : Place) (trees : Reading) → Sound s draft → AllMean GoodMeaning trees → Good s draft (λ _ (listed : Listed). AllMean GoodMeaning listed.inner) (pattern_list key trees draft)
    good_pattern_list draft key End sound all = refuses
    good_pattern_list draft key (Token word trees) sound all = refuses
    good_pattern_list draft key (Group paren meaning inner trees) sound (group is within rest) = good_made s draft (record { paren = paren; inner = inner }) sound within

    good_trigger : (draft : Draft) → Sound s draft → IsScope variables draft scope → (attribute : Attribute) → AttributeMeans attribute → Good s draft (λ _ t. Fit t) (trigger scope bound attribute draft)
    good_trigger draft sound is attribute means =
        good_then s draft _ (good_pattern_list draft attribute.key.place attribute.behind sound means) λ listed d1 k1 e1 within.
        good_then s d1 _ (good_some d1 listed.paren.place listed.inner k1) λ _ d2 k2 e2 some.
        good_then s d2 _ (good_no_more d2 refusal.TooManyPatterns (from 16 listed.inner) k2) λ _ d3 k3 e3 most.
        let is3 = scope_later scope variables d2 d3 e3 (scope_later scope variables d1 d2 e2 (scope_later scope variables draft d1 e1 is)) in
        good_then s d3 _ (good_roots d3 k3 is3 listed.inner within) λ roots d4 k4 e4 are.
        good_rooted d4 listed.paren.place roots k4 are.are (omega (arith, are.as_many, some)) (omega (arith, are.as_many, from_end 16 listed.inner most))

    good_triggers : (draft : Draft) → Sound s draft → IsScope variables draft scope → (attributes : List Attribute) → Each AttributeMeans attributes → Good s draft (λ _ ts. All Fit ts) (triggers scope bound attributes draft)
    good_triggers draft sound is [] none = good_made s draft [] sound (All-nil Fit)
    good_triggers draft sound is (a ∷ attributes) (more means rest) =
        good_then s draft _ (good_trigger draft sound is a means) λ first d1 k1 e1 fits.
        good_then s d1 _ (good_triggers d1 k1 (scope_later scope variables draft d1 e1 is) attributes rest) λ others d2 k2 e2 fit.
        good_made s d2 (first ∷ others) k2 (All-cons Fit first others fits fit)

-- what was made in one setting was made in another, where no definition is under way
sound_other : (s t : Setting) (draft : Draft) → t.whole ≡ false → Sound s draft → Sound t draft
sound_other from_it to_it draft partly sound = record { draft_is = sound.draft_is; whole = λ w. absurd (true≢false (sym w ∙ partly)) }

good_other : {A : Type 0} (s t : Setting) (old : Draft) {P : Draft → A → Type 0} {r : Result (A × Draft) SyntaxFault} → t.whole ≡ false → Good s old P r → Good t old P r
good_other from_it to_it old partly (makes {new = new} sound extends fits) = makes (sound_other from_it to_it new partly sound) extends fits
good_other from_it to_it old partly refuses = refuses

-- a value that was made where there are no variables stands where there are some
module _ (functions : List Signature) (variables : List ℕ) (universal : Bool) (draft : Draft) where
  fits_inside : (v : Value) → Fits functions [] universal draft v → Fits functions variables universal draft v
  fits_inside (Term row sort) fits = (sort_kept functions functions (keeps_all functions) draft.rows draft.rows (keeps_all draft.rows) [] variables (keeps_none variables) fits.0, fits.1)
  fits_inside (Formula n None) fits =
      (truth_kept functions functions (keeps_all functions) draft.rows draft.rows (keeps_all draft.rows) draft.nodes draft.nodes (keeps_all draft.nodes) draft.foralls draft.foralls (keeps_all draft.foralls) [] variables (keeps_none variables) fits.0, fits.1)
  fits_inside (Formula n (Some c)) fits = (
    plain_kept functions functions (keeps_all functions) draft.rows draft.rows (keeps_all draft.rows) draft.nodes draft.nodes (keeps_all draft.nodes) [] variables (keeps_none variables) fits.0,
    plain_kept functions functions (keeps_all functions) draft.rows draft.rows (keeps_all draft.rows) draft.nodes draft.nodes (keeps_all draft.nodes) [] variables (keeps_none variables) fits.1,
  )

  stood_inside : (stands : Stands) → Stood functions [] universal draft stands → Stood functions variables universal draft stands
  stood_inside (Given v) fits = fits_inside v fits
  stood_inside (Variable index sort) at = absurd (none-some sort at)

no_definition_here : (a b : Bool) → not (a || b) ≡ true → b ≡ false
no_definition_here true b may = absurd (true≢false (sym may))
no_definition_here false true may = absurd (true≢false (sym may))
no_definition_here false false may = refl

module _ (valid : MakesValid) (scope : Scope) (may : may_hold scope ≡ true) where
  abbrev outer : Setting
  outer = setting scope []

  whole_is : scope.in_definition ≡ false
  whole_is = no_definition_here scope.in_forall scope.in_definition may

  module _ (bound : List Bound) (are : AreVariables 0 bound) (few : length bound ≤ 32) where
    abbrev within : Scope
    within = inside_of scope bound

    abbrev inner : Setting
    inner = setting within (sorts_of bound)

    inside_is : (draft : Draft) → IsScope [] draft scope → IsScope (sorts_of bound) draft within
    inside_is draft is =
        let P : Bound → Type 0 = λ (b : Bound). Stood (signatures_of scope.state.functions) (sorts_of bound) (not scope.in_definition) draft b.stands in
        record {
          declared = is.declared;
          others = others_of are;
          outside = λ held. absurd (true≢false (sym held));
          bound = All-append P scope.bound bound
              (All-weaker (λ (b : Bound). Stood (signatures_of scope.state.functions) [] (not scope.in_definition) draft b.stands) P (λ b. stood_inside (signatures_of scope.state.functions) (sorts_of bound) (not scope.in_definition) draft b.stands) scope.bound is.bound)
              (stand_of (signatures_of scope.state.functions) (not scope.in_definition) draft [] refl are);
        }

    -- the body holds no forall
    body_plain : (draft : Draft) (v : Value) → FitsIn inner draft v × (sort_of v ≡ 0) → Plain inner draft (self v)
    body_plain draft v fits = let is = formula_of inner draft v fits.1 fits.0 in by is (has_complement v) refl
      where
        by : IsFormula inner draft v → (b : Bool) → has_complement v ≡ b → Plain inner draft (self v)
        by is true has = (is.with has).itself
        by is false hasnt = absurd (true≢false (sym (is.without hasnt)))

    -- the trigger fits the variables, and its rows have sorts by them
    abbrev FitsInside : Trigger → Type 0
    FitsInside t = FitsTrigger (length bound) t × IsSortedTrigger (signatures_of scope.state.functions) (sorts_of bound) t

    forall_fits : (draft : Draft) (body : ℕ) (patterns : List Trigger) → Plain inner draft body → All FitsInside patterns → FitsForall draft.rows draft.nodes (draft_forall (length bound) body patterns)
    forall_fits draft body patterns plain fit = record {
      few_variables = few;
      body_stands = plain_stands plain;
      no_forall = reaches_no_forall (signatures_of scope.state.functions) (sorts_of bound) draft.rows draft.nodes body plain;
      below = λ row index reach at.
          let had = reached_sorted (signatures_of scope.state.functions) (sorts_of bound) draft.rows draft.nodes body plain reach in
          let stands = slice_get_within (sorts_of bound) index had.0 (variable_of row index had.0 at had.1) in
          omega (arith, stands, count_of bound);
      triggers_fit = All-weaker FitsInside (λ (t : Trigger). FitsTrigger (length bound) t) (λ t both. both.0) patterns fit;
    }

    -- a forall is put
    Put : Draft → ℕ → DraftForall → Type 0
    Put draft index new = slice_get draft.foralls index ≡ Some new

    good_put : (draft : Draft) (new : DraftForall) → Sound outer draft → FitsForall draft.rows draft.nodes new → Good outer draft (λ d index. Put d index new) (put_forall new draft)
    unfolding Put
    good_put draft new sound fits = makes
        (record { draft_is = IsDraft-with_forall draft sound.draft_is new fits; whole = λ w. absurd (true≢false (sym w ∙ whole_is)) })
        (record { more_rows = []; rows = sym (append-nil draft.rows); more_nodes = []; nodes = sym (append-nil draft.nodes); more_foralls = new ∷ []; foralls = refl })
        (slice_get-push draft.foralls new)

    good_forall_node : (paren : Place) (draft : Draft) (index : ℕ) (new : DraftForall) → Sound outer draft → Put draft index new → length (sorts_of bound) ≡ new.variables → Plain inner draft new.body → All (IsSortedTrigger (signatures_of scope.state.functions) (sorts_of bound)) new.triggers
        → Good outer draft (λ d n. Truth outer d n) (node paren (Forall index) draft)
    unfolding Put
    good_forall_node paren draft index new sound at same plain sorted = good_node outer paren draft sound (Forall index) (λ d n. Truth outer d n)
        (record { rows_stand = All-nil (λ row. row < length draft.rows); parts_stand = All-nil (λ n. n < length draft.nodes); foralls_stand = All-cons (λ n. n < length draft.foralls) index [] (slice_get_within draft.foralls index new at) (All-nil (λ n. n < length draft.foralls)) })
        (λ later n extends stands. (IsTruth.universal stands (foralls_keep draft later extends index new at) (record { sorts = sorts_of bound; count = same; others = others_of are; body = plain_later inner draft later extends plain; triggers = sorted }), λ w. absurd (true≢false (sym w ∙ whole_is))))

    good_quantified : (paren head : Place) (draft : Draft) (body : Body) → Sound outer draft → IsScope [] draft scope → BodyMeans body → Good outer draft (λ d v. FitsIn outer d v) (quantified paren head scope bound body draft)
    good_quantified paren head draft body sound is means =
        good_then outer draft _ (good_other inner outer draft whole_is (good_formula within (sorts_of bound) draft (sound_other outer inner draft whole_is sound) (inside_is draft is) head body.tree means.tree_means)) λ v d1 k1 e1 fits.
        let plain1 = body_plain d1 v fits in
        let is1 = scope_later scope [] draft d1 e1 is in
        good_then outer d1 _ (good_other inner outer d1 whole_is (good_triggers within (sorts_of bound) refl valid bound (count_of bound) few d1 (sound_other outer inner d1 whole_is k1) (inside_is d1 is1) body.patterns means.patterns_are)) λ patterns d2 k2 e2 fit.
        let plain2 = plain_later inner d1 d2 e2 plain1 in
        good_then outer d2 _ (good_want outer d2 (some_trigger patterns) refusal.NotInProfile head k2) λ _ d3 k3 e3 _.
        let plain3 = plain_later inner d2 d3 e3 plain2 in
        good_then outer d3 _ (good_put d3 (draft_forall (length bound) (self v) patterns) k3 (forall_fits d3 (self v) patterns plain3 fit)) λ index d4 k4 e4 at.
        let plain4 = plain_later inner d3 d4 e4 plain3 in
        good_then outer d4 _ (good_forall_node paren d4 index (draft_forall (length bound) (self v) patterns) k4 at (count_of bound) plain4 (All-weaker FitsInside (IsSortedTrigger (signatures_of scope.state.functions) (sorts_of bound)) (λ t both. both.1) patterns fit)) λ n d5 k5 e5 truth_is.
        good_made outer d5 (Formula n None) k5 (truth_is, may)

    good_body_forall : (paren head : Place) (draft : Draft) (trees : Reading) → Sound outer draft → IsScope [] draft scope → AllMean GoodMeaning trees → Good outer draft (λ d v. FitsIn outer d v) (body_forall paren head scope bound trees draft)
    good_body_forall paren head draft trees sound is all =
        good_then outer draft _ (good_body outer draft [] trees sound none all) λ body d1 k1 e1 means.
        good_quantified paren head d1 body k1 (scope_later scope [] draft d1 e1 is) means

  good_bound_forall : (paren head : Place) (draft : Draft) (bindings trees : Reading) → Sound outer draft → IsScope [] draft scope → AllMean GoodMeaning trees → Good outer draft (λ d v. FitsIn outer d v) (bound_forall paren head scope bindings trees draft)
  good_bound_forall paren head draft bindings trees sound is all =
      good_then outer draft _ (good_no_binding outer draft refusal.TooManyVariables (from 32 bindings) sound) λ _ d1 k1 e1 isnt.
      good_then outer d1 _ (good_variables outer d1 scope.state 0 bindings k1) λ bound d2 k2 e2 variables.
      good_body_forall bound variables.are (variables.few 32 isnt) paren head d2 trees k2 (scope_later scope [] d1 d2 e2 (scope_later scope [] draft d1 e1 is)) all

  good_checked_forall : (paren head : Place) (parts : Reading) (draft : Draft) → Sound outer draft → IsScope [] draft scope → AllMean GoodMeaning parts → Good outer draft (λ d v. FitsIn outer d v) (checked_forall paren head parts scope draft)
  good_checked_forall paren head parts draft sound is all =
      good_then outer draft _ (passes_exactly outer draft 2 head parts sound) λ _ d1 k1 e1 _.
      good_then outer d1 _ (good_some_bindings outer GoodMeaning d1 head parts all k1) λ listed d2 k2 e2 _.
      good_bound_forall paren head d2 listed.inner (from 1 parts) k2 (scope_later scope [] d1 d2 e2 (scope_later scope [] draft d1 e1 is)) (from_mean 1 all)

-- a forall
pub good_forall : MakesValid → (paren head : Place) (parts : Reading) → AllMean GoodMeaning parts → GoodMeaning (forall_value paren head parts)
good_forall valid paren head parts all scope variables draft sound is =
    good_then (setting scope variables) draft _ (good_want (setting scope variables) draft (may_hold scope) refusal.NotInProfile head sound) λ _ d1 k1 e1 may.
    subst (λ vs. Sound (setting scope vs) d1 → IsScope vs d1 scope → Good (setting scope vs) d1 (λ d v. FitsIn (setting scope vs) d v) (checked_forall paren head parts scope d1)) (sym (is.outside may))
    (λ sound1 is1. good_checked_forall valid scope may paren head parts d1 sound1 is1 all) k1 (scope_later scope variables draft d1 e1 is)
