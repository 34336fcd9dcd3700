-- Nodes that may be put, and values that fit.
use Rattle.std.proofs.Common.{◌≡◌, ℕ, ◌<◌, ◌≤◌, true, false, List, [], ◌∷◌, ◌++◌, length, slice_get, Option, Some, None, All, refl, sym, subst, true≢false, arith}
use Rattle.std.proofs.lemmas.List.Elements.{All-nil, All-cons}
use Rattle.smt_text.specs.declared.token.Place.{Place}
use Rattle.formula_draft.specs.declared.draft_node.DraftNode.{DraftNode}
use Rattle.formula_draft.specs.declared.draft_node.DraftNode.TheVariants.{Equal, Atom, And, Or, Forall}
use Rattle.formula_draft.specs.Draft.{Draft, FitsNode}
use Rattle.smt_names.specs.declared.value.Value.{Value}
use Rattle.smt_names.specs.declared.value.Value.TheVariants.{Term, Formula}
use Rattle.smt_names.specs.Value.{sort_of, row_of, self, has_complement, other, swapped}
use Rattle.smt_names.specs.Making.{node}
use Rattle.smt_forms.specs.Nodes.{both}
use Rattle.formula_draft.specs.Sorted.{IsPlain, ArePlain, IsTruth, AreTruths}
use Rattle.smt_laws.specs.Sound.{Fits}
use Rattle.smt_laws.proofs.Growing.{Extends, sort_stands, plain_stands, truth_stands}
use Rattle.smt_laws.proofs.Making.{Setting, Sort, Plain, Plains, Truth, Truths, Sound, Good, sort_later, plain_later, plains_later, truth_later, truths_later, good_then, good_made, good_node}

-- a plain node over what stands
abbrev pub PlainNode : Setting → Draft → DraftNode → Type 0
PlainNode s draft (Equal positive left right) = (sort : ℕ) × (1 ≤ sort) × Sort s draft left sort × Sort s draft right sort
PlainNode s draft (Atom positive row) = Sort s draft row 0
PlainNode s draft (And parts) = Plains s draft parts
PlainNode s draft (Or parts) = Plains s draft parts
PlainNode s draft (Forall index) = ⊥

-- and a node that holds foralls
abbrev pub TruthNode : Setting → Draft → DraftNode → Type 0
TruthNode s draft (Equal positive left right) = ⊥
TruthNode s draft (Atom positive row) = ⊥
TruthNode s draft (And parts) = Truths s draft parts
TruthNode s draft (Or parts) = Truths s draft parts
TruthNode s draft (Forall index) = ⊥

pub plains_stand : (s : Setting) (draft : Draft) {ns : List ℕ} → Plains s draft ns → All (λ n. n < length draft.nodes) ns
plains_stand s draft ArePlain.none = All-nil (λ n. n < length draft.nodes)
plains_stand s draft (ArePlain.more {n = n} {others = others} first rest) = All-cons (λ k. k < length draft.nodes) n others (plain_stands first) (plains_stand s draft rest)

pub truths_stand : (s : Setting) (draft : Draft) {ns : List ℕ} → Truths s draft ns → All (λ n. n < length draft.nodes) ns
truths_stand s draft AreTruths.none = All-nil (λ n. n < length draft.nodes)
truths_stand s draft (AreTruths.more {n = n} {others = others} first rest) = All-cons (λ k. k < length draft.nodes) n others (truth_stands first) (truths_stand s draft rest)

module _ (s : Setting) (draft : Draft) where
  plain_node_fits : (new : DraftNode) → PlainNode s draft new → FitsNode (length draft.rows) (length draft.nodes) (length draft.foralls) new
  plain_node_fits (Equal positive left right) is = record {
    rows_stand = All-cons (λ row. row < length draft.rows) left (right ∷ []) (sort_stands is.2) (All-cons (λ row. row < length draft.rows) right [] (sort_stands is.3) (All-nil (λ row. row < length draft.rows)));
    parts_stand = All-nil (λ n. n < length draft.nodes);
    foralls_stand = All-nil (λ n. n < length draft.foralls);
  }
  plain_node_fits (Atom positive row) is = record {
    rows_stand = All-cons (λ r. r < length draft.rows) row [] (sort_stands is) (All-nil (λ r. r < length draft.rows));
    parts_stand = All-nil (λ n. n < length draft.nodes);
    foralls_stand = All-nil (λ n. n < length draft.foralls);
  }
  plain_node_fits (And parts) is = record { rows_stand = All-nil (λ r. r < length draft.rows); parts_stand = plains_stand s draft is; foralls_stand = All-nil (λ n. n < length draft.foralls) }
  plain_node_fits (Or parts) is = record { rows_stand = All-nil (λ r. r < length draft.rows); parts_stand = plains_stand s draft is; foralls_stand = All-nil (λ n. n < length draft.foralls) }
  plain_node_fits (Forall index) is = absurd is

  plain_node_is : (new : DraftNode) → PlainNode s draft new → (later : Draft) (n : ℕ) → Extends draft later → slice_get later.nodes n ≡ Some new → Plain s later n
  plain_node_is (Equal positive left right) is later n extends at = IsPlain.equation at is.1 (sort_later s draft later extends is.2) (sort_later s draft later extends is.3)
  plain_node_is (Atom positive row) is later n extends at = IsPlain.atom at (sort_later s draft later extends is)
  plain_node_is (And parts) is later n extends at = IsPlain.each at (plains_later s draft later extends is)
  plain_node_is (Or parts) is later n extends at = IsPlain.one at (plains_later s draft later extends is)
  plain_node_is (Forall index) is later n extends at = absurd is

  truth_node_fits : (new : DraftNode) → TruthNode s draft new → FitsNode (length draft.rows) (length draft.nodes) (length draft.foralls) new
  truth_node_fits (And parts) is = record { rows_stand = All-nil (λ r. r < length draft.rows); parts_stand = truths_stand s draft is; foralls_stand = All-nil (λ n. n < length draft.foralls) }
  truth_node_fits (Or parts) is = record { rows_stand = All-nil (λ r. r < length draft.rows); parts_stand = truths_stand s draft is; foralls_stand = All-nil (λ n. n < length draft.foralls) }
  truth_node_fits (Equal positive left right) is = absurd is
  truth_node_fits (Atom positive row) is = absurd is
  truth_node_fits (Forall index) is = absurd is

  truth_node_is : (new : DraftNode) → TruthNode s draft new → (later : Draft) (n : ℕ) → Extends draft later → slice_get later.nodes n ≡ Some new → Truth s later n
  truth_node_is (And parts) is later n extends at = IsTruth.each at (truths_later s draft later extends is)
  truth_node_is (Or parts) is later n extends at = IsTruth.one at (truths_later s draft later extends is)
  truth_node_is (Equal positive left right) is later n extends at = absurd is
  truth_node_is (Atom positive row) is later n extends at = absurd is
  truth_node_is (Forall index) is later n extends at = absurd is

  pub plain_node_later : (later : Draft) → Extends draft later → (new : DraftNode) → PlainNode s draft new → PlainNode s later new
  plain_node_later later extends (Equal positive left right) is = (is.0, is.1, sort_later s draft later extends is.2, sort_later s draft later extends is.3)
  plain_node_later later extends (Atom positive row) is = sort_later s draft later extends is
  plain_node_later later extends (And parts) is = plains_later s draft later extends is
  plain_node_later later extends (Or parts) is = plains_later s draft later extends is
  plain_node_later later extends (Forall index) is = absurd is

  module _ (at : Place) (sound : Sound s draft) where
    pub good_plain : (new : DraftNode) → PlainNode s draft new → Good s draft (λ d n. Plain s d n) (node at new draft)
    good_plain new is = good_node s at draft sound new (λ d n. Plain s d n) (plain_node_fits new is) (λ later n extends stands. let p = plain_node_is new is later n extends stands in (p, λ _. p))

    pub good_truth : (new : DraftNode) → TruthNode s draft new → s.universal ≡ true → Good s draft (λ d n. Truth s d n) (node at new draft)
    good_truth new is may = good_node s at draft sound new (λ d n. Truth s d n) (truth_node_fits new is) (λ later n extends stands. (truth_node_is new is later n extends stands, λ w. absurd (s.apart w may)))

-- the value fits where the setting is
abbrev pub FitsIn : Setting → Draft → Value → Type 0
FitsIn s draft v = Fits s.functions s.variables s.universal draft v

pub fits_later : (s : Setting) (old new : Draft) → Extends old new → (v : Value) → FitsIn s old v → FitsIn s new v
fits_later s old new extends (Term row sort) fits = (sort_later s old new extends fits.0, fits.1)
fits_later s old new extends (Formula n None) fits = (truth_later s old new extends fits.0, fits.1)
fits_later s old new extends (Formula n (Some c)) fits = (plain_later s old new extends fits.0, plain_later s old new extends fits.1)

-- a formula with its complement
pub record Both (s : Setting) (draft : Draft) (v : Value) : Type 0 where
  pub itself : Plain s draft (self v)
  pub against : Plain s draft (other v)

-- a formula: with a complement it holds no forall, and without one foralls may stand here
pub record IsFormula (s : Setting) (draft : Draft) (v : Value) : Type 0 where
  pub itself : Truth s draft (self v)
  pub without : has_complement v ≡ false → s.universal ≡ true
  pub with : has_complement v ≡ true → Both s draft v

pub both_later : (s : Setting) (old new : Draft) → Extends old new → (v : Value) → Both s old v → Both s new v
both_later s old new extends v both = record { itself = plain_later s old new extends both.itself; against = plain_later s old new extends both.against }

pub formula_later : (s : Setting) (old new : Draft) → Extends old new → (v : Value) → IsFormula s old v → IsFormula s new v
formula_later s old new extends v is = record { itself = truth_later s old new extends is.itself; without = is.without; with = λ has. both_later s old new extends v (is.with has) }

pub formula_of : (s : Setting) (draft : Draft) (v : Value) → sort_of v ≡ 0 → FitsIn s draft v → IsFormula s draft v
formula_of s draft (Term row sort) bool fits = absurd (omega (arith, fits.1, bool))
formula_of s draft (Formula n None) bool fits = record { itself = fits.0; without = λ _. fits.1; with = λ has. absurd (true≢false (sym has)) }
formula_of s draft (Formula n (Some c)) bool fits = record { itself = IsTruth.plain fits.0; without = λ hasnt. absurd (true≢false hasnt); with = λ _. record { itself = fits.0; against = fits.1 } }

pub term_of : (s : Setting) (draft : Draft) (v : Value) (sort : ℕ) → sort_of v ≡ sort → 1 ≤ sort → FitsIn s draft v → Sort s draft (row_of v) sort
term_of s draft (Term row found) sort is some fits = subst (λ k. Sort s draft row k) is fits.0
term_of s draft (Formula n c) sort is some fits = absurd (omega (arith, is, some))

-- a formula that was made with its complement
pub record Twofold (s : Setting) (draft : Draft) (v : Value) : Type 0 where
  pub fits : FitsIn s draft v
  pub bool : sort_of v ≡ 0
  pub both : Both s draft v

pub twofold_later : (s : Setting) (old new : Draft) → Extends old new → (v : Value) → Twofold s old v → Twofold s new v
twofold_later s old new extends v is = record { fits = fits_later s old new extends v is.fits; bool = is.bool; both = both_later s old new extends v is.both }

pub swapped_fits : (s : Setting) (draft : Draft) (v : Value) → Both s draft v → Twofold s draft (swapped v)
swapped_fits s draft v is = record { fits = (is.against, is.itself); bool = refl; both = record { itself = is.against; against = is.itself } }

-- there is a plain node
abbrev pub SomePlain : Setting → Draft → Option ℕ → Type 0
SomePlain s draft None = ⊥
SomePlain s draft (Some n) = Plain s draft n

module _ (s : Setting) (at : Place) where
  both_fit : (draft : Draft) (n : ℕ) (c : Option ℕ) → Plain s draft n → SomePlain s draft c → Twofold s draft (Formula n c)
  both_fit draft n None itself against = absurd against
  both_fit draft n (Some m) itself against = record { fits = (itself, against); bool = refl; both = record { itself = itself; against = against } }

  -- a formula and its complement
  pub good_both : (draft : Draft) → Sound s draft → (itself against : DraftNode) → PlainNode s draft itself → PlainNode s draft against → Good s draft (λ d v. Twofold s d v) (both at itself (Some against) draft)
  good_both draft sound itself against is other_is =
      good_then s draft _ (good_plain s draft at sound itself is) λ n new keeps extends first.
      good_then s new _ (good_then s new {Q = λ d c. SomePlain s d c} _ (good_plain s new at keeps against (plain_node_later s draft new extends against other_is)) λ m last keeps' extends' second. good_made s last (Some m) keeps' second)
      λ c last keeps' extends' second. good_made s last (Formula n c) keeps' (both_fit last n c (plain_later s new last extends' first) second)

  -- a formula without a complement
  pub good_alone : (draft : Draft) → Sound s draft → (itself : DraftNode) → TruthNode s draft itself → s.universal ≡ true → Good s draft (λ d v. FitsIn s d v) (both at itself None draft)
  good_alone draft sound itself is may = good_then s draft _ (good_truth s draft at sound itself is may) λ n new keeps extends first. good_made s new (Formula n None) keeps (first, may)

-- each of some values is so
pub data Each {A : Type 0} (P : A → Type 0) : List A → Type 0 where
  none : Each P []
  more : {x : A} {xs : List A} → P x → Each P xs → Each P (x ∷ xs)

pub each_map : {A : Type 0} {P Q : A → Type 0} → ((x : A) → P x → Q x) → {xs : List A} → Each P xs → Each Q xs
each_map weaker none = none
each_map weaker (more {x = x} first rest) = more (weaker x first) (each_map weaker rest)

pub each_append : {A : Type 0} {P : A → Type 0} {xs ys : List A} → Each P xs → Each P ys → Each P (xs ++ ys)
each_append none second = second
each_append (more first rest) second = more first (each_append rest second)
