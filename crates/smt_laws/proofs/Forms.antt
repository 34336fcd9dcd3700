-- What each form makes of values that fit, fits.
use Rattle.std.proofs.Common.{◌≡◌, ℕ, Bool, true, false, cond, ◌&&◌, List, [], ◌∷◌, ◌++◌, map, Option, Some, None, option_map, is_some, unwrap_or, refl, sym, ap, subst, ◌∙◌, true≢false, arith}
use Rattle.smt_text.specs.declared.token.Place.{Place}
use Rattle.formula_draft.specs.declared.draft_node.DraftNode.{DraftNode}
use Rattle.formula_draft.specs.declared.draft_node.DraftNode.TheVariants.{Equal, And, Or}
use Rattle.formula_draft.specs.Draft.{Draft}
use Rattle.smt_names.specs.declared.value.Value.{Value}
use Rattle.smt_names.specs.declared.value.Value.TheVariants.{Term, Formula}
use Rattle.smt_names.specs.Value.{sort_of, row_of, self, complement, has_complement, other, swapped}
use Rattle.smt_names.specs.Making.{Making, ◌>>=◌}
use Rattle.smt_forms.specs.declared.crossed.Crossed.{Crossed}
use Rattle.smt_forms.specs.Nodes.{selves, all_have_complements, complements, both, true_form, not_form, and_form, or_form, implied, refuted, implies_form, or_of, and_of, crossed, xor_of_two, same_truth, xor_from, xor_form, equal_of_two, neighbours, equal_form, distinct_of_two, distinct_from, distinct_pairs, never, distinct_of_many, distinct_form, ite_complement, ite_of_three, ite_form}
use Rattle.formula_draft.specs.Sorted.{ArePlain, AreTruths, IsTruth}
use Rattle.smt_laws.proofs.Growing.{Extends}
use Rattle.smt_laws.proofs.Making.{Setting, Plain, Plains, Truth, Truths, Sound, Good, refuses, plain_later, truth_later, good_then, good_made, good_as}
use Rattle.smt_laws.proofs.Values.{PlainNode, good_plain, good_truth, FitsIn, Both, IsFormula, Twofold, fits_later, both_later, formula_later, formula_of, term_of, twofold_later, swapped_fits, good_both, good_alone, Each, none, more, each_map, each_append}

and_parts : (a b : Bool) → (a && b) ≡ true → (a ≡ true) × (b ≡ true)
and_parts true b h = (refl, h)
and_parts false b h = absurd (true≢false (sym h))

module _ (s : Setting) (draft : Draft) where
  pub truths_of : {parts : List Value} → Each (IsFormula s draft) parts → Truths s draft (selves parts)
  truths_of none = AreTruths.none
  truths_of (more first rest) = AreTruths.more first.itself (truths_of rest)

  -- where all have complements, all and their complements hold no forall
  pub plains_of : {parts : List Value} → Each (IsFormula s draft) parts → all_have_complements parts ≡ true → Plains s draft (selves parts) × Plains s draft (map other parts)
  plains_of none all = (ArePlain.none, ArePlain.none)
  plains_of (more {x = part} {xs = parts} first rest) all =
      let has = and_parts (has_complement part) (all_have_complements parts) all in
      let here = first.with has.0 in
      let there = plains_of rest has.1 in
      (ArePlain.more here.itself there.0, ArePlain.more here.against there.1)

  -- and where one has none, foralls may stand
  pub universal_of : {parts : List Value} → Each (IsFormula s draft) parts → all_have_complements parts ≡ false → s.universal ≡ true
  universal_of none lacks = absurd (true≢false lacks)
  universal_of (more {x = part} {xs = parts} first rest) lacks = by (universal_of rest) (has_complement part) refl
    where
      by : (all_have_complements parts ≡ false → s.universal ≡ true) → (b : Bool) → has_complement part ≡ b → s.universal ≡ true
      by of_rest true has = of_rest (sym (ap (λ b. b && all_have_complements parts) has) ∙ lacks)
      by of_rest false hasnt = first.without hasnt

  pub fits_of : (v : Value) → Twofold s draft v → IsFormula s draft v
  fits_of v is = formula_of s draft v is.bool is.fits

  -- the two kinds of all parts but the last and its complement
  data Refuted (parts : List Value) : Option (List ℕ) → Type 0 where
    plainly : {ns : List ℕ} → Plains s draft (implied parts) → Plains s draft ns → Refuted parts (Some ns)
    not_so : Truths s draft (implied parts) → s.universal ≡ true → Refuted parts None

  -- the complements of all parts but the last stand, and the last
  pub data Implied : List Value → Type 0 where
    last : {v : Value} → IsFormula s draft v → Implied (v ∷ [])
    before : {v next : Value} {parts : List Value} → Both s draft v → Implied (next ∷ parts) → Implied (v ∷ next ∷ parts)

  refuted_last : (v : Value) (c : Option ℕ) → complement v ≡ c → IsFormula s draft v → Refuted (v ∷ []) (option_map (λ (n : ℕ). n ∷ []) c)
  refuted_last v None is fits = not_so (AreTruths.more fits.itself AreTruths.none) (fits.without (ap is_some is))
  refuted_last v (Some c) is fits =
      let both = fits.with (ap is_some is) in
      plainly (ArePlain.more both.itself ArePlain.none) (ArePlain.more (subst (λ (o : Option ℕ). Plain s draft (unwrap_or o 0)) is both.against) ArePlain.none)

  refuted_more : (v next : Value) (parts : List Value) (o : Option (List ℕ)) → Both s draft v → Refuted (next ∷ parts) o → Refuted (v ∷ next ∷ parts) (option_map (λ (ns : List ℕ). self v ∷ ns) o)
  refuted_more v next parts o both (plainly implied ns) = plainly (ArePlain.more both.against implied) (ArePlain.more both.itself ns)
  refuted_more v next parts o both (not_so implied may) = not_so (AreTruths.more (IsTruth.plain both.against) implied) may

  refuted_of : {parts : List Value} → Implied parts → Refuted parts (refuted parts)
  refuted_of (last {v = v} fits) = refuted_last v (complement v) refl fits
  refuted_of (before {v = v} {next = next} {parts = parts} both rest) = refuted_more v next parts (refuted (next ∷ parts)) both (refuted_of rest)

module _ (s : Setting) where
  -- The parts of an equation: of one sort, and where they are formulas they have complements.
  pub record Equated (sort : ℕ) (d : Draft) (v : Value) : Type 0 where
    pub sort_is : sort_of v ≡ sort
    pub fits : FitsIn s d v
    pub both : sort ≡ 0 → Both s d v

  pub equated_later : (sort : ℕ) (old new : Draft) → Extends old new → (v : Value) → Equated sort old v → Equated sort new v
  equated_later sort old new extends v is = record { sort_is = is.sort_is; fits = fits_later s old new extends v is.fits; both = λ zero. both_later s old new extends v (is.both zero) }

  -- the parts of an ite
  abbrev pub Branches : Draft → List Value → Type 0
  Branches d [] = Unit {0}
  Branches d (c ∷ []) = Unit {0}
  Branches d (c ∷ a ∷ []) = Unit {0}
  Branches d (c ∷ a ∷ b ∷ []) = Both s d c × IsFormula s d a × IsFormula s d b
  Branches d (c ∷ a ∷ b ∷ e ∷ parts) = Unit {0}

module _ (s : Setting) (at : Place) where
  module _ (draft : Draft) (sound : Sound s draft) where
    pub good_true : Good s draft (Twofold s) (true_form at draft)
    good_true = good_both s at draft sound (And []) (Or []) ArePlain.none ArePlain.none

    pub good_and : (parts : List Value) → Each (IsFormula s draft) parts → Good s draft (FitsIn s) (and_form at parts draft)
    good_and parts fit = by (all_have_complements parts) refl
      where
        by : (b : Bool) → all_have_complements parts ≡ b → Good s draft (FitsIn s) (both at (And (selves parts)) (option_map Or (cond b (Some (map other parts)) None)) draft)
        by true all = let is = plains_of s draft fit all in good_as s draft (λ new v extends twofold. twofold.fits) (good_both s at draft sound (And (selves parts)) (Or (map other parts)) is.0 is.1)
        by false lacks = good_alone s at draft sound (And (selves parts)) (truths_of s draft fit) (universal_of s draft fit lacks)

    pub good_or : (parts : List Value) → Each (IsFormula s draft) parts → Good s draft (FitsIn s) (or_form at parts draft)
    good_or parts fit = by (all_have_complements parts) refl
      where
        by : (b : Bool) → all_have_complements parts ≡ b → Good s draft (FitsIn s) (both at (Or (selves parts)) (option_map And (cond b (Some (map other parts)) None)) draft)
        by true all = let is = plains_of s draft fit all in good_as s draft (λ new v extends twofold. twofold.fits) (good_both s at draft sound (Or (selves parts)) (And (map other parts)) is.0 is.1)
        by false lacks = good_alone s at draft sound (Or (selves parts)) (truths_of s draft fit) (universal_of s draft fit lacks)

    good_refuted : (parts : List Value) (o : Option (List ℕ)) → Refuted s draft parts o → Good s draft (FitsIn s) (both at (Or (implied parts)) (option_map And o) draft)
    good_refuted parts o (plainly {ns = ns} implied_are ns_are) = good_as s draft (λ new v extends twofold. twofold.fits) (good_both s at draft sound (Or (implied parts)) (And ns) implied_are ns_are)
    good_refuted parts o (not_so implied_are may) = good_alone s at draft sound (Or (implied parts)) implied_are may

    pub good_implies : (parts : List Value) → Implied s draft parts → Good s draft (FitsIn s) (implies_form at parts draft)
    good_implies parts are = good_refuted parts (refuted parts) (refuted_of s draft are)

    pub good_not : (parts : List Value) → Each (Both s draft) parts → Good s draft (FitsIn s) (not_form at parts draft)
    good_not [] are = refuses
    good_not (a ∷ []) (more both rest) = good_made s draft (swapped a) sound (swapped_fits s draft a both).fits
    good_not (a ∷ b ∷ parts) are = refuses

  two : (d : Draft) (a b : ℕ) → Plain s d a → Plain s d b → Plains s d (a ∷ b ∷ [])
  two d a b first second = ArePlain.more first (ArePlain.more second ArePlain.none)

  good_or_of : (draft : Draft) (a b : ℕ) → Sound s draft → Plain s draft a → Plain s draft b → Good s draft (λ d n. Plain s d n) (or_of at a b draft)
  good_or_of draft a b sound first second = good_plain s draft at sound (Or (a ∷ b ∷ [])) (two draft a b first second)

  -- the four nodes of two formulas
  record Crosses (d : Draft) (c : Crossed) : Type 0 where
    m_is : Plain s d c.m
    n_is : Plain s d c.n
    p_is : Plain s d c.p
    q_is : Plain s d c.q

  good_crossed : (draft : Draft) (a b : Value) → Sound s draft → Both s draft a → Both s draft b → Good s draft Crosses (crossed at a b draft)
  good_crossed draft a b sound both_a both_b =
      good_then s draft _ (good_or_of draft (self a) (self b) sound both_a.itself both_b.itself) λ m d1 k1 e1 m_is.
      let a1 = both_later s draft d1 e1 a both_a in
      let b1 = both_later s draft d1 e1 b both_b in
      good_then s d1 _ (good_or_of d1 (other a) (other b) k1 a1.against b1.against) λ n d2 k2 e2 n_is.
      let a2 = both_later s d1 d2 e2 a a1 in
      let b2 = both_later s d1 d2 e2 b b1 in
      good_then s d2 _ (good_or_of d2 (self a) (other b) k2 a2.itself b2.against) λ p d3 k3 e3 p_is.
      let a3 = both_later s d2 d3 e3 a a2 in
      let b3 = both_later s d2 d3 e3 b b2 in
      good_then s d3 _ (good_or_of d3 (other a) (self b) k3 a3.against b3.itself) λ q d4 k4 e4 q_is.
      good_made s d4 (record { m = m; n = n; p = p; q = q }) k4 (record {
        m_is = plain_later s d3 d4 e4 (plain_later s d2 d3 e3 (plain_later s d1 d2 e2 m_is));
        n_is = plain_later s d3 d4 e4 (plain_later s d2 d3 e3 n_is);
        p_is = plain_later s d3 d4 e4 p_is;
        q_is = q_is;
      })

  pub good_xor_of_two : (draft : Draft) (a b : Value) → Sound s draft → Both s draft a → Both s draft b → Good s draft (Twofold s) (xor_of_two at a b draft)
  good_xor_of_two draft a b sound both_a both_b = good_then s draft _ (good_crossed draft a b sound both_a both_b) λ c d keeps extends is.
      good_both s at d keeps (and_of c.m c.n) (and_of c.p c.q) (two d c.m c.n is.m_is is.n_is) (two d c.p c.q is.p_is is.q_is)

  pub good_same_truth : (draft : Draft) (a b : Value) → Sound s draft → Both s draft a → Both s draft b → Good s draft (Twofold s) (same_truth at a b draft)
  good_same_truth draft a b sound both_a both_b = good_then s draft _ (good_crossed draft a b sound both_a both_b) λ c d keeps extends is.
      good_both s at d keeps (and_of c.p c.q) (and_of c.m c.n) (two d c.p c.q is.p_is is.q_is) (two d c.m c.n is.m_is is.n_is)

  all_later : (old new : Draft) → Extends old new → {parts : List Value} → Each (Both s old) parts → Each (Both s new) parts
  all_later old new extends = each_map (both_later s old new extends)

  good_xor_from : (draft : Draft) (a : Value) (parts : List Value) → Sound s draft → Twofold s draft a → Each (Both s draft) parts → Good s draft (FitsIn s) (xor_from at a parts draft)
  good_xor_from draft a [] sound is none = good_made s draft a sound is.fits
  good_xor_from draft a (b ∷ parts) sound is (more both rest) = good_then s draft _ (good_xor_of_two draft a b sound is.both both) λ first d keeps extends made_so.
      good_xor_from d first parts keeps made_so (all_later draft d extends rest)

  pub good_xor : (draft : Draft) (parts : List Value) → Sound s draft → Each (λ v. FitsIn s draft v × (sort_of v ≡ 0) × Both s draft v) parts → Good s draft (FitsIn s) (xor_form at parts draft)
  good_xor draft [] sound are = refuses
  good_xor draft (a ∷ parts) sound (more is rest) = good_xor_from draft a parts sound (record { fits = is.0; bool = is.1; both = is.2 }) (each_map (λ v (p : FitsIn s draft v × (sort_of v ≡ 0) × Both s draft v). p.2) rest)

  good_equal_of_two : (sort : ℕ) (draft : Draft) (a b : Value) → Sound s draft → Equated s sort draft a → Equated s sort draft b → Good s draft (Twofold s) (equal_of_two at a b draft)
  good_equal_of_two sort draft (Formula n c) b sound a_is b_is = good_same_truth draft (Formula n c) b sound (a_is.both (sym a_is.sort_is)) (b_is.both (sym a_is.sort_is))
  good_equal_of_two sort draft (Term row found) b sound a_is b_is =
      let left = a_is.fits.0 in
      let right = term_of s draft b found (b_is.sort_is ∙ sym a_is.sort_is) a_is.fits.1 b_is.fits in
      good_both s at draft sound (Equal true row (row_of b)) (Equal false row (row_of b)) (found, a_is.fits.1, left, right) (found, a_is.fits.1, left, right)

  equated_all : (sort : ℕ) (old new : Draft) → Extends old new → {parts : List Value} → Each (Equated s sort old) parts → Each (Equated s sort new) parts
  equated_all sort old new extends = each_map (equated_later s sort old new extends)

  twofold_all : (old new : Draft) → Extends old new → {parts : List Value} → Each (Twofold s old) parts → Each (Twofold s new) parts
  twofold_all old new extends = each_map (twofold_later s old new extends)

  good_neighbours : (sort : ℕ) (draft : Draft) (a : Value) (parts : List Value) → Sound s draft → Equated s sort draft a → Each (Equated s sort draft) parts → Good s draft (λ d vs. Each (Twofold s d) vs) (neighbours at a parts draft)
  good_neighbours sort draft a [] sound a_is none = good_made s draft [] sound none
  good_neighbours sort draft a (b ∷ parts) sound a_is (more b_is rest) =
      good_then s draft _ (good_equal_of_two sort draft a b sound a_is b_is) λ first d keeps extends made_so.
      good_then s d _ (good_neighbours sort d b parts keeps (equated_later s sort draft d extends b b_is) (equated_all sort draft d extends rest)) λ others e keeps' extends' are.
      good_made s e (first ∷ others) keeps' (more (twofold_later s d e extends' first made_so) are)

  -- formulas, each with its complement
  good_all : (draft : Draft) (parts : List Value) → Sound s draft → Each (Twofold s draft) parts → Good s draft (FitsIn s) (and_form at parts draft)
  good_all draft parts sound are = good_and draft sound parts (each_map (fits_of s draft) are)

  pub good_equal : (sort : ℕ) (draft : Draft) (parts : List Value) → Sound s draft → Each (Equated s sort draft) parts → Good s draft (FitsIn s) (equal_form at parts draft)
  good_equal sort draft [] sound are = refuses
  good_equal sort draft (a ∷ []) sound are = refuses
  good_equal sort draft (a ∷ b ∷ []) sound (more a_is (more b_is none)) = good_as s draft (λ new v extends twofold. twofold.fits) (good_equal_of_two sort draft a b sound a_is b_is)
  good_equal sort draft (a ∷ b ∷ c ∷ parts) sound (more a_is rest) = good_then s draft _ (good_neighbours sort draft a (b ∷ c ∷ parts) sound a_is rest) λ equations d keeps extends are. good_all d equations keeps are

  good_distinct_of_two : (sort : ℕ) (draft : Draft) (a b : Value) → Sound s draft → Equated s sort draft a → Equated s sort draft b → Good s draft (Twofold s) (distinct_of_two at a b draft)
  good_distinct_of_two sort draft a b sound a_is b_is = good_then s draft _ (good_equal_of_two sort draft a b sound a_is b_is) λ equation d keeps extends is. good_made s d (swapped equation) keeps (swapped_fits s d equation is.both)

  good_distinct_from : (sort : ℕ) (draft : Draft) (a : Value) (parts : List Value) → Sound s draft → Equated s sort draft a → Each (Equated s sort draft) parts → Good s draft (λ d vs. Each (Twofold s d) vs) (distinct_from at a parts draft)
  good_distinct_from sort draft a [] sound a_is none = good_made s draft [] sound none
  good_distinct_from sort draft a (b ∷ parts) sound a_is (more b_is rest) =
      good_then s draft _ (good_distinct_of_two sort draft a b sound a_is b_is) λ first d keeps extends made_so.
      good_then s d _ (good_distinct_from sort d a parts keeps (equated_later s sort draft d extends a a_is) (equated_all sort draft d extends rest)) λ others e keeps' extends' are.
      good_made s e (first ∷ others) keeps' (more (twofold_later s d e extends' first made_so) are)

  good_distinct_pairs : (sort : ℕ) (draft : Draft) (parts : List Value) → Sound s draft → Each (Equated s sort draft) parts → Good s draft (λ d vs. Each (Twofold s d) vs) (distinct_pairs at parts draft)
  good_distinct_pairs sort draft [] sound none = good_made s draft [] sound none
  good_distinct_pairs sort draft (a ∷ parts) sound (more a_is rest) =
      good_then s draft _ (good_distinct_from sort draft a parts sound a_is rest) λ first d keeps extends made_so.
      good_then s d _ (good_distinct_pairs sort d parts keeps (equated_all sort draft d extends rest)) λ others e keeps' extends' are.
      good_made s e (first ++ others) keeps' (each_append (twofold_all d e extends' made_so) are)

  -- three formulas or more
  good_never : (draft : Draft) (parts : List Value) → Sound s draft → Each (IsFormula s draft) parts → Good s draft (FitsIn s) (never at (complements parts) draft)
  good_never draft parts sound fit = by (all_have_complements parts) refl
    where
      by : (b : Bool) → all_have_complements parts ≡ b → Good s draft (FitsIn s) (never at (cond b (Some (map other parts)) None) draft)
      by true all = good_as s draft (λ new v extends twofold. twofold.fits) (good_both s at draft sound (Or []) (And []) ArePlain.none ArePlain.none)
      by false lacks = good_alone s at draft sound (Or []) AreTruths.none (universal_of s draft fit lacks)

  -- The parts of a distinct: of one sort, and where they are two formulas they have complements.
  good_many : (sort : ℕ) (draft : Draft) (a : Value) (parts : List Value) → Sound s draft → sort_of a ≡ sort → FitsIn s draft a → Each (λ v. (sort_of v ≡ sort) × FitsIn s draft v) parts → Good s draft (FitsIn s) (distinct_of_many at a parts draft)
  good_many sort draft (Formula n c) parts sound a_is fits are = good_never draft parts sound (each_map (λ v (p : (sort_of v ≡ sort) × FitsIn s draft v). formula_of s draft v (p.0 ∙ sym a_is) p.1) are)
  good_many sort draft (Term row found) parts sound a_is fits are =
      good_then s draft _ (good_distinct_pairs sort draft parts sound (each_map (λ v (p : (sort_of v ≡ sort) × FitsIn s draft v). record { sort_is = p.0; fits = p.1; both = λ zero. absurd (omega (arith, fits.1, zero, a_is)) }) are)) λ differences d keeps extends made_so.
      good_all d differences keeps made_so

  pub good_distinct : (sort : ℕ) (draft : Draft) (parts : List Value) → Sound s draft → Each (λ v. (sort_of v ≡ sort) × FitsIn s draft v) parts
      → ((a b : Value) → parts ≡ a ∷ b ∷ [] → Each (Equated s sort draft) parts) → Good s draft (FitsIn s) (distinct_form at parts draft)
  good_distinct sort draft [] sound are two_are = refuses
  good_distinct sort draft (a ∷ []) sound are two_are = refuses
  good_distinct sort draft (a ∷ b ∷ []) sound are two_are = by (two_are a b refl)
    where
      by : Each (Equated s sort draft) (a ∷ b ∷ []) → Good s draft (FitsIn s) (distinct_of_two at a b draft)
      by (more a_is (more b_is none)) = good_as s draft (λ new v extends twofold. twofold.fits) (good_distinct_of_two sort draft a b sound a_is b_is)
  good_distinct sort draft (a ∷ b ∷ c ∷ parts) sound (more a_is rest) two_are = good_many sort draft a (a ∷ b ∷ c ∷ parts) sound a_is.0 a_is.1 (more a_is rest)

  -- an ite by the complements of its branches
  abbrev ite_by : Value → Value → Value → Option (List ℕ) → Making Value
  ite_by c a b against = do
    first ← or_of at (other c) (self a)
    second ← or_of at (self c) (self b)
    opposite ← ite_complement at c against
    both at (and_of first second) opposite

  -- a complement is plain
  abbrev SomeNode : Draft → Option DraftNode → Type 0
  SomeNode d None = ⊥
  SomeNode d (Some new) = PlainNode s d new

  good_against : (d : Draft) → Sound s d → (itself : DraftNode) (o : Option DraftNode) → PlainNode s d itself → SomeNode d o → Good s d (FitsIn s) (both at itself o d)
  good_against d sound itself None is against = absurd against
  good_against d sound itself (Some new) is against = good_as s d (λ new v extends twofold. twofold.fits) (good_both s at d sound itself new is against)

  good_opposite : (d : Draft) (c a b : Value) → Sound s d → Both s d c → Both s d a → Both s d b → Good s d SomeNode (ite_complement at c (Some (other a ∷ other b ∷ [])) d)
  good_opposite d c a b sound c_is a_is b_is =
      good_then s d _ (good_or_of d (other c) (other a) sound c_is.against a_is.against) λ m d1 k1 e1 m_is.
      good_then s d1 _ (good_or_of d1 (self c) (other b) k1 (plain_later s d d1 e1 c_is.itself) (plain_later s d d1 e1 b_is.against)) λ n d2 k2 e2 n_is.
      good_made s d2 (Some (and_of m n)) k2 (two d2 m n (plain_later s d1 d2 e2 m_is) n_is)

  good_ite_plain : (d : Draft) (c a b : Value) → Sound s d → Both s d c → Both s d a → Both s d b → Good s d (FitsIn s) (ite_by c a b (Some (other a ∷ other b ∷ [])) d)
  good_ite_plain d c a b sound c_is a_is b_is =
      good_then s d _ (good_or_of d (other c) (self a) sound c_is.against a_is.itself) λ m d1 k1 e1 m_is.
      let c1 = both_later s d d1 e1 c c_is in
      let a1 = both_later s d d1 e1 a a_is in
      let b1 = both_later s d d1 e1 b b_is in
      good_then s d1 _ (good_or_of d1 (self c) (self b) k1 c1.itself b1.itself) λ n d2 k2 e2 n_is.
      let c2 = both_later s d1 d2 e2 c c1 in
      let a2 = both_later s d1 d2 e2 a a1 in
      let b2 = both_later s d1 d2 e2 b b1 in
      good_then s d2 _ (good_opposite d2 c a b k2 c2 a2 b2) λ o d3 k3 e3 o_is.
      good_against d3 k3 (and_of m n) o (two d3 m n (plain_later s d2 d3 e3 (plain_later s d1 d2 e2 m_is)) (plain_later s d2 d3 e3 n_is)) o_is

  two_truths : (d : Draft) (a b : ℕ) → Truth s d a → Truth s d b → Truths s d (a ∷ b ∷ [])
  two_truths d a b first second = AreTruths.more first (AreTruths.more second AreTruths.none)

  good_ite_alone : (d : Draft) (c a b : Value) → Sound s d → s.universal ≡ true → Both s d c → IsFormula s d a → IsFormula s d b → Good s d (FitsIn s) (ite_by c a b None d)
  good_ite_alone d c a b sound may c_is a_is b_is =
      good_then s d _ (good_truth s d at sound (Or (other c ∷ self a ∷ [])) (two_truths d (other c) (self a) (IsTruth.plain c_is.against) a_is.itself) may) λ m d1 k1 e1 m_is.
      let c1 = both_later s d d1 e1 c c_is in
      let b1 = formula_later s d d1 e1 b b_is in
      good_then s d1 _ (good_truth s d1 at k1 (Or (self c ∷ self b ∷ [])) (two_truths d1 (self c) (self b) (IsTruth.plain c1.itself) b1.itself) may) λ n d2 k2 e2 n_is.
      good_alone s at d2 k2 (and_of m n) (two_truths d2 m n (truth_later s d1 d2 e2 m_is) n_is) may

  good_ite_of_three : (d : Draft) (c a b : Value) → Sound s d → Both s d c → IsFormula s d a → IsFormula s d b → Good s d (FitsIn s) (ite_of_three at c a b d)
  good_ite_of_three d c a b sound c_is a_is b_is = by (all_have_complements (a ∷ b ∷ [])) refl
    where
      by : (x : Bool) → all_have_complements (a ∷ b ∷ []) ≡ x → Good s d (FitsIn s) (ite_by c a b (cond x (Some (other a ∷ other b ∷ [])) None) d)
      by true all =
          let first = and_parts (has_complement a) (has_complement b && true) all in
          let second = and_parts (has_complement b) true first.1 in
          good_ite_plain d c a b sound c_is (a_is.with first.0) (b_is.with second.0)
      by false lacks = good_ite_alone d c a b sound (universal_of s d (more a_is (more b_is none)) lacks) c_is a_is b_is

  pub good_ite : (d : Draft) (parts : List Value) → Sound s d → Branches s d parts → Good s d (FitsIn s) (ite_form at parts d)
  good_ite d [] sound are = refuses
  good_ite d (c ∷ []) sound are = refuses
  good_ite d (c ∷ a ∷ []) sound are = refuses
  good_ite d (c ∷ a ∷ b ∷ []) sound are = good_ite_of_three d c a b sound are.0 are.1 are.2
  good_ite d (c ∷ a ∷ b ∷ e ∷ parts) sound are = refuses
