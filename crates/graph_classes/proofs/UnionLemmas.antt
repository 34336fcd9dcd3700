-- The unions that a cascade lists.
use Rattle.std.proofs.Common.{◌≡◌, ◌≢◌, ◌<◌, ◌≤◌, inl, inr, ℕ, List, [], ◌∷◌, ◌++◌, length, take, Some, None, slice_get, slice_index, sym, ◌∙◌, ap, subst, arith}
use Rattle.std.proofs.lemmas.Grind.{common_steps}
use Rattle.std.proofs.lemmas.List.Elements.{Contains-append_left, Contains-push}
use Rattle.std.proofs.lemmas.Option.{slice_get_within}
use Rattle.graph_meaning.specs.declared.union.Union.{Union}
use Rattle.graph_classes.specs.Indexed.{IsRelabelled, Between, HaveOneLabel}
use Rattle.graph_meaning.specs.Unions.{AreUnions, Generated, Leads, union_of, was, listed, turned, joined}
use Rattle.graph_classes.proofs.Elements.{contains_none, contains_push_cases, slice_get_push_cases}
use Rattle.graph_classes.proofs.StepLemmas.{taken, kept, taken_or_kept, Coarser-relabelled}

turned_label : (n : ℕ) (labels : List ℕ) (s t : ℕ) → HaveOneLabel n labels s t → HaveOneLabel n labels t s
turned_label n labels s t h = (h.1, h.0, sym h.2)

joined_label : (n : ℕ) (labels : List ℕ) (s t u : ℕ) → HaveOneLabel n labels s t → HaveOneLabel n labels t u → HaveOneLabel n labels s u
joined_label n labels s t u h k = (h.0, k.1, h.2 ∙ k.2)

no_entry : (k : ℕ) (u : Union) → slice_get {X = Union} [] k ≡ Some u → ⊥
no_entry k u e = let h : None ≡ Some u = e in cc

-- with no union, the classes are the old ones
pub no_unions : (n : ℕ) (labels : List ℕ) → AreUnions n (HaveOneLabel n labels) (HaveOneLabel n labels) []
no_unions n labels = record { generated = λ s t h. was h; held = held; below = λ k u e. absurd (no_entry k u e); led = λ k u e. absurd (no_entry k u e); apart = λ k u e g. absurd (no_entry k u e) }
  where
    held : (s t : ℕ) → Generated (HaveOneLabel n labels) [] s t → HaveOneLabel n labels s t
    held s t (was h) = h
    held s t (listed c) = absurd (contains_none (union_of s t) c)
    held s t (turned g) = turned_label n labels t s (held t s g)
    held s t (joined {t = m} g h) = joined_label n labels s m t (held s m g) (held m t h)

more_unions : (old : ℕ → ℕ → Type 0) (unions : List Union) (u : Union) (s t : ℕ) → Generated old unions s t → Generated old (unions ++ u ∷ []) s t
more_unions old unions u s t (was h) = was h
more_unions old unions u s t (listed c) = listed (Contains-append_left unions (u ∷ []) (union_of s t) c)
more_unions old unions u s t (turned g) = turned (more_unions old unions u t s g)
more_unions old unions u s t (joined {t = m} g h) = joined (more_unions old unions u s m g) (more_unions old unions u m t h)

-- one more union, of the leaders of two labels
module _ (n : ℕ) (first old new : List ℕ) (unions : List Union) (a b from into : ℕ) (len : length old ≡ n) (ha : a < n) (hb : b < n) (apart : from ≢ into) (ends : Between old a b from into) (relabelled : IsRelabelled old new from into)
    (least_a : (t : ℕ) → t < n → slice_index old a ≡ slice_index old t → a ≤ t) (least_b : (t : ℕ) → t < n → slice_index old b ≡ slice_index old t → b ≤ t) (are : AreUnions n (HaveOneLabel n first) (HaveOneLabel n old) unions) where
  above : (t : ℕ) → t < n → t < length old
  above t h = rw len h

  before : (s t : ℕ) → s < n → t < n → slice_index old s ≡ slice_index old t → Generated (HaveOneLabel n first) (unions ++ union_of a b ∷ []) s t
  before s t hs ht e = more_unions (HaveOneLabel n first) unions (union_of a b) s t (are.generated s t (hs, ht, e))

  last : Generated (HaveOneLabel n first) (unions ++ union_of a b ∷ []) a b
  last = listed (Contains-push unions (union_of a b))

  -- the two labels are joined by the union
  link : (s t : ℕ) → s < n → t < n → slice_index old s ≡ from → slice_index old t ≡ into → Generated (HaveOneLabel n first) (unions ++ union_of a b ∷ []) s t
  link s t hs ht es et = elim ends [
    | inl here ↦ joined (before s a hs ha (es ∙ sym here.0)) (joined last (before b t hb ht (here.1 ∙ sym et)))
    | inr there ↦ joined (before s b hs hb (es ∙ sym there.1)) (joined (turned last) (before a t ha ht (there.0 ∙ sym et)))
  ]

  generated : (s t : ℕ) → HaveOneLabel n new s t → Generated (HaveOneLabel n first) (unions ++ union_of a b ∷ []) s t
  generated s t h = elim (taken_or_kept old new from into relabelled s (above s h.0)) [
    | inl s_took ↦ elim (taken_or_kept old new from into relabelled t (above t h.1)) [
      | inl t_took ↦ before s t h.0 h.1 (s_took.0 ∙ sym t_took.0)
      | inr t_kept ↦ link s t h.0 h.1 s_took.0 (sym t_kept ∙ sym h.2 ∙ s_took.1)
    ]
    | inr s_kept ↦ elim (taken_or_kept old new from into relabelled t (above t h.1)) [
      | inl t_took ↦ turned (link t s h.1 h.0 t_took.0 (sym s_kept ∙ h.2 ∙ t_took.1))
      | inr t_kept ↦ before s t h.0 h.1 (sym s_kept ∙ h.2 ∙ t_kept)
    ]
  ]

  goes : (t : ℕ) → t < n → slice_index old t ≡ from → slice_index new t ≡ into
  goes t h e = taken old new from into relabelled t (above t h) e

  stays : (t : ℕ) → t < n → slice_index old t ≡ into → slice_index new t ≡ into
  stays t h e = kept old new from into relabelled t (above t h) (λ f. apart (sym f ∙ e)) ∙ e

  last_same : slice_index new a ≡ slice_index new b
  last_same = elim ends [
    | inl here ↦ goes a ha here.0 ∙ sym (stays b hb here.1)
    | inr there ↦ stays a ha there.0 ∙ sym (goes b hb there.1)
  ]

  coarser : (s t : ℕ) → HaveOneLabel n old s t → HaveOneLabel n new s t
  coarser s t h = (h.0, h.1, Coarser-relabelled old new from into relabelled s t (above s h.0) (above t h.1) h.2)

  held : (s t : ℕ) → Generated (HaveOneLabel n first) (unions ++ union_of a b ∷ []) s t → HaveOneLabel n new s t
  held s t (was h) = coarser s t (are.held s t (was h))
  held s t (listed c) = elim (contains_push_cases unions (union_of a b) (union_of s t) c) [
    | inl earlier ↦ coarser s t (are.held s t (listed earlier))
    | inr e ↦ let is_a : s ≡ a = ap (λ (u : Union). u.left) e in let is_b : t ≡ b = ap (λ (u : Union). u.right) e in
        (rw is_a ha, rw is_b hb, ap (slice_index new) is_a ∙ last_same ∙ sym (ap (slice_index new) is_b))
  ]
  held s t (turned g) = turned_label n new t s (held t s g)
  held s t (joined {t = m} g h) = joined_label n new s m t (held s m g) (held m t h)

  take_earlier : (k : ℕ) → k < length unions → take k (unions ++ union_of a b ∷ []) ≡ take k unions
  take_earlier k h = grind (arith, common_steps)

  take_last : take (length unions) (unions ++ union_of a b ∷ []) ≡ unions
  take_last = grind (arith, common_steps)

  led_last : Leads (Generated (HaveOneLabel n first) unions) (union_of a b)
  led_last = record {
    left = λ other g. let h = are.held a other g in least_a other h.1 h.2;
    right = λ other g. let h = are.held b other g in least_b other h.1 h.2;
  }

  led : (k : ℕ) (u : Union) → slice_get (unions ++ union_of a b ∷ []) k ≡ Some u → Leads (Generated (HaveOneLabel n first) (take k (unions ++ union_of a b ∷ []))) u
  led k u is = elim (slice_get_push_cases unions (union_of a b) k u is) [
    | inl earlier ↦ let P : List Union → Type 0 = λ us. Leads (Generated (HaveOneLabel n first) us) u in subst P (sym (take_earlier k (slice_get_within unions k u earlier))) (are.led k u earlier)
    | inr end ↦ let P : List Union → Type 0 = λ us. Leads (Generated (HaveOneLabel n first) us) u in
        let Q : Union → Type 0 = λ v. Leads (Generated (HaveOneLabel n first) unions) v in
        subst P (sym (ap (λ j. take j (unions ++ union_of a b ∷ [])) end.0 ∙ take_last)) (subst Q (sym end.1) led_last)
  ]

  apart_last : Generated (HaveOneLabel n first) unions a b → ⊥
  apart_last g = let h = are.held a b g in elim ends [
    | inl here ↦ apart (sym here.0 ∙ h.2 ∙ here.1)
    | inr there ↦ apart (sym there.1 ∙ sym h.2 ∙ there.0)
  ]

  all_apart : (k : ℕ) (u : Union) → slice_get (unions ++ union_of a b ∷ []) k ≡ Some u → Generated (HaveOneLabel n first) (take k (unions ++ union_of a b ∷ [])) u.left u.right → ⊥
  all_apart k u is = elim (slice_get_push_cases unions (union_of a b) k u is) [
    | inl earlier ↦ let P : List Union → Type 0 = λ us. Generated (HaveOneLabel n first) us u.left u.right → ⊥ in subst P (sym (take_earlier k (slice_get_within unions k u earlier))) (are.apart k u earlier)
    | inr end ↦ let P : List Union → Type 0 = λ us. Generated (HaveOneLabel n first) us u.left u.right → ⊥ in
        let Q : Union → Type 0 = λ v. Generated (HaveOneLabel n first) unions v.left v.right → ⊥ in
        subst P (sym (ap (λ j. take j (unions ++ union_of a b ∷ [])) end.0 ∙ take_last)) (subst Q (sym end.1) apart_last)
  ]

  all_below : (k : ℕ) (u : Union) → slice_get (unions ++ union_of a b ∷ []) k ≡ Some u → (u.left < n) × (u.right < n)
  all_below k u is = elim (slice_get_push_cases unions (union_of a b) k u is) [
    | inl earlier ↦ are.below k u earlier
    | inr end ↦ let P : Union → Type 0 = λ v. (v.left < n) × (v.right < n) in subst P (sym end.1) (ha, hb)
  ]

  pub one_more_union : AreUnions n (HaveOneLabel n first) (HaveOneLabel n new) (unions ++ union_of a b ∷ [])
  one_more_union = record { generated = generated; held = held; below = all_below; led = led; apart = all_apart }
