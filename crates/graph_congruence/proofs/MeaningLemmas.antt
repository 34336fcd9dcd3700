-- What labels and unions mean by the operations that stand.
use Rattle.std.proofs.Common.{◌≡◌, ◌<◌, ◌⊎◌, inl, inr, ℕ, List, [], ◌∷◌, length, slice_index, take, sym, ◌∙◌, ap, subst, arith, ◌+◌, ◌++◌}
use Rattle.std.proofs.lemmas.Grind.{common_steps}
use Rattle.std.proofs.lemmas.Option.{slice_get_within}
use Rattle.graph_terms.specs.declared.term_row.TermRow.{TermRow}
use Rattle.graph_meaning.specs.declared.union.Union.{Union}
use Rattle.graph_terms.specs.Terms.{term_row}
use Rattle.graph_meaning.specs.Lawful.{EndsBelow}
use Rattle.graph_meaning.specs.Same.{Derives, Same, same_term, turned, joined, merged, congruent}
use Rattle.graph_meaning.specs.Standing.{terms_of, merges_of}
use Rattle.graph_classes.specs.State.{State}
use Rattle.graph_classes.specs.Indexed.{HaveOneLabel}
use Rattle.graph_classes.specs.Standing.{IsGood}
use Rattle.graph_meaning.specs.Unions as unions
use Rattle.graph_meaning.specs.Unions.{WasSame}
use Rattle.graph_congruence.proofs.ClosureLemmas.{same_where_labels_are, labels_are_where_same}

-- in a good state, labels are equal exactly where the terms are the same
same_of_labels : (s : State) → IsGood s → (a b : ℕ) → a < length s.rows → b < length s.rows → slice_index s.labels a ≡ slice_index s.labels b → Derives s.rows (merges_of s.log) a b
same_of_labels s good a b ha hb e = same_where_labels_are s.rows (merges_of s.log) s.labels s.table good.closed.sound a b ha hb e

labels_of_same : (s : State) → IsGood s → (a b : ℕ) → Derives s.rows (merges_of s.log) a b → slice_index s.labels a ≡ slice_index s.labels b
labels_of_same s good a b same = labels_are_where_same s.rows (merges_of s.log) s.labels s.table good.closed.complete a b same

-- what is derived is between terms
pub Derives-below : (rows : List TermRow) (merges : List (ℕ × ℕ)) → EndsBelow merges (length rows) → (s t : ℕ) → Derives rows merges s t → (s < length rows) × (t < length rows)
Derives-below rows merges ends s t (same_term h) = (h, h)
Derives-below rows merges ends s t (turned h) = let b = Derives-below rows merges ends t s h in (b.1, b.0)
Derives-below rows merges ends s t (joined {t = m} h k) = ((Derives-below rows merges ends s m h).0, (Derives-below rows merges ends m t k).1)
Derives-below rows merges ends s t (merged c) = ends s t c
Derives-below rows merges ends s t (congruent {symbol = f} {ss = ss} {ts = ts} has_s has_t args) = (slice_get_within rows s (term_row f ss) has_s, slice_get_within rows t (term_row f ts) has_t)

-- labels are equal exactly where terms are the same
module _ (s : State) (good : IsGood s) where
  pub same_of_label : (a b : ℕ) → HaveOneLabel (length s.rows) s.labels a b → Same s.log a b
  same_of_label a b h = let P : List TermRow → Type 0 = λ rows. Derives rows (merges_of s.log) a b in subst P good.terms (same_of_labels s good a b h.0 h.1 h.2)

  pub label_of_same : (a b : ℕ) → Same s.log a b → HaveOneLabel (length s.rows) s.labels a b
  label_of_same a b same =
      let below = Derives-below (terms_of s.log) (merges_of s.log) good.lawful.whole.ends a b same in
      let P : List TermRow → Type 0 = λ rows. Derives rows (merges_of s.log) a b in
      let terms = ap length good.terms in
      (rw terms below.0, rw terms below.1, labels_of_same s good a b (subst P (sym good.terms) same))

Generated-map : (old old' : ℕ → ℕ → Type 0) (us : List Union) → ((s t : ℕ) → old s t → old' s t) → (s t : ℕ) → unions.Generated old us s t → unions.Generated old' us s t
Generated-map old old' us f s t (unions.was h) = unions.was (f s t h)
Generated-map old old' us f s t (unions.listed c) = unions.listed c
Generated-map old old' us f s t (unions.turned g) = unions.turned (Generated-map old old' us f t s g)
Generated-map old old' us f s t (unions.joined {t = m} g h) = unions.joined (Generated-map old old' us f s m g) (Generated-map old old' us f m t h)

-- the unions of relations that are the same
pub AreUnions-map : (terms : ℕ) (old old' new new' : ℕ → ℕ → Type 0) (us : List Union) → ((s t : ℕ) → old s t → old' s t) → ((s t : ℕ) → old' s t → old s t) → ((s t : ℕ) → new s t → new' s t) → ((s t : ℕ) → new' s t → new s t)
    → unions.AreUnions terms old new us → unions.AreUnions terms old' new' us
AreUnions-map terms old old' new new' us f g h k are = record {
  generated = λ s t n. Generated-map old old' us f s t (are.generated s t (k s t n));
  held = λ s t n. h s t (are.held s t (Generated-map old' old us g s t n));
  below = are.below;
  led = λ i u is. let leads = are.led i u is in record {
    left = λ other n. leads.left other (Generated-map old' old (take i us) g u.left other n);
    right = λ other n. leads.right other (Generated-map old' old (take i us) g u.right other n);
  };
  apart = λ i u is n. are.apart i u is (Generated-map old' old (take i us) g u.left u.right n);
}

-- the unions of an operation that adds no row
pub AreUnions-same : (s new : State) (us : List Union) → IsGood s → IsGood new → new.rows ≡ s.rows → unions.AreUnions (length s.rows) (HaveOneLabel (length s.rows) s.labels) (HaveOneLabel (length s.rows) new.labels) us → unions.ListsUnions s.log new.log us
AreUnions-same s new us good good' rows are =
    let terms : length (terms_of new.log) ≡ length s.rows = sym (ap length good'.terms) ∙ ap length rows in
    let P : ℕ → Type 0 = λ n. unions.AreUnions n (WasSame s.log n) (Same new.log) us in
    subst P (sym terms) (AreUnions-map _ _ _ _ _ us
    (λ a b h. inl (same_of_label s good a b h))
    (λ a b h. elim h [
      | inl same ↦ label_of_same s good a b same
      | inr one ↦ (one.1, rw (← one.0) one.1, ap (slice_index s.labels) one.0)
    ])
    (λ a b h. same_of_label new good' a b (rw rows h.0, rw rows h.1, h.2))
    (λ a b same. let h = label_of_same new good' a b same in (rw (← rows) h.0, rw (← rows) h.1, h.2))
    are)

-- ---- a row was added

index_earlier : (xs : List ℕ) (x i : ℕ) → i < length xs → slice_index (xs ++ x ∷ []) i ≡ slice_index xs i
index_earlier xs x i h = grind (arith, common_steps)

index_last : (xs : List ℕ) (x : ℕ) → slice_index (xs ++ x ∷ []) (length xs) ≡ x
index_last xs x = grind (arith, common_steps)

length_push : {A : Type 0} (xs : List A) (x : A) → length (xs ++ x ∷ []) ≡ length xs + 1
length_push xs x = grind (arith, common_steps)

below_or_at : (n t : ℕ) → t < n + 1 → (t < n) ⊎ (t ≡ n)
below_or_at n t h = grind arith

module _ (s : State) (good : IsGood s) where
  -- the labels with the new term's own
  was_one : (a b : ℕ) → HaveOneLabel (length s.rows + 1) (s.labels ++ length s.rows ∷ []) a b → WasSame s.log (length s.rows + 1) a b
  was_one a b h =
      let last = ap (slice_index (s.labels ++ length s.rows ∷ [])) (sym good.indexed.labels_len) ∙ index_last s.labels (length s.rows) in
      elim (below_or_at (length s.rows) a h.0) [
        | inl a_old ↦ elim (below_or_at (length s.rows) b h.1) [
          | inl b_old ↦ inl (same_of_label s good a b (a_old, b_old, sym (index_earlier s.labels (length s.rows) a (rw good.indexed.labels_len a_old)) ∙ h.2 ∙ index_earlier s.labels (length s.rows) b (rw good.indexed.labels_len b_old)))
          | inr b_new ↦ let low = good.indexed.label_in a a_old in let e = sym (index_earlier s.labels (length s.rows) a (rw good.indexed.labels_len a_old)) ∙ h.2 ∙ ap (slice_index (s.labels ++ length s.rows ∷ [])) b_new ∙ last in absurd (omega arith)
        ]
        | inr a_new ↦ elim (below_or_at (length s.rows) b h.1) [
          | inl b_old ↦ let low = good.indexed.label_in b b_old in let e = sym last ∙ ap (slice_index (s.labels ++ length s.rows ∷ [])) (sym a_new) ∙ h.2 ∙ index_earlier s.labels (length s.rows) b (rw good.indexed.labels_len b_old) in absurd (omega arith)
          | inr b_new ↦ inr (a_new ∙ sym b_new, h.0)
        ]
      ]

  one_was : (a b : ℕ) → WasSame s.log (length s.rows + 1) a b → HaveOneLabel (length s.rows + 1) (s.labels ++ length s.rows ∷ []) a b
  one_was a b was = elim was [
    | inl same ↦ let h = label_of_same s good a b same in
        (let low = h.0 in omega arith, let low = h.1 in omega arith, index_earlier s.labels (length s.rows) a (rw good.indexed.labels_len h.0) ∙ h.2 ∙ sym (index_earlier s.labels (length s.rows) b (rw good.indexed.labels_len h.1)))
    | inr one ↦ (one.1, rw (← one.0) one.1, ap (slice_index (s.labels ++ length s.rows ∷ [])) one.0)
  ]

  pub AreUnions-added : (new : State) (row : TermRow) (us : List Union) → IsGood new → new.rows ≡ s.rows ++ row ∷ [] → unions.AreUnions (length new.rows) (HaveOneLabel (length new.rows) (s.labels ++ length s.rows ∷ [])) (HaveOneLabel (length new.rows) new.labels) us
      → unions.ListsUnions s.log new.log us
  AreUnions-added new row us good' rows are =
      let len : length new.rows ≡ length s.rows + 1 = ap length rows ∙ length_push s.rows row in
      let terms : length (terms_of new.log) ≡ length s.rows + 1 = sym (ap length good'.terms) ∙ len in
      let P : ℕ → Type 0 = λ n. unions.AreUnions n (WasSame s.log n) (Same new.log) us in
      let Q : ℕ → Type 0 = λ n. unions.AreUnions n (HaveOneLabel n (s.labels ++ length s.rows ∷ [])) (HaveOneLabel (length new.rows) new.labels) us in
      subst P (sym terms) (AreUnions-map _ _ _ _ _ us was_one one_was (same_of_label new good') (label_of_same new good') (subst Q len are))
