use Rattle.std.proofs.Common.{◌≡◌, ◌<◌, inl, inr, ℕ, List, [], ◌∷◌, length, Some, map, slice_get, slice_index, refl, sym, ◌∙◌, ap, subst}
use Rattle.graph_terms.specs.declared.term_row.TermRow.{TermRow}
use Rattle.graph_terms.specs.Terms.{term_row}
use Rattle.graph_meaning.specs.Same.{Derives, DerivesEach, same_term, turned, joined, merged, congruent, none, more}
use Rattle.graph_congruence.proofs.ReadLemmas.{contains_none}
use Rattle.graph_classes.specs.Closure.{signature, found, Joined, IsSound, IsSigned, IsComplete}

-- ---- at rest: labels are equal exactly where the terms are the same

module _ (rows : List TermRow) (merges : List (ℕ × ℕ)) (labels : List ℕ) (table : List (List ℕ × ℕ)) where
  pub same_where_labels_are : IsSound rows merges labels table [] → (s t : ℕ) → s < length rows → t < length rows → slice_index labels s ≡ slice_index labels t → Derives rows merges s t
  same_where_labels_are sound s t hs ht e =
      let P : ℕ → Type 0 = λ l. Derives rows merges s l in
      joined (subst P e (sound.label s hs)) (turned (sound.label t ht))

  -- what is joined with nothing pending has one label
  one_label : (n u v : ℕ) → Joined n labels [] u v → slice_index labels u ≡ slice_index labels v
  one_label n u v linked = linked (slice_index labels) (λ s t hs ht e. e) (λ a b c. absurd (contains_none (a, b) c))

  one_label_of_signed : (n s t : ℕ) (a b : TermRow) → signature labels a ≡ signature labels b → IsSigned n labels table [] s a → IsSigned n labels table [] t b → slice_index labels s ≡ slice_index labels t
  one_label_of_signed n s t a b keys sa sb =
      let es = one_label n s sa.at sa.joined in
      let et = one_label n t sb.at sb.joined in
      let found_same : Some sa.at ≡ Some sb.at = sym sa.is_found ∙ ap (found table) keys ∙ sb.is_found in
      let at_same : sa.at ≡ sb.at = cc in
      es ∙ ap (slice_index labels) at_same ∙ sym et

  signed_at_rest : IsComplete rows merges labels table [] [] → (u : ℕ) (row : TermRow) → slice_get rows u ≡ Some row → IsSigned (length rows) labels table [] u row
  signed_at_rest complete u row is = elim (complete.signed u row is) [ inl c ↦ absurd (contains_none u c) | inr signed ↦ signed ]

  mutual
    pub labels_are_where_same : IsComplete rows merges labels table [] [] → (s t : ℕ) → Derives rows merges s t → slice_index labels s ≡ slice_index labels t
    labels_are_where_same complete s t (same_term h) = refl
    labels_are_where_same complete s t (turned h) = sym (labels_are_where_same complete t s h)
    labels_are_where_same complete s t (joined {t = m} h k) = labels_are_where_same complete s m h ∙ labels_are_where_same complete m t k
    labels_are_where_same complete s t (merged h) = one_label (length rows) s t (complete.merge s t h)
    labels_are_where_same complete s t (congruent {symbol = symbol} {ss = ss} {ts = ts} is_s is_t args) =
        one_label_of_signed (length rows) s t (term_row symbol ss) (term_row symbol ts) (ap (λ ls. symbol ∷ ls) (labels_are_where_same_each complete ss ts args))
        (signed_at_rest complete s (term_row symbol ss) is_s) (signed_at_rest complete t (term_row symbol ts) is_t)

    labels_are_where_same_each : IsComplete rows merges labels table [] [] → (ss ts : List ℕ) → DerivesEach rows merges ss ts → map (slice_index labels) ss ≡ map (slice_index labels) ts
    labels_are_where_same_each complete ss ts none = refl
    labels_are_where_same_each complete ss ts (more {s = s} {t = t} {ss = ss'} {ts = ts'} h hs) = cons_same (labels_are_where_same complete s t h) (labels_are_where_same_each complete ss' ts' hs)
      where
        cons_same : {f g : ℕ} {xs ys : List ℕ} → f ≡ g → xs ≡ ys → f ∷ xs ≡ g ∷ ys
        cons_same p q = cc
