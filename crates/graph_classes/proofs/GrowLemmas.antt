use Rattle.std.proofs.Common.{◌≡◌, ◌<◌, ◌≤◌, ◌⊎◌, inl, inr, ℕ, List, [], ◌∷◌, ◌++◌, length, Some, map, slice_get, slice_index, Contains, refl, sym, ◌∙◌, ap, subst, arith, length-append}
use Rattle.std.proofs.lemmas.List.Elements.{Contains-append_left, Contains-push}
use Rattle.std.proofs.lemmas.Grind.{common_steps}
use Rattle.graph_terms.specs.declared.term_row.TermRow.{TermRow}
use Rattle.graph_terms.specs.Terms.{term_row}
use Rattle.graph_meaning.specs.Same.{Derives, DerivesEach, same_term, turned, joined, merged, congruent, none, more}
use Rattle.graph_classes.specs.Closure.{found, Joined, EntryIsSame, IsSound, IsComplete}
use Rattle.graph_classes.proofs.Elements.{contains_none, contains_one, contains_first, contains_later, contains_push_cases, slice_get_kept, slice_get_push_cases}
use Rattle.graph_classes.proofs.StepLemmas.{Joined-coarser, Joined-pair}

-- what is derived stays so with more rows and more merges

module _ (rows rows' : List TermRow) (merges merges' : List (ℕ × ℕ)) (longer : length rows ≤ length rows') (kept : (t : ℕ) (a : TermRow) → slice_get rows t ≡ Some a → slice_get rows' t ≡ Some a)
    (wider_merges : (s t : ℕ) → Contains merges (s, t) → Contains merges' (s, t)) where
  mutual
    pub Same-more : (s t : ℕ) → Derives rows merges s t → Derives rows' merges' s t
    Same-more s t (same_term h) = same_term (omega arith)
    Same-more s t (turned h) = turned (Same-more t s h)
    Same-more s t (joined {t = m} h k) = joined (Same-more s m h) (Same-more m t k)
    Same-more s t (merged h) = merged (wider_merges s t h)
    Same-more s t (congruent {symbol = symbol} {ss = ss} {ts = ts} is_s is_t args) = congruent (kept s (term_row symbol ss) is_s) (kept t (term_row symbol ts) is_t) (Same-more_each ss ts args)

    pub Same-more_each : (ss ts : List ℕ) → DerivesEach rows merges ss ts → DerivesEach rows' merges' ss ts
    Same-more_each ss ts none = none
    Same-more_each ss ts (more {s = s} {t = t} {ss = ss'} {ts = ts'} h hs) = more (Same-more s t h) (Same-more_each ss' ts' hs)

  pub EntryIsSame-more : (key : List ℕ) (term : ℕ) → EntryIsSame rows merges key term → EntryIsSame rows' merges' key term
  EntryIsSame-more key term e = record { row = e.row; is_row = kept term e.row e.is_row; named = e.named; key_is = e.key_is; same = Same-more_each _ _ e.same }

-- ---- a merge begins: its pair becomes pending

module _ (rows : List TermRow) (merges : List (ℕ × ℕ)) (labels : List ℕ) (table : List (List ℕ × ℕ)) (left right : ℕ) where
  pub IsSound-merge : IsSound rows merges labels table [] → IsSound rows (merges ++ (left, right) ∷ []) labels table ((left, right) ∷ [])
  IsSound-merge sound = record {
    label = λ t h. Same-more rows rows merges (merges ++ (left, right) ∷ []) (omega arith) (λ t a e. e) in_more _ _ (sound.label t h);
    entry = λ key term c. EntryIsSame-more rows rows merges (merges ++ (left, right) ∷ []) (omega arith) (λ t a e. e) in_more key term (sound.entry key term c);
    pair = λ a b c. merged (let P : ℕ × ℕ → Type 0 = λ p. Contains (merges ++ (left, right) ∷ []) p in subst P (sym (contains_one (left, right) (a, b) c)) (Contains-push merges (left, right)));
  }
    where
      in_more : (s t : ℕ) → Contains merges (s, t) → Contains (merges ++ (left, right) ∷ []) (s, t)
      in_more s t c = Contains-append_left merges ((left, right) ∷ []) (s, t) c

  pub IsComplete-merge : IsComplete rows merges labels table [] [] → IsComplete rows (merges ++ (left, right) ∷ []) labels table ((left, right) ∷ []) []
  IsComplete-merge complete = record {
    merge = λ s t c. elim (contains_push_cases merges (left, right) (s, t) c) [
      | inl earlier ↦ wider s t (complete.merge s t earlier)
      | inr last ↦ Joined-pair (length rows) labels ((left, right) ∷ []) s t (let P : ℕ × ℕ → Type 0 = λ p. Contains ((left, right) ∷ []) p in subst P (sym last) (contains_first (left, right) []))
    ];
    signed = λ u row is. elim (complete.signed u row is) [
      | inl c ↦ inl c
      | inr s ↦ inr (record { at = s.at; is_found = s.is_found; joined = wider u s.at s.joined })
    ];
  }
    where
      wider : (u v : ℕ) → Joined (length rows) labels [] u v → Joined (length rows) labels ((left, right) ∷ []) u v
      wider u v = Joined-coarser (length rows) labels labels [] ((left, right) ∷ []) (λ s t hs ht e. e) (λ a b c. absurd (contains_none (a, b) c)) u v

-- ---- a row is added, with itself as its label, and is to be signed

module _ (rows : List TermRow) (merges : List (ℕ × ℕ)) (labels : List ℕ) (table : List (List ℕ × ℕ)) (row : TermRow) (lengths : length labels ≡ length rows) where
  index_kept : (t : ℕ) → t < length rows → slice_index (labels ++ length rows ∷ []) t ≡ slice_index labels t
  index_kept t h = grind (arith, common_steps)

  index_new : slice_index (labels ++ length rows ∷ []) (length rows) ≡ length rows
  index_new = grind (arith, common_steps)

  labels_kept : (args : List ℕ) → ((x : ℕ) → Contains args x → x < length rows) → map (slice_index (labels ++ length rows ∷ [])) args ≡ map (slice_index labels) args
  labels_kept [] in_range = refl
  labels_kept (x ∷ xs) in_range = cons_same _ _ _ _ (index_kept x (in_range x (contains_first x xs))) (labels_kept xs (λ y c. in_range y (contains_later x xs y c)))
    where
      cons_same : (f g : ℕ) (fs gs : List ℕ) → f ≡ g → fs ≡ gs → f ∷ fs ≡ g ∷ gs
      cons_same f g fs gs p q = cc

  longer : length rows ≤ length (rows ++ row ∷ [])
  longer = omega (arith, length-append rows (row ∷ []))

  pub IsSound-add : IsSound rows merges labels table [] → IsSound (rows ++ row ∷ []) merges (labels ++ length rows ∷ []) table []
  IsSound-add sound = record {
    label = λ t h. elim (old_or_new t h) [
      | inl old ↦ let P : ℕ → Type 0 = λ l. Derives (rows ++ row ∷ []) merges t l in subst P (sym (index_kept t old)) (still _ _ (sound.label t old))
      | inr new ↦ let P : ℕ → Type 0 = λ l. Derives (rows ++ row ∷ []) merges t l in subst P (new ∙ sym index_new ∙ ap (slice_index (labels ++ length rows ∷ [])) (sym new)) (same_term h)
    ];
    entry = λ key term c. EntryIsSame-more rows (rows ++ row ∷ []) merges merges longer (slice_get_kept rows (row ∷ [])) (λ s t c. c) key term (sound.entry key term c);
    pair = λ a b c. absurd (contains_none (a, b) c);
  }
    where
      still : (s t : ℕ) → Derives rows merges s t → Derives (rows ++ row ∷ []) merges s t
      still = Same-more rows (rows ++ row ∷ []) merges merges longer (slice_get_kept rows (row ∷ [])) (λ s t c. c)

      old_or_new : (t : ℕ) → t < length (rows ++ row ∷ []) → (t < length rows) ⊎ (t ≡ length rows)
      old_or_new t h = grind (arith, length-append rows (row ∷ []))

  pub IsComplete-add : IsComplete rows merges labels table [] [] → ((u : ℕ) (a : TermRow) (x : ℕ) → slice_get rows u ≡ Some a → Contains a.args x → x < length rows)
      → IsComplete (rows ++ row ∷ []) merges (labels ++ length rows ∷ []) table [] (length rows ∷ [])
  IsComplete-add complete args_in = record {
    merge = λ s t c. wider s t (complete.merge s t c);
    signed = λ u a is. elim (slice_get_push_cases rows row u a is) [
      | inl earlier ↦ elim (complete.signed u a earlier) [
        | inl c ↦ absurd (contains_none u c)
        | inr s ↦ inr (record { at = s.at; is_found = ap (λ ls. found table (a.symbol ∷ ls)) (labels_kept a.args (λ x c. args_in u a x earlier c)) ∙ s.is_found; joined = wider u s.at s.joined })
      ]
      | inr last ↦ inl (let P : ℕ → Type 0 = λ x. Contains (length rows ∷ []) x in subst P (sym last.0) (contains_first (length rows) []))
    ];
  }
    where
      wider : (u v : ℕ) → Joined (length rows) labels [] u v → Joined (length (rows ++ row ∷ [])) (labels ++ length rows ∷ []) [] u v
      wider u v linked = λ g respects met. linked g
          (λ s t hs ht e. respects s t (omega (arith, longer)) (omega (arith, longer)) (index_kept s hs ∙ e ∙ sym (index_kept t ht)))
          (λ a b c. absurd (contains_none (a, b) c))
