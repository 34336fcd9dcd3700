use Rattle.std.proofs.Common.{◌≡◌, ◌<◌, inl, inr, ℕ, List, [], ◌∷◌, ◌++◌, length, Some, None, map, slice_get, slice_index, Contains, refl, sym, ◌∙◌, ap, subst}
use Rattle.std.proofs.lemmas.List.Elements.{Contains-append_left, Contains-push}
use Rattle.graph_terms.specs.declared.term_row.TermRow.{TermRow}
use Rattle.graph_terms.specs.Terms.{term_row}
use Rattle.graph_meaning.specs.Same.{Derives, DerivesEach, turned, joined, congruent, none, more}
use Rattle.graph_classes.specs.Closure.{signature, found, Joined, EntryIsSame, IsSound, IsSigned, IsComplete}
use Rattle.graph_classes.proofs.Elements.{contains_first, contains_later, contains_cases, contains_push_cases, contains_found, found_push, found_new}
use Rattle.graph_classes.proofs.StepLemmas.{Joined-coarser, Joined-pair}

module _ (rows : List TermRow) (merges : List (ℕ × ℕ)) where
  DerivesEach-sym : (ss ts : List ℕ) → DerivesEach rows merges ss ts → DerivesEach rows merges ts ss
  DerivesEach-sym ss ts none = none
  DerivesEach-sym ss ts (more {s = s} {t = t} {ss = ss'} {ts = ts'} h hs) = more (turned h) (DerivesEach-sym ss' ts' hs)

  DerivesEach-trans : (ss ts us : List ℕ) → DerivesEach rows merges ss ts → DerivesEach rows merges us ts → DerivesEach rows merges ss us
  DerivesEach-trans ss ts us none none = none
  DerivesEach-trans ss ts us (more {ss = ss'} {ts = ts'} h hs) (more {ss = us'} k ks) = more (joined h (turned k)) (DerivesEach-trans ss' ts' us' hs ks)

  -- the labels of terms, read as terms, are the same as these
  same_as_labels : (labels args : List ℕ) → ((t : ℕ) → t < length rows → Derives rows merges t (slice_index labels t)) → ((x : ℕ) → Contains args x → x < length rows) → DerivesEach rows merges args (map (slice_index labels) args)
  same_as_labels labels [] sound in_range = none
  same_as_labels labels (x ∷ xs) sound in_range = more (sound x (in_range x (contains_first x xs))) (same_as_labels labels xs sound (λ y c. in_range y (contains_later x xs y c)))

  -- terms of one key are the same
  same_of_key : (u v : ℕ) (a : TermRow) (named : List ℕ) → slice_get rows u ≡ Some a → DerivesEach rows merges a.args named → EntryIsSame rows merges (a.symbol ∷ named) v → Derives rows merges u v
  same_of_key u v a named is_a same entry =
      let symbols : a.symbol ≡ entry.row.symbol = first_same _ _ _ _ entry.key_is in
      let names : named ≡ entry.named = rest_same _ _ _ _ entry.key_is in
      let P : List ℕ → Type 0 = λ ls. DerivesEach rows merges a.args ls in
      let Q : ℕ → Type 0 = λ f. slice_get rows v ≡ Some (term_row f entry.row.args) in
      congruent is_a (subst Q (sym symbols) entry.is_row) (DerivesEach-trans _ _ _ (subst P names same) entry.same)
    where
      first_same : (x y : ℕ) (xs ys : List ℕ) → x ∷ xs ≡ y ∷ ys → x ≡ y
      first_same x y xs ys e = cc

      rest_same : (x y : ℕ) (xs ys : List ℕ) → x ∷ xs ≡ y ∷ ys → xs ≡ ys
      rest_same x y xs ys e = cc

  module _ (labels : List ℕ) (table : List (List ℕ × ℕ)) (pending : List (ℕ × ℕ)) (u : ℕ) (row : TermRow) (is_row : slice_get rows u ≡ Some row) where
    same_row : (a : TermRow) → slice_get rows u ≡ Some a → a ≡ row
    same_row a is = cc

    -- ---- the signature is found: the pair of the two terms becomes pending

    pub IsSound-found : (v : ℕ) → IsSound rows merges labels table pending → ((x : ℕ) → Contains row.args x → x < length rows) → found table (signature labels row) ≡ Some v → IsSound rows merges labels table (pending ++ (u, v) ∷ [])
    IsSound-found v sound args_in is_found = record {
      label = sound.label;
      entry = sound.entry;
      pair = λ a b c. elim (contains_push_cases pending (u, v) (a, b) c) [
        | inl earlier ↦ sound.pair a b earlier
        | inr last ↦ let is_a : a ≡ u = ap (λ (p : ℕ × ℕ). p.0) last in let is_b : b ≡ v = ap (λ (p : ℕ × ℕ). p.1) last in rw (is_a, is_b) new
      ];
    }
      where
        new : Derives rows merges u v
        new = same_of_key u v row (map (slice_index labels) row.args) is_row (same_as_labels labels row.args sound.label args_in)
            (sound.entry (signature labels row) v (contains_found table (signature labels row) v is_found))

    pub IsComplete-found : (v : ℕ) (to_sign : List ℕ) → IsComplete rows merges labels table pending (u ∷ to_sign) → found table (signature labels row) ≡ Some v → IsComplete rows merges labels table (pending ++ (u, v) ∷ []) to_sign
    IsComplete-found v to_sign complete is_found = record {
      merge = λ s t c. wider s t (complete.merge s t c);
      signed = λ w a is. elim (complete.signed w a is) [
        | inl c ↦ elim (contains_cases u to_sign w c) [
          | inl first ↦ inr (now w a is first)
          | inr later ↦ inl later
        ]
        | inr s ↦ inr (record { at = s.at; is_found = s.is_found; joined = wider w s.at s.joined })
      ];
    }
      where
        wider : (s t : ℕ) → Joined (length rows) labels pending s t → Joined (length rows) labels (pending ++ (u, v) ∷ []) s t
        wider s t = Joined-coarser (length rows) labels labels pending (pending ++ (u, v) ∷ []) (λ s t hs ht e. e)
            (λ a b c. Joined-pair (length rows) labels (pending ++ (u, v) ∷ []) a b (Contains-append_left pending ((u, v) ∷ []) (a, b) c)) s t

        now : (w : ℕ) (a : TermRow) → slice_get rows w ≡ Some a → w ≡ u → IsSigned (length rows) labels table (pending ++ (u, v) ∷ []) w a
        now w a is first =
            let a_is : a ≡ row = same_row a (ap (slice_get rows) (sym first) ∙ is) in
            rw (a_is, first) (record { at = v; is_found = is_found; joined = Joined-pair (length rows) labels (pending ++ (u, v) ∷ []) u v (Contains-push pending (u, v)) })

    -- ---- the signature is new: it enters the table at this term

    pub IsSound-new : IsSound rows merges labels table pending → ((x : ℕ) → Contains row.args x → x < length rows) → IsSound rows merges labels (table ++ (signature labels row, u) ∷ []) pending
    IsSound-new sound args_in = record {
      label = sound.label;
      entry = λ key term c. elim (contains_push_cases table (signature labels row, u) (key, term) c) [
        | inl earlier ↦ sound.entry key term earlier
        | inr last ↦ let is_key : key ≡ signature labels row = ap (λ (p : List ℕ × ℕ). p.0) last in let is_term : term ≡ u = ap (λ (p : List ℕ × ℕ). p.1) last in rw (is_key, is_term) new
      ];
      pair = sound.pair;
    }
      where
        new : EntryIsSame rows merges (signature labels row) u
        new = record { row = row; is_row = is_row; named = map (slice_index labels) row.args; key_is = refl; same = same_as_labels labels row.args sound.label args_in }

    pub IsComplete-new : (to_sign : List ℕ) → IsComplete rows merges labels table pending (u ∷ to_sign) → found table (signature labels row) ≡ None → IsComplete rows merges labels (table ++ (signature labels row, u) ∷ []) pending to_sign
    IsComplete-new to_sign complete is_new = record {
      merge = complete.merge;
      signed = λ w a is. elim (complete.signed w a is) [
        | inl c ↦ elim (contains_cases u to_sign w c) [
          | inl first ↦ inr (now w a is first)
          | inr later ↦ inl later
        ]
        | inr s ↦ inr (record { at = s.at; is_found = found_push table (signature labels row, u) (signature labels a) s.at s.is_found; joined = s.joined })
      ];
    }
      where
        now : (w : ℕ) (a : TermRow) → slice_get rows w ≡ Some a → w ≡ u → IsSigned (length rows) labels (table ++ (signature labels row, u) ∷ []) pending w a
        now w a is first =
            let a_is : a ≡ row = same_row a (ap (slice_get rows) (sym first) ∙ is) in
            rw (a_is, first) (record { at = u; is_found = found_new table (signature labels row) u is_new; joined = λ g respects met. refl })
