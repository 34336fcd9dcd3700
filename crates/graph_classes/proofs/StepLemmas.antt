use Rattle.std.proofs.Common.{◌≡◌, ◌<◌, ◌⊎◌, inl, inr, ℕ, List, [], ◌∷◌, ◌++◌, length, Some, map, nat_eq, slice_get, slice_index, Contains, true, false, refl, sym, ◌∙◌, ap, subst, if◌then◌else◌}
use Rattle.std.proofs.lemmas.Bool.{eqb-true, eq-eqb}
use Rattle.graph_terms.specs.declared.term_row.TermRow.{TermRow}
use Rattle.graph_meaning.specs.Same.{Derives, joined}
use Rattle.graph_classes.specs.Closure.{found, Joined, IsSound, IsComplete}
use Rattle.graph_classes.specs.Indexed.{IsRelabelled}
use Rattle.graph_classes.proofs.Elements.{contains_none, contains_first, contains_later, contains_push_cases}

-- terms with equal labels keep equal labels
abbrev pub Coarser : ℕ → List ℕ → List ℕ → Type 0
Coarser n old new = (s t : ℕ) → s < n → t < n → slice_index old s ≡ slice_index old t → slice_index new s ≡ slice_index new t

pub Joined-coarser : (n : ℕ) (old new : List ℕ) (before after : List (ℕ × ℕ)) → Coarser n old new → ((a b : ℕ) → Contains before (a, b) → Joined n new after a b)
    → (u v : ℕ) → Joined n old before u v → Joined n new after u v
Joined-coarser n old new before after coarser pairs u v linked =
    λ g respects met. linked g (λ s t hs ht e. respects s t hs ht (coarser s t hs ht e)) (λ a b c. pairs a b c g respects met)

pub Joined-pair : (n : ℕ) (labels : List ℕ) (pending : List (ℕ × ℕ)) (a b : ℕ) → Contains pending (a, b) → Joined n labels pending a b
Joined-pair n labels pending a b c = λ g respects met. met a b c

pub Joined-labels : (n : ℕ) (labels : List ℕ) (pending : List (ℕ × ℕ)) (a b : ℕ) → a < n → b < n → slice_index labels a ≡ slice_index labels b → Joined n labels pending a b
Joined-labels n labels pending a b ha hb e = λ g respects met. respects a b ha hb e

-- ---- a class takes the label of another

module _ (old new : List ℕ) (from to : ℕ) (relabelled : IsRelabelled old new from to) where
  pub Coarser-relabelled : Coarser (length old) old new
  Coarser-relabelled s t hs ht e = relabelled.each s hs ∙ ap (λ l. if nat_eq l from then to else l) e ∙ sym (relabelled.each t ht)

  pub taken : (t : ℕ) → t < length old → slice_index old t ≡ from → slice_index new t ≡ to
  taken t h e = relabelled.each t h ∙ ap (λ b. if b then to else slice_index old t) (eq-eqb (slice_index old t) from e)

  pub kept : (t : ℕ) → t < length old → (slice_index old t ≡ from → ⊥) → slice_index new t ≡ slice_index old t
  kept t h differs = relabelled.each t h ∙ elim (nat_eq (slice_index old t) from) as (λ b. nat_eq (slice_index old t) from ≡ b → (if b then to else slice_index old t) ≡ slice_index old t)
      [ true ↦ λ e. absurd (differs (eqb-true _ _ e)) | false ↦ λ e. refl ] refl

  -- each term's label is the new one, or as it was
  pub taken_or_kept : (t : ℕ) → t < length old → ((slice_index old t ≡ from) × (slice_index new t ≡ to)) ⊎ (slice_index new t ≡ slice_index old t)
  taken_or_kept t h = elim (nat_eq (slice_index old t) from) as (λ b. nat_eq (slice_index old t) from ≡ b → ((slice_index old t ≡ from) × (slice_index new t ≡ to)) ⊎ (slice_index new t ≡ slice_index old t))
      [ true ↦ λ e. inl (eqb-true _ _ e, taken t h (eqb-true _ _ e)) | false ↦ λ e. inr (relabelled.each t h ∙ ap (λ b. if b then to else slice_index old t) e) ] refl

  -- an argument took the new label, or the labels of all are as they were
  pub some_taken : (args : List ℕ) → ((x : ℕ) → Contains args x → x < length old) → ((x : ℕ) × Contains args x × (slice_index old x ≡ from)) ⊎ (map (slice_index new) args ≡ map (slice_index old) args)
  some_taken [] in_range = inr refl
  some_taken (x ∷ xs) in_range = elim (taken_or_kept x (in_range x (contains_first x xs))) [
    | inl took ↦ inl (x, contains_first x xs, took.0)
    | inr same ↦ elim (some_taken xs (λ y c. in_range y (contains_later x xs y c))) [
      | inl later ↦ inl (later.0, contains_later x xs later.0 later.1, later.2)
      | inr rest ↦ inr (cons_same _ _ _ _ same rest)
    ]
  ]
    where
      cons_same : (f g : ℕ) (fs gs : List ℕ) → f ≡ g → fs ≡ gs → f ∷ fs ≡ g ∷ gs
      cons_same f g fs gs p q = cc

  module _ (rows : List TermRow) (merges : List (ℕ × ℕ)) (table : List (List ℕ × ℕ)) (lengths : length old ≡ length rows) where
    pub IsSound-relabelled : (pending rest : List (ℕ × ℕ)) → IsSound rows merges old table pending → ((a b : ℕ) → Contains rest (a, b) → Contains pending (a, b)) → Derives rows merges from to → IsSound rows merges new table rest
    IsSound-relabelled pending rest sound fewer same = record {
      label = λ t h. elim (taken_or_kept t (rw lengths h)) [
        | inl took ↦ let P : ℕ → Type 0 = λ l. Derives rows merges t l in
            let before : Derives rows merges t from = subst P took.0 (sound.label t h) in
            subst P (sym took.1) (joined before same)
        | inr same_label ↦ let P : ℕ → Type 0 = λ l. Derives rows merges t l in subst P (sym same_label) (sound.label t h)
      ];
      entry = sound.entry;
      pair = λ a b c. sound.pair a b (fewer a b c);
    }

    -- the terms whose signatures may have changed are to be signed anew
    pub IsComplete-relabelled : (rest : List (ℕ × ℕ)) (a b : ℕ) (to_sign : List ℕ) → IsComplete rows merges old table (rest ++ (a, b) ∷ []) [] → a < length rows → b < length rows → slice_index new a ≡ slice_index new b
        → ((u : ℕ) (row : TermRow) (x : ℕ) → slice_get rows u ≡ Some row → Contains row.args x → x < length rows)
        → ((u : ℕ) (row : TermRow) (x : ℕ) → slice_get rows u ≡ Some row → Contains row.args x → slice_index old x ≡ from → Contains to_sign u)
        → IsComplete rows merges new table rest to_sign
    IsComplete-relabelled rest a b to_sign complete ha hb e args_in uses = record {
      merge = λ s t c. go s t (complete.merge s t c);
      signed = λ u row is. elim (complete.signed u row is) [
        | inl c ↦ absurd (contains_none u c)
        | inr s ↦ elim (some_taken row.args (λ x c. rw lengths (args_in u row x is c))) [
          | inl took ↦ inl (uses u row took.0 is took.1 took.2)
          | inr same ↦ inr (record { at = s.at; is_found = ap (λ ls. found table (row.symbol ∷ ls)) same ∙ s.is_found; joined = go u s.at s.joined })
        ]
      ];
    }
      where
        go : (u v : ℕ) → Joined (length rows) old (rest ++ (a, b) ∷ []) u v → Joined (length rows) new rest u v
        go u v = Joined-coarser (length rows) old new (rest ++ (a, b) ∷ []) rest (λ s t hs ht. Coarser-relabelled s t (rw lengths hs) (rw lengths ht))
            (λ c d contains. elim (contains_push_cases rest (a, b) (c, d) contains) [
              | inl earlier ↦ Joined-pair (length rows) new rest c d earlier
              | inr last ↦ let is_a : c ≡ a = ap (λ (p : ℕ × ℕ). p.0) last in let is_b : d ≡ b = ap (λ (p : ℕ × ℕ). p.1) last in
                  Joined-labels (length rows) new rest c d (rw is_a ha) (rw is_b hb) (ap (slice_index new) is_a ∙ e ∙ sym (ap (slice_index new) is_b))
            ])
            u v

-- a pair with equal labels need not be pending
pub IsComplete-dropped : (rows : List TermRow) (merges : List (ℕ × ℕ)) (labels : List ℕ) (table : List (List ℕ × ℕ)) (rest : List (ℕ × ℕ)) (a b : ℕ) → IsComplete rows merges labels table (rest ++ (a, b) ∷ []) [] → a < length rows → b < length rows
    → slice_index labels a ≡ slice_index labels b → IsComplete rows merges labels table rest []
IsComplete-dropped rows merges labels table rest a b complete ha hb e = record {
  merge = λ s t c. go s t (complete.merge s t c);
  signed = λ u row is. elim (complete.signed u row is) [
    | inl c ↦ inl c
    | inr s ↦ inr (record { at = s.at; is_found = s.is_found; joined = go u s.at s.joined })
  ];
}
  where
    go : (u v : ℕ) → Joined (length rows) labels (rest ++ (a, b) ∷ []) u v → Joined (length rows) labels rest u v
    go u v = Joined-coarser (length rows) labels labels (rest ++ (a, b) ∷ []) rest (λ s t hs ht e. e)
        (λ c d contains. elim (contains_push_cases rest (a, b) (c, d) contains) [
          | inl earlier ↦ Joined-pair (length rows) labels rest c d earlier
          | inr last ↦ let is_a : c ≡ a = ap (λ (p : ℕ × ℕ). p.0) last in let is_b : d ≡ b = ap (λ (p : ℕ × ℕ). p.1) last in
              Joined-labels (length rows) labels rest c d (rw is_a ha) (rw is_b hb) (ap (slice_index labels) is_a ∙ e ∙ sym (ap (slice_index labels) is_b))
        ])
        u v
