-- The lists and the leaders once a row is added.
use Rattle.std.proofs.Common.{◌≡◌, ◌<◌, ◌+◌, ◌⊎◌, inl, inr, ℕ, List, [], ◌∷◌, ◌++◌, length, Some, slice_get, slice_index, Contains, sym, ◌∙◌, ap, subst, arith}
use Rattle.std.proofs.lemmas.Grind.{common_steps}
use Rattle.std.proofs.lemmas.Option.{slice_get_within}
use Rattle.graph_terms.specs.declared.term_row.TermRow.{TermRow}
use Rattle.graph_terms.specs.Terms.{term_row, HasRow}
use Rattle.graph_classes.specs.declared.place.Place.{Place}
use Rattle.graph_classes.specs.declared.place.Place.TheVariants.{Symbol, Member, Parent}
use Rattle.graph_classes.specs.Listed.{Belongs, IsOwn, IsRead, IsBeyond, AreListed, AreLed}
use Rattle.graph_classes.proofs.Elements.{slice_get_push_cases, slice_get_kept}
use Rattle.graph_classes.proofs.JoinedListsLemmas.{contains_at}

below_or_at : (n t : ℕ) → t < n + 1 → (t < n) ⊎ (t ≡ n)
below_or_at n t h = grind arith

length_push : {A : Type 0} (xs : List A) (x : A) → length (xs ++ x ∷ []) ≡ length xs + 1
length_push xs x = grind (arith, common_steps)

index_earlier : (xs : List ℕ) (x i : ℕ) → i < length xs → slice_index (xs ++ x ∷ []) i ≡ slice_index xs i
index_earlier xs x i h = grind (arith, common_steps)

index_last : (xs : List ℕ) (x : ℕ) → slice_index (xs ++ x ∷ []) (length xs) ≡ x
index_last xs x = grind (arith, common_steps)

module _ (rows : List TermRow) (labels : List ℕ) (row : TermRow) (lengths : length labels ≡ length rows) (label_in : (t : ℕ) → t < length rows → slice_index labels t < length rows) where
  labels' : List ℕ
  labels' = labels ++ length rows ∷ []

  len' : length (labels ++ length rows ∷ []) ≡ length rows + 1
  len' = omega (arith, length_push labels (length rows), lengths)

  old_label : (t : ℕ) → t < length rows → slice_index (labels ++ length rows ∷ []) t ≡ slice_index labels t
  old_label t h = index_earlier labels (length rows) t (rw lengths h)

  new_label : slice_index (labels ++ length rows ∷ []) (length rows) ≡ length rows
  new_label = ap (slice_index (labels ++ length rows ∷ [])) (sym lengths) ∙ index_last labels (length rows)

  label_below : (t : ℕ) → t < length rows + 1 → slice_index (labels ++ length rows ∷ []) t < length rows + 1
  label_below t h = elim (below_or_at (length rows) t h) [
    | inl early ↦ rw (old_label t early) (let low = label_in t early in omega arith)
    | inr last ↦ rw (last, new_label) (omega arith)
  ]

  -- a label that is its own was so, or is the new term's
  own_cases : (l : ℕ) → IsOwn (labels ++ length rows ∷ []) l → IsOwn labels l ⊎ (l ≡ length rows)
  own_cases l own = elim (below_or_at (length rows) l (rw (← len') own.0)) [
    | inl early ↦ inl (rw lengths early, sym (old_label l early) ∙ own.1)
    | inr last ↦ inr last
  ]

  module _ (args_in : (u : ℕ) (a : TermRow) (x : ℕ) → HasRow (rows ++ row ∷ []) u a → Contains a.args x → x < length rows) (lists lists' : Place → List ℕ) (listed : AreListed rows labels lists)
      (keeps : (q : Place) (t : ℕ) → Contains (lists q) t → Contains (lists' q) t) (sound : (q : Place) (t : ℕ) → Contains (lists' q) t → Contains (lists q) t ⊎ Belongs (rows ++ row ∷ []) (labels ++ length rows ∷ []) q t)
      (by_symbol : Contains (lists' (Symbol row.symbol)) (length rows))
      (by_class : (symbol : ℕ) (args : List ℕ) → HasRow (rows ++ row ∷ []) (length rows) (term_row symbol args) → Contains (lists' (Member (slice_index (labels ++ length rows ∷ []) (length rows)) symbol)) (length rows))
      (by_argument : (symbol : ℕ) (args : List ℕ) (k arg : ℕ) → HasRow (rows ++ row ∷ []) (length rows) (term_row symbol args) → slice_get args k ≡ Some arg → Contains (lists' (Parent (slice_index (labels ++ length rows ∷ []) arg) symbol k)) (length rows)) where
    kept : (t : ℕ) (a : TermRow) → HasRow rows t a → HasRow (rows ++ row ∷ []) t a
    kept t a has = slice_get_kept rows (row ∷ []) t a has

    arg_below : (t f : ℕ) (args : List ℕ) (k arg : ℕ) → HasRow (rows ++ row ∷ []) t (term_row f args) → slice_get args k ≡ Some arg → arg < length rows
    arg_below t f args k arg has is = args_in t (term_row f args) arg has (contains_at args k arg is)

    -- what was listed belongs there
    belongs_still : (place : Place) (t : ℕ) → IsRead (labels ++ length rows ∷ []) place → Contains (lists place) t → Belongs (rows ++ row ∷ []) (labels ++ length rows ∷ []) place t
    belongs_still (Symbol f) t read c = let b = (listed.exact (Symbol f) tt t).0 c in (b.0, kept t (term_row f b.0) b.1)
    belongs_still (Member l f) t read c = elim (own_cases l read) [
      | inl own ↦ let b = (listed.exact (Member l f) own t).0 c in (b.0, kept t (term_row f b.0) b.1, old_label t (slice_get_within rows t (term_row f b.0) b.1) ∙ b.2)
      | inr new ↦ absurd (listed.none_beyond (Member l f) (omega (arith, lengths)) t c)
    ]
    belongs_still (Parent l f i) t read c = elim (own_cases l read) [
      | inl own ↦ let b = (listed.exact (Parent l f i) own t).0 c in let has = kept t (term_row f b.0) b.2 in (b.0, b.1, has, b.3, old_label b.1 (arg_below t f b.0 i b.1 has b.3) ∙ b.4)
      | inr new ↦ absurd (listed.none_beyond (Parent l f i) (omega (arith, lengths)) t c)
    ]

    -- the own label of an old term was its own
    own_still : (t l : ℕ) → t < length rows → slice_index (labels ++ length rows ∷ []) t ≡ l → IsOwn (labels ++ length rows ∷ []) l → IsOwn labels l × (slice_index labels t ≡ l)
    own_still t l h is own =
        let was : slice_index labels t ≡ l = sym (old_label t h) ∙ is in
        let low : l < length rows = rw (← was) (label_in t h) in
        ((rw lengths low, sym (old_label l low) ∙ own.1), was)

    listed_now : (place : Place) (t : ℕ) → IsRead (labels ++ length rows ∷ []) place → Belongs (rows ++ row ∷ []) (labels ++ length rows ∷ []) place t → Contains (lists' place) t
    listed_now (Symbol f) t read b = elim (slice_get_push_cases rows row t (term_row f b.0) b.1) [
      | inl early ↦ keeps (Symbol f) t ((listed.exact (Symbol f) tt t).1 (b.0, early))
      | inr new ↦ let P : ℕ → Type 0 = λ u. Contains (lists' (Symbol f)) u in let Q : ℕ → Type 0 = λ g. Contains (lists' (Symbol g)) (length rows) in
          subst P (sym new.0) (subst Q (sym (ap (λ (r : TermRow). r.symbol) new.1)) by_symbol)
    ]
    listed_now (Member l f) t read b = elim (slice_get_push_cases rows row t (term_row f b.0) b.1) [
      | inl early ↦ let was = own_still t l (slice_get_within rows t (term_row f b.0) early) b.2 read in keeps (Member l f) t ((listed.exact (Member l f) was.0 t).1 (b.0, early, was.1))
      | inr new ↦ let P : ℕ → Type 0 = λ u. HasRow (rows ++ row ∷ []) u (term_row f b.0) in let Q : ℕ → Type 0 = λ u. Contains (lists' (Member l f)) u in let R : ℕ → Type 0 = λ k. Contains (lists' (Member k f)) (length rows) in
          subst Q (sym new.0) (subst R (ap (slice_index (labels ++ length rows ∷ [])) (sym new.0) ∙ b.2) (by_class f b.0 (subst P new.0 b.1)))
    ]
    listed_now (Parent l f i) t read b = elim (slice_get_push_cases rows row t (term_row f b.0) b.2) [
      | inl early ↦ let was = own_still b.1 l (arg_below t f b.0 i b.1 b.2 b.3) b.4 read in keeps (Parent l f i) t ((listed.exact (Parent l f i) was.0 t).1 (b.0, b.1, early, b.3, was.1))
      | inr new ↦ let P : ℕ → Type 0 = λ u. HasRow (rows ++ row ∷ []) u (term_row f b.0) in let Q : ℕ → Type 0 = λ u. Contains (lists' (Parent l f i)) u in let R : ℕ → Type 0 = λ k. Contains (lists' (Parent k f i)) (length rows) in
          subst Q (sym new.0) (subst R b.4 (by_argument f b.0 i b.1 (subst P new.0 b.2) b.3))
    ]

    row_below : (t : ℕ) (a : TermRow) → HasRow (rows ++ row ∷ []) t a → t < length rows + 1
    row_below t a has = let h = slice_get_within (rows ++ row ∷ []) t a has in omega (arith, length_push rows row)

    beyond_none : (place : Place) → IsBeyond (labels ++ length rows ∷ []) place → (t : ℕ) → Contains (lists' place) t → ⊥
    beyond_none (Symbol f) beyond t c = beyond
    beyond_none (Member l f) beyond t c = elim (sound (Member l f) t c) [
      | inl before ↦ listed.none_beyond (Member l f) (omega (arith, lengths, len')) t before
      | inr b ↦ let low = label_below t (row_below t (term_row f b.0) b.1) in let e = b.2 in omega (arith, len')
    ]
    beyond_none (Parent l f i) beyond t c = elim (sound (Parent l f i) t c) [
      | inl before ↦ listed.none_beyond (Parent l f i) (omega (arith, lengths, len')) t before
      | inr b ↦ let arg = arg_below t f b.0 i b.1 b.2 b.3 in let low = label_below b.1 (omega arith) in let e = b.4 in omega (arith, len')
    ]

    pub AreListed-row : AreListed (rows ++ row ∷ []) (labels ++ length rows ∷ []) lists'
    AreListed-row = record {
      exact = λ place read t. (
        (λ c. elim (sound place t c) [ inl before ↦ belongs_still place t read before | inr b ↦ b ]),
        (λ b. listed_now place t read b),
      );
      none_beyond = beyond_none;
    }

  pub AreLed-row : (leaders : List ℕ) → AreLed labels leaders → AreLed (labels ++ length rows ∷ []) (leaders ++ length rows ∷ [])
  AreLed-row leaders led = record {
    each = omega (arith, length_push leaders (length rows), length_push labels (length rows), led.each);
    is_term = λ l own. elim (own_cases l own) [
      | inl old ↦ rw (old_leader l old.0, len') (let low = led.is_term l old in omega (arith, lengths))
      | inr new ↦ rw (new, new_leader, len') (omega arith)
    ];
    own = λ l own. elim (own_cases l own) [
      | inl old ↦ ap (slice_index (labels ++ length rows ∷ [])) (old_leader l old.0) ∙ old_label (slice_index leaders l) (let low = led.is_term l old in omega (arith, lengths)) ∙ led.own l old
      | inr new ↦ ap (λ k. slice_index (labels ++ length rows ∷ []) (slice_index (leaders ++ length rows ∷ []) k)) new ∙ ap (slice_index (labels ++ length rows ∷ [])) new_leader ∙ new_label ∙ sym new
    ];
    least = λ t h. elim (below_or_at (length rows) t (rw (← len') h)) [
      | inl early ↦ rw (old_label t early, old_leader (slice_index labels t) (let low = label_in t early in omega (arith, lengths))) (led.least t (rw lengths early))
      | inr last ↦ rw (last, new_label, new_leader) (omega arith)
    ];
  }
    where
      old_leader : (l : ℕ) → l < length labels → slice_index (leaders ++ length rows ∷ []) l ≡ slice_index leaders l
      old_leader l h = index_earlier leaders (length rows) l (omega (arith, led.each))

      new_leader : slice_index (leaders ++ length rows ∷ []) (length rows) ≡ length rows
      new_leader = ap (slice_index (leaders ++ length rows ∷ [])) (sym lengths ∙ sym led.each) ∙ index_last leaders (length rows)
