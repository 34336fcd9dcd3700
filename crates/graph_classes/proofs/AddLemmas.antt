use Rattle.std.proofs.Common.{◌≡◌, ◌<◌, ◌+◌, ◌⊎◌, inl, inr, ℕ, List, [], ◌∷◌, ◌++◌, length, slice_index, slice_set, Contains, refl, sym, ◌∙◌, ap, subst, arith}
use Rattle.std.proofs.lemmas.Grind.{common_steps}
use Rattle.std.proofs.lemmas.Bool.Decides.{eqb_tells}
use Rattle.std.proofs.lemmas.List.{length-set}
use Rattle.std.proofs.lemmas.List.Elements.{Contains-append_left, Contains-push}
use Rattle.graph_terms.specs.declared.term_row.TermRow.{TermRow}
use Rattle.graph_classes.specs.State.{State, list_at, with_row}
use Rattle.graph_classes.specs.Indexed.{IsIndexed, IsSignable, IsClosing, used}
use Rattle.graph_classes.proofs.Elements.{contains_none, contains_one, contains_first, contains_later, contains_cases, contains_push_cases, slice_get_push_cases}
use Rattle.graph_classes.proofs.HistoryLemmas.{list_at-set}
use Rattle.graph_classes.proofs.MoveLemmas.{list_at-other}
use Rattle.graph_classes.proofs.GrowLemmas.{IsSound-add, IsComplete-add}

pub used-append : (uses : List (List ℕ)) (labels xs : List ℕ) (x term : ℕ) → used uses labels (xs ++ x ∷ []) term
    ≡ slice_set (used uses labels xs term) (slice_index labels x) (list_at (used uses labels xs term) (slice_index labels x) ++ term ∷ [])
used-append uses labels [] x term = refl
used-append uses labels (y ∷ ys) x term = used-append (slice_set uses (slice_index labels y) (list_at uses (slice_index labels y) ++ term ∷ [])) labels ys x term

pub length-used : (uses : List (List ℕ)) (labels xs : List ℕ) (term : ℕ) → length (used uses labels xs term) ≡ length uses
length-used uses labels [] term = refl
length-used uses labels (x ∷ xs) term = length-used _ labels xs term ∙ length-set uses (slice_index labels x) _

-- at a place, a list with one more item has the items that it had
put_keeps : (lists : List (List ℕ)) (i l t u : ℕ) → i < length lists → Contains (list_at lists l) u → Contains (list_at (slice_set lists i (list_at lists i ++ t ∷ [])) l) u
put_keeps lists i l t u h c = elim (eqb_tells l i) [
  | inl same ↦ let P : List ℕ → Type 0 = λ xs. Contains xs u in
      subst P (sym (ap (list_at (slice_set lists i (list_at lists i ++ t ∷ []))) same.1 ∙ list_at-set lists i (list_at lists i ++ t ∷ []) h)) (Contains-append_left (list_at lists i) (t ∷ []) u (subst P (ap (list_at lists) same.1) c))
  | inr other ↦ let P : List ℕ → Type 0 = λ xs. Contains xs u in subst P (sym (list_at-other lists i l (list_at lists i ++ t ∷ []) other.1)) c
]

put_cases : (lists : List (List ℕ)) (i l t u : ℕ) → i < length lists → Contains (list_at (slice_set lists i (list_at lists i ++ t ∷ [])) l) u → Contains (list_at lists l) u ⊎ (u ≡ t)
put_cases lists i l t u h c = elim (eqb_tells l i) [
  | inl same ↦ let P : List ℕ → Type 0 = λ xs. Contains xs u in
      elim (contains_push_cases (list_at lists i) t u (subst P (ap (list_at (slice_set lists i (list_at lists i ++ t ∷ []))) same.1 ∙ list_at-set lists i (list_at lists i ++ t ∷ []) h) c)) [
        | inl earlier ↦ inl (subst P (ap (list_at lists) (sym same.1)) earlier)
        | inr last ↦ inr last
      ]
  | inr other ↦ let P : List ℕ → Type 0 = λ xs. Contains xs u in inl (subst P (list_at-other lists i l (list_at lists i ++ t ∷ []) other.1) c)
]

pub used_keeps : (uses : List (List ℕ)) (labels xs : List ℕ) (term l u : ℕ) → ((x : ℕ) → Contains xs x → slice_index labels x < length uses) → Contains (list_at uses l) u → Contains (list_at (used uses labels xs term) l) u
used_keeps uses labels [] term l u in_range c = c
used_keeps uses labels (x ∷ xs) term l u in_range c =
    used_keeps _ labels xs term l u (λ y h. rw (length-set uses (slice_index labels x) (list_at uses (slice_index labels x) ++ term ∷ [])) (in_range y (contains_later x xs y h)))
    (put_keeps uses (slice_index labels x) l term u (in_range x (contains_first x xs)) c)

pub used_cases : (uses : List (List ℕ)) (labels xs : List ℕ) (term l u : ℕ) → ((x : ℕ) → Contains xs x → slice_index labels x < length uses) → Contains (list_at (used uses labels xs term) l) u → Contains (list_at uses l) u ⊎ (u ≡ term)
used_cases uses labels [] term l u in_range c = inl c
used_cases uses labels (x ∷ xs) term l u in_range c =
    elim (used_cases (slice_set uses (slice_index labels x) (list_at uses (slice_index labels x) ++ term ∷ [])) labels xs term l u (λ y h. rw (length-set uses (slice_index labels x) (list_at uses (slice_index labels x) ++ term ∷ [])) (in_range y (contains_later x xs y h))) c) [
      | inl before ↦ put_cases uses (slice_index labels x) l term u (in_range x (contains_first x xs)) before
      | inr new ↦ inr new
    ]

pub used_has : (uses : List (List ℕ)) (labels xs : List ℕ) (term y : ℕ) → ((x : ℕ) → Contains xs x → slice_index labels x < length uses) → Contains xs y → Contains (list_at (used uses labels xs term) (slice_index labels y)) term
used_has uses labels [] term y in_range c = absurd (contains_none y c)
used_has uses labels (x ∷ xs) term y in_range c =
    elim (contains_cases x xs y c) [
      | inl first ↦ used_keeps (slice_set uses (slice_index labels x) (list_at uses (slice_index labels x) ++ term ∷ [])) labels xs term (slice_index labels y) term rest_in
          (let P : ℕ → Type 0 = λ l. Contains (list_at (slice_set uses (slice_index labels x) (list_at uses (slice_index labels x) ++ term ∷ [])) l) term in
          let Q : List ℕ → Type 0 = λ zs. Contains zs term in
          subst P (ap (slice_index labels) (sym first)) (subst Q (sym (list_at-set uses (slice_index labels x) (list_at uses (slice_index labels x) ++ term ∷ []) (in_range x (contains_first x xs)))) (Contains-push (list_at uses (slice_index labels x)) term)))
      | inr later ↦ used_has (slice_set uses (slice_index labels x) (list_at uses (slice_index labels x) ++ term ∷ [])) labels xs term y rest_in later
    ]
  where
    rest_in : (z : ℕ) → Contains xs z → slice_index labels z < length (slice_set uses (slice_index labels x) (list_at uses (slice_index labels x) ++ term ∷ []))
    rest_in z h = rw (length-set uses (slice_index labels x) (list_at uses (slice_index labels x) ++ term ∷ [])) (in_range z (contains_later x xs z h))

-- ---- a list of lists that grew by one

list_earlier : (lists : List (List ℕ)) (list : List ℕ) (i : ℕ) → i < length lists → list_at (lists ++ list ∷ []) i ≡ list_at lists i
list_earlier lists list i h = grind (arith, common_steps)

list_last : (lists : List (List ℕ)) (list : List ℕ) → list_at (lists ++ list ∷ []) (length lists) ≡ list
list_last lists list = grind (arith, common_steps)

index_earlier : (xs : List ℕ) (x i : ℕ) → i < length xs → slice_index (xs ++ x ∷ []) i ≡ slice_index xs i
index_earlier xs x i h = grind (arith, common_steps)

index_last : (xs : List ℕ) (x : ℕ) → slice_index (xs ++ x ∷ []) (length xs) ≡ x
index_last xs x = grind (arith, common_steps)

length_push : {A : Type 0} (xs : List A) (x : A) → length (xs ++ x ∷ []) ≡ length xs + 1
length_push xs x = grind (arith, common_steps)

below_or_at : (n t : ℕ) → t < n + 1 → (t < n) ⊎ (t ≡ n)
below_or_at n t h = grind arith

module _ (s : State) (row : TermRow) (indexed : IsIndexed s) (args_in : (x : ℕ) → Contains row.args x → x < length s.rows) where
  n : ℕ
  n = length s.rows

  labels' : List ℕ
  labels' = s.labels ++ length s.rows ∷ []

  label_old : (t : ℕ) → t < length s.rows → slice_index (s.labels ++ length s.rows ∷ []) t ≡ slice_index s.labels t
  label_old t h = index_earlier s.labels (length s.rows) t (rw indexed.labels_len h)

  label_new : slice_index (s.labels ++ length s.rows ∷ []) (length s.rows) ≡ length s.rows
  label_new = ap (slice_index (s.labels ++ length s.rows ∷ [])) (sym indexed.labels_len) ∙ index_last s.labels (length s.rows)

  pub labels_in-row : (x : ℕ) → Contains row.args x → slice_index (s.labels ++ length s.rows ∷ []) x < length (s.uses ++ [] ∷ [])
  labels_in-row x c = rw (label_old x (args_in x c)) (let h = indexed.label_in x (args_in x c) in omega (arith, length_push s.uses [], indexed.uses_len))

  uses_old : (l : ℕ) → l < length s.rows → list_at (s.uses ++ [] ∷ []) l ≡ list_at s.uses l
  uses_old l h = list_earlier s.uses [] l (rw indexed.uses_len h)

  -- a use before the row's own was one before, or there is none
  use_before : (l u : ℕ) → l < length s.rows + 1 → slice_index (s.labels ++ length s.rows ∷ []) l ≡ l → Contains (list_at (s.uses ++ [] ∷ []) l) u → u < length s.rows
  use_before l u h own c = elim (below_or_at (length s.rows) l h) [
    | inl old ↦ let P : List ℕ → Type 0 = λ xs. Contains xs u in indexed.use_in l u old (sym (label_old l old) ∙ own) (subst P (uses_old l old) c)
    | inr new ↦ let P : List ℕ → Type 0 = λ xs. Contains xs u in
        absurd (contains_none u (subst P (ap (list_at (s.uses ++ [] ∷ [])) (new ∙ sym indexed.uses_len) ∙ list_last s.uses []) c))
  ]

  pub IsIndexed-row : IsIndexed (record (with_row s row (length s.rows)) { uses = used (s.uses ++ [] ∷ []) (s.labels ++ length s.rows ∷ []) row.args (length s.rows) })
  IsIndexed-row = record {
    labels_len = omega (arith, length_push s.labels (length s.rows), length_push s.rows row, indexed.labels_len);
    members_len = omega (arith, length_push s.members (length s.rows ∷ []), length_push s.rows row, indexed.members_len);
    uses_len = length-used (s.uses ++ [] ∷ []) (s.labels ++ length s.rows ∷ []) row.args (length s.rows) ∙ omega (arith, length_push s.uses [], length_push s.rows row, indexed.uses_len);
    args_in = λ u a x is c. rw (length_push s.rows row) (elim (slice_get_push_cases s.rows row u a is) [
      | inl old ↦ let h = indexed.args_in u a x old c in omega arith
      | inr new ↦ let P : TermRow → Type 0 = λ r. Contains r.args x in let h = args_in x (subst P new.1 c) in omega arith
    ]);
    label_in = λ t h. rw (length_push s.rows row) (elim (below_or_at (length s.rows) t (rw (length_push s.rows row) at h)) [
      | inl old ↦ rw (label_old t old) (let k = indexed.label_in t old in omega arith)
      | inr new ↦ rw (new, label_new) (omega arith)
    ]);
    label_fixed = λ t h. elim (below_or_at (length s.rows) t (rw (length_push s.rows row) at h)) [
      | inl old ↦ ap (slice_index (s.labels ++ length s.rows ∷ [])) (label_old t old) ∙ label_old (slice_index s.labels t) (indexed.label_in t old) ∙ indexed.label_fixed t old ∙ sym (label_old t old)
      | inr new ↦ ap (λ k. slice_index (s.labels ++ length s.rows ∷ []) (slice_index (s.labels ++ length s.rows ∷ []) k)) new ∙ ap (slice_index (s.labels ++ length s.rows ∷ [])) label_new ∙ sym (ap (slice_index (s.labels ++ length s.rows ∷ [])) new)
    ];
    member_in = λ l t h own c. rw (length_push s.rows row) (elim (below_or_at (length s.rows) l (rw (length_push s.rows row) at h)) [
      | inl old ↦ let P : List ℕ → Type 0 = λ xs. Contains xs t in
          let was = indexed.member_in l t old (sym (label_old l old) ∙ own) (subst P (list_earlier s.members (length s.rows ∷ []) l (rw indexed.members_len old)) c) in
          (let k = was.0 in omega arith, label_old t was.0 ∙ was.1)
      | inr new ↦ let P : List ℕ → Type 0 = λ xs. Contains xs t in
          let is_new : t ≡ length s.rows = contains_one (length s.rows) t (subst P (ap (list_at (s.members ++ (length s.rows ∷ []) ∷ [])) (new ∙ sym indexed.members_len) ∙ list_last s.members (length s.rows ∷ [])) c) in
          (omega arith, ap (slice_index (s.labels ++ length s.rows ∷ [])) is_new ∙ label_new ∙ sym new)
    ]);
    is_member = λ t h. elim (below_or_at (length s.rows) t (rw (length_push s.rows row) at h)) [
      | inl old ↦ let P : List ℕ → Type 0 = λ xs. Contains xs t in
          subst P (sym (ap (list_at (s.members ++ (length s.rows ∷ []) ∷ [])) (label_old t old) ∙ list_earlier s.members (length s.rows ∷ []) (slice_index s.labels t) (rw indexed.members_len (indexed.label_in t old)))) (indexed.is_member t old)
      | inr new ↦ let P : List ℕ → Type 0 = λ xs. Contains xs t in
          subst P (sym (ap (λ k. list_at (s.members ++ (length s.rows ∷ []) ∷ []) (slice_index (s.labels ++ length s.rows ∷ []) k)) new ∙ ap (list_at (s.members ++ (length s.rows ∷ []) ∷ [])) (label_new ∙ sym indexed.members_len) ∙ list_last s.members (length s.rows ∷ [])))
          (let Q : ℕ → Type 0 = λ k. Contains (length s.rows ∷ []) k in subst Q (sym new) (contains_first (length s.rows) []))
    ];
    use_in = λ l u h own c. rw (length_push s.rows row) (elim (used_cases (s.uses ++ [] ∷ []) (s.labels ++ length s.rows ∷ []) row.args (length s.rows) l u labels_in-row c) [
      | inl before ↦ let k = use_before l u (rw (length_push s.rows row) at h) own before in omega arith
      | inr new ↦ omega arith
    ]);
    is_use = λ u a x is c. elim (slice_get_push_cases s.rows row u a is) [
      | inl old ↦ let x_in = indexed.args_in u a x old c in let P : List ℕ → Type 0 = λ xs. Contains xs u in
          used_keeps (s.uses ++ [] ∷ []) (s.labels ++ length s.rows ∷ []) row.args (length s.rows) (slice_index (s.labels ++ length s.rows ∷ []) x) u labels_in-row
          (subst P (sym (ap (list_at (s.uses ++ [] ∷ [])) (label_old x x_in) ∙ uses_old (slice_index s.labels x) (indexed.label_in x x_in))) (indexed.is_use u a x old c))
      | inr new ↦ let P : TermRow → Type 0 = λ r. Contains r.args x in
          let Q : ℕ → Type 0 = λ k. Contains (list_at (used (s.uses ++ [] ∷ []) (s.labels ++ length s.rows ∷ []) row.args (length s.rows)) (slice_index (s.labels ++ length s.rows ∷ []) x)) k in
          subst Q (sym new.0) (used_has (s.uses ++ [] ∷ []) (s.labels ++ length s.rows ∷ []) row.args (length s.rows) x labels_in-row (subst P new.1 c))
    ];
    entry_in = λ key term c. rw (length_push s.rows row) (let k = indexed.entry_in key term c in omega arith);
  }

  pub IsClosing-row : (merges : List (ℕ × ℕ)) (uses : List (List ℕ)) → IsClosing merges s [] [] → IsClosing merges (record (with_row s row (length s.rows)) { uses = uses }) [] (length s.rows ∷ [])
  IsClosing-row merges uses closing = record {
    sound = IsSound-add s.rows merges s.labels s.table row indexed.labels_len closing.sound;
    complete = IsComplete-add s.rows merges s.labels s.table row indexed.labels_len closing.complete indexed.args_in;
  }

-- the table plays its part by its entries alone
pub IsIndexed-table : (s new : State) (table : List (List ℕ × ℕ)) → new ≡ record s { table = table } → IsSignable new → IsIndexed s → IsIndexed new
IsIndexed-table s new table e signable i =
    let P : State → Type 0 = λ m. IsSignable m → IsIndexed m in
    subst P (sym e) (λ sg. record {
      labels_len = i.labels_len;
      members_len = i.members_len;
      uses_len = i.uses_len;
      args_in = i.args_in;
      label_in = i.label_in;
      label_fixed = i.label_fixed;
      member_in = i.member_in;
      is_member = i.is_member;
      use_in = i.use_in;
      is_use = i.is_use;
      entry_in = sg.entry_in;
    }) signable

-- one more use is entered
pub used_more : (s now new : State) (xs : List ℕ) (x term label : ℕ) → now ≡ record s { uses = used s.uses s.labels xs term } → slice_index s.labels x ≡ label
    → new ≡ record now { uses = slice_set now.uses label (list_at now.uses label ++ term ∷ []) } → new ≡ record s { uses = used s.uses s.labels (xs ++ x ∷ []) term }
used_more s now new xs x term label is_now is_label is_new =
    is_new ∙ ap (λ (m : State). record m { uses = slice_set m.uses label (list_at m.uses label ++ term ∷ []) }) is_now
    ∙ ap (λ us. record s { uses = us }) (ap (λ l. slice_set (used s.uses s.labels xs term) l (list_at (used s.uses s.labels xs term) l ++ term ∷ [])) (sym is_label) ∙ sym (used-append s.uses s.labels xs x term))

-- the state with a row and its uses
abbrev pub with_used : State → TermRow → ℕ → State
with_used s row term = record (with_row s row term) { uses = used (s.uses ++ [] ∷ []) (s.labels ++ term ∷ []) row.args term }

pub is_with_used : (s mid new : State) (row : TermRow) (term : ℕ) → term ≡ length s.rows → mid ≡ with_row s row term → new ≡ record mid { uses = used mid.uses mid.labels row.args term } → new ≡ with_used s row (length s.rows)
is_with_used s mid new row term is_term is_mid is_new =
    is_new ∙ ap (λ (m : State). record m { uses = used m.uses m.labels row.args term }) is_mid ∙ ap (with_used s row) is_term

pub args_in-row : (s mid : State) (row : TermRow) (term : ℕ) → IsIndexed s → ((x : ℕ) → Contains row.args x → x < length s.rows) → mid ≡ with_row s row term → (x : ℕ) → Contains row.args x → x < length mid.labels
args_in-row s mid row term indexed args_in is_mid x c = let h = args_in x c in let e = ap (λ (m : State). length m.labels) is_mid in omega (arith, length_push s.labels term, indexed.labels_len)
