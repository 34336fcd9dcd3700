use Rattle.std.proofs.Common.{◌≡◌, ◌≢◌, ◌<◌, ◌⊎◌, inl, inr, ℕ, List, [], ◌∷◌, ◌++◌, length, slice_get, slice_index, slice_set, Contains, refl, sym, ◌∙◌, ap, subst, if◌then◌else◌}
use Rattle.std.proofs.lemmas.Bool.Decides.{eqb_tells}
use Rattle.std.proofs.lemmas.List.{get_or-set_same, get_or-set_other, length-set}
use Rattle.std.proofs.lemmas.List.Elements.{Contains-append_left, Contains-append_right, Contains-append_cases}
use Rattle.graph_meaning.specs.Same.{Derives, turned, joined}
use Rattle.graph_classes.specs.State.{State, list_at}
use Rattle.graph_classes.specs.Indexed.{IsIndexed, IsSignable, IsRelabelled, IsClosing, Between, written, moved}
use Rattle.graph_classes.proofs.Elements.{contains_none, contains_first, contains_later, contains_cases}
use Rattle.graph_classes.proofs.HistoryLemmas.{list_at-set}
use Rattle.graph_classes.proofs.MoveLemmas.{length-written, list_at-other}
use Rattle.graph_classes.proofs.StepLemmas.{taken, kept, taken_or_kept, IsSound-relabelled, IsComplete-relabelled}

-- a label is written at the listed terms, and at no other
pub written_or_not : (labels ts : List ℕ) (v t : ℕ) → t < length labels → (Contains ts t × (slice_index (written labels ts v) t ≡ v)) ⊎ ((Contains ts t → ⊥) × (slice_index (written labels ts v) t ≡ slice_index labels t))
written_or_not labels [] v t h = inr (contains_none t, refl)
written_or_not labels (x ∷ xs) v t h = elim (written_or_not (slice_set labels x v) xs v t (rw (length-set labels x v) h)) [
  | inl later ↦ inl (contains_later x xs t later.0, later.1)
  | inr before ↦ elim (eqb_tells t x) [
    | inl same ↦ let P : ℕ → Type 0 = λ y. Contains (x ∷ xs) y in
        inl (subst P (sym same.1) (contains_first x xs), before.1 ∙ ap (slice_index (slice_set labels x v)) same.1 ∙ get_or-set_same labels x v 0 (rw (← same.1) h))
    | inr other ↦ inr (λ c. elim (contains_cases x xs t c) [ inl first ↦ other.1 first | inr later ↦ before.0 later ], before.1 ∙ get_or-set_other labels x t v 0 other.1)
  ]
]

module _ (s : State) (from into : ℕ) (indexed : IsIndexed s) (from_in : from < length s.rows) (into_in : into < length s.rows) (from_own : slice_index s.labels from ≡ from) (into_own : slice_index s.labels into ≡ into) (apart : from ≢ into) where
  below : (t : ℕ) → t < length s.labels → t < length s.rows
  below t h = rw (← indexed.labels_len) h

  above : (t : ℕ) → t < length s.rows → t < length s.labels
  above t h = rw indexed.labels_len h

  -- writing at the members relabels
  pub IsRelabelled-written : IsRelabelled s.labels (written s.labels (list_at s.members from) into) from into
  IsRelabelled-written = record {
    len = length-written s.labels (list_at s.members from) into;
    each = λ t h. elim (eqb_tells (slice_index s.labels t) from) [
      | inl was ↦ elim (written_or_not s.labels (list_at s.members from) into t h) [
        | inl is_in ↦ is_in.1 ∙ sym (ap (λ b. if b then into else slice_index s.labels t) was.0)
        | inr is_out ↦ let P : ℕ → Type 0 = λ l. Contains (list_at s.members l) t in absurd (is_out.0 (subst P was.1 (indexed.is_member t (below t h))))
      ]
      | inr was ↦ elim (written_or_not s.labels (list_at s.members from) into t h) [
        | inl is_in ↦ absurd (was.1 (indexed.member_in from t from_in from_own is_in.0).1)
        | inr is_out ↦ is_out.1 ∙ sym (ap (λ b. if b then into else slice_index s.labels t) was.0)
      ]
    ];
  }

  module _ (new : State) (rows : new.rows ≡ s.rows) (relabelled : IsRelabelled s.labels new.labels from into) (signable : IsSignable new) where
    -- a label that is its own now was so before, and is not the one that went
    own_before : (l : ℕ) → l < length s.rows → slice_index new.labels l ≡ l → (slice_index s.labels l ≡ l) × (l ≢ from)
    own_before l h own = elim (taken_or_kept s.labels new.labels from into relabelled l (above l h)) [
      | inl took ↦ let is_into : l ≡ into = sym own ∙ took.1 in absurd (apart (sym took.0 ∙ ap (slice_index s.labels) is_into ∙ into_own))
      | inr same ↦ (sym same ∙ own, λ is_from. apart (sym (sym (taken s.labels new.labels from into relabelled from (above from from_in) from_own) ∙ ap (slice_index new.labels) (sym is_from) ∙ own ∙ is_from)))
    ]

    label_in-joined : (t : ℕ) → t < length s.rows → slice_index new.labels t < length s.rows
    label_in-joined t h = elim (taken_or_kept s.labels new.labels from into relabelled t (above t h)) [
      | inl took ↦ rw took.1 into_in
      | inr same ↦ rw same (indexed.label_in t h)
    ]

    into_stays : slice_index new.labels into ≡ into
    into_stays = kept s.labels new.labels from into relabelled into (above into into_in) (λ e. apart (sym e ∙ into_own)) ∙ into_own

    label_fixed-joined : (t : ℕ) → t < length s.rows → slice_index new.labels (slice_index new.labels t) ≡ slice_index new.labels t
    label_fixed-joined t h = elim (eqb_tells (slice_index s.labels t) from) [
      | inl was ↦ let took = taken s.labels new.labels from into relabelled t (above t h) was.1 in ap (slice_index new.labels) took ∙ into_stays ∙ sym took
      | inr was ↦ let same = kept s.labels new.labels from into relabelled t (above t h) was.1 in
          ap (slice_index new.labels) same
          ∙ kept s.labels new.labels from into relabelled (slice_index s.labels t) (above _ (indexed.label_in t h)) (λ e. was.1 (sym (indexed.label_fixed t h) ∙ e))
          ∙ indexed.label_fixed t h ∙ sym same
    ]

    -- what a label lists, once one list went to another
    module _ (lists lists' : List (List ℕ)) (len : length lists ≡ length s.rows) (is_joined : lists' ≡ slice_set lists into (list_at lists into ++ list_at lists from)) where
      list_into : list_at lists' into ≡ list_at lists into ++ list_at lists from
      list_into = ap (λ ls. list_at ls into) is_joined ∙ list_at-set lists into (list_at lists into ++ list_at lists from) (rw len into_in)

      list_other : (l : ℕ) → l ≢ into → list_at lists' l ≡ list_at lists l
      list_other l other = ap (λ ls. list_at ls l) is_joined ∙ list_at-other lists into l (list_at lists into ++ list_at lists from) other

      -- what is listed now was listed at the label, or at the one that went
      listed_before : (l x : ℕ) → Contains (list_at lists' l) x → Contains (list_at lists l) x ⊎ ((l ≡ into) × Contains (list_at lists from) x)
      listed_before l x c = elim (eqb_tells l into) [
        | inl is_into ↦ let P : List ℕ → Type 0 = λ xs. Contains xs x in
            elim (Contains-append_cases (list_at lists into) (list_at lists from) x (subst P (ap (list_at lists') is_into.1 ∙ list_into) c)) [
              | inl own ↦ inl (subst P (ap (list_at lists) (sym is_into.1)) own)
              | inr went ↦ inr (is_into.1, went)
            ]
        | inr other ↦ let P : List ℕ → Type 0 = λ xs. Contains xs x in inl (subst P (list_other l other.1) c)
      ]

      -- what was listed at a term's label is listed at its label now
      listed_now : (t x : ℕ) → t < length s.rows → Contains (list_at lists (slice_index s.labels t)) x → Contains (list_at lists' (slice_index new.labels t)) x
      listed_now t x h c = elim (taken_or_kept s.labels new.labels from into relabelled t (above t h)) [
        | inl took ↦ let P : List ℕ → Type 0 = λ xs. Contains xs x in
            subst P (sym (ap (list_at lists') took.1 ∙ list_into)) (Contains-append_right (list_at lists into) (list_at lists from) x (subst P (ap (list_at lists) took.0) c))
        | inr same ↦ let P : List ℕ → Type 0 = λ xs. Contains xs x in
            elim (eqb_tells (slice_index s.labels t) into) [
              | inl is_into ↦ subst P (sym (ap (list_at lists') (same ∙ is_into.1) ∙ list_into)) (Contains-append_left (list_at lists into) (list_at lists from) x (subst P (ap (list_at lists) is_into.1) c))
              | inr other ↦ subst P (sym (ap (list_at lists') same ∙ list_other _ other.1)) c
            ]
      ]

    pub IsIndexed-joined : new.members ≡ slice_set s.members into (list_at s.members into ++ list_at s.members from) → new.uses ≡ slice_set s.uses into (list_at s.uses into ++ list_at s.uses from) → IsIndexed new
    IsIndexed-joined members uses = record {
      labels_len = signable.labels_len;
      members_len = ap length members ∙ length-set s.members into _ ∙ indexed.members_len ∙ sym (ap length rows);
      uses_len = ap length uses ∙ length-set s.uses into _ ∙ indexed.uses_len ∙ sym (ap length rows);
      args_in = signable.args_in;
      label_in = λ t h. rw rows (label_in-joined t (rw (← rows) h));
      label_fixed = λ t h. label_fixed-joined t (rw (← rows) h);
      member_in = λ l t h own c. let before = own_before l (rw (← rows) h) own in
          elim (listed_before s.members new.members indexed.members_len members l t c) [
            | inl stayed ↦ let was = indexed.member_in l t (rw (← rows) h) before.0 stayed in
                (rw rows was.0, kept s.labels new.labels from into relabelled t (above t was.0) (λ e. before.1 (sym was.1 ∙ e)) ∙ was.1)
            | inr went ↦ let was = indexed.member_in from t from_in from_own went.1 in
                (rw rows was.0, taken s.labels new.labels from into relabelled t (above t was.0) was.1 ∙ sym went.0)
          ];
      is_member = λ t h. listed_now s.members new.members indexed.members_len members t t (rw (← rows) h) (indexed.is_member t (rw (← rows) h));
      use_in = λ l u h own c. let before = own_before l (rw (← rows) h) own in
          elim (listed_before s.uses new.uses indexed.uses_len uses l u c) [
            | inl stayed ↦ rw rows (indexed.use_in l u (rw (← rows) h) before.0 stayed)
            | inr went ↦ rw rows (indexed.use_in from u from_in from_own went.1)
          ];
      is_use = λ u row x is c. let is_before = ap (λ rs. slice_get rs u) (sym rows) ∙ is in
          listed_now s.uses new.uses indexed.uses_len uses x u (indexed.args_in u row x is_before c) (indexed.is_use u row x is_before c);
      entry_in = signable.entry_in;
    }

  -- once the members have gone, the terms over them are to sign
  pub IsClosing-moved : (merges pending : List (ℕ × ℕ)) (a b : ℕ) → a < length s.rows → b < length s.rows → Between s.labels a b from into
      → IsClosing merges s (pending ++ (a, b) ∷ []) [] → IsClosing merges (moved s (list_at s.members from) into) pending (list_at s.uses from)
  IsClosing-moved merges pending a b ha hb between closing = record {
    sound = IsSound-relabelled s.labels (written s.labels (list_at s.members from) into) from into IsRelabelled-written s.rows merges s.table indexed.labels_len (pending ++ (a, b) ∷ []) pending closing.sound
        (λ c d h. Contains-append_left pending ((a, b) ∷ []) (c, d) h) same;
    complete = IsComplete-relabelled s.labels (written s.labels (list_at s.members from) into) from into IsRelabelled-written s.rows merges s.table indexed.labels_len pending a b (list_at s.uses from) closing.complete ha hb equal
        indexed.args_in (λ u row x is c e. let P : ℕ → Type 0 = λ l. Contains (list_at s.uses l) u in subst P e (indexed.is_use u row x is c));
  }
    where
      pair : Derives s.rows merges a b
      pair = closing.sound.pair a b (Contains-append_right pending ((a, b) ∷ []) (a, b) (contains_first (a, b) []))

      named : (t l : ℕ) → t < length s.rows → slice_index s.labels t ≡ l → Derives s.rows merges t l
      named t l h e = let P : ℕ → Type 0 = λ k. Derives s.rows merges t k in subst P e (closing.sound.label t h)

      same : Derives s.rows merges from into
      same = elim between [
        | inl ab ↦ joined (turned (named a from ha ab.0)) (joined pair (named b into hb ab.1))
        | inr ba ↦ joined (turned (named b from hb ba.1)) (joined (turned pair) (named a into ha ba.0))
      ]

      goes : (t : ℕ) → t < length s.rows → slice_index s.labels t ≡ from → slice_index (written s.labels (list_at s.members from) into) t ≡ into
      goes t h e = taken s.labels (written s.labels (list_at s.members from) into) from into IsRelabelled-written t (above t h) e

      stays : (t : ℕ) → t < length s.rows → slice_index s.labels t ≡ into → slice_index (written s.labels (list_at s.members from) into) t ≡ into
      stays t h e = kept s.labels (written s.labels (list_at s.members from) into) from into IsRelabelled-written t (above t h) (λ f. apart (sym f ∙ e)) ∙ e

      equal : slice_index (written s.labels (list_at s.members from) into) a ≡ slice_index (written s.labels (list_at s.members from) into) b
      equal = elim between [
        | inl ab ↦ goes a ha ab.0 ∙ sym (stays b hb ab.1)
        | inr ba ↦ stays a ha ba.0 ∙ sym (goes b hb ba.1)
      ]

pub IsSignable-moved : (s : State) (terms : List ℕ) (into : ℕ) → IsIndexed s → IsSignable (moved s terms into)
IsSignable-moved s terms into indexed = record { labels_len = length-written s.labels terms into ∙ indexed.labels_len; args_in = indexed.args_in; entry_in = indexed.entry_in }
