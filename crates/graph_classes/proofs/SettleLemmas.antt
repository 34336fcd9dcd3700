-- One step of the cascade.
use Rattle.std.proofs.Common.{◌≡◌, ◌≢◌, ◌≤◌, ◌<◌, ◌⊎◌, inl, inr, ℕ, List, [], ◌∷◌, ◌++◌, length, slice_index, slice_index_or, sym, ◌∙◌, ap, subst, arith}
use Rattle.graph_meaning.specs.declared.union.Union.{Union}
use Rattle.graph_classes.specs.State.{State}
use Rattle.graph_classes.specs.Indexed.{IsIndexed, IsRelabelled, HaveOneLabel, own_from}
use Rattle.graph_classes.specs.Listed.{IsListed, IsOwn}
use Rattle.graph_meaning.specs.Unions.{AreUnions, union_of}
use Rattle.graph_classes.proofs.MoveLemmas.{read_is}
use Rattle.graph_classes.proofs.UnionLemmas.{one_more_union}
use Rattle.graph_classes.proofs.MeasureLemmas.{own_fewer-relabelled}

-- the label that was read of a term is its own
pub own_label : (s : State) (t label : ℕ) → IsIndexed s → t < length s.rows → label ≡ slice_index_or s.labels t label → (slice_index s.labels t ≡ label) × IsOwn s.labels label
own_label s t label indexed h read =
    let is = read_is s.labels t label (rw indexed.labels_len h) read in
    let P : ℕ → Type 0 = λ l. IsOwn s.labels l in
    (is, subst P is (rw indexed.labels_len (indexed.label_in t h), indexed.label_fixed t h))

module _ (s : State) (new : List ℕ) (left right : ℕ) (indexed : IsIndexed s) (left_own : IsOwn s.labels left) (right_own : IsOwn s.labels right) (apart : left ≢ right)
    (relabelled : IsRelabelled s.labels new left right ⊎ IsRelabelled s.labels new right left) where
  module _ (first : List ℕ) (unions : List Union) (right_listed : IsListed s) (are : AreUnions (length s.rows) (HaveOneLabel (length s.rows) first) (HaveOneLabel (length s.rows) s.labels) unions) where
    leader_in : (l : ℕ) → IsOwn s.labels l → slice_index s.leaders l < length s.rows
    leader_in l own = rw (← indexed.labels_len) (right_listed.leaders.is_term l own)

    least : (l : ℕ) → IsOwn s.labels l → (t : ℕ) → t < length s.rows → slice_index s.labels (slice_index s.leaders l) ≡ slice_index s.labels t → slice_index s.leaders l ≤ t
    least l own t h e =
        let low = right_listed.leaders.least t (rw indexed.labels_len h) in
        let same : slice_index s.leaders l ≡ slice_index s.leaders (slice_index s.labels t) = ap (slice_index s.leaders) (sym (right_listed.leaders.own l own) ∙ e) in
        omega arith

    pub unions_step : AreUnions (length s.rows) (HaveOneLabel (length s.rows) first) (HaveOneLabel (length s.rows) new) (unions ++ union_of (slice_index s.leaders left) (slice_index s.leaders right) ∷ [])
    unions_step = elim relabelled [
      | inl goes_right ↦ one_more_union (length s.rows) first s.labels new unions (slice_index s.leaders left) (slice_index s.leaders right) left right indexed.labels_len (leader_in left left_own) (leader_in right right_own) apart
          (inl (right_listed.leaders.own left left_own, right_listed.leaders.own right right_own)) goes_right (least left left_own) (least right right_own) are
      | inr goes_left ↦ one_more_union (length s.rows) first s.labels new unions (slice_index s.leaders left) (slice_index s.leaders right) right left indexed.labels_len (leader_in left left_own) (leader_in right right_own) (λ e. apart (sym e))
          (inr (right_listed.leaders.own left left_own, right_listed.leaders.own right right_own)) goes_left (least left left_own) (least right right_own) are
    ]

  low : (l : ℕ) → IsOwn s.labels l → l < length s.rows
  low l own = rw (← indexed.labels_len) own.0

  pub fewer_step : own_from 0 new < own_from 0 s.labels
  fewer_step = elim relabelled [
    | inl goes_right ↦ own_fewer-relabelled s new left right indexed (low left left_own) (low right right_own) left_own.1 right_own.1 apart goes_right
    | inr goes_left ↦ own_fewer-relabelled s new right left indexed (low right right_own) (low left left_own) right_own.1 left_own.1 (λ e. apart (sym e)) goes_left
  ]
