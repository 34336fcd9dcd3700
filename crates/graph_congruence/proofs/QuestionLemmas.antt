-- What the lists and leaders answer.
use Rattle.std.proofs.Common.{◌≡◌, ◌<◌, ◌≤◌, ℕ, length, slice_get, slice_index, slice_index_or, Option, AllPairs, sym, ◌∙◌, ap, subst}
use Rattle.std.proofs.lemmas.Option.{slice_get_within}
use Rattle.graph_terms.specs.declared.term_row.TermRow.{TermRow}
use Rattle.graph_terms.specs.Terms.{term_row, HasRow}
use Rattle.graph_meaning.specs.Same.{IsLeader}
use Rattle.graph_meaning.specs.Questions.{IsNth, HasSymbol, InClass, IsParent}
use Rattle.graph_meaning.specs.Standing.{terms_of}
use Rattle.graph_classes.specs.declared.place.Place.TheVariants.{Symbol, Member, Parent}
use Rattle.graph_classes.specs.State.{State}
use Rattle.graph_classes.specs.Listed.{IsOwn}
use Rattle.graph_classes.specs.Standing.{IsGood}
use Rattle.graph_congruence.proofs.ReadLemmas.{contains_at, own_label}
use Rattle.graph_congruence.proofs.MeaningLemmas.{same_of_label, label_of_same}

module _ (s : State) (good : IsGood s) where
  to_log : (t : ℕ) (row : TermRow) → HasRow s.rows t row → HasRow (terms_of s.log) t row
  to_log t row has = ap (λ rows. slice_get rows t) (sym good.terms) ∙ has

  to_rows : (t : ℕ) (row : TermRow) → HasRow (terms_of s.log) t row → HasRow s.rows t row
  to_rows t row has = ap (λ rows. slice_get rows t) good.terms ∙ has

  pub with_symbol_is : (symbol k : ℕ) (answer : Option ℕ) → answer ≡ slice_get (s.lists (Symbol symbol)) k → AllPairs (λ a b. a < b) (s.lists (Symbol symbol)) → IsNth (HasSymbol s.log symbol) k answer
  with_symbol_is symbol k answer is rising = (
    s.lists (Symbol symbol),
    record {
      rising = rising;
      exact = λ t. let e = good.listed.lists.exact (Symbol symbol) tt t in ((λ c. let b = e.0 c in (b.0, to_log t (term_row symbol b.0) b.1)), (λ h. e.1 (h.0, to_rows t (term_row symbol h.0) h.1)));
    },
    is,
  )

  module _ (term label : ℕ) (h : term < length s.rows) (read : label ≡ slice_index_or s.labels term label) where
    label_is : slice_index s.labels term ≡ label
    label_is = (own_label s term label good.indexed h read).0

    is_own : IsOwn s.labels label
    is_own = (own_label s term label good.indexed h read).1

    pub in_class_is : (symbol k : ℕ) (answer : Option ℕ) → answer ≡ slice_get (s.lists (Member label symbol)) k → AllPairs (λ a b. a < b) (s.lists (Member label symbol)) → IsNth (InClass s.log term symbol) k answer
    in_class_is symbol k answer is rising = (
      s.lists (Member label symbol),
      record {
        rising = rising;
        exact = λ t. let e = good.listed.lists.exact (Member label symbol) is_own t in (
          (λ c. let b = e.0 c in ((b.0, to_log t (term_row symbol b.0) b.1), same_of_label s good t term (slice_get_within s.rows t (term_row symbol b.0) b.1, h, b.2 ∙ sym label_is))),
          (λ m. let one = label_of_same s good t term m.1 in e.1 (m.0.0, to_rows t (term_row symbol m.0.0) m.0.1, one.2 ∙ label_is)),
        );
      },
      is,
    )

    pub parent_is : (symbol place k : ℕ) (answer : Option ℕ) → answer ≡ slice_get (s.lists (Parent label symbol place)) k → AllPairs (λ a b. a < b) (s.lists (Parent label symbol place)) → IsNth (IsParent s.log term symbol place) k answer
    parent_is symbol place k answer is rising = (
      s.lists (Parent label symbol place),
      record {
        rising = rising;
        exact = λ t. let e = good.listed.lists.exact (Parent label symbol place) is_own t in (
          (λ c. let b = e.0 c in (b.0, b.1, to_log t (term_row symbol b.0) b.2, b.3, same_of_label s good b.1 term (good.indexed.args_in t (term_row symbol b.0) b.1 b.2 (contains_at b.0 place b.1 b.3), h, b.4 ∙ sym label_is))),
          (λ m. let one = label_of_same s good m.1 term m.4 in e.1 (m.0, m.1, to_rows t (term_row symbol m.0) m.2, m.3, one.2 ∙ label_is)),
        );
      },
      is,
    )

    pub leader_is : (leader : ℕ) → slice_index s.leaders label ≡ leader → IsLeader s.log term leader
    leader_is leader is =
        let P : ℕ → Type 0 = λ l. IsLeader s.log term l in
        let low : slice_index s.leaders label < length s.rows = rw (← good.indexed.labels_len) (good.listed.leaders.is_term label is_own) in
        subst P is (record {
          same = same_of_label s good (slice_index s.leaders label) term (low, h, good.listed.leaders.own label is_own ∙ sym label_is);
          least = λ other same.
              let one = label_of_same s good other term same in
              let Q : ℕ → Type 0 = λ l. slice_index s.leaders l ≤ other in
              subst Q (one.2 ∙ label_is) (good.listed.leaders.least other (rw good.indexed.labels_len one.0));
        })
