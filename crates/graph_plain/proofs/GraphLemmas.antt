-- What the labels of a graph tell.
use Rattle.std.proofs.Common.{refl, ◌≡◌, ◌≢◌, ◌≤◌, ℕ, zero, suc, ◌+◌, ◌<◌, ◌↔◌, ◌==◌, Bool, List, [], ◌∷◌, ◌++◌, length, slice_get, get_or, Option, Some, Contains, IsTrue, sym, ap₂, subst, ◌∙◌, ⊎_elim, arith}
use Rattle.std.proofs.lemmas.Bool.{eqb-true, eq-eqb, cases_lt}
use Rattle.std.proofs.lemmas.Option.{slice_get_within}
use Rattle.std.proofs.lemmas.List.Quantifiers.{all_pairs_push}
use Rattle.std.proofs.lemmas.List.Elements.{Contains-push, Contains-append_left, Contains-push_cases, Contains-get_or}
use Rattle.graph_terms.specs.declared.term_row.TermRow.{TermRow}
use Rattle.graph_meaning.specs.declared.done.Done.{Done}
use Rattle.graph_terms.specs.Terms.{term_row, first_rows}
use Rattle.graph_meaning.specs.Standing.{terms_of, merges_of}
use Rattle.graph_meaning.specs.Same.{Derives, same_term, turned, joined, merged, congruent, Same, IsLeader}
use Rattle.graph_plain.specs.Labels.{label_of, AreSound, AreMerged, AreCongruent}
use Rattle.graph_meaning.specs.Lawful.{EndsBelow}
use Rattle.graph_plain.specs.declared.pick.Pick.{Pick}
use Rattle.graph_plain.specs.declared.pick.Pick.TheVariants.{Class, Symbol, Parent}
use Rattle.graph_plain.specs.Picks.{IsPicked}
use Rattle.graph_meaning.specs.Questions.{AreAll}
use Rattle.graph_plain.proofs.SameLemmas.{one_label, derive}
use Rattle.graph_terms.proofs.ListLaws.{get_or-any, slice_get-push, slice_get-push_other}

-- what is derived is about terms
pub derives_terms : {rows : List TermRow} {merges : List (ℕ × ℕ)} → EndsBelow merges (length rows) → {s t : ℕ} → Derives rows merges s t → (s < length rows) × (t < length rows)
derives_terms ends (same_term h) = (h, h)
derives_terms ends (turned d) = let h = derives_terms ends d in (h.1, h.0)
derives_terms ends (joined d e) = ((derives_terms ends d).0, (derives_terms ends e).1)
derives_terms ends (merged {s} {t} h) = ends s t h
derives_terms {rows} ends (congruent {s} {t} {symbol} {ss} {ts} left right each) = (slice_get_within rows s (term_row symbol ss) left, slice_get_within rows t (term_row symbol ts) right)

module _ (standing : List Done) (labels : List ℕ) (ends : EndsBelow (merges_of standing) (length (terms_of standing))) (sound : AreSound (terms_of standing) (merges_of standing) labels)
    (all_merged : AreMerged (merges_of standing) labels) (all_congruent : AreCongruent (terms_of standing) labels) where
  -- a label is the least term of its class
  pub leader_from_labels : (term : ℕ) → term < length (terms_of standing) → IsLeader standing term (label_of labels term)
  leader_from_labels term h = record {
    same = sound.derived term h;
    least = λ other d.
        let later = sound.no_later other (derives_terms ends d).0 in
        let one : label_of labels other ≡ label_of labels term = one_label labels all_merged all_congruent d in
        omega arith;
  }

  -- two labels are one exactly where the terms are equal
  pub same_from_labels : (s t : ℕ) → s < length (terms_of standing) → t < length (terms_of standing) → (r : Bool) → r ≡ (label_of labels s == label_of labels t) → IsTrue r ↔ Same standing s t
  same_from_labels s t left right r is =
      (λ yes. derive labels sound s t left right (eqb-true _ _ (sym is ∙ yes)), λ d. is ∙ eq-eqb _ _ (one_label labels all_merged all_congruent d))

  -- the same of labels as they are read
  pub leader_from_read : (term : ℕ) → term < length (terms_of standing) → (l : ℕ) → l ≡ get_or labels term l → IsLeader standing term l
  leader_from_read term h l read = subst (IsLeader standing term) (sym (read ∙ get_or-any labels term l 0 (omega (arith, sound.each_term, h)))) (leader_from_labels term h)

  pub same_from_reads : (s t : ℕ) → s < length (terms_of standing) → t < length (terms_of standing) → (l m : ℕ) → l ≡ get_or labels s l → m ≡ get_or labels t m → IsTrue (l == m) ↔ Same standing s t
  same_from_reads s t left right l m read_l read_m =
      let one : l ≡ label_of labels s = read_l ∙ get_or-any labels s l 0 (omega (arith, sound.each_term, left)) in
      let other : m ≡ label_of labels t = read_m ∙ get_or-any labels t m 0 (omega (arith, sound.each_term, right)) in
      same_from_labels s t left right (l == m) (ap₂ (λ a b. a == b) one other)

-- the numbers so far, and the next
module _ (P : ℕ → Type 0) (i : ℕ) (numbers : List ℕ) (all : AreAll (λ n. (n < i) × P n) numbers) where
  pub AreAll-more : P i → AreAll (λ n. (n < i + 1) × P n) (numbers ++ i ∷ [])
  AreAll-more here = record {
    rising = all_pairs_push (λ a b. a < b) numbers i all.rising (λ k d below. ((all.exact (get_or numbers k d)).0 (Contains-get_or numbers k d below)).0);
    exact = λ n. (
      (λ c. ⊎_elim (λ old. let h = (all.exact n).0 old in (omega arith, h.1)) (λ e. (omega arith, subst P e here)) (Contains-push_cases numbers i n c)),
      (λ h. ⊎_elim (λ lt. Contains-append_left numbers (i ∷ []) n ((all.exact n).1 (lt, h.1))) (λ ge. let e : i ≡ n = omega arith in subst (Contains (numbers ++ i ∷ [])) e (Contains-push numbers i)) (cases_lt n i)),
    );
  }

  pub AreAll-not : (P i → ⊥) → AreAll (λ n. (n < i + 1) × P n) numbers
  AreAll-not not_here = record {
    rising = all.rising;
    exact = λ n. (
      (λ c. let h = (all.exact n).0 c in (omega arith, h.1)),
      (λ h. ⊎_elim (λ lt. (all.exact n).1 (lt, h.1)) (λ ge. let e : n ≡ i = omega arith in absurd (not_here (subst P e h.1))) (cases_lt n i)),
    );
  }

-- there is none yet
pub AreAll-none : (P : ℕ → Type 0) → AreAll (λ n. (n < 0) × P n) []
AreAll-none P = record { rising = λ i j d lt below. absurd (omega arith); exact = λ n. ((λ c. absurd (omega (arith, c.1))), (λ h. absurd (omega (arith, h.0)))) }

-- all below the end are all, where only such have the property
pub AreAll-end : (P : ℕ → Type 0) (i : ℕ) (numbers : List ℕ) → ((n : ℕ) → P n → n < i) → AreAll (λ n. (n < i) × P n) numbers → AreAll P numbers
AreAll-end P i numbers within all = record { rising = all.rising; exact = λ n. ((λ c. ((all.exact n).0 c).1), (λ h. (all.exact n).1 (within n h, h))) }

-- the next number picked: where it is the k-th, it is the answer
pub answer-push : (numbers : List ℕ) (i seen k : ℕ) (answer : Option ℕ) → length numbers ≡ seen → answer ≡ slice_get numbers k → (seen ≡ k → Some i ≡ slice_get (numbers ++ i ∷ []) k) × ((seen ≢ k) → answer ≡ slice_get (numbers ++ i ∷ []) k)
answer-push numbers i seen k answer len is = (
  (λ e. let at : length numbers ≡ k = len ∙ e in sym (subst (λ j. slice_get (numbers ++ i ∷ []) j ≡ Some i) at (slice_get-push numbers i))),
  (λ ne. is ∙ sym (slice_get-push_other numbers i k (λ e. ne (sym len ∙ sym e)))),
)

-- what is picked is a term
pub picked_term : (standing : List Done) (pick : Pick) (n : ℕ) → IsPicked standing pick n → n < length (terms_of standing)
picked_term standing (Class term symbol) n h = slice_get_within (terms_of standing) n _ h.0.1
picked_term standing (Symbol symbol) n h = slice_get_within (terms_of standing) n _ h.1
picked_term standing (Parent term symbol place) n h = slice_get_within (terms_of standing) n _ h.2

-- at first each term is its own class
pub AreSound-first : AreSound first_rows [] (0 ∷ 1 ∷ [])
AreSound-first = record { each_term = refl; derived = derived; no_later = no_later; own = own }
  where
    derived : (term : ℕ) → term < 2 → Derives first_rows [] (label_of (0 ∷ 1 ∷ []) term) term
    derived zero h = same_term (omega arith)
    derived (suc zero) h = same_term (omega arith)
    derived (suc (suc term)) h = absurd (omega arith)

    no_later : (term : ℕ) → term < 2 → label_of (0 ∷ 1 ∷ []) term ≤ term
    no_later zero h = omega arith
    no_later (suc zero) h = omega arith
    no_later (suc (suc term)) h = absurd (omega arith)

    own : (term : ℕ) → term < 2 → label_of (0 ∷ 1 ∷ []) (label_of (0 ∷ 1 ∷ []) term) ≡ label_of (0 ∷ 1 ∷ []) term
    own zero h = refl
    own (suc zero) h = refl
    own (suc (suc term)) h = absurd (omega arith)
