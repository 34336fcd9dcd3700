-- Labels that are closed under the rules hold exactly the derivable equations.
use Rattle.std.proofs.Common.{◌≡◌, ◌≢◌, ℕ, zero, suc, ◌+◌, ◌<◌, ◌≤◌, min, max, List, [], ◌∷◌, ◌++◌, append-nil, length, map, sum, cond, All, Option, Some, None, IfSome, refl, sym, ap, ap₂, subst, ◌∙◌, ⊎_elim, arith}
use Rattle.std.proofs.lemmas.Bool.{eq-eqb, cases_lt}
use Rattle.std.proofs.lemmas.List.Sums.{sum_by-cons}
use Rattle.std.proofs.lemmas.Bool.Decides.{eqb_tells}
use Rattle.std.proofs.lemmas.List.{get_or-map, length-map, length-append, get_or_append_left}
use Rattle.std.proofs.Math.Seq.{get_or-append_seam}
use Rattle.graph_terms.proofs.ListLaws.{slice_get-append_left}
use Rattle.std.proofs.lemmas.List.Elements.{All-head, All-tail, All-weaker, Contains-append_left}
use Rattle.std.proofs.lemmas.Option.{slice_get_within}
use Rattle.graph_terms.specs.declared.term_row.TermRow.{TermRow}
use Rattle.graph_terms.specs.Terms.{term_row, HasRow, IsTable}
use Rattle.graph_meaning.specs.Same.{Derives, same_term, turned, joined, merged, congruent, DerivesEach, none, more}
use Rattle.graph_plain.specs.Labels.{label_of, AreSound, AreMerged, AreCongruent, IsCongruentPair, AreToJoin, renamed_label, relabelled, joined_labels}

-- the arguments of a term are terms
pub args_below : {rows : List TermRow} → IsTable rows → (term : ℕ) (row : TermRow) → HasRow rows term row → All (λ arg. arg < length rows) row.args
args_below {rows} table term row has = let below = slice_get_within rows term row has in All-weaker (λ arg. arg < term) (λ arg. arg < length rows) (λ arg h. omega arith) row.args (table.earlier term row has)

module _ {rows : List TermRow} {merges : List (ℕ × ℕ)} (labels : List ℕ) (all_merged : AreMerged merges labels) (all_congruent : AreCongruent rows labels) where
  mutual
    -- what is derived has one label
    pub one_label : {s t : ℕ} → Derives rows merges s t → label_of labels s ≡ label_of labels t
    one_label (same_term h) = refl
    one_label (turned d) = sym (one_label d)
    one_label (joined d e) = one_label d ∙ one_label e
    one_label (merged {s} {t} h) = all_merged s t h
    one_label (congruent {s} {t} {symbol} {ss} {ts} left right each) = all_congruent s t (symbol, ss, ts, left, right, one_label_each each)

    one_label_each : {ss ts : List ℕ} → DerivesEach rows merges ss ts → map (label_of labels) ss ≡ map (label_of labels) ts
    one_label_each none = refl
    one_label_each (more d each) = ap₂ (λ x xs. x ∷ xs) (one_label d) (one_label_each each)

module _ {rows : List TermRow} {merges : List (ℕ × ℕ)} (labels : List ℕ) (sound : AreSound rows merges labels) where
  -- terms with one label are equal
  pub derive : (s t : ℕ) → s < length rows → t < length rows → label_of labels s ≡ label_of labels t → Derives rows merges s t
  derive s t left right e = joined (turned (sound.derived s left)) (subst (λ l. Derives rows merges l t) (sym e) (sound.derived t right))

  -- and so, place by place
  derive_each : (ss ts : List ℕ) → All (λ s. s < length rows) ss → All (λ t. t < length rows) ts → map (label_of labels) ss ≡ map (label_of labels) ts → DerivesEach rows merges ss ts
  derive_each [] [] left right e = none
  derive_each [] (t ∷ ts) left right e = absurd (cc)
  derive_each (s ∷ ss) [] left right e = absurd (cc)
  derive_each (s ∷ ss) (t ∷ ts) left right e =
      let is_term : ℕ → Type 0 = λ x. x < length rows in
      more (derive s t (All-head is_term s ss left) (All-head is_term t ts right) cc) (derive_each ss ts (All-tail is_term s ss left) (All-tail is_term t ts right) cc)

  -- a congruent pair is equal
  pub derive_congruent : IsTable rows → (s t : ℕ) → IsCongruentPair rows labels s t → Derives rows merges s t
  derive_congruent table s t p =
      congruent p.3 p.4 (derive_each p.1 p.2 (args_below table s (term_row p.0 p.1) p.3) (args_below table t (term_row p.0 p.2) p.4) p.5)

-- where one label takes the place of a later one
module _ {rows : List TermRow} {merges : List (ℕ × ℕ)} (labels : List ℕ) (sound : AreSound rows merges labels) (gone kept : ℕ) where
  renamed_cases : (label : ℕ) {P : Type 0} → (label ≡ gone → renamed_label gone kept label ≡ kept → P) → (label ≢ gone → renamed_label gone kept label ≡ label → P) → P
  renamed_cases label is other = ⊎_elim (λ h. is h.1 (ap (λ b. cond b kept label) h.0)) (λ h. other h.1 (ap (λ b. cond b kept label) h.0)) (eqb_tells label gone)

  -- the label of a term afterwards
  pub label_of-relabelled : (term : ℕ) → term < length labels → label_of (relabelled gone kept labels) term ≡ renamed_label gone kept (label_of labels term)
  label_of-relabelled term below = get_or-map (renamed_label gone kept) labels term 0 0 below

  module _ (below : kept < gone) (kept_own : label_of labels kept ≡ kept) (kept_term : kept < length rows) (equal : Derives rows merges kept gone) where
    new_label : (term : ℕ) → term < length rows → label_of (relabelled gone kept labels) term ≡ renamed_label gone kept (label_of labels term)
    new_label term h = label_of-relabelled term (omega (arith, sound.each_term))

    derived : (term : ℕ) → term < length rows → Derives rows merges (label_of (relabelled gone kept labels) term) term
    derived term h = subst (λ l. Derives rows merges l term) (sym (new_label term h))
        (renamed_cases (label_of labels term)
        (λ is e. subst (λ l. Derives rows merges l term) (sym e) (joined equal (subst (λ l. Derives rows merges l term) is (sound.derived term h))))
        (λ _ e. subst (λ l. Derives rows merges l term) (sym e) (sound.derived term h)))

    no_later : (term : ℕ) → term < length rows → label_of (relabelled gone kept labels) term ≤ term
    no_later term h =
        let old = sound.no_later term h in
        let new = new_label term h in
        renamed_cases (label_of labels term) (λ is e. omega arith) (λ _ e. omega arith)

    own : (term : ℕ) → term < length rows → label_of (relabelled gone kept labels) (label_of (relabelled gone kept labels) term) ≡ label_of (relabelled gone kept labels) term
    own term h =
        let label = label_of (relabelled gone kept labels) in
        let old = sound.no_later term h in
        let at_kept : label kept ≡ kept = new_label kept kept_term ∙ ap (renamed_label gone kept) kept_own ∙ renamed_cases kept (λ is e. e) (λ _ e. e) in
        renamed_cases (label_of labels term)
        (λ is e. let new : label term ≡ kept = new_label term h ∙ e in ap label new ∙ at_kept ∙ sym new)
        (λ other e.
        let new : label term ≡ label_of labels term = new_label term h ∙ e in
        ap label new ∙ new_label (label_of labels term) (omega arith) ∙ ap (renamed_label gone kept) (sound.own term h) ∙ e ∙ sym new)

    pub AreSound-relabelled : AreSound rows merges (relabelled gone kept labels)
    AreSound-relabelled = record { each_term = length-map labels (renamed_label gone kept) ∙ sound.each_term; derived = derived; no_later = no_later; own = own }

-- a label that is renamed becomes smaller or stays
renamed-le : (gone kept label : ℕ) → kept < gone → renamed_label gone kept label ≤ label
renamed-le gone kept label below =
    ⊎_elim (λ h. let e : renamed_label gone kept label ≡ kept = ap (λ b. cond b kept label) h.0 in let is : label ≡ gone = h.1 in omega arith)
    (λ h. let e : renamed_label gone kept label ≡ label = ap (λ b. cond b kept label) h.0 in omega arith)
    (eqb_tells label gone)

-- relabelling makes no label greater
sum-relabelled-le : (gone kept : ℕ) (labels : List ℕ) → kept < gone → sum (relabelled gone kept labels) ≤ sum labels
sum-relabelled-le gone kept [] below = omega arith
sum-relabelled-le gone kept (label ∷ labels) below =
    let rest = sum-relabelled-le gone kept labels below in
    let first = renamed-le gone kept label below in
    let new : sum (relabelled gone kept (label ∷ labels)) ≡ renamed_label gone kept label + sum (relabelled gone kept labels) = sum_by-cons (λ x. x) (renamed_label gone kept label) (relabelled gone kept labels) in
    let old : sum (label ∷ labels) ≡ label + sum labels = sum_by-cons (λ x. x) label labels in
    omega arith

-- and one smaller, where the label that is gone was there
pub sum-relabelled : (gone kept : ℕ) (labels : List ℕ) (term : ℕ) → kept < gone → term < length labels → label_of labels term ≡ gone → sum (relabelled gone kept labels) < sum labels
sum-relabelled gone kept [] term below within there = absurd (omega arith)
sum-relabelled gone kept (label ∷ labels) zero below within there =
    let rest = sum-relabelled-le gone kept labels below in
    let first : renamed_label gone kept label ≡ kept = ap (λ b. cond b kept label) (eq-eqb label gone there) in
    let is : label ≡ gone = there in
    let new : sum (relabelled gone kept (label ∷ labels)) ≡ renamed_label gone kept label + sum (relabelled gone kept labels) = sum_by-cons (λ x. x) (renamed_label gone kept label) (relabelled gone kept labels) in
    let old : sum (label ∷ labels) ≡ label + sum labels = sum_by-cons (λ x. x) label labels in
    omega arith
sum-relabelled gone kept (label ∷ labels) (suc term) below within there =
    let rest = sum-relabelled gone kept labels term below (omega arith) there in
    let first = renamed-le gone kept label below in
    let new : sum (relabelled gone kept (label ∷ labels)) ≡ renamed_label gone kept label + sum (relabelled gone kept labels) = sum_by-cons (λ x. x) (renamed_label gone kept label) (relabelled gone kept labels) in
    let old : sum (label ∷ labels) ≡ label + sum labels = sum_by-cons (λ x. x) label labels in
    omega arith

module _ {rows : List TermRow} {merges : List (ℕ × ℕ)} (labels : List ℕ) (sound : AreSound rows merges labels) (s t : ℕ) (to_join : AreToJoin rows merges labels s t) where
  -- the labels of the two, and what is known of them
  own_term : (term : ℕ) → term < length rows → label_of labels term < length rows
  own_term term h = let le = sound.no_later term h in omega arith

  labels_equal : Derives rows merges (label_of labels s) (label_of labels t)
  labels_equal = joined (sound.derived s to_join.left) (joined to_join.derived (turned (sound.derived t to_join.right)))

  -- the two labels in order
  in_order : {P : Type 0} → (label_of labels s < label_of labels t → joined_labels (label_of labels s) (label_of labels t) labels ≡ relabelled (label_of labels t) (label_of labels s) labels → P)
      → (label_of labels t < label_of labels s → joined_labels (label_of labels s) (label_of labels t) labels ≡ relabelled (label_of labels s) (label_of labels t) labels → P) → P
  in_order before after =
      let a = label_of labels s in
      let b = label_of labels t in
      let apart : a ≢ b = to_join.apart in
      ⊎_elim
      (λ lt. let most : max a b ≡ b = omega arith in let least : min a b ≡ a = omega arith in before lt (ap₂ (λ gone kept. relabelled gone kept labels) most least))
      (λ ge. let most : max a b ≡ a = omega arith in let least : min a b ≡ b = omega arith in after (omega arith) (ap₂ (λ gone kept. relabelled gone kept labels) most least))
      (cases_lt a b)

  -- soundness is kept where two terms are joined
  pub AreSound-joined : AreSound rows merges (joined_labels (label_of labels s) (label_of labels t) labels)
  AreSound-joined = in_order
      (λ before e. subst (AreSound rows merges) (sym e) (AreSound-relabelled labels sound (label_of labels t) (label_of labels s) before (sound.own s to_join.left) (own_term s to_join.left) labels_equal))
      (λ after e. subst (AreSound rows merges) (sym e) (AreSound-relabelled labels sound (label_of labels s) (label_of labels t) after (sound.own t to_join.right) (own_term t to_join.right) (turned labels_equal)))

  -- and the sum of the labels falls
  pub sum-joined : sum (joined_labels (label_of labels s) (label_of labels t) labels) < sum labels
  sum-joined = in_order
      (λ before e. let falls = sum-relabelled (label_of labels t) (label_of labels s) labels t before (omega (arith, sound.each_term, to_join.right)) refl in omega (arith, ap sum e))
      (λ after e. let falls = sum-relabelled (label_of labels s) (label_of labels t) labels s after (omega (arith, sound.each_term, to_join.left)) refl in omega (arith, ap sum e))

-- terms that were found congruent are to be joined
pub to_join-found : {rows : List TermRow} {merges : List (ℕ × ℕ)} (labels : List ℕ) → AreSound rows merges labels → IsTable rows → (found : Option (ℕ × ℕ))
    → IfSome found (λ p. IsCongruentPair rows labels p.0 p.1) → IfSome found (λ p. label_of labels p.0 ≢ label_of labels p.1) → IfSome found (λ p. p.0 < length rows) → IfSome found (λ p. p.1 < length rows)
    → IfSome found (λ p. AreToJoin rows merges labels p.0 p.1)
to_join-found labels sound table None pair apart left right = tt
to_join-found labels sound table (Some p) pair apart left right = record { left = left; right = right; derived = derive_congruent labels sound table p.0 p.1 pair; apart = apart }

module _ {rows : List TermRow} {merges : List (ℕ × ℕ)} (more_rows : List TermRow) (more_merges : List (ℕ × ℕ)) where
  mutual
    -- what is derived stays so when more comes
    pub derives_more : {s t : ℕ} → Derives rows merges s t → Derives (rows ++ more_rows) (merges ++ more_merges) s t
    derives_more (same_term h) = same_term (omega (arith, length-append rows more_rows))
    derives_more (turned d) = turned (derives_more d)
    derives_more (joined d e) = joined (derives_more d) (derives_more e)
    derives_more (merged {s} {t} h) = merged (Contains-append_left merges more_merges (s, t) h)
    derives_more (congruent {s} {t} {symbol} {ss} {ts} left right each) =
        congruent (slice_get-append_left rows more_rows s (term_row symbol ss) left) (slice_get-append_left rows more_rows t (term_row symbol ts) right) (derives_each_more each)

    derives_each_more : {ss ts : List ℕ} → DerivesEach rows merges ss ts → DerivesEach (rows ++ more_rows) (merges ++ more_merges) ss ts
    derives_each_more none = none
    derives_each_more (more d each) = more (derives_more d) (derives_each_more each)

-- labels stay sound when an equation comes
pub AreSound-merges : (rows : List TermRow) (merges more_merges : List (ℕ × ℕ)) (labels : List ℕ) → AreSound rows merges labels → AreSound rows (merges ++ more_merges) labels
AreSound-merges rows merges more_merges labels sound = record {
  each_term = sound.each_term;
  derived = λ term h. subst (λ r. Derives r (merges ++ more_merges) (label_of labels term) term) (append-nil rows) (derives_more [] more_merges (sound.derived term h));
  no_later = sound.no_later;
  own = sound.own;
}

-- and when a term comes, with itself as its label
pub AreSound-row : (rows : List TermRow) (row : TermRow) (merges : List (ℕ × ℕ)) (labels : List ℕ) → AreSound rows merges labels → AreSound (rows ++ row ∷ []) merges (labels ++ length rows ∷ [])
AreSound-row rows row merges labels sound = record {
  each_term = length-append labels (length rows ∷ []) ∙ ap (λ n. n + 1) sound.each_term ∙ sym (length-append rows (row ∷ []));
  derived = λ term h. cases term h
      (λ below e. subst (λ l. Derives new_rows merges l term) (sym e) (subst (λ m. Derives new_rows m (label_of labels term) term) (append-nil merges) (derives_more (row ∷ []) [] (sound.derived term below))))
      (λ is e. subst (λ l. Derives new_rows merges l term) (sym (e ∙ sym is)) (same_term h));
  no_later = λ term h. cases term h (λ below e. let old = sound.no_later term below in omega arith) (λ is e. omega arith);
  own = λ term h. cases term h
      (λ below e. let old = sound.no_later term below in ap new_label e ∙ old_label (label_of labels term) (omega arith) ∙ sound.own term below ∙ sym e)
      (λ is e. ap new_label (e ∙ sym is));
}
  where
    new_rows : List TermRow
    new_rows = rows ++ row ∷ []

    new_label : ℕ → ℕ
    new_label = label_of (labels ++ length rows ∷ [])

    old_label : (term : ℕ) → term < length rows → new_label term ≡ label_of labels term
    old_label term below = get_or_append_left labels (length rows ∷ []) 0 term (omega (arith, sound.each_term))

    last_label : (term : ℕ) → term ≡ length rows → new_label term ≡ length rows
    last_label term is = ap new_label (is ∙ sym sound.each_term) ∙ get_or-append_seam labels (length rows) [] 0

    cases : (term : ℕ) {P : Type 0} → term < length new_rows → (term < length rows → new_label term ≡ label_of labels term → P) → (term ≡ length rows → new_label term ≡ length rows → P) → P
    cases term h old last = ⊎_elim (λ below. old below (old_label term below)) (λ past. let is : term ≡ length rows = omega (arith, length-append rows (row ∷ [])) in last is (last_label term is)) (cases_lt term (length rows))
