-- That the least congruence can be told, and has leaders.
use Rattle.std.proofs.Common.{◌≡◌, ◌≢◌, ℕ, zero, suc, ◌+◌, ◌<◌, ◌≤◌, ◌⊎◌, List, [], ◌∷◌, length, map, cond, eqb, All, Some, slice_get, refl, sym, ap, ap₂, subst, ◌∙◌, inl, inr, ⊎_elim, arith}
use Rattle.std.proofs.lemmas.Bool.{cases_lt, cases_eq}
use Rattle.std.proofs.lemmas.Bool.Decides.{eqb_tells}
use Rattle.std.proofs.lemmas.List.Elements.{All-head, All-tail, All-weaker}
use Rattle.std.proofs.lemmas.Option.{same_Some, slice_get_within}
use Rattle.graph_terms.proofs.ListLaws.{element_at, place_from_Contains, Contains-slice_get}
use Rattle.graph_terms.specs.declared.term_row.TermRow.{TermRow}
use Rattle.graph_terms.specs.Terms.{term_row, HasRow, IsTable}
use Rattle.graph_meaning.specs.Lawful.{EndsBelow}
use Rattle.graph_meaning.specs.Same.{Derives, same_term, turned, joined, merged, congruent, DerivesEach, none, more}
use Rattle.match_laws.specs.StepLaw.{Decided}

-- at one place below the bound the first, or at each the second
pub all_or : {A : Type 0} (B : ℕ → Type 0) (n : ℕ) → ((k : ℕ) → k < n → A ⊎ B k) → A ⊎ ((k : ℕ) → k < n → B k)
all_or B zero each = inr (λ k lt. absurd (omega arith))
all_or B (suc n) each =
    ⊎_elim inl
    (λ below. ⊎_elim inl (λ last. inr (λ k lt. ⊎_elim (λ less. below k less) (λ not_less. let is : n ≡ k = omega arith in subst B is last) (cases_lt k n))) (each n (omega arith)))
    (all_or B n (λ k lt. each k (omega arith)))

pub decide_lists : (xs ys : List ℕ) → Decided (xs ≡ ys)
decide_lists [] [] = inl refl
decide_lists [] (y ∷ ys) = inr (λ e. absurd cc)
decide_lists (x ∷ xs) [] = inr (λ e. absurd cc)
decide_lists (x ∷ xs) (y ∷ ys) = ⊎_elim (λ e. ⊎_elim (λ f. inl (ap₂ (λ z zs. z ∷ zs) e f)) (λ apart. inr (λ h. apart cc)) (decide_lists xs ys)) (λ apart. inr (λ h. apart cc)) (cases_eq x y)

-- the sum of the labels of the first terms
abbrev total : (ℕ → ℕ) → ℕ → ℕ
total g zero = 0
total g (suc n) = total g n + g n

total-le : (g h : ℕ → ℕ) (n : ℕ) → ((x : ℕ) → h x ≤ g x) → total h n ≤ total g n
total-le g h zero le = omega arith
total-le g h (suc n) le = let rest = total-le g h n le in let last = le n in omega arith

total-lt : (g h : ℕ → ℕ) (n k : ℕ) → ((x : ℕ) → h x ≤ g x) → k < n → h k < g k → total h n < total g n
total-lt g h zero k le lt less = absurd (omega arith)
total-lt g h (suc n) k le lt less =
    ⊎_elim (λ below. let rest = total-lt g h n k le below less in let last = le n in omega arith) (λ past. let is : k ≡ n = omega arith in let last : h n < g n = subst (λ m. h m < g m) is less in let rest = total-le g h n le in omega arith) (cases_lt k n)

-- the label in place of this one, where one of two is gone
abbrev renamed : ℕ → ℕ → (ℕ → ℕ) → ℕ → ℕ
renamed gone kept g x = cond (eqb (g x) gone) kept (g x)

module _ (gone kept : ℕ) (g : ℕ → ℕ) (x : ℕ) where
  renamed_cases : {P : Type 0} → (g x ≡ gone → renamed gone kept g x ≡ kept → P) → (g x ≢ gone → renamed gone kept g x ≡ g x → P) → P
  renamed_cases is other = ⊎_elim (λ h. is h.1 (ap (λ b. cond b kept (g x)) h.0)) (λ h. other h.1 (ap (λ b. cond b kept (g x)) h.0)) (eqb_tells (g x) gone)

module _ {rows : List TermRow} {merges : List (ℕ × ℕ)} where
  -- what is derived are terms
  pub derived_terms : EndsBelow merges (length rows) → {s t : ℕ} → Derives rows merges s t → (s < length rows) × (t < length rows)
  derived_terms ends (same_term h) = (h, h)
  derived_terms ends (turned d) = let h = derived_terms ends d in (h.1, h.0)
  derived_terms ends (joined d e) = ((derived_terms ends d).0, (derived_terms ends e).1)
  derived_terms ends (merged {s} {t} h) = ends s t h
  derived_terms ends (congruent {s} {t} {symbol} {ss} {ts} left right each) = (slice_get_within rows s (term_row symbol ss) left, slice_get_within rows t (term_row symbol ts) right)

-- each label is an equal term that is no later
record AreLabels (rows : List TermRow) (merges : List (ℕ × ℕ)) (g : ℕ → ℕ) : Type 0 where
  pub derived : (t : ℕ) → t < length rows → Derives rows merges (g t) t
  pub no_later : (t : ℕ) → g t ≤ t

-- two terms are equal, and have two labels
record AreApart (rows : List TermRow) (merges : List (ℕ × ℕ)) (g : ℕ → ℕ) : Type 0 where
  pub s : ℕ
  pub t : ℕ
  pub left : s < length rows
  pub right : t < length rows
  pub equal : Derives rows merges s t
  pub apart : g s ≢ g t

-- equal labels are closed under the equations and congruence
record AreClosed (rows : List TermRow) (merges : List (ℕ × ℕ)) (g : ℕ → ℕ) : Type 0 where
  pub merge : (k : ℕ) → k < length merges → (p : ℕ × ℕ) → slice_get merges k ≡ Some p → g p.0 ≡ g p.1
  pub congruence : (s : ℕ) → s < length rows → (t : ℕ) → t < length rows → (row other : TermRow) → HasRow rows s row → HasRow rows t other → row.symbol ≡ other.symbol → map g row.args ≡ map g other.args → g s ≡ g t

module _ {rows : List TermRow} {merges : List (ℕ × ℕ)} {g : ℕ → ℕ} (closed : AreClosed rows merges g) where
  mutual
    one_label : {s t : ℕ} → Derives rows merges s t → g s ≡ g t
    one_label (same_term h) = refl
    one_label (turned d) = sym (one_label d)
    one_label (joined d e) = one_label d ∙ one_label e
    one_label (merged {s} {t} h) = let at = place_from_Contains merges (s, t) h in closed.merge at.0 (slice_get_within merges at.0 (s, t) at.1) (s, t) at.1
    one_label (congruent {s} {t} {symbol} {ss} {ts} left right each) =
        closed.congruence s (slice_get_within rows s (term_row symbol ss) left) t (slice_get_within rows t (term_row symbol ts) right) (term_row symbol ss) (term_row symbol ts) left right refl (one_label_each each)

    one_label_each : {ss ts : List ℕ} → DerivesEach rows merges ss ts → map g ss ≡ map g ts
    one_label_each none = refl
    one_label_each (more d each) = ap₂ (λ x xs. x ∷ xs) (one_label d) (one_label_each each)

module _ {rows : List TermRow} {merges : List (ℕ × ℕ)} {g : ℕ → ℕ} (sound : AreLabels rows merges g) where
  derive : (s t : ℕ) → s < length rows → t < length rows → g s ≡ g t → Derives rows merges s t
  derive s t left right e = joined (turned (sound.derived s left)) (subst (λ l. Derives rows merges l t) (sym e) (sound.derived t right))

  derive_each : (ss ts : List ℕ) → All (λ s. s < length rows) ss → All (λ t. t < length rows) ts → map g ss ≡ map g ts → DerivesEach rows merges ss ts
  derive_each [] [] left right e = none
  derive_each [] (t ∷ ts) left right e = absurd cc
  derive_each (s ∷ ss) [] left right e = absurd cc
  derive_each (s ∷ ss) (t ∷ ts) left right e =
      let is_term : ℕ → Type 0 = λ x. x < length rows in
      more (derive s t (All-head is_term s ss left) (All-head is_term t ts right) cc) (derive_each ss ts (All-tail is_term s ss left) (All-tail is_term t ts right) cc)

  module _ (gone kept : ℕ) (below : kept < gone) (equal : Derives rows merges kept gone) where
    rename_labels : AreLabels rows merges (renamed gone kept g)
    rename_labels = record {
      derived = λ t h. renamed_cases gone kept g t
          (λ is e. subst (λ l. Derives rows merges l t) (sym e) (joined equal (subst (λ l. Derives rows merges l t) is (sound.derived t h))))
          (λ _ e. subst (λ l. Derives rows merges l t) (sym e) (sound.derived t h));
      no_later = λ t. let old = sound.no_later t in renamed_cases gone kept g t (λ is e. omega arith) (λ _ e. omega arith);
    }

    renamed-le : (x : ℕ) → renamed gone kept g x ≤ g x
    renamed-le x = renamed_cases gone kept g x (λ is e. omega arith) (λ _ e. omega arith)

    renamed-lt : (x : ℕ) → g x ≡ gone → renamed gone kept g x < g x
    renamed-lt x is = renamed_cases gone kept g x (λ same e. omega arith) (λ other e. absurd (other is))

-- the arguments of a term are terms
pub args_below : {rows : List TermRow} → IsTable rows → (term : ℕ) (row : TermRow) → HasRow rows term row → All (λ arg. arg < length rows) row.args
args_below {rows} table term row has = let below = slice_get_within rows term row has in All-weaker (λ arg. arg < term) (λ arg. arg < length rows) (λ arg h. omega arith) row.args (table.earlier term row has)

module _ {rows : List TermRow} {merges : List (ℕ × ℕ)} (table : IsTable rows) (ends : EndsBelow merges (length rows)) where
  module _ (g : ℕ → ℕ) (sound : AreLabels rows merges g) where
    look_at_merge : (k : ℕ) → k < length merges → AreApart rows merges g ⊎ ((p : ℕ × ℕ) → slice_get merges k ≡ Some p → g p.0 ≡ g p.1)
    look_at_merge k lt =
        let there = element_at merges k lt in
        let pair = there.0 in
        let has = Contains-slice_get merges k pair there.1 in
        let within = ends pair.0 pair.1 has in
        ⊎_elim (λ e. inr (λ p at. subst (λ (q : ℕ × ℕ). g q.0 ≡ g q.1) (same_Some pair p (sym there.1 ∙ at)) e))
        (λ apart. inl (record { s = pair.0; t = pair.1; left = within.0; right = within.1; equal = merged has; apart = apart }))
        (cases_eq (g pair.0) (g pair.1))

    look_at_pair : (s : ℕ) → s < length rows → (t : ℕ) → t < length rows → AreApart rows merges g ⊎ ((row other : TermRow) → HasRow rows s row → HasRow rows t other → row.symbol ≡ other.symbol → map g row.args ≡ map g other.args → g s ≡ g t)
    look_at_pair s left t right =
        let s_row = element_at rows s left in
        let t_row = element_at rows t right in
        ⊎_elim (λ e. inr (λ row other at_s at_t symbols args. e))
        (λ apart. ⊎_elim (λ symbols. ⊎_elim
        (λ args. inl (record { s = s; t = t; left = left; right = right; apart = apart; equal = congruent {symbol = s_row.0.symbol} s_row.1 (subst (λ f. HasRow rows t (term_row f t_row.0.args)) (sym symbols) t_row.1) (derive_each sound s_row.0.args t_row.0.args (args_below table s s_row.0 s_row.1) (args_below table t t_row.0 t_row.1) args) }))
        (λ args. inr (λ row other at_s at_t _ is. absurd (args (ap (λ r. map g r.args) (same_Some s_row.0 row (sym s_row.1 ∙ at_s)) ∙ is ∙ ap (λ r. map g r.args) (same_Some other t_row.0 (sym at_t ∙ t_row.1))))))
        (decide_lists (map g s_row.0.args) (map g t_row.0.args)))
        (λ symbols. inr (λ row other at_s at_t is _. absurd (symbols (ap (λ r. r.symbol) (same_Some s_row.0 row (sym s_row.1 ∙ at_s)) ∙ is ∙ ap (λ r. r.symbol) (same_Some other t_row.0 (sym at_t ∙ t_row.1))))))
        (cases_eq s_row.0.symbol t_row.0.symbol))
        (cases_eq (g s) (g t))

    look : AreApart rows merges g ⊎ AreClosed rows merges g
    look = ⊎_elim inl (λ merge. ⊎_elim inl (λ congruence. inr (record { merge = merge; congruence = congruence }))
        (all_or _ (length rows) (λ s left. all_or _ (length rows) (look_at_pair s left))))
        (all_or _ (length merges) look_at_merge)

    -- two terms that are equal get one label, and the labels fall
    join : AreApart rows merges g → (h : ℕ → ℕ) × AreLabels rows merges h × (total h (length rows) < total g (length rows))
    join found =
        let equal : Derives rows merges (g found.s) (g found.t) = joined (sound.derived found.s found.left) (joined found.equal (turned (sound.derived found.t found.right))) in
        ⊎_elim
        (λ less. (renamed (g found.t) (g found.s) g, rename_labels sound (g found.t) (g found.s) less equal, total-lt g _ (length rows) found.t (renamed-le sound (g found.t) (g found.s) less equal) found.right (renamed-lt sound (g found.t) (g found.s) less equal found.t refl)))
        (λ not_less. let apart = found.apart in let less : g found.t < g found.s = omega arith in
        (renamed (g found.s) (g found.t) g, rename_labels sound (g found.s) (g found.t) less (turned equal), total-lt g _ (length rows) found.s (renamed-le sound (g found.s) (g found.t) less (turned equal)) found.left (renamed-lt sound (g found.s) (g found.t) less (turned equal) found.s refl)))
        (cases_lt (g found.s) (g found.t))

  close : (fuel : ℕ) (g : ℕ → ℕ) → AreLabels rows merges g → total g (length rows) ≤ fuel → (h : ℕ → ℕ) × AreLabels rows merges h × AreClosed rows merges h
  close zero g sound few = ⊎_elim (λ found. let next = join g sound found in absurd (let less = next.2 in omega arith)) (λ closed. (g, sound, closed)) (look g sound)
  close (suc fuel) g sound few = ⊎_elim (λ found. let next = join g sound found in close fuel next.0 next.1 (let less = next.2 in omega arith)) (λ closed. (g, sound, closed)) (look g sound)

  closed_labels : (h : ℕ → ℕ) × AreLabels rows merges h × AreClosed rows merges h
  closed_labels = close (total (λ x. x) (length rows)) (λ x. x) (record { derived = λ t h. same_term h; no_later = λ t. omega arith }) (omega arith)

  -- whether two terms are equal can be told
  pub decide_same : (s t : ℕ) → Decided (Derives rows merges s t)
  decide_same s t =
      let labels = closed_labels in
      ⊎_elim
      (λ left. ⊎_elim
      (λ right. ⊎_elim (λ e. inl (derive labels.1 s t left right e)) (λ apart. inr (λ d. apart (one_label labels.2 d))) (cases_eq (labels.0 s) (labels.0 t)))
      (λ past. inr (λ d. let h = derived_terms ends d in absurd (omega (arith, h.1))))
      (cases_lt t (length rows)))
      (λ past. inr (λ d. let h = derived_terms ends d in absurd (omega (arith, h.0))))
      (cases_lt s (length rows))

  -- and each term has a leader
  pub leader_of : (t : ℕ) → t < length rows → (l : ℕ) × Derives rows merges l t × ((u : ℕ) → Derives rows merges u t → l ≤ u)
  leader_of t h =
      let labels = closed_labels in
      (labels.0 t, labels.1.derived t h, λ u d. let e = one_label labels.2 d in let le = labels.1.no_later u in omega arith)
