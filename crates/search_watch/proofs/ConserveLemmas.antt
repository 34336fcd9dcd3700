-- Terms that come last make no terms equal that stood before.
use Rattle.std.proofs.Common.{zero, suc, ◌≡◌, ◌<◌, ◌≤◌, ◌+◌, ◌⊎◌, inl, inr, ℕ, List, [], ◌∷◌, ◌++◌, length, slice_get, Some, Contains, All, refl, sym, ◌∙◌, ap, subst, arith, append_assoc, append-nil, length-append}
use Rattle.std.proofs.lemmas.List.Elements.{All-head, All-tail, All-weaker}
use Rattle.std.proofs.lemmas.Option.{slice_get_within}
use Rattle.graph_terms.specs.declared.term_row.TermRow.{TermRow}
use Rattle.graph_terms.specs.Terms.{term_row, HasRow}
use Rattle.graph_meaning.specs.Lawful.{EndsBelow}
use Rattle.graph_meaning.specs.Same.{Derives, DerivesEach, same_term, turned, joined, merged, congruent, none, more}

-- arguments are earlier terms
abbrev pub AreEarlier : List TermRow → Type 0
AreEarlier rows = (term : ℕ) (row : TermRow) → HasRow rows term row → All (λ arg. arg < term) row.args

-- ---- rows and the last one

row_stays : (rows later : List TermRow) (term : ℕ) (row : TermRow) → HasRow rows term row → HasRow (rows ++ later) term row
row_stays [] later term row has = cc
row_stays (r ∷ rows) later zero row has = has
row_stays (r ∷ rows) later (suc term) row has = row_stays rows later term row has

last_row : (rows : List TermRow) (row : TermRow) → HasRow (rows ++ row ∷ []) (length rows) row
last_row [] row = refl
last_row (r ∷ rows) row = last_row rows row

row_cases : (rows : List TermRow) (last : TermRow) (term : ℕ) (row : TermRow) → HasRow (rows ++ last ∷ []) term row → HasRow rows term row ⊎ ((term ≡ length rows) × (last ≡ row))
row_cases [] last zero row has = inr (refl, some_is has)
  where
    some_is : Some last ≡ Some row → last ≡ row
    some_is e = cc
row_cases [] last (suc term) row has = cc
row_cases (r ∷ rows) last zero row has = inl has
row_cases (r ∷ rows) last (suc term) row has = elim (row_cases rows last term row has) [
  | inl old ↦ inl old
  | inr both ↦ inr (ap suc both.0, both.1)
]

-- ---- derivations

within : (rows : List TermRow) (merges : List (ℕ × ℕ)) → EndsBelow merges (length rows) → {s t : ℕ} → Derives rows merges s t → (s < length rows) × (t < length rows)
within rows merges ends (same_term h) = (h, h)
within rows merges ends (turned d) = let h = within rows merges ends d in (h.1, h.0)
within rows merges ends (joined d e) = ((within rows merges ends d).0, (within rows merges ends e).1)
within rows merges ends (merged {s} {t} h) = ends s t h
within rows merges ends (congruent {s} {t} {symbol} {ss} {ts} left right each) = (slice_get_within rows s _ left, slice_get_within rows t _ right)

turned_each : {rows : List TermRow} {merges : List (ℕ × ℕ)} {ss ts : List ℕ} → DerivesEach rows merges ss ts → DerivesEach rows merges ts ss
turned_each none = none
turned_each (more d rest) = more (turned d) (turned_each rest)

joined_each : {rows : List TermRow} {merges : List (ℕ × ℕ)} {ss ts us : List ℕ} → DerivesEach rows merges ss ts → DerivesEach rows merges ts us → DerivesEach rows merges ss us
joined_each none none = none
joined_each (more d rest) (more e others) = more (joined d e) (joined_each rest others)

-- what is derived stays so with more rows
module _ (rows later : List TermRow) (merges : List (ℕ × ℕ)) where
  mutual
    pub still : {s t : ℕ} → Derives rows merges s t → Derives (rows ++ later) merges s t
    still (same_term h) = same_term (omega (arith, h, length-append rows later))
    still (turned d) = turned (still d)
    still (joined d e) = joined (still d) (still e)
    still (merged on) = merged on
    still (congruent {s} {t} {symbol} {ss} {ts} left right each) = congruent (row_stays rows later s (term_row symbol ss) left) (row_stays rows later t (term_row symbol ts) right) (still_each each)

    still_each : {ss ts : List ℕ} → DerivesEach rows merges ss ts → DerivesEach (rows ++ later) merges ss ts
    still_each none = none
    still_each (more d rest) = more (still d) (still_each rest)

-- ---- one term more

module _ (rows : List TermRow) (last : TermRow) (merges : List (ℕ × ℕ)) (ends : EndsBelow merges (length rows)) (earlier : AreEarlier (rows ++ last ∷ [])) where
  -- an old term that is equal to the term: for the last one such a term has an old row that is congruent to its row
  data StandsFor : ℕ → ℕ → Type 0 where
    old : {s j : ℕ} → Derives rows merges s j → StandsFor s j
    new : {s j k : ℕ} {ks : List ℕ} → s ≡ length rows → HasRow rows k (term_row last.symbol ks) → DerivesEach rows merges last.args ks → Derives rows merges k j → StandsFor s j

  move : {s j k : ℕ} → StandsFor s j → Derives rows merges j k → StandsFor s k
  move (old d) e = old (joined d e)
  move (new at has each d) e = new at has each (joined d e)

  one_class : {s j k : ℕ} → StandsFor s j → StandsFor s k → Derives rows merges j k
  one_class (old d) (old e) = joined (turned d) e
  one_class (old d) (new at has each e) = absurd (omega (arith, at, (within rows merges ends d).0))
  one_class (new at has each d) (old e) = absurd (omega (arith, at, (within rows merges ends e).0))
  one_class (new at has each d) (new at' has' each' e) = joined (turned d) (joined (congruent has has' (joined_each (turned_each each) each')) e)

  -- both are the last one, or an old term is equal to both
  abbrev Related : ℕ → ℕ → Type 0
  Related s t = ((s ≡ length rows) × (t ≡ length rows)) ⊎ ((j : ℕ) × StandsFor s j × StandsFor t j)

  turned_related : {s t : ℕ} → Related s t → Related t s
  turned_related (inl both) = inl (both.1, both.0)
  turned_related (inr (j, a, b)) = inr (j, b, a)

  joined_related : {s t u : ℕ} → Related s t → Related t u → Related s u
  joined_related (inl both) (inl both') = inl (both.0, both'.1)
  joined_related (inl both) (inr (j, a, b)) = inr (j, subst (λ (x : ℕ). StandsFor x j) (both.1 ∙ sym both.0) a, b)
  joined_related (inr (j, a, b)) (inl both) = inr (j, a, subst (λ (x : ℕ). StandsFor x j) (both.0 ∙ sym both.1) b)
  joined_related (inr (j, a, b)) (inr (k, c, d)) = inr (j, a, move d (one_class c b))

  old_for : {s j : ℕ} → s < length rows → StandsFor s j → Derives rows merges s j
  old_for lt (old d) = d
  old_for lt (new at has each d) = absurd (omega (arith, at, lt))

  -- old terms that are related were equal
  related_old : {s t : ℕ} → s < length rows → t < length rows → Related s t → Derives rows merges s t
  related_old lt lt' (inl both) = absurd (omega (arith, both.0, lt))
  related_old lt lt' (inr (j, a, b)) = joined (old_for lt a) (turned (old_for lt' b))

  before_or_last : (s : ℕ) → s < length rows + 1 → (s < length rows) ⊎ (s ≡ length rows)
  before_or_last s h = search arith

  -- arguments are old terms
  args_old : (term symbol : ℕ) (args : List ℕ) → HasRow (rows ++ last ∷ []) term (term_row symbol args) → All (λ arg. arg < length rows) args
  args_old term symbol args has = below args (earlier term (term_row symbol args) has)
    where
      term_within : term < length rows + 1
      term_within = omega (arith, slice_get_within (rows ++ last ∷ []) term _ has, length-append rows (last ∷ []))

      below : (xs : List ℕ) → All (λ arg. arg < term) xs → All (λ arg. arg < length rows) xs
      below xs all = All-weaker (λ arg. arg < term) (λ arg. arg < length rows) (λ arg h. omega (arith, h, term_within)) xs all

  cases_related : (s t symbol : ℕ) (ss ts : List ℕ) → DerivesEach rows merges ss ts
      → HasRow rows s (term_row symbol ss) ⊎ ((s ≡ length rows) × (last ≡ term_row symbol ss))
      → HasRow rows t (term_row symbol ts) ⊎ ((t ≡ length rows) × (last ≡ term_row symbol ts)) → Related s t
  cases_related s t symbol ss ts each (inl left) (inl right) = inr (t, old (congruent left right each), old (same_term (slice_get_within rows t _ right)))
  cases_related s t symbol ss ts each (inl left) (inr (at, is)) = inr (
    s,
    old (same_term (slice_get_within rows s _ left)),
    new at (subst (λ (f : ℕ). HasRow rows s (term_row f ss)) (sym (ap (λ (r : TermRow). r.symbol) is)) left) (subst (λ (args : List ℕ). DerivesEach rows merges args ss) (sym (ap (λ (r : TermRow). r.args) is)) (turned_each each)) (same_term (slice_get_within rows s _ left)),
  )
  cases_related s t symbol ss ts each (inr (at, is)) (inl right) = inr (
    t,
    new at (subst (λ (f : ℕ). HasRow rows t (term_row f ts)) (sym (ap (λ (r : TermRow). r.symbol) is)) right) (subst (λ (args : List ℕ). DerivesEach rows merges args ts) (sym (ap (λ (r : TermRow). r.args) is)) each) (same_term (slice_get_within rows t _ right)),
    old (same_term (slice_get_within rows t _ right)),
  )
  cases_related s t symbol ss ts each (inr left) (inr right) = inl (left.0, right.0)

  itself_related : (s : ℕ) → (s < length rows) ⊎ (s ≡ length rows) → Related s s
  itself_related s (inl lt) = inr (s, old (same_term lt), old (same_term lt))
  itself_related s (inr at) = inl (at, at)

  merged_related : (s t : ℕ) → Contains merges (s, t) → Related s t
  merged_related s t on = inr (t, old (merged on), old (same_term ((ends s t on).1)))

  mutual
    related : {s t : ℕ} → Derives (rows ++ last ∷ []) merges s t → Related s t
    related (same_term {s} h) = itself_related s (before_or_last s (omega (arith, h, length-append rows (last ∷ []))))
    related (turned d) = turned_related (related d)
    related (joined d e) = joined_related (related d) (related e)
    related (merged {s} {t} on) = merged_related s t on
    related (congruent {s} {t} {symbol} {ss} {ts} left right each) =
        cases_related s t symbol ss ts (related_each ss ts (args_old s symbol ss left) (args_old t symbol ts right) each) (row_cases rows last s (term_row symbol ss) left) (row_cases rows last t (term_row symbol ts) right)

    related_each : (ss ts : List ℕ) → All (λ arg. arg < length rows) ss → All (λ arg. arg < length rows) ts → DerivesEach (rows ++ last ∷ []) merges ss ts → DerivesEach rows merges ss ts
    related_each ss ts below below' none = none
    related_each ss ts below below' (more {s = s} {t = t} {ss = ss'} {ts = ts'} d rest) =
        more (related_old (All-head (λ arg. arg < length rows) s ss' below) (All-head (λ arg. arg < length rows) t ts' below') (related d))
        (related_each ss' ts' (All-tail (λ arg. arg < length rows) s ss' below) (All-tail (λ arg. arg < length rows) t ts' below') rest)

  pub one_conserves : {s t : ℕ} → s < length rows → t < length rows → Derives (rows ++ last ∷ []) merges s t → Derives rows merges s t
  one_conserves lt lt' d = related_old lt lt' (related d)

-- ---- several terms more

earlier_front : (rows later : List TermRow) → AreEarlier (rows ++ later) → AreEarlier rows
earlier_front rows later earlier term row has = earlier term row (row_stays rows later term row has)

pub conserves : (rows later : List TermRow) (merges : List (ℕ × ℕ)) → EndsBelow merges (length rows) → AreEarlier (rows ++ later) → {s t : ℕ} → s < length rows → t < length rows → Derives (rows ++ later) merges s t → Derives rows merges s t
conserves rows [] merges ends earlier {s} {t} lt lt' d = subst (λ (rs : List TermRow). Derives rs merges s t) (append-nil rows) d
conserves rows (last ∷ later) merges ends earlier {s} {t} lt lt' d =
    let front : (rows ++ last ∷ []) ++ later ≡ rows ++ last ∷ later = append_assoc rows (last ∷ []) later in
    let count = length-append rows (last ∷ []) in
    let wide : EndsBelow merges (length (rows ++ last ∷ [])) = λ a b on. (omega (arith, (ends a b on).0, count), omega (arith, (ends a b on).1, count)) in
    let earlier' = subst AreEarlier (sym front) earlier in
    let d' = subst (λ (rs : List TermRow). Derives rs merges s t) (sym front) d in
    one_conserves rows last merges ends (earlier_front (rows ++ last ∷ []) later earlier') lt lt'
    (conserves (rows ++ last ∷ []) later merges wide earlier' (omega (arith, lt, count)) (omega (arith, lt', count)) d')
