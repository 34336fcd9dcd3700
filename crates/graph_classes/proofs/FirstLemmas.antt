-- The graph of true and false alone is in order.
use Rattle.std.proofs.Common.{◌≡◌, ◌<◌, ◌≤◌, ◌⊎◌, inl, inr, ℕ, List, [], ◌∷◌, length, Some, None, slice_get, slice_index, Contains, zero, suc, refl, sym, ◌∙◌, ap, subst, arith}
use Rattle.graph_terms.specs.declared.term_row.TermRow.{TermRow}
use Rattle.graph_terms.specs.Terms.{term_row, first_rows, HasRow}
use Rattle.graph_meaning.proofs.LawfulLaws.{IsLawful-first}
use Rattle.graph_meaning.specs.declared.done.Done.{Done}
use Rattle.graph_meaning.specs.Lawful.{IsLawful}
use Rattle.graph_meaning.specs.Same.{Derives, same_term, none}
use Rattle.graph_meaning.specs.Standing.{terms_of, merges_of}
use Rattle.graph_classes.proofs.JoinedListsLemmas.{contains_at}
use Rattle.graph_classes.specs.declared.place.Place.{Place}
use Rattle.graph_classes.specs.declared.place.Place.TheVariants.{Symbol, Member, Parent}
use Rattle.graph_classes.specs.State.{State, list_at}
use Rattle.graph_classes.specs.First.{first_parts}
use Rattle.graph_classes.specs.Closure.{IsSigned, EntryIsSame}
use Rattle.graph_classes.specs.Indexed.{IsIndexed, IsClosing}
use Rattle.graph_classes.specs.Listed.{Belongs, IsBeyond, AreListed, AreLed, IsListing, ListsMore, IsMemberListed}
use Rattle.graph_classes.specs.Standing.{IsGood}
use Rattle.graph_classes.proofs.Elements.{contains_none, contains_one, contains_first, contains_cases}
use Rattle.graph_classes.proofs.ListingLemmas.{ListsMore-trans, ListsMore-listing, IsMemberListed-more}
use Rattle.graph_classes.proofs.StandingLemmas.{IsIndexed-others, IsClosing-others}

pub first_parts_are : (s : State) (limit : ℕ) → s.rows ≡ first_rows → s.limit ≡ limit → s.labels ≡ 0 ∷ 1 ∷ [] → s.members ≡ (0 ∷ []) ∷ (1 ∷ []) ∷ [] → s.uses ≡ [] ∷ [] ∷ [] → s.table ≡ (0 ∷ [], 0) ∷ (1 ∷ [], 1) ∷ [] → s.leaders ≡ 0 ∷ 1 ∷ [] → s.lists ≡ (λ _. []) → s.log ≡ [] → s ≡ first_parts limit
first_parts_are s limit rows is_limit labels members uses table leaders lists log = λ i. record { rows = rows i; limit = is_limit i; labels = labels i; members = members i; uses = uses i; table = table i; leaders = leaders i; lists = lists i; log = log i }

two : (t : ℕ) → t < 2 → (t ≡ 0) ⊎ (t ≡ 1)
two t h = grind arith

-- a property of true and false
both : (P : ℕ → Type 0) → P 0 → P 1 → (t : ℕ) → t < 2 → P t
both P p q t h = elim (two t h) [ inl is ↦ subst P (sym is) p | inr is ↦ subst P (sym is) q ]

-- a row of the first two has no arguments
bare_row : (u : ℕ) (row : TermRow) → HasRow first_rows u row → ((u ≡ 0) × (row ≡ term_row 0 [])) ⊎ ((u ≡ 1) × (row ≡ term_row 1 []))
bare_row zero row has = inl (refl, cc)
bare_row (suc zero) row has = inr (refl, cc)
bare_row (suc (suc u)) row has = let h : None ≡ Some row = has in cc

no_args : (u : ℕ) (row : TermRow) (x : ℕ) → HasRow first_rows u row → Contains row.args x → ⊥
no_args u row x has c =
    let P : TermRow → Type 0 = λ r. Contains r.args x in
    elim (bare_row u row has) [ inl is ↦ contains_none x (subst P is.1 c) | inr is ↦ contains_none x (subst P is.1 c) ]

first_table : List (List ℕ × ℕ)
first_table = (0 ∷ [], 0) ∷ (1 ∷ [], 1) ∷ []

abbrev entry_of : List ℕ → ℕ → List ℕ × ℕ
entry_of key term = (key, term)

entry_cases : (key : List ℕ) (term : ℕ) → Contains {X = List ℕ × ℕ} ((0 ∷ [], 0) ∷ (1 ∷ [], 1) ∷ []) (key, term) → (entry_of key term ≡ entry_of (0 ∷ []) 0) ⊎ (entry_of key term ≡ entry_of (1 ∷ []) 1)
entry_cases key term c = elim (contains_cases (0 ∷ [], 0) ((1 ∷ [], 1) ∷ []) (key, term) c) [
  | inl first ↦ inl first
  | inr later ↦ inr (contains_one (1 ∷ [], 1) (key, term) later)
]

module _ (limit : ℕ) where
  pub IsIndexed-first : IsIndexed (first_parts limit)
  IsIndexed-first = record {
    labels_len = refl;
    members_len = refl;
    uses_len = refl;
    args_in = λ u row x has c. absurd (no_args u row x has c);
    label_in = both (λ t. slice_index (0 ∷ 1 ∷ []) t < 2) (omega arith) (omega arith);
    label_fixed = both (λ t. slice_index (0 ∷ 1 ∷ []) (slice_index (0 ∷ 1 ∷ []) t) ≡ slice_index (0 ∷ 1 ∷ []) t) refl refl;
    member_in = λ l t h own c. both (λ k. Contains (list_at ((0 ∷ []) ∷ (1 ∷ []) ∷ []) k) t → (t < 2) × (slice_index (0 ∷ 1 ∷ []) t ≡ k))
        (λ d. let is = contains_one 0 t d in (omega arith, ap (slice_index (0 ∷ 1 ∷ [])) is)) (λ d. let is = contains_one 1 t d in (omega arith, ap (slice_index (0 ∷ 1 ∷ [])) is)) l h c;
    is_member = both (λ t. Contains (list_at ((0 ∷ []) ∷ (1 ∷ []) ∷ []) (slice_index (0 ∷ 1 ∷ []) t)) t) (contains_first 0 []) (contains_first 1 []);
    use_in = λ l u h own c. both (λ k. Contains (list_at ([] ∷ [] ∷ []) k) u → u < 2) (λ d. absurd (contains_none u d)) (λ d. absurd (contains_none u d)) l h c;
    is_use = λ u row x has c. absurd (no_args u row x has c);
    entry_in = λ key term c. elim (entry_cases key term c) [
      | inl e ↦ let is = ap (λ (p : List ℕ × ℕ). p.1) e in omega arith
      | inr e ↦ let is = ap (λ (p : List ℕ × ℕ). p.1) e in omega arith
    ];
  }

  pub IsClosing-first : IsClosing [] (first_parts limit) [] []
  IsClosing-first = record {
    sound = record {
      label = both (λ t. Derives first_rows [] t (slice_index (0 ∷ 1 ∷ []) t)) (same_term (omega arith)) (same_term (omega arith));
      entry = λ key term c. elim (entry_cases key term c) [
        | inl e ↦ let P : List ℕ × ℕ → Type 0 = λ p. EntryIsSame first_rows [] p.0 p.1 in subst P (sym e) (record { row = term_row 0 []; is_row = refl; named = []; key_is = refl; same = none })
        | inr e ↦ let P : List ℕ × ℕ → Type 0 = λ p. EntryIsSame first_rows [] p.0 p.1 in subst P (sym e) (record { row = term_row 1 []; is_row = refl; named = []; key_is = refl; same = none })
      ];
      pair = λ a b c. absurd (contains_none (a, b) c);
    };
    complete = record {
      merge = λ s t c. absurd (contains_none (s, t) c);
      signed = λ u row has. inr (elim (bare_row u row has) [
        | inl is ↦ let P : ℕ → Type 0 = λ t. IsSigned 2 (0 ∷ 1 ∷ []) ((0 ∷ [], 0) ∷ (1 ∷ [], 1) ∷ []) [] t row in let Q : TermRow → Type 0 = λ r. IsSigned 2 (0 ∷ 1 ∷ []) ((0 ∷ [], 0) ∷ (1 ∷ [], 1) ∷ []) [] 0 r in
            subst P (sym is.0) (subst Q (sym is.1) (record { at = 0; is_found = refl; joined = λ g respects met. refl }))
        | inr is ↦ let P : ℕ → Type 0 = λ t. IsSigned 2 (0 ∷ 1 ∷ []) ((0 ∷ [], 0) ∷ (1 ∷ [], 1) ∷ []) [] t row in let Q : TermRow → Type 0 = λ r. IsSigned 2 (0 ∷ 1 ∷ []) ((0 ∷ [], 0) ∷ (1 ∷ [], 1) ∷ []) [] 1 r in
            subst P (sym is.0) (subst Q (sym is.1) (record { at = 1; is_found = refl; joined = λ g respects met. refl }))
      ]);
    };
  }

  -- once both are listed
  module _ (s : State) (more : ListsMore (first_parts limit) s) (zero_symbol : Contains (s.lists (Symbol 0)) 0) (one_symbol : Contains (s.lists (Symbol 1)) 1) (zero_member : IsMemberListed s 0) (one_member : IsMemberListed s 1) where
    rows_are : s.rows ≡ first_rows
    rows_are = ap (λ (m : State). m.rows) more.alone

    labels_are : s.labels ≡ 0 ∷ 1 ∷ []
    labels_are = ap (λ (m : State). m.labels) more.alone

    sound : (place : Place) (t : ℕ) → Contains (s.lists place) t → Belongs first_rows (0 ∷ 1 ∷ []) place t
    sound place t c = elim (more.sound place t c) [ inl before ↦ absurd (contains_none t before) | inr b ↦ b ]

    in_member : (t : ℕ) → IsMemberListed s t → (symbol : ℕ) (args : List ℕ) → HasRow first_rows t (term_row symbol args) → Contains (s.lists (Member (slice_index (0 ∷ 1 ∷ []) t) symbol)) t
    in_member t listed symbol args has =
        let P : List ℕ → Type 0 = λ labels. Contains (s.lists (Member (slice_index labels t) symbol)) t in
        subst P labels_are (listed symbol args (ap (λ rows. slice_get rows t) rows_are ∙ has))

    complete : (place : Place) (t : ℕ) → Belongs first_rows (0 ∷ 1 ∷ []) place t → Contains (s.lists place) t
    complete (Symbol f) t b = elim (bare_row t (term_row f b.0) b.1) [
      | inl is ↦ let P : ℕ → Type 0 = λ u. Contains (s.lists (Symbol f)) u in let Q : ℕ → Type 0 = λ g. Contains (s.lists (Symbol g)) 0 in subst P (sym is.0) (subst Q (sym (ap (λ (r : TermRow). r.symbol) is.1)) zero_symbol)
      | inr is ↦ let P : ℕ → Type 0 = λ u. Contains (s.lists (Symbol f)) u in let Q : ℕ → Type 0 = λ g. Contains (s.lists (Symbol g)) 1 in subst P (sym is.0) (subst Q (sym (ap (λ (r : TermRow). r.symbol) is.1)) one_symbol)
    ]
    complete (Member l f) t b =
        let Q : ℕ → Type 0 = λ k. Contains (s.lists (Member k f)) t in
        let R : ℕ → Type 0 = λ u. IsMemberListed s u in
        subst Q b.2 (in_member t (elim (bare_row t (term_row f b.0) b.1) [ inl is ↦ subst R (sym is.0) zero_member | inr is ↦ subst R (sym is.0) one_member ]) f b.0 b.1)
    complete (Parent l f i) t b =
        let none_there : (xs : List ℕ) → xs ≡ [] → slice_get xs i ≡ Some b.1 → ⊥ = λ xs e is. (let h : None ≡ Some b.1 = sym (ap (λ ys. slice_get ys i) e) ∙ is in cc) in
        elim (bare_row t (term_row f b.0) b.2) [
          | inl is ↦ absurd (none_there b.0 (ap (λ (r : TermRow). r.args) is.1) b.3)
          | inr is ↦ absurd (none_there b.0 (ap (λ (r : TermRow). r.args) is.1) b.3)
        ]

    label_below : (t : ℕ) → t < 2 → slice_index (0 ∷ 1 ∷ []) t < 2
    label_below = both (λ t. slice_index (0 ∷ 1 ∷ []) t < 2) (omega arith) (omega arith)

    row_below : (t : ℕ) (row : TermRow) → HasRow first_rows t row → t < 2
    row_below t row has = elim (bare_row t row has) [ inl is ↦ (let e = is.0 in omega arith) | inr is ↦ (let e = is.0 in omega arith) ]

    none_beyond : (place : Place) → IsBeyond (0 ∷ 1 ∷ []) place → (t : ℕ) → Contains (s.lists place) t → ⊥
    none_beyond (Symbol f) beyond t c = beyond
    none_beyond (Member l f) beyond t c = let b = sound (Member l f) t c in let low = label_below t (row_below t (term_row f b.0) b.1) in let e = b.2 in omega arith
    none_beyond (Parent l f i) beyond t c = let b = sound (Parent l f i) t c in
        no_args t (term_row f b.0) b.1 b.2 (contains_at b.0 i b.1 b.3)

    pub IsGood-first : 2 ≤ limit → IsGood s
    IsGood-first low =
        let R : List TermRow → Type 0 = λ rows. AreListed rows s.labels s.lists in
        let L : List ℕ → Type 0 = λ labels. AreListed first_rows labels s.lists in
        let D : List ℕ → Type 0 = λ labels. AreLed labels s.leaders in
        let E : List ℕ → Type 0 = λ leaders. AreLed (0 ∷ 1 ∷ []) leaders in
        let log : s.log ≡ [] = ap (λ (m : State). m.log) more.alone in
        let W : List Done → Type 0 = λ l. IsLawful l in
        let C : List (ℕ × ℕ) → Type 0 = λ merges. IsClosing merges s [] [] in
        record {
          terms = rows_are ∙ ap terms_of (sym log);
          lawful = subst W (sym log) IsLawful-first;
          within = rw (ap length rows_are, ap (λ (m : State). m.limit) more.alone) low;
          indexed = IsIndexed-others (first_parts limit) s _ s.lists _ more.alone IsIndexed-first;
          listed = record {
            lists = subst R (sym rows_are) (subst L (sym labels_are) (record { exact = λ place read t. (sound place t, complete place t); none_beyond = none_beyond }));
            leaders = subst D (sym labels_are) (subst E (sym (ap (λ (m : State). m.leaders) more.alone)) (record {
              each = refl;
              is_term = λ l own. both (λ k. slice_index (0 ∷ 1 ∷ []) k < 2) (omega arith) (omega arith) l own.0;
              own = λ l own. both (λ k. slice_index (0 ∷ 1 ∷ []) (slice_index (0 ∷ 1 ∷ []) k) ≡ k) refl refl l own.0;
              least = both (λ t. slice_index (0 ∷ 1 ∷ []) (slice_index (0 ∷ 1 ∷ []) t) ≤ t) (omega arith) (omega arith);
            }));
          };
          closed = subst C (ap merges_of (sym log)) (IsClosing-others [] [] [] (first_parts limit) s _ s.lists _ more.alone IsClosing-first);
        }

-- the two terms, listed one after the other
module _ (limit : ℕ) (a b c d e : State) (first : a ≡ first_parts limit) (in_zero : IsListing a b (Symbol 0) 0) (more_zero : ListsMore b c) (zero_listed : IsMemberListed c 0) (in_one : IsListing c d (Symbol 1) 1) (more_one : ListsMore d e) (one_listed : IsMemberListed e 1) where
  up_to_c : ListsMore a c
  up_to_c = ListsMore-trans a b c (ListsMore-listing a b (Symbol 0) 0 in_zero ([], ap (λ (s : State). slice_get s.rows 0) first)) more_zero

  up_to_d : ListsMore c d
  up_to_d = ListsMore-listing c d (Symbol 1) 1 in_one ([], ap (λ (s : State). slice_get s.rows 1) (up_to_c.alone) ∙ ap (λ (s : State). slice_get s.rows 1) first)

  after_c : ListsMore c e
  after_c = ListsMore-trans c d e up_to_d more_one

  first_listed : ListsMore (first_parts limit) e
  first_listed = let P : State → Type 0 = λ s. ListsMore s e in subst P first (ListsMore-trans a c e up_to_c after_c)

  pub IsGood-listed : 2 ≤ limit → IsGood e
  IsGood-listed low = IsGood-first limit e first_listed (after_c.keeps (Symbol 0) 0 (more_zero.keeps (Symbol 0) 0 in_zero.listed)) (more_one.keeps (Symbol 1) 1 in_one.listed) (IsMemberListed-more c e 0 after_c zero_listed) one_listed low

  pub log_listed : e.log ≡ []
  log_listed = ap (λ (s : State). s.log) first_listed.alone

  pub limit_listed : e.limit ≡ limit
  limit_listed = ap (λ (s : State). s.limit) first_listed.alone
