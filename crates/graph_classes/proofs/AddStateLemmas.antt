-- The parts of a graph once a row was added and listed.
use Rattle.std.proofs.Common.{◌≡◌, ◌<◌, ◌⊎◌, inl, inr, ℕ, List, [], ◌∷◌, ◌++◌, length, Some, slice_get, slice_index, Contains, refl, sym, ◌∙◌, ap, subst}
use Rattle.graph_terms.specs.declared.term_row.TermRow.{TermRow}
use Rattle.graph_terms.specs.Terms.{HasRow}
use Rattle.graph_classes.specs.declared.place.Place.{Place}
use Rattle.graph_classes.specs.declared.place.Place.TheVariants.{Symbol, Member, Parent}
use Rattle.graph_meaning.specs.declared.done.Done.{Done}
use Rattle.graph_classes.specs.State.{State, with_row}
use Rattle.graph_classes.specs.Indexed.{IsIndexed, IsSignable, IsClosing, used}
use Rattle.graph_classes.specs.Listed.{Belongs, AreListed, AreLed, IsListed, IsListing, ListsMore, IsMemberListed, AreParentsListed}
use Rattle.graph_classes.proofs.Elements.{slice_get_push_cases}
use Rattle.graph_classes.proofs.AddLemmas.{with_used, is_with_used, IsIndexed-row, IsClosing-row}
use Rattle.graph_classes.proofs.AddListsLemmas.{AreListed-row, AreLed-row}
use Rattle.graph_classes.proofs.ListingLemmas.{ListsMore-trans, ListsMore-listing, IsMemberListed-more}
use Rattle.graph_classes.proofs.OperationLemmas.{IsListed-log}
use Rattle.graph_classes.proofs.StandingLemmas.{IsIndexed-others, IsClosing-others}

module _ (s with_uses listed : State) (row : TermRow) (indexed : IsIndexed s) (args_in : (x : ℕ) → Contains row.args x → x < length s.rows) (is_used : with_uses ≡ with_used s row (length s.rows)) (more : ListsMore with_uses listed) where
  -- only the lists changed since
  is_listed : listed ≡ record (with_used s row (length s.rows)) { lists = listed.lists }
  is_listed = more.alone ∙ ap (λ (m : State). record m { lists = listed.lists }) is_used

  pub rows_added-now : listed.rows ≡ s.rows ++ row ∷ []
  rows_added-now = ap (λ (m : State). m.rows) is_listed

  labels_now : listed.labels ≡ s.labels ++ length s.rows ∷ []
  labels_now = ap (λ (m : State). m.labels) is_listed

  pub IsIndexed-added : IsIndexed listed
  IsIndexed-added = IsIndexed-others (with_used s row (length s.rows)) listed _ listed.lists _ is_listed (IsIndexed-row s row indexed args_in)

  pub IsClosing-added : (merges : List (ℕ × ℕ)) → IsClosing merges s [] [] → IsClosing merges listed [] (length s.rows ∷ [])
  IsClosing-added merges closing = IsClosing-others merges [] (length s.rows ∷ []) (with_used s row (length s.rows)) listed _ listed.lists _ is_listed (IsClosing-row s row indexed args_in merges _ closing)

  args_in_all : (u : ℕ) (a : TermRow) (x : ℕ) → HasRow (s.rows ++ row ∷ []) u a → Contains a.args x → x < length s.rows
  args_in_all u a x has c = elim (slice_get_push_cases s.rows row u a has) [
    | inl early ↦ indexed.args_in u a x early c
    | inr new ↦ let P : TermRow → Type 0 = λ r. Contains r.args x in args_in x (subst P new.1 c)
  ]

  lists_before : with_uses.lists ≡ s.lists
  lists_before = ap (λ (m : State). m.lists) is_used

  rows_used : with_uses.rows ≡ s.rows ++ row ∷ []
  rows_used = ap (λ (m : State). m.rows) is_used

  labels_used : with_uses.labels ≡ s.labels ++ length s.rows ∷ []
  labels_used = ap (λ (m : State). m.labels) is_used

  sound : (q : Place) (t : ℕ) → Contains (listed.lists q) t → Contains (s.lists q) t ⊎ Belongs (s.rows ++ row ∷ []) (s.labels ++ length s.rows ∷ []) q t
  sound q t c = elim (more.sound q t c) [
    | inl before ↦ inl (let P : (Place → List ℕ) → Type 0 = λ f. Contains (f q) t in subst P lists_before before)
    | inr b ↦ inr (let P : List TermRow → Type 0 = λ rows. Belongs rows with_uses.labels q t in let Q : List ℕ → Type 0 = λ labels. Belongs (s.rows ++ row ∷ []) labels q t in subst Q labels_used (subst P rows_used b))
  ]

  pub IsListed-added : IsListed s → Contains (listed.lists (Symbol row.symbol)) (length s.rows) → IsMemberListed listed (length s.rows) → AreParentsListed listed (length s.rows) → IsListed listed
  IsListed-added right by_symbol by_class by_argument =
      let P : List TermRow → Type 0 = λ rows. AreListed rows listed.labels listed.lists in
      let Q : List ℕ → Type 0 = λ labels. AreListed (s.rows ++ row ∷ []) labels listed.lists in
      let R : List ℕ → Type 0 = λ labels. AreLed labels listed.leaders in
      let S : List ℕ → Type 0 = λ leaders. AreLed (s.labels ++ length s.rows ∷ []) leaders in
      record {
        lists = subst P (sym rows_added-now) (subst Q (sym labels_now) (AreListed-row s.rows s.labels row indexed.labels_len indexed.label_in args_in_all s.lists listed.lists right.lists
            (λ q t c. more.keeps q t (let T : (Place → List ℕ) → Type 0 = λ f. Contains (f q) t in subst T (sym lists_before) c)) sound by_symbol
            (λ symbol args has. let T : List ℕ → Type 0 = λ labels. Contains (listed.lists (Member (slice_index labels (length s.rows)) symbol)) (length s.rows) in
            subst T labels_now (by_class symbol args (ap (λ rows. slice_get rows (length s.rows)) rows_added-now ∙ has)))
            (λ symbol args k arg has is. let T : List ℕ → Type 0 = λ labels. Contains (listed.lists (Parent (slice_index labels arg) symbol k)) (length s.rows) in
            subst T labels_now (by_argument symbol args k arg (ap (λ rows. slice_get rows (length s.rows)) rows_added-now ∙ has) is))));
        leaders = subst R (sym labels_now) (subst S (sym (ap (λ (m : State). m.leaders) is_listed)) (AreLed-row s.rows s.labels row indexed.labels_len indexed.label_in s.leaders right.leaders));
      }

last_row : (rows : List TermRow) (row : TermRow) → slice_get (rows ++ row ∷ []) (length rows) ≡ Some row
last_row [] row = refl
last_row (r ∷ rows) row = last_row rows row

-- the steps of an Add up to the signature
module _ (s s1 s2 s3 s4 s5 s6 : State) (log : List Done) (row : TermRow) (term : ℕ) (logged : s1 ≡ record s { log = log }) (is_term : term ≡ length s1.rows) (added : s2 ≡ with_row s1 row term) (is_used : s3 ≡ record s2 { uses = used s2.uses s2.labels row.args term })
    (in_symbol : IsListing s3 s4 (Symbol row.symbol) term) (more5 : ListsMore s4 s5) (in_class : IsMemberListed s5 term) (more6 : ListsMore s5 s6) (in_parents : AreParentsListed s6 term)
    (indexed : IsIndexed s) (right : IsListed s) (args_in : (x : ℕ) → Contains row.args x → x < length s.rows) where
  rows_one : s1.rows ≡ s.rows
  rows_one = ap (λ (m : State). m.rows) logged

  indexed_one : IsIndexed s1
  indexed_one = IsIndexed-others s s1 s.leaders s.lists log logged indexed

  args_in_one : (x : ℕ) → Contains row.args x → x < length s1.rows
  args_in_one x c = rw rows_one (args_in x c)

  used_three : s3 ≡ with_used s1 row (length s1.rows)
  used_three = is_with_used s1 s2 s3 row term is_term added is_used

  has_row : HasRow s3.rows term row
  has_row = ap (λ (m : State). slice_get m.rows term) used_three ∙ ap (slice_get (s1.rows ++ row ∷ [])) is_term ∙ last_row s1.rows row

  more_six : ListsMore s3 s6
  more_six = ListsMore-trans s3 s4 s6 (ListsMore-listing s3 s4 (Symbol row.symbol) term in_symbol (row.args, has_row)) (ListsMore-trans s4 s5 s6 more5 more6)

  pub indexed_six : IsIndexed s6
  indexed_six = IsIndexed-added s1 s3 s6 row indexed_one args_in_one used_three more_six

  pub listed_six : IsListed s6
  listed_six =
      let P : ℕ → Type 0 = λ t. Contains (s6.lists (Symbol row.symbol)) t in
      let Q : ℕ → Type 0 = λ t. IsMemberListed s6 t in
      let R : ℕ → Type 0 = λ t. AreParentsListed s6 t in
      IsListed-added s1 s3 s6 row indexed_one args_in_one used_three more_six (IsListed-log s s1 log logged right)
      (subst P is_term (more6.keeps (Symbol row.symbol) term (more5.keeps (Symbol row.symbol) term in_symbol.listed)))
      (subst Q is_term (IsMemberListed-more s5 s6 term more6 in_class)) (subst R is_term in_parents)

  pub closing_six : (merges : List (ℕ × ℕ)) → IsClosing merges s [] [] → IsClosing merges s6 [] (term ∷ [])
  closing_six merges closing =
      let P : ℕ → Type 0 = λ t. IsClosing merges s6 [] (t ∷ []) in
      subst P (sym is_term) (IsClosing-added s1 s3 s6 row indexed_one args_in_one used_three more_six merges (IsClosing-others merges [] [] s s1 s.leaders s.lists log logged closing))

  pub rows_six : s6.rows ≡ s.rows ++ row ∷ []
  rows_six = rows_added-now s1 s3 s6 row indexed_one args_in_one used_three more_six ∙ ap (λ rows. rows ++ row ∷ []) rows_one

  pub rows_as_two : s6.rows ≡ s2.rows
  rows_as_two = ap (λ (m : State). m.rows) more_six.alone ∙ ap (λ (m : State). m.rows) is_used

  pub limit_as_two : s6.limit ≡ s2.limit
  limit_as_two = ap (λ (m : State). m.limit) more_six.alone ∙ ap (λ (m : State). m.limit) is_used

  pub limit_six : s6.limit ≡ s.limit
  limit_six = limit_as_two ∙ ap (λ (m : State). m.limit) added ∙ ap (λ (m : State). m.limit) logged

  pub log_six : s6.log ≡ log
  log_six = ap (λ (m : State). m.log) more_six.alone ∙ ap (λ (m : State). m.log) is_used ∙ ap (λ (m : State). m.log) added ∙ ap (λ (m : State). m.log) logged

-- the table plays no part in the lists
pub IsListed-table : (s new : State) (table : List (List ℕ × ℕ)) → new ≡ record s { table = table } → IsListed s → IsListed new
IsListed-table s new table e listed = let P : State → Type 0 = λ m. IsListed m in subst P (sym e) (record { lists = listed.lists; leaders = listed.leaders })

pub IsSignable-indexed : (s : State) → IsIndexed s → IsSignable s
IsSignable-indexed s i = record { labels_len = i.labels_len; args_in = i.args_in; entry_in = i.entry_in }
