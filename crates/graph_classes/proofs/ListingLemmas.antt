-- The lists that questions read, as they grow.
use Rattle.std.proofs.Common.{◌≡◌, ◌<◌, ◌+◌, ◌⊎◌, inl, inr, ℕ, List, [], ◌∷◌, length, take, Some, slice_get, slice_index, Contains, All, zero, suc, refl, sym, ◌∙◌, ap, subst, arith}
use Rattle.std.proofs.lemmas.Option.{slice_get_within}
use Rattle.graph_terms.specs.declared.term_row.TermRow.{TermRow}
use Rattle.graph_terms.specs.Terms.{term_row, HasRow, IsTable}
use Rattle.graph_classes.specs.declared.place.Place.{Place}
use Rattle.graph_classes.specs.declared.place.Place.TheVariants.{Member, Parent}
use Rattle.graph_classes.specs.State.{State}
use Rattle.graph_classes.proofs.Elements.{contains_none, contains_push_cases}
use Rattle.graph_classes.proofs.MoveLemmas.{take_one_more}
use Rattle.graph_classes.specs.Listed.{Belongs, IsListing, ListsMore, IsMemberListed, AreParentsListed}

pub rows_same : (old new : State) → ListsMore old new → new.rows ≡ old.rows
rows_same old new h = ap (λ (s : State). s.rows) h.alone

pub labels_same : (old new : State) → ListsMore old new → new.labels ≡ old.labels
labels_same old new h = ap (λ (s : State). s.labels) h.alone

pub ListsMore-none : (s : State) → ListsMore s s
ListsMore-none s = record { alone = refl; keeps = λ q t c. c; sound = λ q t c. inl c }

pub ListsMore-trans : (a b c : State) → ListsMore a b → ListsMore b c → ListsMore a c
ListsMore-trans a b c first second = record {
  alone = second.alone ∙ ap (λ (s : State). record s { lists = c.lists }) first.alone;
  keeps = λ q t h. second.keeps q t (first.keeps q t h);
  sound = λ q t h. elim (second.sound q t h) [
    | inl before ↦ first.sound q t before
    | inr new ↦ let P : List TermRow → Type 0 = λ rows. Belongs rows b.labels q t in let Q : List ℕ → Type 0 = λ labels. Belongs a.rows labels q t in
        inr (subst Q (labels_same a b first) (subst P (rows_same a b first) new))
  ];
}

-- a term that belongs there was listed
pub ListsMore-listing : (old new : State) (place : Place) (term : ℕ) → IsListing old new place term → Belongs old.rows old.labels place term → ListsMore old new
ListsMore-listing old new place term h belongs = record {
  alone = h.alone;
  keeps = h.keeps;
  sound = λ q t c. elim (h.sound q t c) [
    | inl before ↦ inl before
    | inr new ↦ let P : Place → Type 0 = λ p. Belongs old.rows old.labels p t in let Q : ℕ → Type 0 = λ u. Belongs old.rows old.labels place u in
        inr (subst P (sym new.0) (subst Q (sym new.1) belongs))
  ];
}

-- what is listed stays so
pub IsMemberListed-more : (old new : State) (term : ℕ) → ListsMore old new → IsMemberListed old term → IsMemberListed new term
IsMemberListed-more old new term more listed symbol args has =
    let P : List ℕ → Type 0 = λ labels. Contains (new.lists (Member (slice_index labels term) symbol)) term in
    subst P (sym (labels_same old new more)) (more.keeps _ term (listed symbol args (ap (λ rows. slice_get rows term) (sym (rows_same old new more)) ∙ has)))

pub AreParentsListed-more : (old new : State) (term : ℕ) → ListsMore old new → AreParentsListed old term → AreParentsListed new term
AreParentsListed-more old new term more listed symbol args argument arg has is_arg =
    let P : List ℕ → Type 0 = λ labels. Contains (new.lists (Parent (slice_index labels arg) symbol argument)) term in
    subst P (sym (labels_same old new more)) (more.keeps _ term (listed symbol args argument arg (ap (λ rows. slice_get rows term) (sym (rows_same old new more)) ∙ has) is_arg))

-- a member that was listed under what was read of it
pub IsMemberListed-listing : (old new : State) (row : TermRow) (term label : ℕ) → HasRow old.rows term row → slice_index old.labels term ≡ label → IsListing old new (Member label row.symbol) term → ListsMore old new × IsMemberListed new term
IsMemberListed-listing old new row term label has is_label h =
    let P : List ℕ → Type 0 = λ labels. Contains (new.lists (Member (slice_index labels term) row.symbol)) term in
    let Q : ℕ → Type 0 = λ l. Contains (new.lists (Member l row.symbol)) term in
    let here = subst P (sym (ap (λ (s : State). s.labels) h.alone)) (subst Q (sym is_label) h.listed) in (
      ListsMore-listing old new (Member label row.symbol) term h (row.args, has, is_label),
      λ symbol args has'. let same : Some (term_row symbol args) ≡ Some row = sym has' ∙ ap (λ (s : State). slice_get s.rows term) h.alone ∙ has in
          let R : ℕ → Type 0 = λ f. Contains (new.lists (Member (slice_index new.labels term) f)) term in
          subst R (same_symbol symbol args row same) here,
    )
  where
    same_symbol : (symbol : ℕ) (args : List ℕ) (row : TermRow) → Some (term_row symbol args) ≡ Some row → row.symbol ≡ symbol
    same_symbol symbol args row e = let same : term_row symbol args ≡ row = cc in sym (ap (λ (r : TermRow). r.symbol) same)

-- ---- the parents, argument by argument

-- the term is listed among the parents of the classes of its first arguments
abbrev pub AreListedBelow : State → ℕ → ℕ → Type 0
AreListedBelow s term count = (symbol : ℕ) (args : List ℕ) (argument arg : ℕ) → argument < count → HasRow s.rows term (term_row symbol args) → slice_get args argument ≡ Some arg → Contains (s.lists (Parent (slice_index s.labels arg) symbol argument)) term

pub AreListedBelow-none : (s : State) (term : ℕ) → AreListedBelow s term 0
AreListedBelow-none s term symbol args argument arg low = absurd (omega arith)

same_row : (rows : List TermRow) (term : ℕ) (a b : TermRow) → HasRow rows term a → HasRow rows term b → a ≡ b
same_row rows term a b ha hb = cc

same_arg : (args : List ℕ) (k a b : ℕ) → slice_get args k ≡ Some a → slice_get args k ≡ Some b → a ≡ b
same_arg args k a b ha hb = cc

below_or_last : (k n : ℕ) → k < n + 1 → (k < n) ⊎ (k ≡ n)
below_or_last k n h = grind arith

-- one more argument
pub AreListedBelow-more : (start old new : State) (row : TermRow) (term argument arg label : ℕ) → ListsMore start old → AreListedBelow old term argument → HasRow old.rows term row → slice_get row.args argument ≡ Some arg → slice_index old.labels arg ≡ label
    → IsListing old new (Parent label row.symbol argument) term → ListsMore start new × AreListedBelow new term (argument + 1)
AreListedBelow-more start old new row term argument arg label so_far listed has is_arg is_label h = (
  ListsMore-trans start old new so_far step,
  λ symbol args k a low has' is_a. elim (below_or_last k argument low) [
    | inl before ↦ let P : List ℕ → Type 0 = λ labels. Contains (new.lists (Parent (slice_index labels a) symbol k)) term in
        subst P (sym (labels_same old new step)) (step.keeps _ term (listed symbol args k a before (has_old symbol args has') is_a))
    | inr last ↦
        let rows_one : term_row symbol args ≡ row = same_row old.rows term (term_row symbol args) row (has_old symbol args has') has in
        let args_one : args ≡ row.args = ap (λ (r : TermRow). r.args) rows_one in
        let arg_one : a ≡ arg = same_arg row.args argument a arg (ap (λ k'. slice_get row.args k') (sym last) ∙ ap (λ xs. slice_get xs k) (sym args_one) ∙ is_a) is_arg in
        let P : ℕ → Type 0 = λ l. Contains (new.lists (Parent l row.symbol argument)) term in
        let Q : ℕ → Type 0 = λ f. Contains (new.lists (Parent (slice_index new.labels a) f argument)) term in
        let R : ℕ → Type 0 = λ k'. Contains (new.lists (Parent (slice_index new.labels a) symbol k')) term in
        subst R (sym last) (subst Q (ap (λ (r : TermRow). r.symbol) (sym rows_one)) (subst P (sym is_label ∙ ap (slice_index old.labels) (sym arg_one) ∙ ap (λ ls. slice_index ls a) (sym (labels_same old new step))) h.listed))
  ],
)
  where
    step : ListsMore old new
    step = ListsMore-listing old new (Parent label row.symbol argument) term h (row.args, arg, has, is_arg, is_label)

    has_old : (symbol : ℕ) (args : List ℕ) → HasRow new.rows term (term_row symbol args) → HasRow old.rows term (term_row symbol args)
    has_old symbol args has' = ap (λ rows. slice_get rows term) (sym (rows_same old new step)) ∙ has'

-- once all arguments are listed
pub AreParentsListed-all : (s : State) (row : TermRow) (term : ℕ) → HasRow s.rows term row → AreListedBelow s term (length row.args) → AreParentsListed s term
AreParentsListed-all s row term has listed symbol args argument arg has' is_arg =
    let rows_one : term_row symbol args ≡ row = same_row s.rows term (term_row symbol args) row has' has in
    listed symbol args argument arg (rw (ap (λ (r : TermRow). length r.args) (sym rows_one)) (slice_get_within args argument arg is_arg)) has' is_arg

-- what holds of each holds of the one at a place
pub All-at : {X : Type 0} (P : X → Type 0) (xs : List X) (k : ℕ) (x : X) → All P xs → slice_get xs k ≡ Some x → P x
All-at P [] k x all is = absurd (let h = slice_get_within {A = _} [] k x is in omega arith)
All-at P (y ∷ ys) zero x all is = let same : y ≡ x = cc in subst P same (all 0 x (omega arith))
All-at P (y ∷ ys) (suc k) x all is = All-at P ys k x (λ j d h. all (suc j) d (omega arith)) is

-- an argument that was read has a label
pub arg_in : (s : State) (row : TermRow) (term k arg : ℕ) → IsTable s.rows → length s.labels ≡ length s.rows → HasRow s.rows term row → slice_get row.args k ≡ Some arg → arg < length s.labels
arg_in s row term k arg table lengths has is_arg =
    let low = All-at (λ x. x < term) row.args k arg (table.earlier term row has) is_arg in
    let high = slice_get_within s.rows term row has in
    omega arith

-- the row that is read later is the row
pub row_stays : (old new : State) (row row' : TermRow) (term : ℕ) → ListsMore old new → HasRow old.rows term row → HasRow new.rows term row' → row ≡ row'
row_stays old new row row' term more has has' = same_row old.rows term row row' has (ap (λ rows. slice_get rows term) (sym (rows_same old new more)) ∙ has')

-- what is read of the row later is what stands in it
module _ (old new : State) (row row' : TermRow) (term k arg : ℕ) (more : ListsMore old new) (has_row : HasRow old.rows term row) (has_row' : HasRow new.rows term row') where
  pub is_arg_now : slice_get row'.args k ≡ Some arg → slice_get row.args k ≡ Some arg
  is_arg_now is = ap (λ (r : TermRow). slice_get r.args k) (row_stays old new row row' term more has_row has_row') ∙ is

  pub has_now : HasRow new.rows term row
  has_now = ap (λ rows. slice_get rows term) (rows_same old new more) ∙ has_row

  pub label_stands : IsTable old.rows → length old.labels ≡ length old.rows → slice_get row'.args k ≡ Some arg → arg < length new.labels
  label_stands table lengths is =
      let low = arg_in old row term k arg table lengths has_row (is_arg_now is) in
      let e = ap length (labels_same old new more) in omega arith

-- ---- a whole list of terms

-- one more term of a list
pub listed_more : (P : ℕ → Type 0) (Q : ℕ → Type 0) (xs : List ℕ) (i x : ℕ) → i < length xs → x ≡ slice_index xs i → ((t : ℕ) → P t → Q t) → ((t : ℕ) → Contains (take i xs) t → P t) → Q x → (t : ℕ) → Contains (take (i + 1) xs) t → Q t
listed_more P Q xs i x h is step before last t c =
    let R : List ℕ → Type 0 = λ ys. Contains ys t in
    elim (contains_push_cases (take i xs) (slice_index xs i) t (subst R (take_one_more xs i h) c)) [
      | inl earlier ↦ step t (before t earlier)
      | inr here ↦ subst Q (is ∙ sym here) last
    ]

-- all of a list
pub listed_all : (P : ℕ → Type 0) (xs : List ℕ) (i : ℕ) → i ≡ length xs → ((t : ℕ) → Contains (take i xs) t → P t) → (t : ℕ) → Contains xs t → P t
listed_all P xs i all before t c = let R : List ℕ → Type 0 = λ ys. Contains ys t in before t (subst R (sym (ap (λ k. take k xs) all ∙ take_all xs)) c)
  where
    take_all : (ys : List ℕ) → take (length ys) ys ≡ ys
    take_all [] = refl
    take_all (y ∷ ys) = ap (λ zs. y ∷ zs) (take_all ys)

-- none of a list yet
pub listed_none : (P : ℕ → Type 0) (xs : List ℕ) → (t : ℕ) → Contains (take 0 xs) t → P t
listed_none P xs t c = absurd (contains_none t c)
