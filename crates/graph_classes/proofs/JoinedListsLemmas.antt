-- The lists and the leaders once two classes are one.
use Rattle.std.proofs.Common.{◌≡◌, ◌≢◌, ◌≤◌, ◌<◌, ◌⊎◌, inl, inr, ℕ, List, [], ◌∷◌, zero, suc, length, slice_index_or, Some, slice_get, slice_index, Contains, sym, ◌∙◌, ap, subst, arith}
use Rattle.std.proofs.lemmas.Bool.Decides.{eqb_tells}
use Rattle.std.proofs.lemmas.Option.{slice_get_within}
use Rattle.graph_terms.specs.declared.term_row.TermRow.{TermRow}
use Rattle.graph_terms.specs.Terms.{term_row, HasRow}
use Rattle.graph_classes.specs.declared.place.Place.{Place}
use Rattle.graph_classes.specs.declared.place.Place.TheVariants.{Symbol, Member, Parent}
use Rattle.graph_classes.specs.State.{State, list_at}
use Rattle.graph_classes.specs.Indexed.{IsIndexed, IsRelabelled}
use Rattle.graph_classes.specs.Listed.{Belongs, IsOwn, IsRead, IsBeyond, AreListed, AreLed, IsLed, IsListed, ListsMore, IsMemberListed, AreParentsListed}
use Rattle.graph_classes.proofs.StepLemmas.{taken, kept, taken_or_kept}

-- a place of an argument holds it
pub contains_at : (xs : List ℕ) (k x : ℕ) → slice_get xs k ≡ Some x → Contains xs x
contains_at xs k x is = (k, slice_get_within xs k x is, slice_get_read_or xs k x is)
  where
    slice_get_read_or : (ys : List ℕ) (k x : ℕ) → slice_get ys k ≡ Some x → slice_index_or ys k x ≡ x
    slice_get_read_or [] k x is = let h = slice_get_within [] k x is in absurd (omega arith)
    slice_get_read_or (y ∷ ys) zero x is = cc
    slice_get_read_or (y ∷ ys) (suc k) x is = slice_get_read_or ys k x is

module _ (s : State) (labels' : List ℕ) (from into : ℕ) (indexed : IsIndexed s) (relabelled : IsRelabelled s.labels labels' from into) (from_own : IsOwn s.labels from) (into_own : IsOwn s.labels into) (apart : from ≢ into) where
  -- a label that is its own now was so, and isn't the one that went
  own_before : (l : ℕ) → IsOwn labels' l → IsOwn s.labels l × (l ≢ from)
  own_before l own =
      let h : l < length s.labels = rw (← relabelled.len) own.0 in
      elim (taken_or_kept s.labels labels' from into relabelled l h) [
        | inl took ↦ let is_into : l ≡ into = sym own.1 ∙ took.1 in absurd (apart (sym took.0 ∙ ap (slice_index s.labels) is_into ∙ into_own.1))
        | inr same ↦ ((h, sym same ∙ own.1), λ is_from. apart (sym from_own.1 ∙ ap (slice_index s.labels) (sym is_from) ∙ sym same ∙ ap (slice_index labels') is_from ∙ taken s.labels labels' from into relabelled from from_own.0 from_own.1))
      ]

  -- a term whose label didn't go has it still
  stays : (t l : ℕ) → t < length s.labels → l ≢ from → slice_index s.labels t ≡ l → slice_index labels' t ≡ l
  stays t l h other is = kept s.labels labels' from into relabelled t h (λ e. other (sym is ∙ e)) ∙ is

  read_before : (place : Place) → IsRead labels' place → IsRead s.labels place
  read_before (Symbol f) read = tt
  read_before (Member l f) read = (own_before l read).0
  read_before (Parent l f i) read = (own_before l read).0

  row_in : (t : ℕ) (row : TermRow) → HasRow s.rows t row → t < length s.labels
  row_in t row has = rw indexed.labels_len (slice_get_within s.rows t row has)

  arg_in : (t symbol : ℕ) (args : List ℕ) (k arg : ℕ) → HasRow s.rows t (term_row symbol args) → slice_get args k ≡ Some arg → arg < length s.labels
  arg_in t symbol args k arg has is = rw indexed.labels_len (indexed.args_in t (term_row symbol args) arg has (contains_at args k arg is))

  -- what belonged at a place that is read belongs there still
  belongs_still : (place : Place) (t : ℕ) → IsRead labels' place → Belongs s.rows s.labels place t → Belongs s.rows labels' place t
  belongs_still (Symbol f) t read b = b
  belongs_still (Member l f) t read b = (b.0, b.1, stays t l (row_in t (term_row f b.0) b.1) (own_before l read).1 b.2)
  belongs_still (Parent l f i) t read b = (b.0, b.1, b.2, b.3, stays b.1 l (arg_in t f b.0 i b.1 b.2 b.3) (own_before l read).1 b.4)

  module _ (lists lists' : Place → List ℕ) (listed : AreListed s.rows s.labels lists) (keeps : (q : Place) (t : ℕ) → Contains (lists q) t → Contains (lists' q) t) (sound : (q : Place) (t : ℕ) → Contains (lists' q) t → Contains (lists q) t ⊎ Belongs s.rows labels' q t)
      (members : (t : ℕ) → Contains (list_at s.members from) t → (symbol : ℕ) (args : List ℕ) → HasRow s.rows t (term_row symbol args) → Contains (lists' (Member (slice_index labels' t) symbol)) t)
      (uses : (t : ℕ) → Contains (list_at s.uses from) t → (symbol : ℕ) (args : List ℕ) (k arg : ℕ) → HasRow s.rows t (term_row symbol args) → slice_get args k ≡ Some arg → Contains (lists' (Parent (slice_index labels' arg) symbol k)) t) where
    listed_now : (place : Place) (t : ℕ) → IsRead labels' place → Belongs s.rows labels' place t → Contains (lists' place) t
    listed_now (Symbol f) t read b = keeps (Symbol f) t ((listed.exact (Symbol f) tt t).1 b)
    listed_now (Member l f) t read b = elim (taken_or_kept s.labels labels' from into relabelled t (row_in t (term_row f b.0) b.1)) [
      | inl took ↦ let P : ℕ → Type 0 = λ k. Contains (list_at s.members k) t in let Q : ℕ → Type 0 = λ k. Contains (lists' (Member k f)) t in
          subst Q b.2 (members t (subst P took.0 (indexed.is_member t (slice_get_within s.rows t (term_row f b.0) b.1))) f b.0 b.1)
      | inr same ↦ keeps (Member l f) t ((listed.exact (Member l f) (own_before l read).0 t).1 (b.0, b.1, sym same ∙ b.2))
    ]
    listed_now (Parent l f i) t read b = elim (taken_or_kept s.labels labels' from into relabelled b.1 (arg_in t f b.0 i b.1 b.2 b.3)) [
      | inl took ↦ let P : ℕ → Type 0 = λ k. Contains (list_at s.uses k) t in let Q : ℕ → Type 0 = λ k. Contains (lists' (Parent k f i)) t in
          subst Q b.4 (uses t (subst P took.0 (indexed.is_use t (term_row f b.0) b.1 b.2 (contains_at b.0 i b.1 b.3))) f b.0 i b.1 b.2 b.3)
      | inr same ↦ keeps (Parent l f i) t ((listed.exact (Parent l f i) (own_before l read).0 t).1 (b.0, b.1, b.2, b.3, sym same ∙ b.4))
    ]

    new_label_in : (t : ℕ) → t < length s.labels → slice_index labels' t < length s.labels
    new_label_in t h = elim (taken_or_kept s.labels labels' from into relabelled t h) [
      | inl took ↦ rw took.1 into_own.0
      | inr same ↦ rw same (rw indexed.labels_len (indexed.label_in t (rw (← indexed.labels_len) h)))
    ]

    beyond_none : (place : Place) → IsBeyond labels' place → (t : ℕ) → Contains (lists' place) t → ⊥
    beyond_none (Symbol f) beyond t c = beyond
    beyond_none (Member l f) beyond t c = elim (sound (Member l f) t c) [
      | inl before ↦ listed.none_beyond (Member l f) (rw (← relabelled.len) beyond) t before
      | inr b ↦ let low = new_label_in t (row_in t (term_row f b.0) b.1) in let e = b.2 in let len = relabelled.len in omega arith
    ]
    beyond_none (Parent l f i) beyond t c = elim (sound (Parent l f i) t c) [
      | inl before ↦ listed.none_beyond (Parent l f i) (rw (← relabelled.len) beyond) t before
      | inr b ↦ let low = new_label_in b.1 (arg_in t f b.0 i b.1 b.2 b.3) in let e = b.4 in let len = relabelled.len in omega arith
    ]

    pub AreListed-joined : AreListed s.rows labels' lists'
    AreListed-joined = record {
      exact = λ place read t. (
        (λ c. elim (sound place t c) [
          | inl before ↦ belongs_still place t read ((listed.exact place (read_before place read) t).0 before)
          | inr b ↦ b
        ]),
        (λ b. listed_now place t read b),
      );
      none_beyond = beyond_none;
    }

  module _ (leaders leaders' : List ℕ) (led : AreLed s.labels leaders) (changed : IsLed leaders leaders' from into) where
    leader_now : (l : ℕ) → IsOwn labels' l → (slice_index leaders' l < length labels') × (slice_index labels' (slice_index leaders' l) ≡ l)
    leader_now l own =
        let before = own_before l own in
        elim (eqb_tells l into) [
          | inl is_into ↦ elim changed.one_of_two [
            | inl of_from ↦
                let e : slice_index leaders' l ≡ slice_index leaders from = ap (slice_index leaders') is_into.1 ∙ of_from in
                let low = led.is_term from from_own in
                (rw (e, relabelled.len) low, ap (slice_index labels') e ∙ taken s.labels labels' from into relabelled (slice_index leaders from) low (led.own from from_own) ∙ sym is_into.1)
            | inr of_into ↦
                let e : slice_index leaders' l ≡ slice_index leaders into = ap (slice_index leaders') is_into.1 ∙ of_into in
                let low = led.is_term into into_own in
                (rw (e, relabelled.len) low, ap (slice_index labels') e ∙ stays (slice_index leaders into) into low (λ f. apart (sym f)) (led.own into into_own) ∙ sym is_into.1)
          ]
          | inr other ↦
              let e = changed.others l other.1 in
              let low = led.is_term l before.0 in
              (rw (e, relabelled.len) low, ap (slice_index labels') e ∙ stays (slice_index leaders l) l low before.1 (led.own l before.0))
        ]

    least_now : (t : ℕ) → t < length labels' → slice_index leaders' (slice_index labels' t) ≤ t
    least_now t h' =
        let h : t < length s.labels = rw (← relabelled.len) h' in
        let low = led.least t h in
        elim (taken_or_kept s.labels labels' from into relabelled t h) [
          | inl took ↦ let a = changed.below_from in let e = ap (slice_index leaders') took.1 in let f = ap (slice_index leaders) took.0 in omega arith
          | inr same ↦ elim (eqb_tells (slice_index s.labels t) into) [
            | inl is_into ↦ let a = changed.below_into in let e = ap (slice_index leaders') (same ∙ is_into.1) in let f = ap (slice_index leaders) is_into.1 in omega arith
            | inr other ↦ let e = ap (slice_index leaders') same ∙ changed.others (slice_index s.labels t) other.1 in omega arith
          ]
        ]

    pub AreLed-joined : AreLed labels' leaders'
    AreLed-joined = record {
      each = changed.each ∙ led.each ∙ sym relabelled.len;
      is_term = λ l own. (leader_now l own).0;
      own = λ l own. (leader_now l own).1;
      least = least_now;
    }

-- the classes were moved, listed anew and led
pub IsListed-joined : (s moved listed led : State) (from into : ℕ) → IsIndexed s → IsListed s → from < length s.rows → into < length s.rows → slice_index s.labels from ≡ from → slice_index s.labels into ≡ into → from ≢ into
    → IsRelabelled s.labels moved.labels from into → moved.rows ≡ s.rows → list_at moved.members from ≡ list_at s.members from → list_at moved.uses from ≡ list_at s.uses from → moved.leaders ≡ s.leaders → moved.lists ≡ s.lists
    → ListsMore moved listed → ((t : ℕ) → Contains (list_at moved.members from) t → IsMemberListed listed t) → ((t : ℕ) → Contains (list_at moved.uses from) t → AreParentsListed listed t)
    → led ≡ record listed { leaders = led.leaders } → IsLed listed.leaders led.leaders from into → IsListed led
IsListed-joined s moved listed led from into indexed right from_in into_in from_own into_own apart relabelled rows members uses leaders lists more members_listed uses_listed alone is_led =
    let rows_led : led.rows ≡ s.rows = ap (λ (m : State). m.rows) alone ∙ ap (λ (m : State). m.rows) more.alone ∙ rows in
    let labels_led : led.labels ≡ moved.labels = ap (λ (m : State). m.labels) alone ∙ ap (λ (m : State). m.labels) more.alone in
    let lists_led : led.lists ≡ listed.lists = ap (λ (m : State). m.lists) alone in
    let leaders_before : listed.leaders ≡ s.leaders = ap (λ (m : State). m.leaders) more.alone ∙ leaders in
    let rows_listed : listed.rows ≡ s.rows = ap (λ (m : State). m.rows) more.alone ∙ rows in
    let labels_listed : listed.labels ≡ moved.labels = ap (λ (m : State). m.labels) more.alone in
    let own_from : IsOwn s.labels from = (rw indexed.labels_len from_in, from_own) in
    let own_into : IsOwn s.labels into = (rw indexed.labels_len into_in, into_own) in
    let P : List TermRow → Type 0 = λ rs. AreListed rs led.labels led.lists in
    let Q : List ℕ → Type 0 = λ ls. AreListed s.rows ls led.lists in
    let R : (Place → List ℕ) → Type 0 = λ f. AreListed s.rows moved.labels f in
    let S : List ℕ → Type 0 = λ ls. AreLed ls led.leaders in
    let T : List ℕ → Type 0 = λ ls. IsLed ls led.leaders from into in
    record {
      lists = subst P (sym rows_led) (subst Q (sym labels_led) (subst R (sym lists_led) (AreListed-joined s moved.labels from into indexed relabelled own_from own_into apart s.lists listed.lists right.lists
          (λ q t c. more.keeps q t (let U : (Place → List ℕ) → Type 0 = λ f. Contains (f q) t in subst U (sym lists) c))
          (λ q t c. elim (more.sound q t c) [
            | inl before ↦ inl (let U : (Place → List ℕ) → Type 0 = λ f. Contains (f q) t in subst U lists before)
            | inr b ↦ inr (let U : List TermRow → Type 0 = λ rs. Belongs rs moved.labels q t in subst U rows b)
          ])
          (λ t c symbol args has. let U : List ℕ → Type 0 = λ ls. Contains (listed.lists (Member (slice_index ls t) symbol)) t in let V : List ℕ → Type 0 = λ ts. Contains ts t in
          subst U labels_listed (members_listed t (subst V (sym members) c) symbol args (ap (λ rs. slice_get rs t) rows_listed ∙ has)))
          (λ t c symbol args k arg has is. let U : List ℕ → Type 0 = λ ls. Contains (listed.lists (Parent (slice_index ls arg) symbol k)) t in let V : List ℕ → Type 0 = λ ts. Contains ts t in
          subst U labels_listed (uses_listed t (subst V (sym uses) c) symbol args k arg (ap (λ rs. slice_get rs t) rows_listed ∙ has) is)))));
      leaders = subst S (sym labels_led) (AreLed-joined s moved.labels from into indexed relabelled own_from own_into apart s.leaders led.leaders right.leaders (subst T leaders_before is_led));
    }
