-- Making that keeps a draft sound.
use Rattle.std.proofs.Common.{◌≡◌, ℕ, ◌⊎◌, ⊎_elim, inl, inr, Bool, true, false, List, [], ◌∷◌, ◌++◌, length, slice_get, Option, Some, None, Result, Ok, Err, refl, sym, subst, append-nil}
use Rattle.std.specs.Option.{option_map}
use Rattle.graph_terms.proofs.ListLaws.{slice_get-push, push_cases}
use Rattle.smt_text.specs.declared.token.Place.{Place}
use Rattle.formula_draft.specs.declared.draft_row.DraftRow.{DraftRow}
use Rattle.formula_draft.specs.declared.draft_node.DraftNode.{DraftNode}
use Rattle.formula_draft.specs.DraftRow.{same_row}
use Rattle.formula_draft.specs.DraftNode.{same_node}
use Rattle.formula_draft.specs.Items.{with_item}
use Rattle.formula_draft.proofs.ItemLaws.{put_cases}
use Rattle.formula_draft.proofs.SameLaws.{Tells, found_at, rows_told, nodes_told}
use Rattle.formula_draft.specs.Draft.{Draft, IsDraft, FitsRow, FitsNode}
use Rattle.formula_draft.proofs.KeptLaws.{IsDraft-row, IsDraft-node}
use Rattle.smt_names.specs.declared.syntax_fault.SyntaxFault.{SyntaxFault}
use Rattle.smt_names.specs.declared.refusal.Refusal.{Refusal}
use Rattle.smt_names.specs.declared.refusal.Refusal.TheVariants.{TermsFull, NodesFull}
use Rattle.smt_names.specs.Making.{Making, gives, then_from, or_full, row, node, must_hold}
use Rattle.formula_draft.specs.Sorted.{Signature, HasSort, HaveSorts, IsPlain, ArePlain, IsTruth, AreTruths}
use Rattle.smt_laws.specs.Sound.{IsWhole}
use Rattle.smt_laws.proofs.Growing.{keeps_all, Extends, extends_itself, extends_twice, rows_keep, nodes_keep, foralls_keep, sort_kept, sorts_kept, plain_kept, plains_kept, truth_kept, truths_kept}

-- Where parts are made: the functions, the sorts of the variables, whether a formula may hold a forall, and whether all rows and nodes
-- have sorts by these variables, as in a definition.
pub record Setting : Type 0 where
  pub functions : List Signature
  pub variables : List ℕ
  pub universal : Bool
  pub whole : Bool
  pub apart : whole ≡ true → universal ≡ true → ⊥

-- what the definitions say at a setting
abbrev pub Sort : Setting → Draft → ℕ → ℕ → Type 0
Sort s draft row sort = HasSort s.functions s.variables draft.rows row sort

abbrev pub Sorts : Setting → Draft → List ℕ → List ℕ → Type 0
Sorts s draft rows sorts = HaveSorts s.functions s.variables draft.rows rows sorts

abbrev pub Plain : Setting → Draft → ℕ → Type 0
Plain s draft n = IsPlain s.functions s.variables draft.rows draft.nodes n

abbrev pub Plains : Setting → Draft → List ℕ → Type 0
Plains s draft ns = ArePlain s.functions s.variables draft.rows draft.nodes ns

abbrev pub Truth : Setting → Draft → ℕ → Type 0
Truth s draft n = IsTruth s.functions s.variables draft.rows draft.nodes draft.foralls n

abbrev pub Truths : Setting → Draft → List ℕ → Type 0
Truths s draft ns = AreTruths s.functions s.variables draft.rows draft.nodes draft.foralls ns

-- the draft is lawful, and in a definition all its rows and nodes have sorts
pub record Sound (s : Setting) (draft : Draft) : Type 0 where
  pub draft_is : IsDraft draft
  pub whole : s.whole ≡ true → IsWhole s.functions s.variables draft.rows draft.nodes

-- what was made keeps the draft sound, and fits
pub data Good {A : Type 0} (s : Setting) (old : Draft) (P : Draft → A → Type 0) : Result (A × Draft) SyntaxFault → Type 0 where
  makes : {value : A} {new : Draft} → Sound s new → Extends old new → P new value → Good s old P (Ok (value, new))
  refuses : {fault : SyntaxFault} → Good s old P (Err fault)

-- what stays so when the draft grows
module _ (s : Setting) (old new : Draft) (extends : Extends old new) where
  pub sort_later : {row sort : ℕ} → Sort s old row sort → Sort s new row sort
  sort_later = sort_kept s.functions s.functions (keeps_all s.functions) old.rows new.rows (rows_keep old new extends) s.variables s.variables (keeps_all s.variables)

  pub sorts_later : {rows sorts : List ℕ} → Sorts s old rows sorts → Sorts s new rows sorts
  sorts_later = sorts_kept s.functions s.functions (keeps_all s.functions) old.rows new.rows (rows_keep old new extends) s.variables s.variables (keeps_all s.variables)

  pub plain_later : {n : ℕ} → Plain s old n → Plain s new n
  plain_later = plain_kept s.functions s.functions (keeps_all s.functions) old.rows new.rows (rows_keep old new extends) old.nodes new.nodes (nodes_keep old new extends) s.variables s.variables (keeps_all s.variables)

  pub plains_later : {ns : List ℕ} → Plains s old ns → Plains s new ns
  plains_later = plains_kept s.functions s.functions (keeps_all s.functions) old.rows new.rows (rows_keep old new extends) old.nodes new.nodes (nodes_keep old new extends) s.variables s.variables (keeps_all s.variables)

  pub truth_later : {n : ℕ} → Truth s old n → Truth s new n
  truth_later = truth_kept s.functions s.functions (keeps_all s.functions) old.rows new.rows (rows_keep old new extends) old.nodes new.nodes (nodes_keep old new extends) old.foralls new.foralls (foralls_keep old new extends) s.variables s.variables (keeps_all s.variables)

  pub truths_later : {ns : List ℕ} → Truths s old ns → Truths s new ns
  truths_later = truths_kept s.functions s.functions (keeps_all s.functions) old.rows new.rows (rows_keep old new extends) old.nodes new.nodes (nodes_keep old new extends) old.foralls new.foralls (foralls_keep old new extends) s.variables s.variables (keeps_all s.variables)

-- one after the other
pub good_from : {A : Type 0} (s : Setting) (old new : Draft) {P : Draft → A → Type 0} → Extends old new → (r : Result (A × Draft) SyntaxFault) → Good s new P r → Good s old P r
good_from s old new extends r (makes {new = last} sound more fits) = makes sound (extends_twice old new last extends more) fits
good_from s old new extends r refuses = refuses

pub good_then : {A B : Type 0} (s : Setting) (old : Draft) {P : Draft → A → Type 0} {Q : Draft → B → Type 0} (rest : A → Making B) {r : Result (A × Draft) SyntaxFault}
    → Good s old P r → ((value : A) (new : Draft) → Sound s new → Extends old new → P new value → Good s new Q (rest value new)) → Good s old Q (then_from rest r)
good_then s old rest (makes {value = value} {new = new} sound extends fits) goes = good_from s old new extends (rest value new) (goes value new sound extends fits)
good_then s old rest refuses goes = refuses

-- nothing put
pub good_made : {A : Type 0} (s : Setting) (draft : Draft) {P : Draft → A → Type 0} (value : A) → Sound s draft → P draft value → Good s draft P (gives value draft)
good_made s draft value sound fits = makes sound (extends_itself draft) fits

pub good_want : (s : Setting) (draft : Draft) (test : Bool) (refusal : Refusal) (place : Place) → Sound s draft → Good s draft (λ _ _. test ≡ true) (must_hold test refusal place draft)
good_want s draft true refusal place sound = makes sound (extends_itself draft) refl
good_want s draft false refusal place sound = refuses

-- weaker
pub good_as : {A : Type 0} (s : Setting) (old : Draft) {P Q : Draft → A → Type 0} {r : Result (A × Draft) SyntaxFault} → ((new : Draft) (value : A) → Extends old new → P new value → Q new value) → Good s old P r → Good s old Q r
good_as s old weaker (makes {value = value} {new = new} sound extends fits) = makes sound extends (weaker new value extends fits)
good_as s old weaker refuses = refuses

-- an item that was put
pub record Put {X : Type 0} (item : X) (old after : List X) (n : ℕ) : Type 0 where
  pub more : List X
  pub grew : after ≡ old ++ more
  pub stands : slice_get after n ≡ Some item
  pub only : (m : ℕ) (x : X) → slice_get after m ≡ Some x → (slice_get old m ≡ Some x) ⊎ (m ≡ n)

pub was_put : {X : Type 0} (same : X → X → Bool) → Tells same → (most : ℕ) (item : X) (old after : List X) (n : ℕ) → with_item same most item old ≡ Some (n, after) → Put item old after n
was_put same told most item old after n = put_cases same most item old (λ k items. Put item old items k)
    (λ k found. record { more = []; grew = sym (append-nil old); stands = found_at same told item old k found; only = λ m x at. inl at })
    (λ fresh room. record { more = item ∷ []; grew = refl; stands = slice_get-push old item; only = λ m x at. ⊎_elim inl (λ p. inr p.0) (push_cases old item m x at) })
    n after

module _ (s : Setting) (at : Place) (draft : Draft) (sound : Sound s draft) where
  -- a row that is put has its sort
  pub good_row : (new : DraftRow) (sort : ℕ) → FitsRow (length draft.rows) new → ((later : Draft) (n : ℕ) → Extends draft later → slice_get later.rows n ≡ Some new → Sort s later n sort)
      → Good s draft (λ d n. Sort s d n sort) (row at new draft)
  good_row new sort fits sorted = go (with_item same_row draft.most_rows new draft.rows) refl
    where
      go : (o : Option (ℕ × List DraftRow)) → with_item same_row draft.most_rows new draft.rows ≡ o
          → Good s draft (λ d n. Sort s d n sort) (or_full TermsFull at (option_map (λ (put : ℕ × List DraftRow). (put.0, record draft { rows = put.1 })) o))
      go None is = refuses
      go (Some put) is =
          let n = put.0 in
          let after = put.1 in
          let later : Draft = record draft { rows = after } in
          let has = was_put same_row rows_told draft.most_rows new draft.rows after n is in
          let extends : Extends draft later = record { more_rows = has.more; rows = has.grew; more_nodes = []; nodes = sym (append-nil draft.nodes); more_foralls = []; foralls = sym (append-nil draft.foralls) } in
          let here = sorted later n extends has.stands in
          makes (record {
            draft_is = IsDraft-row draft sound.draft_is new fits n after is;
            whole = λ w. record {
              rows_sorted = λ m x stands. ⊎_elim (λ old. let had = (sound.whole w).rows_sorted m x old in (had.0, sort_later s draft later extends had.1)) (λ same. (sort, subst (λ k. Sort s later k sort) (sym same) here)) (has.only m x stands);
              nodes_plain = λ m x stands. plain_later s draft later extends ((sound.whole w).nodes_plain m x stands);
            };
          }) extends here

  -- and a node is what it is to be
  pub good_node : (new : DraftNode) (P : Draft → ℕ → Type 0) → FitsNode (length draft.rows) (length draft.nodes) (length draft.foralls) new
      → ((later : Draft) (n : ℕ) → Extends draft later → slice_get later.nodes n ≡ Some new → P later n × (s.whole ≡ true → Plain s later n))
      → Good s draft P (node at new draft)
  good_node new P fits is_so = go (with_item same_node draft.most_nodes new draft.nodes) refl
    where
      go : (o : Option (ℕ × List DraftNode)) → with_item same_node draft.most_nodes new draft.nodes ≡ o
          → Good s draft P (or_full NodesFull at (option_map (λ (put : ℕ × List DraftNode). (put.0, record draft { nodes = put.1 })) o))
      go None is = refuses
      go (Some put) is =
          let n = put.0 in
          let after = put.1 in
          let later : Draft = record draft { nodes = after } in
          let has = was_put same_node nodes_told draft.most_nodes new draft.nodes after n is in
          let extends : Extends draft later = record { more_rows = []; rows = sym (append-nil draft.rows); more_nodes = has.more; nodes = has.grew; more_foralls = []; foralls = sym (append-nil draft.foralls) } in
          let here = is_so later n extends has.stands in
          makes (record {
            draft_is = IsDraft-node draft sound.draft_is new fits n after is;
            whole = λ w. record {
              rows_sorted = (sound.whole w).rows_sorted;
              nodes_plain = λ m x stands. ⊎_elim (λ old. plain_later s draft later extends ((sound.whole w).nodes_plain m x old)) (λ same. subst (λ k. Plain s later k) (sym same) (here.1 w)) (has.only m x stands);
            };
          }) extends here.0
