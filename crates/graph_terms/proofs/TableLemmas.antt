-- What a `TermTable` finds, and what stays true when it grows or is cut.
use Rattle.std.proofs.Common.{◌≡◌, ℕ, zero, suc, ◌<◌, ◌≤◌, Bool, true, false, cond, nat_eq, List, [], ◌∷◌, ◌++◌, length, take, slice_get, position, Option, Some, None, is_some, All, Vec, refl, sym, ap, ap₂, subst, inr, ◌∙◌, ⊎_elim, arith, true≢false}
use Rattle.std.specs.declared.alloc.Global.{Global}
use Rattle.std.specs.Map.{keys_of, values_of, lookup}
use Rattle.std.specs.Option.{option_map}
use Rattle.std.specs.Cmp.Lexicographic.{pointwise, bytes_decides}
use Rattle.std.proofs.lemmas.Option.{none-some, same_Some, slice_get-map, get_or_from_slice_get}
use Rattle.std.proofs.lemmas.List.Quantifiers.{position-Some}
use Rattle.std.proofs.lemmas.List.{take-map, length-append}
use Rattle.graph_terms.specs.declared.term_row.TermRow.{TermRow}
use Rattle.graph_terms.specs.Terms.{most_args, term_row, HasRow, IsAbsent, IsTable, Table, Takes}
use Rattle.graph_terms.specs.Entries.{key_of, IsKeyed, PutsRow}
use Rattle.graph_terms.proofs.ListLaws.{slice_get-push, push_cases, slice_get-take, element_at}
use Rattle.graph_terms.proofs.TableLaws.{IsTable-push}
use Rattle.indexmap.proofs.MapLemmas.{Found-position}

abbrev Entry : Type 0
Entry = Vec ℕ Global × TermRow

-- the entry behind a value
pub entry_at : (entries : List Entry) (term : ℕ) (row : TermRow) → HasRow (values_of entries) term row → (entry : Entry) × (slice_get entries term ≡ Some entry) × (entry.1 ≡ row)
entry_at [] term row h = absurd (none-some row h)
entry_at (entry ∷ entries) zero row h = (entry, refl, same_Some entry.1 row h)
entry_at (entry ∷ entries) (suc term) row h = entry_at entries term row h

cond_none : {X : Type 0} (b : Bool) (x : X) (o : Option X) → cond b (Some x) o ≡ None → (b ≡ false) × (o ≡ None)
cond_none true x o h = absurd (none-some x (sym h))
cond_none false x o h = (refl, h)

-- where the look-up finds nothing, no entry passes
misses : (test : Vec ℕ Global → Bool) (entries : List Entry) → lookup test entries ≡ None → (term : ℕ) (entry : Entry) → slice_get entries term ≡ Some entry → test entry.0 ≡ false
misses test [] none term entry at = absurd (none-some entry at)
misses test (e ∷ entries) none zero entry at = subst (λ x. test x.0 ≡ false) (same_Some e entry at) (cond_none (test e.0) e.1 (lookup test entries) none).0
misses test (e ∷ entries) none (suc term) entry at = misses test entries (cond_none (test e.0) e.1 (lookup test entries) none).1 term entry at

-- rows with one key are one
row_by_key : (row : TermRow) (symbol : ℕ) (args : List ℕ) → symbol ∷ args ≡ key_of row → row ≡ term_row symbol args
row_by_key row symbol args e =
    let symbols : row.symbol ≡ symbol = cc in
    let both : row.args ≡ args = cc in
    ap₂ term_row symbols both

module _ (entries : List Entry) (keyed : IsKeyed entries) (symbol : ℕ) (args : List ℕ) where
  -- what the key is found at is its row
  pub found_row : (term : ℕ) → position (λ k. pointwise nat_eq (symbol ∷ args) k.items) (keys_of entries) ≡ Some term → HasRow (values_of entries) term (term_row symbol args)
  found_row term h =
      let test : Vec ℕ Global → Bool = λ k. pointwise nat_eq (symbol ∷ args) k.items in
      let found = Found-position test entries term h in
      let here = element_at entries term found.within in
      let key : slice_get (keys_of entries) term ≡ Some here.0.0 = slice_get-map (λ (e : Entry). e.0) entries term ∙ ap (option_map (λ (e : Entry). e.0)) here.1 in
      let passes = (position-Some test (keys_of entries) term here.0.0 h).1 in
      let same : symbol ∷ args ≡ here.0.0.items = (bytes_decides (symbol ∷ args) here.0.0.items).0 (subst (λ k. test k ≡ true) (get_or_from_slice_get (keys_of entries) term here.0.0 here.0.0 key) passes) in
      slice_get-map (λ (e : Entry). e.1) entries term ∙ ap (option_map (λ (e : Entry). e.1)) here.1 ∙ ap Some (row_by_key here.0.1 symbol args (same ∙ keyed term here.0 here.1))

  -- where the key isn't found, no term has the row
  pub absent_row : lookup (λ k. pointwise nat_eq (symbol ∷ args) k.items) entries ≡ None → IsAbsent (values_of entries) (term_row symbol args)
  absent_row none term has =
      let test : Vec ℕ Global → Bool = λ k. pointwise nat_eq (symbol ∷ args) k.items in
      let here = entry_at entries term (term_row symbol args) has in
      let same : symbol ∷ args ≡ here.0.0.items = sym (keyed term here.0 here.1 ∙ ap key_of here.2) in
      true≢false (sym ((bytes_decides (symbol ∷ args) here.0.0.items).1 same) ∙ misses test entries none term here.0 here.1)

-- a row with more arguments than rows may have stands in no table
pub absent-long : (rows : List TermRow) (symbol : ℕ) (args : List ℕ) → IsTable rows → most_args < length args → IsAbsent rows (term_row symbol args)
absent-long rows symbol args table long term has = let few = table.few_args term (term_row symbol args) has in omega arith

-- entries that are cut stand under their keys
pub IsKeyed-take : (len : ℕ) (entries : List Entry) → IsKeyed entries → IsKeyed (take len entries)
IsKeyed-take len entries keyed term entry at = keyed term entry (slice_get-take len entries term entry at)

-- a new entry under its key
pub IsKeyed-push : (entries : List Entry) (entry : Entry) → IsKeyed entries → entry.0.items ≡ key_of entry.1 → IsKeyed (entries ++ entry ∷ [])
IsKeyed-push entries entry keyed is term e at = ⊎_elim (keyed term e) (λ p. subst (λ x. x.0.items ≡ key_of x.1) (sym p.1) is) (push_cases entries entry term e at)

-- what isn't some is none
pub not_some : {X : Type 0} (o : Option X) → is_some o ≡ false → o ≡ None
not_some (Some x) h = absurd (true≢false h)
not_some None h = refl

-- the values of a front
pub values_of-take : (len : ℕ) (entries : List Entry) → values_of (take len entries) ≡ take len (values_of entries)
values_of-take len entries = sym (take-map (λ (e : Entry). e.1) len entries)

-- the values after a push
pub values_of-push : (entries : List Entry) (entry : Entry) → values_of (entries ++ entry ∷ []) ≡ values_of entries ++ entry.1 ∷ []
values_of-push [] entry = refl
values_of-push (e ∷ entries) entry = ap (λ rows. e.1 ∷ rows) (values_of-push entries entry)

-- what isn't true is false
pub not_true : (b : Bool) → (b ≡ true → ⊥) → b ≡ false
not_true true h = absurd (h refl)
not_true false h = refl

-- the key of a row that no term has isn't found
pub lookup-absent : (entries : List Entry) (row : TermRow) → IsKeyed entries → IsAbsent (values_of entries) row → lookup (λ k. pointwise nat_eq (key_of row) k.items) entries ≡ None
lookup-absent [] row keyed absent = refl
lookup-absent (e ∷ entries) row keyed absent =
    let fails : pointwise nat_eq (key_of row) e.0.items ≡ false =
    not_true _ (λ passes. absent 0 (ap Some (row_by_key e.1 row.symbol row.args ((bytes_decides (key_of row) e.0.items).0 passes ∙ keyed 0 e refl)))) in
    ap (λ b. cond b (Some e.1) (lookup (λ (k : Vec ℕ Global). pointwise nat_eq (key_of row) k.items) entries)) fails
    ∙ lookup-absent entries row (λ t. keyed (suc t)) (λ t. absent (suc t))

-- a new row that is put last is taken
pub Takes-push : (table : Table) (entries new : List Entry) (row : TermRow) (limit term : ℕ) → values_of entries ≡ table.rows → PutsRow entries new row → IsAbsent table.rows row → limit ≡ table.limit → term ≡ length table.rows → term < limit → Takes table (record { rows = values_of new; limit = limit }) row term
Takes-push table entries new row limit term is puts absent same_limit last room =
    let grown : values_of new ≡ table.rows ++ row ∷ [] = ap values_of puts.2 ∙ values_of-push entries (puts.0, row) ∙ ap (λ rows. rows ++ row ∷ []) is in
    record {
      enters = record { has = subst (λ rows. HasRow rows term row) (sym grown) (subst (λ t. HasRow (table.rows ++ row ∷ []) t row) (sym last) (slice_get-push table.rows row)); grows = inr (grown, absent) };
      limit = same_limit;
      within = omega (arith, ap length grown, length-append table.rows (row ∷ []));
    }

-- entries stay under their keys when a new row is put last
pub IsKeyed-puts : (entries new : List Entry) (row : TermRow) → IsKeyed entries → PutsRow entries new row → IsKeyed new
IsKeyed-puts entries new row keyed puts = subst IsKeyed (sym puts.2) (IsKeyed-push entries (puts.0, row) keyed puts.1)

-- and so do they stay a table
pub IsTable-puts : (entries new : List Entry) (row : TermRow) → PutsRow entries new row → All (λ arg. arg < length (values_of entries)) row.args → length row.args ≤ most_args → IsAbsent (values_of entries) row → IsTable (values_of entries) → IsTable (values_of new)
IsTable-puts entries new row puts earlier few absent table = subst IsTable (sym (ap values_of puts.2 ∙ values_of-push entries (puts.0, row))) (IsTable-push _ row earlier few absent table)
