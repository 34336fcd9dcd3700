-- Which claims are due at a start, and at the entries of a symbol.
use Rattle.std.proofs.Common.{◌≡◌, ◌≤◌, ◌<◌, ◌+◌, ◌⊎◌, ◌↔◌, inl, inr, ⊎_elim, ℕ, zero, suc, List, [], ◌∷◌, length, slice_get}
use Rattle.std.proofs.Common.{Some, Contains, refl, sym, ap, ap₂, subst, ◌∙◌, arith}
use Rattle.std.proofs.lemmas.Option.{same_Some, slice_get_within}
use Rattle.graph_terms.proofs.ListLaws.{place_from_Contains, Contains-slice_get}
use Rattle.graph_terms.specs.declared.term_row.TermRow.{TermRow}
use Rattle.graph_terms.specs.Terms.{term_row, HasRow}
use Rattle.graph_trigger.specs.declared.trigger.Trigger.{Trigger}
use Rattle.graph_trigger.specs.declared.pattern_row.PatternRow.{PatternRow}
use Rattle.graph_trigger.specs.declared.pattern_row.PatternRow.TheVariants.{Var, App}
use Rattle.graph_trigger.specs.Trigger.{Occurs, at_root}
use Rattle.graph_meaning.specs.declared.claim.Claim.{Claim}
use Rattle.graph_meaning.specs.declared.done.Done.{Done}
use Rattle.graph_meaning.specs.Standing.{terms_of, triggers_of}
use Rattle.graph_meaning.specs.Questions.{AreAll}
use Rattle.graph_meaning.specs.Justified.{AppliesAt}
use Rattle.match_trees.specs.declared.entry.Entry.{Entry}
use Rattle.match_trees.specs.EntryList.{entry_of}
use Rattle.match_owed.specs.OwedLog.{OwedLog}
use Rattle.match_owed.specs.Giving.{GivesAll, GivesSome}
use Rattle.match_owed.specs.Starts.{StartList, Serves}
use Rattle.match_owed.specs.Due.{IsDueTerm, IsDueTrigger, IsDueStart, IsOfTerms, IsOfEntries}
use Rattle.match_owed.proofs.GiveLemmas.{all_as, all_none, some_as, Below, claim_at}

abbrev symbol_of : PatternRow → ℕ
symbol_of (Var index) = 0
symbol_of (App symbol parts) = symbol

-- the row at the root of a pattern
pub root_row : (trigger : Trigger) (start : ℕ) {path : List ℕ} {row : ℕ} → Occurs trigger start path row → path ≡ [] → slice_get trigger.roots start ≡ Some row
root_row trigger start (at_root is) e = is
root_row trigger start (Occurs.below occurs shape part) e = cc

-- one start has one symbol
pub one_symbol : (trigger : Trigger) (start f g : ℕ) → AppliesAt trigger start [] f → AppliesAt trigger start [] g → f ≡ g
one_symbol trigger start f g one other =
    let row = same_Some one.0 other.0 (sym (root_row trigger start one.2 refl) ∙ root_row trigger start other.2 refl) in
    symbols (App f one.1) (App g other.1) (same_Some (App f one.1) (App g other.1) (sym one.3 ∙ ap (slice_get trigger.rows) row ∙ other.3))
  where
    symbols : (a b : PatternRow) → a ≡ b → symbol_of a ≡ symbol_of b
    symbols a b e = ap symbol_of e

-- a start with a symbol is one of the trigger
pub start_within : (trigger : Trigger) (start symbol : ℕ) → AppliesAt trigger start [] symbol → start < length trigger.roots
start_within trigger start symbol applies = slice_get_within trigger.roots start applies.0 (root_row trigger start applies.2 refl)

module _ (standing : List Done) (number : ℕ) (trigger : Trigger) (is_live : slice_get (triggers_of standing) number ≡ Some trigger) (start : ℕ) where
  -- a claim of this trigger and start has the pattern's symbol at its root
  pub applies_here : (claim : Claim) → IsDueStart standing number start claim → (symbol : ℕ) × (args : List ℕ) × AppliesAt trigger start [] symbol × HasRow (terms_of standing) claim.root (term_row symbol args)
  applies_here claim due =
      let on = due.1.1 in
      let same : on.trigger ≡ trigger = same_Some on.trigger trigger (sym on.is_live ∙ ap (slice_get (triggers_of standing)) due.1.0 ∙ is_live) in
      (on.symbol, on.args, subst (λ s. AppliesAt trigger s [] on.symbol) due.0 (subst (λ (t : Trigger). AppliesAt t claim.start [] on.symbol) same on.applies), on.has)

  pub start_from_terms : (symbol : ℕ) → AppliesAt trigger start [] symbol → (claim : Claim) → IsOfTerms standing number start symbol claim → IsDueStart standing number start claim
  start_from_terms symbol applies claim h = (h.1, (h.0, record { trigger = trigger; is_live = subst (λ n. slice_get (triggers_of standing) n ≡ Some trigger) (sym h.0) is_live; symbol = symbol; args = h.2.0; applies = subst (λ s. AppliesAt trigger s [] symbol) (sym h.1) applies; has = h.2.1 }))

  pub gives_start : (symbol : ℕ) → AppliesAt trigger start [] symbol → {old new : OwedLog} → GivesAll (IsOfTerms standing number start symbol) old new → GivesAll (IsDueStart standing number start) old new
  gives_start symbol applies =
      all_as (IsOfTerms standing number start symbol) (IsDueStart standing number start) (start_from_terms symbol applies)
      (λ claim due. let here = applies_here claim due in (due.1.0, due.0, (here.1, subst (λ f. HasRow (terms_of standing) claim.root (term_row f here.1)) (one_symbol trigger start here.0 symbol here.2 applies) here.3)))

  pub some_start : (symbol : ℕ) → AppliesAt trigger start [] symbol → {old new : OwedLog} → GivesSome (IsOfTerms standing number start symbol) old new → GivesSome (IsDueStart standing number start) old new
  some_start symbol applies = some_as (IsOfTerms standing number start symbol) (IsDueStart standing number start) (start_from_terms symbol applies)

  pub gives_no_start : ((symbol : ℕ) → AppliesAt trigger start [] symbol → ⊥) → (s : OwedLog) → GivesAll (IsDueStart standing number start) s s
  gives_no_start none s = all_none (IsDueStart standing number start) s (λ claim due. let here = applies_here claim due in none here.0 here.2)

-- the claims of all starts
pub all_starts : (standing : List Done) (number : ℕ) (trigger : Trigger) → slice_get (triggers_of standing) number ≡ Some trigger → (k : ℕ) {old now : OwedLog} → length trigger.roots ≤ k → GivesAll (Below (IsDueStart standing number) k) old now → GivesAll (IsDueTrigger standing number) old now
all_starts standing number trigger is_live k past =
    all_as (Below (IsDueStart standing number) k) (IsDueTrigger standing number) (λ c h. h.2.1)
    (λ c due.
    let here = applies_here standing number trigger is_live c.start c (refl, due) in
    let lt = start_within trigger c.start here.0 here.2 in
    (c.start, omega (arith, lt, past), (refl, due)))

-- the claim of the entry at the place of the list of numbers
abbrev pub AtEntry : StartList → List ℕ → ℕ → ℕ → Claim → Type 0
AtEntry starts numbers term k claim = (claim.root ≡ term) × ((number : ℕ) × (slice_get numbers k ≡ Some number) × (slice_get starts.list.entries number ≡ Some (entry_of claim.trigger claim.start)))

module _ (starts : StartList) (numbers : List ℕ) (term : ℕ) where
  pub at_entry : (k number : ℕ) (entry : Entry) → slice_get numbers k ≡ Some number → slice_get starts.list.entries number ≡ Some entry → {now new : OwedLog} →
      GivesAll (λ other. other ≡ claim_at entry.trigger entry.start term) now new → GivesAll (AtEntry starts numbers term k) now new
  at_entry k number entry at has = all_as (λ other. other ≡ claim_at entry.trigger entry.start term) (AtEntry starts numbers term k)
      (λ c is. (ap (λ (x : Claim). x.root) is, (number, at, has ∙ ap Some (ap₂ (λ t s. entry_of t s) (sym (ap (λ (x : Claim). x.trigger) is)) (sym (ap (λ (x : Claim). x.start) is))))))
      (λ c h.
      let here : entry_of c.trigger c.start ≡ entry = same_Some (entry_of c.trigger c.start) entry (sym h.1.2 ∙ ap (slice_get starts.list.entries) (same_Some h.1.0 number (sym h.1.1 ∙ at)) ∙ has) in
      ap₂ (λ (e : Entry) r. claim_at e.trigger e.start r) here h.0)

  pub from_entry : (k : ℕ) (claim : Claim) → AtEntry starts numbers term k claim → IsOfEntries starts numbers term claim
  from_entry k claim h = (h.0, (h.1.0, Contains-slice_get numbers k h.1.0 h.1.1, h.1.2))

  pub all_entries : (k : ℕ) {old now : OwedLog} → length numbers ≤ k → GivesAll (Below (AtEntry starts numbers term) k) old now → GivesAll (IsOfEntries starts numbers term) old now
  all_entries k past = all_as (Below (AtEntry starts numbers term) k) (IsOfEntries starts numbers term) (λ c h. from_entry h.0 c h.2)
      (λ c h. let at = place_from_Contains numbers h.1.0 h.1.1 in let lt = slice_get_within numbers at.0 h.1.0 at.1 in (at.0, omega (arith, lt, past), (h.0, (h.1.0, at.1, h.1.2))))

-- the entries of a term's symbol have exactly the claims of the term
module _ (standing : List Done) (starts : StartList) (serves : Serves starts (triggers_of standing)) (term : ℕ) (row : TermRow) (has : HasRow (terms_of standing) term row) (numbers : List ℕ) (are : AreAll (λ place. slice_get starts.list.ends place ≡ Some row.symbol) numbers) where
  pub due_from_entries : (claim : Claim) → IsOfEntries starts numbers term claim → IsDueTerm standing term claim
  due_from_entries claim h =
      let ends = (are.exact h.1.0).0 h.1.1 in
      let of = (serves.exact claim.trigger claim.start row.symbol).0 (h.1.0, h.1.2, ends) in
      (h.0, record { trigger = of.0; is_live = of.1; symbol = row.symbol; args = row.args; applies = of.2; has = subst (λ t. HasRow (terms_of standing) t row) (sym h.0) has })

  entries_from_due : (claim : Claim) → IsDueTerm standing term claim → IsOfEntries starts numbers term claim
  entries_from_due claim due =
      let on = due.1 in
      let symbol : on.symbol ≡ row.symbol = ap (λ (r : TermRow). r.symbol) (same_Some (term_row on.symbol on.args) row (sym on.has ∙ ap (slice_get (terms_of standing)) due.0 ∙ has)) in
      let listed = (serves.exact claim.trigger claim.start on.symbol).1 (on.trigger, on.is_live, on.applies) in
      (due.0, (listed.0, (are.exact listed.0).1 (listed.2 ∙ ap Some symbol), listed.1))

  pub term_all : {old new : OwedLog} → GivesAll (IsOfEntries starts numbers term) old new → GivesAll (IsDueTerm standing term) old new
  term_all = all_as (IsOfEntries starts numbers term) (IsDueTerm standing term) due_from_entries entries_from_due

  pub term_some : {old new : OwedLog} → GivesSome (IsOfEntries starts numbers term) old new → GivesSome (IsDueTerm standing term) old new
  term_some = some_as (IsOfEntries starts numbers term) (IsDueTerm standing term) due_from_entries
