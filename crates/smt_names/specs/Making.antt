-- What takes its part in making a formula.
use Rattle.std.specs.Prelude.{◌≡◌, ℕ, Bool, cond, List, [], length, Option, Some, None, Result, Ok, Err}
use Rattle.smt_text.specs.declared.token.Place.{Place}
use Rattle.formula_draft.specs.declared.draft_row.DraftRow.{DraftRow}
use Rattle.formula_draft.specs.declared.draft_node.DraftNode.{DraftNode}
use Rattle.formula_draft.specs.declared.draft_forall.DraftForall.{DraftForall}
use Rattle.formula_draft.specs.Draft.{Draft, with_row, with_node, with_forall}
use Rattle.smt_names.specs.declared.refusal.Refusal.{Refusal}
use Rattle.smt_names.specs.declared.refusal.Refusal.TheVariants.{BadForm, NotInProfile, TermsFull, NodesFull}
use Rattle.smt_names.specs.declared.syntax_fault.SyntaxFault.{SyntaxFault}

-- What makes a part of a formula gives a value and the formula after it, or is refused.
abbrev pub Making : Type 0 → Type 0
Making A = Draft → Result (A × Draft) SyntaxFault

-- a value that is there, and nothing put
abbrev pub gives : {A : Type 0} → A → Making A
gives value draft = Ok (value, draft)

-- what follows goes on with the value and the formula, or the refusal stays
abbrev pub then_from : {A B : Type 0} → (A → Making B) → Result (A × Draft) SyntaxFault →
    Result (B × Draft) SyntaxFault
then_from rest (Ok done) = rest done.0 done.1
then_from rest (Err fault) = Err fault

infixl 10 ◌>>=◌
-- one after the other
abbrev pub ◌>>=◌ : {A B : Type 0} → Making A → (A → Making B) → Making B
◌>>=◌ first rest = λ draft. then_from rest (first draft)

infixl 10 ◌>>◌
abbrev pub ◌>>◌ : {A B : Type 0} → Making A → Making B → Making B
◌>>◌ first rest = λ draft. then_from (λ _. rest) (first draft)

-- a refusal that speaks of a name
abbrev pub fault_of : Refusal → Place → List ℕ → SyntaxFault
fault_of refusal place name = record { refusal = refusal; place = place; name = name }

abbrev pub refuse_named : {A : Type 0} → Refusal → Place → List ℕ → Making A
refuse_named refusal place name draft = Err (fault_of refusal place name)

-- a refusal that speaks of none
abbrev pub refuse : {A : Type 0} → Refusal → Place → Making A
refuse refusal place = refuse_named refusal place []

abbrev pub bad_form : {A : Type 0} → Place → Making A
bad_form place = refuse BadForm place

abbrev pub not_in_profile : {A : Type 0} → Place → Making A
not_in_profile place = refuse NotInProfile place

-- goes on where the test holds
abbrev pub must_hold : Bool → Refusal → Place → Making (Unit {0})
must_hold test refusal place = cond test (gives tt) (refuse refusal place)

-- the same, of a name
abbrev pub must_hold_named : Bool → Refusal → Place → List ℕ → Making (Unit {0})
must_hold_named test refusal place name = cond test (gives tt) (refuse_named refusal place name)

-- what was put, or that there was no room for it
abbrev pub or_full : Refusal → Place → Option (ℕ × Draft) → Result (ℕ × Draft) SyntaxFault
or_full refusal at (Some done) = Ok done
or_full refusal at None = Err (fault_of refusal at [])

-- the number of a row that is put at a place of the script, where it does not stand yet
abbrev pub row : Place → DraftRow → Making ℕ
row at new draft = or_full TermsFull at (with_row new draft)

-- the same of a node
abbrev pub node : Place → DraftNode → Making ℕ
node at new draft = or_full NodesFull at (with_node new draft)

-- a node, where there is one to put
abbrev pub node_if : Place → Option DraftNode → Making (Option ℕ)
node_if at None = gives None
node_if at (Some new) = do
  n ← node at new
  gives (Some n)

-- a forall, which is put last: its number is its place
abbrev pub put_forall : DraftForall → Making ℕ
put_forall new draft = Ok (length draft.foralls, with_forall new draft)
