-- What checks of the form of lists answer.
use Rattle.std.specs.Prelude.{◌≡◌, ℕ, ◌+◌, ◌≤◌, ◌^◌, List, Option, Some, None, Result, Ok, Err}
use Rattle.smt_text.specs.Word.{Word}
use Rattle.smt_text.specs.declared.token.Place.{Place}
use Rattle.formula_draft.specs.Draft.{Draft}
use Rattle.smt_names.specs.declared.stop.Stop.{Stop}
use Rattle.smt_names.specs.Making.{Making}
use Rattle.smt_names.specs.Makes.{Refuses}
use Rattle.smt_terms.specs.Reading.{some_bindings}
use Rattle.smt_terms.specs.Cursor.{word_at, trees_from, SeesList}

-- the check holds, and this is what is made
abbrev pub ChecksAs : {A : Type 0} → Result (Unit {0}) Stop → A → Making A → Type 0
ChecksAs (Ok done) found making = (draft : Draft) → making draft ≡ Ok (found, draft)
ChecksAs (Err stop) found making = (draft : Draft) → Refuses stop (making draft)

-- a list of bindings comes next, and this is the place behind it
abbrev pub HasBindings : List Word → ℕ → Place → Result ℕ Stop → Type 0
HasBindings words i missing (Ok after) = SeesList words i after
    × ((draft : Draft) → some_bindings missing (trees_from words i) draft
    ≡ Ok (record { paren = word_at words i; inner = trees_from words (i + 1) }, draft))
HasBindings words i missing (Err stop) = (draft : Draft) →
    Refuses stop (some_bindings missing (trees_from words i) draft)

-- the number that digits stand for, or that it has more than 128 bits
abbrev pub IsNumber : ℕ → Option ℕ → Type 0
IsNumber number (Some n) = number ≡ n
IsNumber number None = 2 ^ 128 ≤ number
