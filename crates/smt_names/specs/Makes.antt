-- What a call answers that makes a part of a formula.
use Rattle.std.specs.Prelude.{◌≡◌, List, Vec, Result, Ok, Err}
use Rattle.std.specs.declared.alloc.Global.{Global}
use Rattle.formula_draft.specs.Draft.{Draft}
use Rattle.smt_names.specs.declared.syntax_fault.SyntaxFault.{SyntaxFault}
use Rattle.smt_names.specs.declared.stop.Stop.{Stop}
use Rattle.smt_names.specs.declared.stop.Stop.TheVariants as stop
use Rattle.smt_names.specs.Making.{Making}

-- the call stopped with this refusal, or for memory
abbrev pub StopsWith : Stop → SyntaxFault → Type 0
StopsWith stop.Memory fault = Unit {0}
StopsWith (stop.Refused found) fault = found ≡ fault

-- the call stopped as the definition is refused, or for memory, which is free
abbrev pub Refuses : {A : Type 0} → Stop → Result A SyntaxFault → Type 0
Refuses stop.Memory made = Unit {0}
Refuses (stop.Refused fault) made = made ≡ Err fault

-- The call made the value and the formula after it, or it was refused so.
abbrev pub Makes : {A : Type 0} → Result A Stop → Draft → Draft → Making A → Type 0
Makes (Ok value) old new making = making old ≡ Ok (value, new)
Makes (Err stopped) old new making = Refuses stopped (making old)

-- a call that makes a list
abbrev pub MakesItems : {A : Type 0} → Result (Vec A Global) Stop → Draft → Draft → Making (List A) → Type 0
MakesItems (Ok made) old new making = making old ≡ Ok (made.items, new)
MakesItems (Err stopped) old new making = Refuses stopped (making old)

-- a call that puts nothing
abbrev pub Checks : {A : Type 0} → Result A Stop → Making A → Type 0
Checks result making = (draft : Draft) → Makes result draft draft making
