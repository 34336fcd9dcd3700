-- Which terms a question of a graph picks.
use Rattle.std.specs.Prelude.{ℕ, ◌<◌, List, length}
use Rattle.graph_meaning.specs.declared.done.Done.{Done}
use Rattle.graph_plain.specs.declared.pick.Pick.{Pick}
use Rattle.graph_plain.specs.declared.pick.Pick.TheVariants.{Class, Symbol, Parent}
use Rattle.graph_meaning.specs.Standing.{terms_of}
use Rattle.graph_meaning.specs.Questions.{HasSymbol, InClass, IsParent}

-- the question picks the term
abbrev pub IsPicked : List Done → Pick → ℕ → Type 0
IsPicked standing (Class term symbol) picked = InClass standing term symbol picked
IsPicked standing (Symbol symbol) picked = HasSymbol standing symbol picked
IsPicked standing (Parent term symbol place) picked = IsParent standing term symbol place picked

-- the question is about a term that stands
abbrev pub IsAskable : List Done → Pick → Type 0
IsAskable standing (Class term symbol) = term < length (terms_of standing)
IsAskable standing (Symbol symbol) = Unit {0}
IsAskable standing (Parent term symbol place) = term < length (terms_of standing)
