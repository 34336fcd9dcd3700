-- Values of terms and formulas.
use Rattle.std.specs.Prelude.{ℕ, Option, Some, None, unwrap_or, Bool, is_some}
use Rattle.smt_names.specs.declared.value.Value.{Value}
use Rattle.smt_names.specs.declared.value.Value.TheVariants.{Term, Formula}

-- the sort of a value: 0 is Bool
abbrev pub sort_of : Value → ℕ
sort_of (Term row sort) = sort
sort_of (Formula itself c) = 0

-- the row of a term
abbrev pub row_of : Value → ℕ
row_of (Term row sort) = row
row_of (Formula itself c) = 0

-- the node of a formula
abbrev pub self : Value → ℕ
self (Formula itself c) = itself
self (Term row sort) = 0

-- the node of its complement, where it has one
abbrev pub complement : Value → Option ℕ
complement (Formula itself c) = c
complement (Term row sort) = None

abbrev pub has_complement : Value → Bool
has_complement value = is_some (complement value)

-- the complement of a formula that has one
abbrev pub other : Value → ℕ
other value = unwrap_or (complement value) 0

-- a formula and its complement, exchanged
abbrev pub swapped : Value → Value
swapped value = Formula (other value) (Some (self value))
