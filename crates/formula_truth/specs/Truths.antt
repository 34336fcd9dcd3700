-- What is known of a formula, and of conjunctions and disjunctions of some.
use Rattle.std.specs.Prelude.{Bool, true, false, List, [], ◌∷◌}
use Rattle.formula_truth.specs.declared.truth.Truth.{Truth}
use Rattle.formula_truth.specs.declared.truth.Truth.TheVariants.{Yes, No, Unset}

-- the value is Yes
abbrev pub is_yes_value : Truth → Bool
is_yes_value Yes = true
is_yes_value No = false
is_yes_value Unset = false

-- the value is No
abbrev pub is_no_value : Truth → Bool
is_no_value Yes = false
is_no_value No = true
is_no_value Unset = false

-- the value is Yes or No
abbrev pub is_set_value : Truth → Bool
is_set_value Yes = true
is_set_value No = true
is_set_value Unset = false

-- a conjunction of one value and what another conjunction is
abbrev pub and_of : Truth → Truth → Truth
and_of No rest = No
and_of Yes rest = rest
and_of Unset No = No
and_of Unset Yes = Unset
and_of Unset Unset = Unset

-- a disjunction of one value and what another disjunction is
abbrev pub or_of : Truth → Truth → Truth
or_of Yes rest = Yes
or_of No rest = rest
or_of Unset Yes = Yes
or_of Unset No = Unset
or_of Unset Unset = Unset

-- No where a part is No, else Yes where all are Yes, else Unset
abbrev pub all_of : List Truth → Truth
all_of [] = Yes
all_of (truth ∷ truths) = and_of truth (all_of truths)

-- Yes where a part is Yes, else No where all are No, else Unset
abbrev pub some_of : List Truth → Truth
some_of [] = No
some_of (truth ∷ truths) = or_of truth (some_of truths)
