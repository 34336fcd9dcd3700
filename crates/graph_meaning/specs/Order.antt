-- Lists of numbers compared.
use Rattle.std.specs.Prelude.{ℕ, List, Bool}
use Rattle.std.specs.Ordering.{nat_cmp, eq_by_cmp}
use Rattle.std.specs.Cmp.Lexicographic.{slice_cmp}

-- whether two lists compare alike
abbrev pub same_list : List ℕ → List ℕ → Bool
same_list xs ys = eq_by_cmp (slice_cmp nat_cmp) xs ys
