-- Rows of a formula.
use Rattle.std.specs.Prelude.{ℕ, Bool, false, ◌&&◌, nat_eq, bytes_eq, List, [], ◌∷◌}
use Rattle.formula_draft.specs.declared.draft_row.DraftRow.{DraftRow}
use Rattle.formula_draft.specs.declared.draft_row.DraftRow.TheVariants.{Var, App}

-- the rows that a row names
abbrev pub args_of : DraftRow → List ℕ
args_of (Var index) = []
args_of (App symbol args) = args

-- whether the rows are equal
abbrev pub same_row : DraftRow → DraftRow → Bool
same_row (Var i) (Var j) = nat_eq i j
same_row (App f xs) (App g ys) = nat_eq f g && bytes_eq xs ys
same_row a b = false

-- the key of a row
abbrev pub row_key : DraftRow → List ℕ
row_key (Var index) = 0 ∷ index ∷ []
row_key (App symbol args) = 1 ∷ symbol ∷ args
