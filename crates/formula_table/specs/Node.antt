-- Nodes of the table of formulas.
use Rattle.std.specs.Prelude.{ℕ, Bool, false, ◌&&◌, nat_eq, bytes_eq, List, [], ◌∷◌}
use Rattle.formula_table.specs.declared.node.Node.{Node}
use Rattle.formula_table.specs.declared.node.Node.TheVariants.{Equal, Atom, And, Or, Forall}
use Rattle.formula_draft.specs.DraftNode.{sign_of, same_sign}

-- the nodes that a node names
abbrev pub children_of : Node → List ℕ
children_of (Equal positive left right) = []
children_of (Atom positive term) = []
children_of (And parts) = parts
children_of (Or parts) = parts
children_of (Forall forall) = []

-- the terms that a node names
abbrev pub terms_in : Node → List ℕ
terms_in (Equal positive left right) = left ∷ right ∷ []
terms_in (Atom positive term) = term ∷ []
terms_in (And parts) = []
terms_in (Or parts) = []
terms_in (Forall forall) = []

-- whether the nodes are equal
abbrev pub same_entered : Node → Node → Bool
same_entered (Equal a s t) (Equal b u v) = same_sign a b && (nat_eq s u && nat_eq t v)
same_entered (Atom a s) (Atom b t) = same_sign a b && nat_eq s t
same_entered (And xs) (And ys) = bytes_eq xs ys
same_entered (Or xs) (Or ys) = bytes_eq xs ys
same_entered (Forall i) (Forall j) = nat_eq i j
same_entered a b = false

-- the key of a node
abbrev pub entered_key : Node → List ℕ
entered_key (Equal positive left right) = 0 ∷ sign_of positive ∷ left ∷ right ∷ []
entered_key (Atom positive term) = 1 ∷ sign_of positive ∷ term ∷ []
entered_key (And parts) = 2 ∷ parts
entered_key (Or parts) = 3 ∷ parts
entered_key (Forall forall) = 4 ∷ forall ∷ []
