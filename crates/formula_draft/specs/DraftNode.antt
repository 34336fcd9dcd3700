-- Nodes of a formula.
use Rattle.std.specs.Prelude.{ℕ, Bool, false, ◌&&◌, nat_eq, bytes_eq, if◌then◌else◌, List, [], ◌∷◌}
use Rattle.formula_draft.specs.declared.draft_node.DraftNode.{DraftNode}
use Rattle.formula_draft.specs.declared.draft_node.DraftNode.TheVariants.{Equal, Atom, And, Or, Forall}

-- the rows that a node names
abbrev pub rows_of : DraftNode → List ℕ
rows_of (Equal positive left right) = left ∷ right ∷ []
rows_of (Atom positive row) = row ∷ []
rows_of (And parts) = []
rows_of (Or parts) = []
rows_of (Forall index) = []

-- the nodes that a node names; the body of a forall is none of them
abbrev pub parts_of : DraftNode → List ℕ
parts_of (Equal positive left right) = []
parts_of (Atom positive row) = []
parts_of (And parts) = parts
parts_of (Or parts) = parts
parts_of (Forall index) = []

-- the foralls that a node names
abbrev pub foralls_of : DraftNode → List ℕ
foralls_of (Equal positive left right) = []
foralls_of (Atom positive row) = []
foralls_of (And parts) = []
foralls_of (Or parts) = []
foralls_of (Forall index) = index ∷ []

-- a sign as a number
abbrev pub sign_of : Bool → ℕ
sign_of positive = if positive then 1 else 0

-- whether the signs are equal
abbrev pub same_sign : Bool → Bool → Bool
same_sign a b = nat_eq (sign_of a) (sign_of b)

-- whether the nodes are equal
abbrev pub same_node : DraftNode → DraftNode → Bool
same_node (Equal a s t) (Equal b u v) = same_sign a b && (nat_eq s u && nat_eq t v)
same_node (Atom a s) (Atom b t) = same_sign a b && nat_eq s t
same_node (And xs) (And ys) = bytes_eq xs ys
same_node (Or xs) (Or ys) = bytes_eq xs ys
same_node (Forall i) (Forall j) = nat_eq i j
same_node a b = false

-- the key of a node
abbrev pub node_key : DraftNode → List ℕ
node_key (Equal positive left right) = 0 ∷ sign_of positive ∷ left ∷ right ∷ []
node_key (Atom positive row) = 1 ∷ sign_of positive ∷ row ∷ []
node_key (And parts) = 2 ∷ parts
node_key (Or parts) = 3 ∷ parts
node_key (Forall index) = 4 ∷ index ∷ []
